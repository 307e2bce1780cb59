-- Each message is read from its words.
use Rattle.std.proofs.Common.{◌≡◌, ◌≢◌, ℕ, List, [], ◌∷◌, Some, refl, sym, ap, ◌∙◌, decimal}
use Rattle.std.specs.Prelude.{codes}
use Rattle.lu_base.specs.Texts.{pair_text}
use Rattle.lu_base.specs.Values.{mode_text}
use Rattle.lu_scene.specs.Fields.{number_of}
use Rattle.lu_scene.proofs.Numerals.{number_of-decimal}
use Rattle.lu_trace.specs.Words.{words}
use Rattle.lu_trace.specs.Values.{who_text, at_text, extent_text, policy_text, resource_text}
use Rattle.lu_trace.specs.Lists.{seen_text, locks_text}
use Rattle.lu_trace.specs.Messages.{tagged_text, size_text, message_text}
use Rattle.lu_judge_reader.specs.Reading.{◌>>=◌, give, one}
use Rattle.lu_judge_reader.specs.Values.{small_of, pair_of, who_of, at_of, tagged_of, size_of, extent_of}
use Rattle.lu_judge_reader.specs.Lists.{seen_of, locks_of}
use Rattle.lu_judge_reader.proofs.Shown.{AreShown, no_words, more_words, code_shown, decimal_shown, short_shown, pair_shown, who_shown}
use Rattle.lu_judge_reader.proofs.Shown.{at_shown, tagged_shown, size_shown, extent_shown, seen_shown, locks_shown}
use Rattle.lu_judge_reader.proofs.Steps.{one_then, then_again, last_words}
use Rattle.lu_judge_reader.proofs.ValuesAgain.{short_again, pair_again, who_again, at_again, tagged_again, size_again, extent_again}
use Rattle.lu_judge_reader.proofs.ListsAgain.{seen_again, locks_again}
use Rattle.lu_msg.specs.declared.messages.Message.{Message}
use Rattle.lu_msg.specs.declared.messages.Message.TheVariants as message
use Rattle.lu_trace.specs.WellFormed.{IsMessage}
use Rattle.lu_judge_reader.specs.Parts.{op_reader, answer_reader, terms}
use Rattle.lu_judge_reader.specs.Messages.{message_reader}
use Rattle.lu_judge_reader.proofs.OpsAgain.{op_words, op_spelled, op_some, op_again, op_shown}
use Rattle.lu_judge_reader.proofs.AnswersAgain.{answer_words, answer_spelled, answer_some, answer_again, answer_shown}
use Rattle.lu_judge_reader.proofs.Stats.{terms_again, terms_shown}

-- the words of a message
abbrev pub message_words : Message → List (List ℕ)
message_words (message.Request r) = codes "req" ∷ who_text r.who ∷ decimal r.boot ∷ tagged_text r.xid r.tag ∷ op_words r.op
message_words (message.Cancel who boot cookie) = codes "cancel" ∷ who_text who ∷ decimal boot ∷ pair_text cookie.0 ∷ []
message_words (message.Where who boot cookie) = codes "where" ∷ who_text who ∷ decimal boot ∷ pair_text cookie.0 ∷ []
message_words (message.Replay r) = codes "replay" ∷ who_text r.who ∷ decimal r.boot ∷ pair_text r.txn.0 ∷ tagged_text r.xid r.tag
    ∷ seen_text r.seen ∷ op_words r.op
message_words (message.Lock l) = codes "lock" ∷ who_text l.who ∷ decimal l.boot ∷ pair_text l.cookie.0 ∷ resource_text l.resource l.policy
    ∷ mode_text l.mode ∷ policy_text l.policy ∷ []
message_words (message.Word who boot replays locks seen) = codes "word" ∷ who_text who ∷ decimal boot ∷ decimal replays ∷ decimal locks
    ∷ seen_text seen ∷ []
message_words (message.Join who boot) = codes "join" ∷ who_text who ∷ decimal boot ∷ []
message_words (message.Size s) = codes "size" ∷ who_text s.who ∷ decimal s.boot ∷ pair_text s.cookie.0 ∷ who_text s.for_who
    ∷ decimal s.xid.0 ∷ size_text s.size ∷ []
message_words (message.Up boot) = codes "up" ∷ decimal boot ∷ []
message_words (message.Reply r) = codes "reply" ∷ who_text r.who ∷ decimal r.boot ∷ decimal r.xid.0 ∷ pair_text r.txn.0
    ∷ pair_text r.committed.0 ∷ seen_text r.seen ∷ at_text r.at ∷ locks_text r.locks ∷ answer_words r.answer
message_words (message.Grant g) = codes "grant" ∷ who_text g.who ∷ decimal g.boot ∷ pair_text g.cookie.0 ∷ extent_text g.extent
    ∷ decimal g.size ∷ pair_text g.committed.0 ∷ seen_text g.seen ∷ []
message_words (message.Block who boot cookie) = codes "block" ∷ who_text who ∷ decimal boot ∷ pair_text cookie.0 ∷ []
message_words (message.Ask who boot cookie for_who xid) = codes "ask" ∷ who_text who ∷ decimal boot ∷ pair_text cookie.0 ∷ who_text for_who
    ∷ decimal xid.0 ∷ []
message_words (message.Ready who boot committed) = codes "ready" ∷ who_text who ∷ decimal boot ∷ pair_text committed.0 ∷ []
message_words (message.Evicted who boot) = codes "evicted" ∷ who_text who ∷ decimal boot ∷ []

-- its text is these words, with one space between them
pub message_spelled : (v : Message) → message_text v ≡ words (message_words v)
message_spelled (message.Request r) = ap (λ (t : List ℕ). words
    (codes "req" ∷ who_text r.who ∷ decimal r.boot ∷ tagged_text r.xid r.tag ∷ t ∷ [])) (op_spelled r.op)
    ∙ last_words (codes "req" ∷ who_text r.who ∷ decimal r.boot ∷ tagged_text r.xid r.tag ∷ []) (op_words r.op) (op_some r.op)
message_spelled (message.Cancel who boot cookie) = refl
message_spelled (message.Where who boot cookie) = refl
message_spelled (message.Replay r) = ap (λ (t : List ℕ). words (codes "replay" ∷ who_text r.who ∷ decimal r.boot ∷ pair_text r.txn.0
    ∷ tagged_text r.xid r.tag ∷ seen_text r.seen ∷ t ∷ [])) (op_spelled r.op)
    ∙ last_words (codes "replay" ∷ who_text r.who ∷ decimal r.boot ∷ pair_text r.txn.0 ∷ tagged_text r.xid r.tag ∷ seen_text r.seen ∷ [])
    (op_words r.op) (op_some r.op)
message_spelled (message.Lock l) = refl
message_spelled (message.Word who boot replays locks seen) = refl
message_spelled (message.Join who boot) = refl
message_spelled (message.Size s) = refl
message_spelled (message.Up boot) = refl
message_spelled (message.Reply r) = ap (λ (t : List ℕ). words (codes "reply" ∷ who_text r.who ∷ decimal r.boot ∷ decimal r.xid.0
    ∷ pair_text r.txn.0 ∷ pair_text r.committed.0 ∷ seen_text r.seen ∷ at_text r.at ∷ locks_text r.locks ∷ t ∷ []))
    (answer_spelled r.answer) ∙ last_words (codes "reply" ∷ who_text r.who ∷ decimal r.boot ∷ decimal r.xid.0 ∷ pair_text r.txn.0
    ∷ pair_text r.committed.0 ∷ seen_text r.seen ∷ at_text r.at ∷ locks_text r.locks ∷ []) (answer_words r.answer) (answer_some r.answer)
message_spelled (message.Grant g) = refl
message_spelled (message.Block who boot cookie) = refl
message_spelled (message.Ask who boot cookie for_who xid) = refl
message_spelled (message.Ready who boot committed) = refl
message_spelled (message.Evicted who boot) = refl

pub message_some : (v : Message) → message_words v ≢ []
message_some (message.Request r) none = cc none
message_some (message.Cancel who boot cookie) none = cc none
message_some (message.Where who boot cookie) none = cc none
message_some (message.Replay r) none = cc none
message_some (message.Lock l) none = cc none
message_some (message.Word who boot replays locks seen) none = cc none
message_some (message.Join who boot) none = cc none
message_some (message.Size s) none = cc none
message_some (message.Up boot) none = cc none
message_some (message.Reply r) none = cc none
message_some (message.Grant g) none = cc none
message_some (message.Block who boot cookie) none = cc none
message_some (message.Ask who boot cookie for_who xid) none = cc none
message_some (message.Ready who boot committed) none = cc none
message_some (message.Evicted who boot) none = cc none

-- it is read from its words
pub message_again : (stamp : ℕ) (v : Message) → IsMessage stamp v → message_reader (record { 0 = stamp }) (message_words v) ≡ Some (v, [])
unfolding message_reader
message_again stamp (message.Request r) is =
    one_then who_of (λ first. one (small_of 32) >>= λ second. one tagged_of >>= λ third. op_reader >>=
    λ fourth. give (message.Request (record { who = first; boot = second; xid = third.0; tag = third.1; op = fourth })))
    (who_text r.who) (decimal r.boot ∷ tagged_text r.xid r.tag ∷ op_words r.op) r.who (who_again r.who is.0.0)
    ∙ one_then (small_of 32) (λ second. one tagged_of >>= λ third. op_reader >>=
    λ fourth. give (message.Request (record { who = r.who; boot = second; xid = third.0; tag = third.1; op = fourth })))
    (decimal r.boot) (tagged_text r.xid r.tag ∷ op_words r.op) r.boot (short_again r.boot is.0.1)
    ∙ one_then tagged_of (λ third. op_reader >>= λ fourth. give
    (message.Request (record { who = r.who; boot = r.boot; xid = third.0; tag = third.1; op = fourth }))) (tagged_text r.xid r.tag)
    (op_words r.op) (r.xid, r.tag) (tagged_again r.xid r.tag is.1 is.2)
    ∙ then_again op_reader (λ fourth. give (message.Request (record { who = r.who; boot = r.boot; xid = r.xid; tag = r.tag; op = fourth })))
    (op_words r.op) [] r.op (op_again r.op is.3)
message_again stamp (message.Cancel who boot cookie) is =
    one_then who_of (λ first. one (small_of 32) >>= λ second. one pair_of >>=
    λ third. give (message.Cancel first second (record { 0 = third }))) (who_text who) (decimal boot ∷ pair_text cookie.0 ∷ []) who
    (who_again who is.0.0)
    ∙ one_then (small_of 32) (λ second. one pair_of >>= λ third. give (message.Cancel who second (record { 0 = third }))) (decimal boot)
    (pair_text cookie.0 ∷ []) boot (short_again boot is.0.1)
    ∙ one_then pair_of (λ third. give (message.Cancel who boot (record { 0 = third }))) (pair_text cookie.0) [] cookie.0
    (pair_again cookie.0 is.1)
message_again stamp (message.Where who boot cookie) is =
    one_then who_of (λ first. one (small_of 32) >>= λ second. one pair_of >>=
    λ third. give (message.Where first second (record { 0 = third }))) (who_text who) (decimal boot ∷ pair_text cookie.0 ∷ []) who
    (who_again who is.0.0)
    ∙ one_then (small_of 32) (λ second. one pair_of >>= λ third. give (message.Where who second (record { 0 = third }))) (decimal boot)
    (pair_text cookie.0 ∷ []) boot (short_again boot is.0.1)
    ∙ one_then pair_of (λ third. give (message.Where who boot (record { 0 = third }))) (pair_text cookie.0) [] cookie.0
    (pair_again cookie.0 is.1)
message_again stamp (message.Replay r) is =
    one_then who_of (λ first. one (small_of 32) >>= λ second. one pair_of >>= λ third. one tagged_of >>= λ fourth. one seen_of >>=
    λ fifth. op_reader >>= λ sixth. give (message.Replay (record
    { who = first; boot = second; txn = record { 0 = third }; xid = fourth.0; tag = fourth.1; seen = fifth; op = sixth })))
    (who_text r.who) (decimal r.boot ∷ pair_text r.txn.0 ∷ tagged_text r.xid r.tag ∷ seen_text r.seen ∷ op_words r.op) r.who
    (who_again r.who is.0.0)
    ∙ one_then (small_of 32) (λ second. one pair_of >>= λ third. one tagged_of >>= λ fourth. one seen_of >>= λ fifth. op_reader >>=
    λ sixth. give (message.Replay (record {
      who = r.who;
      boot = second;
      txn = record { 0 = third };
      xid = fourth.0;
      tag = fourth.1;
      seen = fifth;
      op = sixth;
    }))) (decimal r.boot) (pair_text r.txn.0 ∷ tagged_text r.xid r.tag ∷ seen_text r.seen ∷ op_words r.op)
    r.boot (short_again r.boot is.0.1)
    ∙ one_then pair_of (λ third. one tagged_of >>= λ fourth. one seen_of >>= λ fifth. op_reader >>=
    λ sixth. give (message.Replay (record {
      who = r.who;
      boot = r.boot;
      txn = record { 0 = third };
      xid = fourth.0;
      tag = fourth.1;
      seen = fifth;
      op = sixth;
    }))) (pair_text r.txn.0) (tagged_text r.xid r.tag ∷ seen_text r.seen ∷ op_words r.op) r.txn.0
    (pair_again r.txn.0 is.1)
    ∙ one_then tagged_of (λ fourth. one seen_of >>= λ fifth. op_reader >>=
    λ sixth. give (message.Replay (record {
      who = r.who;
      boot = r.boot;
      txn = record { 0 = r.txn.0 };
      xid = fourth.0;
      tag = fourth.1;
      seen = fifth;
      op = sixth;
    }))) (tagged_text r.xid r.tag) (seen_text r.seen ∷ op_words r.op) (r.xid, r.tag)
    (tagged_again r.xid r.tag is.2 is.3)
    ∙ one_then seen_of (λ fifth. op_reader >>= λ sixth. give (message.Replay
    (record { who = r.who; boot = r.boot; txn = record { 0 = r.txn.0 }; xid = r.xid; tag = r.tag; seen = fifth; op = sixth })))
    (seen_text r.seen) (op_words r.op) r.seen (seen_again r.seen is.4)
    ∙ then_again op_reader (λ sixth. give (message.Replay (record
    { who = r.who; boot = r.boot; txn = record { 0 = r.txn.0 }; xid = r.xid; tag = r.tag; seen = r.seen; op = sixth }))) (op_words r.op)
    [] r.op (op_again r.op is.5)
message_again stamp (message.Lock l) is =
    one_then who_of (λ first. one (small_of 32) >>= λ second. one pair_of >>= λ third. terms >>=
    λ fourth. give (message.Lock (record {
      who = first;
      boot = second;
      cookie = record { 0 = third };
      resource = fourth.0;
      mode =
          fourth.1;
      policy = fourth.2;
    }))) (who_text l.who) (decimal l.boot ∷ pair_text l.cookie.0 ∷ resource_text l.resource l.policy
    ∷ mode_text l.mode ∷ policy_text l.policy ∷ []) l.who (who_again l.who is.0.0)
    ∙ one_then (small_of 32) (λ second. one pair_of >>= λ third. terms >>=
    λ fourth. give (message.Lock (record {
      who = l.who;
      boot = second;
      cookie = record { 0 = third };
      resource = fourth.0;
      mode =
          fourth.1;
      policy = fourth.2;
    }))) (decimal l.boot) (pair_text l.cookie.0 ∷ resource_text l.resource l.policy ∷ mode_text l.mode
    ∷ policy_text l.policy ∷ []) l.boot (short_again l.boot is.0.1)
    ∙ one_then pair_of (λ third. terms >>= λ fourth. give (message.Lock
    (record { who = l.who; boot = l.boot; cookie = record { 0 = third }; resource = fourth.0; mode = fourth.1; policy = fourth.2 })))
    (pair_text l.cookie.0) (resource_text l.resource l.policy ∷ mode_text l.mode ∷ policy_text l.policy ∷ []) l.cookie.0
    (pair_again l.cookie.0 is.1)
    ∙ then_again terms (λ fourth. give (message.Lock (record {
      who = l.who;
      boot = l.boot;
      cookie = record { 0 = l.cookie.0 };
      resource =
          fourth.0;
      mode = fourth.1;
      policy = fourth.2;
    }))) (resource_text l.resource l.policy ∷ mode_text l.mode ∷ policy_text l.policy ∷ [])
    [] (l.resource, l.mode, l.policy) (terms_again l.resource l.mode l.policy [] is.2)
message_again stamp (message.Word who boot replays locks seen) is =
    one_then who_of (λ first. one (small_of 32) >>= λ second. one (small_of 32) >>= λ third. one (small_of 32) >>= λ fourth. one seen_of >>=
    λ fifth. give (message.Word first second third fourth fifth)) (who_text who)
    (decimal boot ∷ decimal replays ∷ decimal locks ∷ seen_text seen ∷ []) who (who_again who is.0.0)
    ∙ one_then (small_of 32) (λ second. one (small_of 32) >>= λ third. one (small_of 32) >>= λ fourth. one seen_of >>=
    λ fifth. give (message.Word who second third fourth fifth)) (decimal boot) (decimal replays ∷ decimal locks ∷ seen_text seen ∷ [])
    boot (short_again boot is.0.1)
    ∙ one_then (small_of 32) (λ third. one (small_of 32) >>= λ fourth. one seen_of >>=
    λ fifth. give (message.Word who boot third fourth fifth)) (decimal replays) (decimal locks ∷ seen_text seen ∷ []) replays
    (short_again replays is.1)
    ∙ one_then (small_of 32) (λ fourth. one seen_of >>= λ fifth. give (message.Word who boot replays fourth fifth)) (decimal locks)
    (seen_text seen ∷ []) locks (short_again locks is.2)
    ∙ one_then seen_of (λ fifth. give (message.Word who boot replays locks fifth)) (seen_text seen) [] seen (seen_again seen is.3)
message_again stamp (message.Join who boot) is =
    one_then who_of (λ first. one (small_of 32) >>= λ second. give (message.Join first second)) (who_text who) (decimal boot ∷ []) who
    (who_again who is.0)
    ∙ one_then (small_of 32) (λ second. give (message.Join who second)) (decimal boot) [] boot (short_again boot is.1)
message_again stamp (message.Size s) is =
    one_then who_of (λ first. one (small_of 32) >>= λ second. one pair_of >>= λ third. one who_of >>= λ fourth. one number_of >>=
    λ fifth. one size_of >>= λ sixth. give (message.Size (record {
      who = first;
      boot = second;
      cookie = record { 0 = third };
      for_who = fourth;
      xid = record { 0 = fifth };
      size = sixth;
      stamp =
          record { 0 = stamp };
    }))) (who_text s.who) (decimal s.boot ∷ pair_text s.cookie.0 ∷ who_text s.for_who ∷ decimal s.xid.0
    ∷ size_text s.size ∷ []) s.who (who_again s.who is.0.0)
    ∙ one_then (small_of 32) (λ second. one pair_of >>= λ third. one who_of >>= λ fourth. one number_of >>= λ fifth. one size_of >>=
    λ sixth. give (message.Size (record {
      who = s.who;
      boot = second;
      cookie = record { 0 = third };
      for_who = fourth;
      xid =
          record { 0 = fifth };
      size = sixth;
      stamp = record { 0 = stamp };
    }))) (decimal s.boot)
    (pair_text s.cookie.0 ∷ who_text s.for_who ∷ decimal s.xid.0 ∷ size_text s.size ∷ []) s.boot (short_again s.boot is.0.1)
    ∙ one_then pair_of (λ third. one who_of >>= λ fourth. one number_of >>= λ fifth. one size_of >>=
    λ sixth. give (message.Size (record {
      who = s.who;
      boot = s.boot;
      cookie = record { 0 = third };
      for_who = fourth;
      xid =
          record { 0 = fifth };
      size = sixth;
      stamp = record { 0 = stamp };
    }))) (pair_text s.cookie.0)
    (who_text s.for_who ∷ decimal s.xid.0 ∷ size_text s.size ∷ []) s.cookie.0 (pair_again s.cookie.0 is.1)
    ∙ one_then who_of (λ fourth. one number_of >>= λ fifth. one size_of >>=
    λ sixth. give (message.Size (record {
      who = s.who;
      boot = s.boot;
      cookie = record { 0 = s.cookie.0 };
      for_who = fourth;
      xid =
          record { 0 = fifth };
      size = sixth;
      stamp = record { 0 = stamp };
    }))) (who_text s.for_who) (decimal s.xid.0 ∷ size_text s.size ∷ [])
    s.for_who (who_again s.for_who is.2)
    ∙ one_then number_of (λ fifth. one size_of >>= λ sixth. give
    (message.Size (record {
      who = s.who;
      boot = s.boot;
      cookie = record { 0 = s.cookie.0 };
      for_who = s.for_who;
      xid =
          record { 0 = fifth };
      size = sixth;
      stamp = record { 0 = stamp };
    }))) (decimal s.xid.0) (size_text s.size ∷ []) s.xid.0
    (number_of-decimal s.xid.0 is.3)
    ∙ one_then size_of (λ sixth. give (message.Size (record {
      who = s.who;
      boot = s.boot;
      cookie = record { 0 = s.cookie.0 };
      for_who =
          s.for_who;
      xid = record { 0 = s.xid.0 };
      size = sixth;
      stamp = record { 0 = stamp };
    }))) (size_text s.size) [] s.size
    (size_again s.size is.4)
    ∙ ap (λ (t : ℕ). give (message.Size (record {
      who = s.who;
      boot = s.boot;
      cookie = s.cookie;
      for_who = s.for_who;
      xid = s.xid;
      size =
          s.size;
      stamp = record { 0 = t };
    })) []) (sym is.5)
message_again stamp (message.Up boot) is =
    one_then (small_of 32) (λ first. give (message.Up first)) (decimal boot) [] boot (short_again boot is)
message_again stamp (message.Reply r) is =
    one_then who_of (λ first. one (small_of 32) >>= λ second. one number_of >>= λ third. one pair_of >>= λ fourth. one pair_of >>=
    λ fifth. one seen_of >>= λ sixth. one at_of >>= λ seventh. one (locks_of first) >>= λ eighth. answer_reader >>=
    λ ninth. give (message.Reply (record {
      who = first;
      boot = second;
      xid = record { 0 = third };
      txn = record { 0 = fourth };
      committed = record { 0 = fifth };
      seen = sixth;
      at = seventh;
      locks = eighth;
      answer = ninth;
    }))) (who_text r.who)
    (decimal r.boot ∷ decimal r.xid.0 ∷ pair_text r.txn.0 ∷ pair_text r.committed.0 ∷ seen_text r.seen ∷ at_text r.at
    ∷ locks_text r.locks ∷ answer_words r.answer) r.who (who_again r.who is.0.0)
    ∙ one_then (small_of 32) (λ second. one number_of >>= λ third. one pair_of >>= λ fourth. one pair_of >>= λ fifth. one seen_of >>=
    λ sixth. one at_of >>= λ seventh. one (locks_of r.who) >>= λ eighth. answer_reader >>=
    λ ninth. give (message.Reply (record {
      who = r.who;
      boot = second;
      xid = record { 0 = third };
      txn = record { 0 = fourth };
      committed = record { 0 = fifth };
      seen = sixth;
      at = seventh;
      locks = eighth;
      answer = ninth;
    }))) (decimal r.boot)
    (decimal r.xid.0 ∷ pair_text r.txn.0 ∷ pair_text r.committed.0 ∷ seen_text r.seen ∷ at_text r.at ∷ locks_text r.locks
    ∷ answer_words r.answer) r.boot (short_again r.boot is.0.1)
    ∙ one_then number_of (λ third. one pair_of >>= λ fourth. one pair_of >>= λ fifth. one seen_of >>= λ sixth. one at_of >>=
    λ seventh. one (locks_of r.who) >>= λ eighth. answer_reader >>=
    λ ninth. give (message.Reply (record {
      who = r.who;
      boot = r.boot;
      xid = record { 0 = third };
      txn = record { 0 = fourth };
      committed = record { 0 = fifth };
      seen = sixth;
      at = seventh;
      locks = eighth;
      answer = ninth;
    }))) (decimal r.xid.0)
    (pair_text r.txn.0 ∷ pair_text r.committed.0 ∷ seen_text r.seen ∷ at_text r.at ∷ locks_text r.locks ∷ answer_words r.answer) r.xid.0
    (number_of-decimal r.xid.0 is.1)
    ∙ one_then pair_of (λ fourth. one pair_of >>= λ fifth. one seen_of >>= λ sixth. one at_of >>= λ seventh. one (locks_of r.who) >>=
    λ eighth. answer_reader >>= λ ninth. give (message.Reply
    (record {
      who = r.who;
      boot = r.boot;
      xid = record { 0 = r.xid.0 };
      txn = record { 0 = fourth };
      committed = record { 0 = fifth };
      seen = sixth;
      at = seventh;
      locks = eighth;
      answer = ninth;
    }))) (pair_text r.txn.0)
    (pair_text r.committed.0 ∷ seen_text r.seen ∷ at_text r.at ∷ locks_text r.locks ∷ answer_words r.answer) r.txn.0
    (pair_again r.txn.0 is.2)
    ∙ one_then pair_of (λ fifth. one seen_of >>= λ sixth. one at_of >>= λ seventh. one (locks_of r.who) >>= λ eighth. answer_reader >>=
    λ ninth. give (message.Reply (record {
      who = r.who;
      boot = r.boot;
      xid = record { 0 = r.xid.0 };
      txn = record { 0 = r.txn.0 };
      committed = record { 0 = fifth };
      seen = sixth;
      at = seventh;
      locks = eighth;
      answer = ninth;
    }))) (pair_text r.committed.0)
    (seen_text r.seen ∷ at_text r.at ∷ locks_text r.locks ∷ answer_words r.answer) r.committed.0 (pair_again r.committed.0 is.3)
    ∙ one_then seen_of (λ sixth. one at_of >>= λ seventh. one (locks_of r.who) >>= λ eighth. answer_reader >>=
    λ ninth. give (message.Reply (record {
      who = r.who;
      boot = r.boot;
      xid = record { 0 = r.xid.0 };
      txn = record { 0 = r.txn.0 };
      committed = record { 0 = r.committed.0 };
      seen = sixth;
      at = seventh;
      locks = eighth;
      answer = ninth;
    }))) (seen_text r.seen)
    (at_text r.at ∷ locks_text r.locks ∷ answer_words r.answer) r.seen (seen_again r.seen is.4)
    ∙ one_then at_of (λ seventh. one (locks_of r.who) >>= λ eighth. answer_reader >>=
    λ ninth. give (message.Reply (record {
      who = r.who;
      boot = r.boot;
      xid = record { 0 = r.xid.0 };
      txn = record { 0 = r.txn.0 };
      committed = record { 0 = r.committed.0 };
      seen = r.seen;
      at = seventh;
      locks = eighth;
      answer = ninth;
    }))) (at_text r.at)
    (locks_text r.locks ∷ answer_words r.answer) r.at (at_again r.at is.5)
    ∙ one_then (locks_of r.who) (λ eighth. answer_reader >>= λ ninth. give
    (message.Reply (record {
      who = r.who;
      boot = r.boot;
      xid = record { 0 = r.xid.0 };
      txn = record { 0 = r.txn.0 };
      committed =
          record { 0 = r.committed.0 };
      seen = r.seen;
      at = r.at;
      locks = eighth;
      answer = ninth;
    }))) (locks_text r.locks)
    (answer_words r.answer) r.locks (locks_again r.who r.locks is.6)
    ∙ then_again answer_reader (λ ninth. give (message.Reply (record {
      who = r.who;
      boot = r.boot;
      xid = record { 0 = r.xid.0 };
      txn = record { 0 = r.txn.0 };
      committed = record { 0 = r.committed.0 };
      seen = r.seen;
      at = r.at;
      locks = r.locks;
      answer = ninth;
    }))) (answer_words r.answer) [] r.answer (answer_again r.answer is.7)
message_again stamp (message.Grant g) is =
    one_then who_of (λ first. one (small_of 32) >>= λ second. one pair_of >>= λ third. one extent_of >>= λ fourth. one number_of >>=
    λ fifth. one pair_of >>= λ sixth. one seen_of >>= λ seventh. give
    (message.Grant (record {
      who = first;
      boot = second;
      cookie = record { 0 = third };
      extent = fourth;
      size = fifth;
      committed =
          record { 0 = sixth };
      seen = seventh;
    }))) (who_text g.who)
    (decimal g.boot ∷ pair_text g.cookie.0 ∷ extent_text g.extent ∷ decimal g.size ∷ pair_text g.committed.0 ∷ seen_text g.seen ∷ [])
    g.who (who_again g.who is.0.0)
    ∙ one_then (small_of 32) (λ second. one pair_of >>= λ third. one extent_of >>= λ fourth. one number_of >>= λ fifth. one pair_of >>=
    λ sixth. one seen_of >>= λ seventh. give (message.Grant
    (record {
      who = g.who;
      boot = second;
      cookie = record { 0 = third };
      extent = fourth;
      size = fifth;
      committed =
          record { 0 = sixth };
      seen = seventh;
    }))) (decimal g.boot)
    (pair_text g.cookie.0 ∷ extent_text g.extent ∷ decimal g.size ∷ pair_text g.committed.0 ∷ seen_text g.seen ∷ []) g.boot
    (short_again g.boot is.0.1)
    ∙ one_then pair_of (λ third. one extent_of >>= λ fourth. one number_of >>= λ fifth. one pair_of >>= λ sixth. one seen_of >>=
    λ seventh. give (message.Grant (record {
      who = g.who;
      boot = g.boot;
      cookie = record { 0 = third };
      extent = fourth;
      size = fifth;
      committed = record { 0 = sixth };
      seen = seventh;
    }))) (pair_text g.cookie.0)
    (extent_text g.extent ∷ decimal g.size ∷ pair_text g.committed.0 ∷ seen_text g.seen ∷ []) g.cookie.0 (pair_again g.cookie.0 is.1)
    ∙ one_then extent_of (λ fourth. one number_of >>= λ fifth. one pair_of >>= λ sixth. one seen_of >>=
    λ seventh. give (message.Grant (record {
      who = g.who;
      boot = g.boot;
      cookie = record { 0 = g.cookie.0 };
      extent = fourth;
      size =
          fifth;
      committed = record { 0 = sixth };
      seen = seventh;
    }))) (extent_text g.extent)
    (decimal g.size ∷ pair_text g.committed.0 ∷ seen_text g.seen ∷ []) g.extent (extent_again g.extent is.2)
    ∙ one_then number_of (λ fifth. one pair_of >>= λ sixth. one seen_of >>=
    λ seventh. give (message.Grant (record {
      who = g.who;
      boot = g.boot;
      cookie = record { 0 = g.cookie.0 };
      extent = g.extent;
      size =
          fifth;
      committed = record { 0 = sixth };
      seen = seventh;
    }))) (decimal g.size) (pair_text g.committed.0 ∷ seen_text g.seen ∷ [])
    g.size (number_of-decimal g.size is.3)
    ∙ one_then pair_of (λ sixth. one seen_of >>= λ seventh. give
    (message.Grant (record {
      who = g.who;
      boot = g.boot;
      cookie = record { 0 = g.cookie.0 };
      extent = g.extent;
      size = g.size;
      committed = record { 0 = sixth };
      seen = seventh;
    }))) (pair_text g.committed.0) (seen_text g.seen ∷ []) g.committed.0
    (pair_again g.committed.0 is.4)
    ∙ one_then seen_of (λ seventh. give (message.Grant (record {
      who = g.who;
      boot = g.boot;
      cookie = record { 0 = g.cookie.0 };
      extent =
          g.extent;
      size = g.size;
      committed = record { 0 = g.committed.0 };
      seen = seventh;
    }))) (seen_text g.seen) [] g.seen
    (seen_again g.seen is.5)
message_again stamp (message.Block who boot cookie) is =
    one_then who_of (λ first. one (small_of 32) >>= λ second. one pair_of >>=
    λ third. give (message.Block first second (record { 0 = third }))) (who_text who) (decimal boot ∷ pair_text cookie.0 ∷ []) who
    (who_again who is.0.0)
    ∙ one_then (small_of 32) (λ second. one pair_of >>= λ third. give (message.Block who second (record { 0 = third }))) (decimal boot)
    (pair_text cookie.0 ∷ []) boot (short_again boot is.0.1)
    ∙ one_then pair_of (λ third. give (message.Block who boot (record { 0 = third }))) (pair_text cookie.0) [] cookie.0
    (pair_again cookie.0 is.1)
message_again stamp (message.Ask who boot cookie for_who xid) is =
    one_then who_of (λ first. one (small_of 32) >>= λ second. one pair_of >>= λ third. one who_of >>= λ fourth. one number_of >>=
    λ fifth. give (message.Ask first second (record { 0 = third }) fourth (record { 0 = fifth }))) (who_text who)
    (decimal boot ∷ pair_text cookie.0 ∷ who_text for_who ∷ decimal xid.0 ∷ []) who (who_again who is.0.0)
    ∙ one_then (small_of 32) (λ second. one pair_of >>= λ third. one who_of >>= λ fourth. one number_of >>=
    λ fifth. give (message.Ask who second (record { 0 = third }) fourth (record { 0 = fifth }))) (decimal boot)
    (pair_text cookie.0 ∷ who_text for_who ∷ decimal xid.0 ∷ []) boot (short_again boot is.0.1)
    ∙ one_then pair_of (λ third. one who_of >>= λ fourth. one number_of >>=
    λ fifth. give (message.Ask who boot (record { 0 = third }) fourth (record { 0 = fifth }))) (pair_text cookie.0)
    (who_text for_who ∷ decimal xid.0 ∷ []) cookie.0 (pair_again cookie.0 is.1)
    ∙ one_then who_of (λ fourth. one number_of >>= λ fifth. give
    (message.Ask who boot (record { 0 = cookie.0 }) fourth (record { 0 = fifth }))) (who_text for_who) (decimal xid.0 ∷ []) for_who
    (who_again for_who is.2)
    ∙ one_then number_of (λ fifth. give (message.Ask who boot (record { 0 = cookie.0 }) for_who (record { 0 = fifth }))) (decimal xid.0) []
    xid.0 (number_of-decimal xid.0 is.3)
message_again stamp (message.Ready who boot committed) is =
    one_then who_of (λ first. one (small_of 32) >>= λ second. one pair_of >>=
    λ third. give (message.Ready first second (record { 0 = third }))) (who_text who) (decimal boot ∷ pair_text committed.0 ∷ []) who
    (who_again who is.0.0)
    ∙ one_then (small_of 32) (λ second. one pair_of >>= λ third. give (message.Ready who second (record { 0 = third }))) (decimal boot)
    (pair_text committed.0 ∷ []) boot (short_again boot is.0.1)
    ∙ one_then pair_of (λ third. give (message.Ready who boot (record { 0 = third }))) (pair_text committed.0) [] committed.0
    (pair_again committed.0 is.1)
message_again stamp (message.Evicted who boot) is =
    one_then who_of (λ first. one (small_of 32) >>= λ second. give (message.Evicted first second)) (who_text who) (decimal boot ∷ []) who
    (who_again who is.0)
    ∙ one_then (small_of 32) (λ second. give (message.Evicted who second)) (decimal boot) [] boot (short_again boot is.1)

-- each byte of its words is shown, and no space
pub message_shown : (stamp : ℕ) (v : Message) → IsMessage stamp v → AreShown (message_words v)
message_shown stamp (message.Request r) is = more_words (codes "req")
    (who_text r.who ∷ decimal r.boot ∷ tagged_text r.xid r.tag ∷ op_words r.op) (code_shown (codes "req") refl)
    (more_words (who_text r.who) (decimal r.boot ∷ tagged_text r.xid r.tag ∷ op_words r.op) (who_shown r.who is.0.0)
    (more_words (decimal r.boot) (tagged_text r.xid r.tag ∷ op_words r.op) (short_shown r.boot is.0.1)
    (more_words (tagged_text r.xid r.tag) (op_words r.op) (tagged_shown r.xid r.tag is.1 is.2) (op_shown r.op is.3))))
message_shown stamp (message.Cancel who boot cookie) is = more_words (codes "cancel")
    (who_text who ∷ decimal boot ∷ pair_text cookie.0 ∷ []) (code_shown (codes "cancel") refl)
    (more_words (who_text who) (decimal boot ∷ pair_text cookie.0 ∷ []) (who_shown who is.0.0)
    (more_words (decimal boot) (pair_text cookie.0 ∷ []) (short_shown boot is.0.1)
    (more_words (pair_text cookie.0) [] (pair_shown cookie.0 is.1) (no_words))))
message_shown stamp (message.Where who boot cookie) is = more_words (codes "where") (who_text who ∷ decimal boot ∷ pair_text cookie.0 ∷ [])
    (code_shown (codes "where") refl) (more_words (who_text who) (decimal boot ∷ pair_text cookie.0 ∷ []) (who_shown who is.0.0)
    (more_words (decimal boot) (pair_text cookie.0 ∷ []) (short_shown boot is.0.1)
    (more_words (pair_text cookie.0) [] (pair_shown cookie.0 is.1) (no_words))))
message_shown stamp (message.Replay r) is = more_words (codes "replay")
    (who_text r.who ∷ decimal r.boot ∷ pair_text r.txn.0 ∷ tagged_text r.xid r.tag ∷ seen_text r.seen ∷ op_words r.op)
    (code_shown (codes "replay") refl) (more_words (who_text r.who)
    (decimal r.boot ∷ pair_text r.txn.0 ∷ tagged_text r.xid r.tag ∷ seen_text r.seen ∷ op_words r.op) (who_shown r.who is.0.0)
    (more_words (decimal r.boot) (pair_text r.txn.0 ∷ tagged_text r.xid r.tag ∷ seen_text r.seen ∷ op_words r.op)
    (short_shown r.boot is.0.1) (more_words (pair_text r.txn.0) (tagged_text r.xid r.tag ∷ seen_text r.seen ∷ op_words r.op)
    (pair_shown r.txn.0 is.1) (more_words (tagged_text r.xid r.tag) (seen_text r.seen ∷ op_words r.op) (tagged_shown r.xid r.tag is.2 is.3)
    (more_words (seen_text r.seen) (op_words r.op) (seen_shown r.seen is.4) (op_shown r.op is.5))))))
message_shown stamp (message.Lock l) is = more_words (codes "lock")
    (who_text l.who ∷ decimal l.boot ∷ pair_text l.cookie.0 ∷ resource_text l.resource l.policy ∷ mode_text l.mode ∷ policy_text l.policy
    ∷ []) (code_shown (codes "lock") refl) (more_words (who_text l.who)
    (decimal l.boot ∷ pair_text l.cookie.0 ∷ resource_text l.resource l.policy ∷ mode_text l.mode ∷ policy_text l.policy ∷ [])
    (who_shown l.who is.0.0) (more_words (decimal l.boot) (pair_text l.cookie.0 ∷ resource_text l.resource l.policy ∷ mode_text l.mode
    ∷ policy_text l.policy ∷ []) (short_shown l.boot is.0.1) (more_words (pair_text l.cookie.0)
    (resource_text l.resource l.policy ∷ mode_text l.mode ∷ policy_text l.policy ∷ []) (pair_shown l.cookie.0 is.1)
    (terms_shown l.resource l.mode l.policy [] is.2 (no_words)))))
message_shown stamp (message.Word who boot replays locks seen) is =
    more_words (codes "word") (who_text who ∷ decimal boot ∷ decimal replays ∷ decimal locks ∷ seen_text seen ∷ [])
    (code_shown (codes "word") refl) (more_words (who_text who) (decimal boot ∷ decimal replays ∷ decimal locks ∷ seen_text seen ∷ [])
    (who_shown who is.0.0) (more_words (decimal boot) (decimal replays ∷ decimal locks ∷ seen_text seen ∷ []) (short_shown boot is.0.1)
    (more_words (decimal replays) (decimal locks ∷ seen_text seen ∷ []) (short_shown replays is.1)
    (more_words (decimal locks) (seen_text seen ∷ []) (short_shown locks is.2)
    (more_words (seen_text seen) [] (seen_shown seen is.3) (no_words))))))
message_shown stamp (message.Join who boot) is = more_words (codes "join") (who_text who ∷ decimal boot ∷ [])
    (code_shown (codes "join") refl) (more_words (who_text who) (decimal boot ∷ []) (who_shown who is.0)
    (more_words (decimal boot) [] (short_shown boot is.1) (no_words)))
message_shown stamp (message.Size s) is = more_words (codes "size")
    (who_text s.who ∷ decimal s.boot ∷ pair_text s.cookie.0 ∷ who_text s.for_who ∷ decimal s.xid.0 ∷ size_text s.size ∷ [])
    (code_shown (codes "size") refl) (more_words (who_text s.who)
    (decimal s.boot ∷ pair_text s.cookie.0 ∷ who_text s.for_who ∷ decimal s.xid.0 ∷ size_text s.size ∷ []) (who_shown s.who is.0.0)
    (more_words (decimal s.boot) (pair_text s.cookie.0 ∷ who_text s.for_who ∷ decimal s.xid.0 ∷ size_text s.size ∷ [])
    (short_shown s.boot is.0.1) (more_words (pair_text s.cookie.0) (who_text s.for_who ∷ decimal s.xid.0 ∷ size_text s.size ∷ [])
    (pair_shown s.cookie.0 is.1) (more_words (who_text s.for_who) (decimal s.xid.0 ∷ size_text s.size ∷ []) (who_shown s.for_who is.2)
    (more_words (decimal s.xid.0) (size_text s.size ∷ []) (decimal_shown s.xid.0 is.3)
    (more_words (size_text s.size) [] (size_shown s.size is.4) (no_words)))))))
message_shown stamp (message.Up boot) is = more_words (codes "up") (decimal boot ∷ []) (code_shown (codes "up") refl)
    (more_words (decimal boot) [] (short_shown boot is) (no_words))
message_shown stamp (message.Reply r) is = more_words (codes "reply")
    (who_text r.who ∷ decimal r.boot ∷ decimal r.xid.0 ∷ pair_text r.txn.0 ∷ pair_text r.committed.0 ∷ seen_text r.seen ∷ at_text r.at
    ∷ locks_text r.locks ∷ answer_words r.answer) (code_shown (codes "reply") refl)
    (more_words (who_text r.who) (decimal r.boot ∷ decimal r.xid.0 ∷ pair_text r.txn.0 ∷ pair_text r.committed.0 ∷ seen_text r.seen
    ∷ at_text r.at ∷ locks_text r.locks ∷ answer_words r.answer) (who_shown r.who is.0.0)
    (more_words (decimal r.boot) (decimal r.xid.0 ∷ pair_text r.txn.0 ∷ pair_text r.committed.0 ∷ seen_text r.seen ∷ at_text r.at
    ∷ locks_text r.locks ∷ answer_words r.answer) (short_shown r.boot is.0.1)
    (more_words (decimal r.xid.0) (pair_text r.txn.0 ∷ pair_text r.committed.0 ∷ seen_text r.seen ∷ at_text r.at ∷ locks_text r.locks
    ∷ answer_words r.answer) (decimal_shown r.xid.0 is.1) (more_words (pair_text r.txn.0)
    (pair_text r.committed.0 ∷ seen_text r.seen ∷ at_text r.at ∷ locks_text r.locks ∷ answer_words r.answer) (pair_shown r.txn.0 is.2)
    (more_words (pair_text r.committed.0) (seen_text r.seen ∷ at_text r.at ∷ locks_text r.locks ∷ answer_words r.answer)
    (pair_shown r.committed.0 is.3) (more_words (seen_text r.seen) (at_text r.at ∷ locks_text r.locks ∷ answer_words r.answer)
    (seen_shown r.seen is.4) (more_words (at_text r.at) (locks_text r.locks ∷ answer_words r.answer) (at_shown r.at is.5)
    (more_words (locks_text r.locks) (answer_words r.answer) (locks_shown r.who r.locks is.6) (answer_shown r.answer is.7)))))))))
message_shown stamp (message.Grant g) is = more_words (codes "grant")
    (who_text g.who ∷ decimal g.boot ∷ pair_text g.cookie.0 ∷ extent_text g.extent ∷ decimal g.size ∷ pair_text g.committed.0
    ∷ seen_text g.seen ∷ []) (code_shown (codes "grant") refl) (more_words (who_text g.who)
    (decimal g.boot ∷ pair_text g.cookie.0 ∷ extent_text g.extent ∷ decimal g.size ∷ pair_text g.committed.0 ∷ seen_text g.seen ∷ [])
    (who_shown g.who is.0.0) (more_words (decimal g.boot) (pair_text g.cookie.0 ∷ extent_text g.extent ∷ decimal g.size
    ∷ pair_text g.committed.0 ∷ seen_text g.seen ∷ []) (short_shown g.boot is.0.1)
    (more_words (pair_text g.cookie.0) (extent_text g.extent ∷ decimal g.size ∷ pair_text g.committed.0 ∷ seen_text g.seen ∷ [])
    (pair_shown g.cookie.0 is.1) (more_words (extent_text g.extent) (decimal g.size ∷ pair_text g.committed.0 ∷ seen_text g.seen ∷ [])
    (extent_shown g.extent is.2) (more_words (decimal g.size) (pair_text g.committed.0 ∷ seen_text g.seen ∷ []) (decimal_shown g.size is.3)
    (more_words (pair_text g.committed.0) (seen_text g.seen ∷ []) (pair_shown g.committed.0 is.4)
    (more_words (seen_text g.seen) [] (seen_shown g.seen is.5) (no_words))))))))
message_shown stamp (message.Block who boot cookie) is = more_words (codes "block") (who_text who ∷ decimal boot ∷ pair_text cookie.0 ∷ [])
    (code_shown (codes "block") refl) (more_words (who_text who) (decimal boot ∷ pair_text cookie.0 ∷ []) (who_shown who is.0.0)
    (more_words (decimal boot) (pair_text cookie.0 ∷ []) (short_shown boot is.0.1)
    (more_words (pair_text cookie.0) [] (pair_shown cookie.0 is.1) (no_words))))
message_shown stamp (message.Ask who boot cookie for_who xid) is =
    more_words (codes "ask") (who_text who ∷ decimal boot ∷ pair_text cookie.0 ∷ who_text for_who ∷ decimal xid.0 ∷ [])
    (code_shown (codes "ask") refl) (more_words (who_text who) (decimal boot ∷ pair_text cookie.0 ∷ who_text for_who ∷ decimal xid.0 ∷ [])
    (who_shown who is.0.0) (more_words (decimal boot) (pair_text cookie.0 ∷ who_text for_who ∷ decimal xid.0 ∷ []) (short_shown boot is.0.1)
    (more_words (pair_text cookie.0) (who_text for_who ∷ decimal xid.0 ∷ []) (pair_shown cookie.0 is.1)
    (more_words (who_text for_who) (decimal xid.0 ∷ []) (who_shown for_who is.2)
    (more_words (decimal xid.0) [] (decimal_shown xid.0 is.3) (no_words))))))
message_shown stamp (message.Ready who boot committed) is = more_words (codes "ready")
    (who_text who ∷ decimal boot ∷ pair_text committed.0 ∷ []) (code_shown (codes "ready") refl)
    (more_words (who_text who) (decimal boot ∷ pair_text committed.0 ∷ []) (who_shown who is.0.0)
    (more_words (decimal boot) (pair_text committed.0 ∷ []) (short_shown boot is.0.1)
    (more_words (pair_text committed.0) [] (pair_shown committed.0 is.1) (no_words))))
message_shown stamp (message.Evicted who boot) is = more_words (codes "evicted") (who_text who ∷ decimal boot ∷ [])
    (code_shown (codes "evicted") refl) (more_words (who_text who) (decimal boot ∷ []) (who_shown who is.0)
    (more_words (decimal boot) [] (short_shown boot is.1) (no_words)))
