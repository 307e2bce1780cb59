-- Each entry is read from its words.
use Rattle.std.proofs.Common.{◌≡◌, ◌≢◌, ℕ, List, [], ◌∷◌, Some, refl, ap, ◌∙◌, decimal}
use Rattle.std.specs.Prelude.{codes}
use Rattle.lu_base.specs.Texts.{pair_text}
use Rattle.lu_base.specs.Values.{mode_text, node_text, target_text}
use Rattle.lu_scene.specs.Fields.{number_of}
use Rattle.lu_scene.proofs.Numerals.{number_of-decimal}
use Rattle.lu_trace.specs.Words.{words}
use Rattle.lu_trace.specs.Values.{who_text, at_text, policy_text, resource_text}
use Rattle.lu_trace.specs.Lists.{seen_text}
use Rattle.lu_trace.specs.Entries.{cause_text}
use Rattle.lu_trace.specs.Calls.{call_words}
use Rattle.lu_judge_reader.specs.Reading.{◌>>=◌, give, one}
use Rattle.lu_judge_reader.specs.Values.{small_of, pair_of, who_of, node_of, target_of, at_of, cause_of}
use Rattle.lu_judge_reader.specs.Lists.{seen_of}
use Rattle.lu_judge_reader.proofs.Shown.{AreShown, no_words, more_words, code_shown, decimal_shown, octet_shown, short_shown, pair_shown}
use Rattle.lu_judge_reader.proofs.Shown.{who_shown, node_shown, target_shown, at_shown, cause_shown, seen_shown}
use Rattle.lu_judge_reader.proofs.Steps.{one_then, then_again, last_words}
use Rattle.lu_judge_reader.proofs.ValuesAgain.{octet_again, short_again, pair_again, who_again, node_again, target_again, at_again}
use Rattle.lu_judge_reader.proofs.ValuesAgain.{cause_again}
use Rattle.lu_judge_reader.proofs.ListsAgain.{seen_again}
use Rattle.lu_base.specs.declared.locks.Lock.{Lock}
use Rattle.lu_trace.specs.declared.entries.Entry.{Entry}
use Rattle.lu_trace.specs.declared.entries.Entry.TheVariants as entry
use Rattle.lu_trace.specs.Entries.{entry_text}
use Rattle.lu_trace.specs.WellFormed.{IsEntry, IsLock}
use Rattle.lu_judge_reader.specs.Parts.{call_reader, answer_reader, terms}
use Rattle.lu_judge_reader.specs.Messages.{message_reader}
use Rattle.lu_judge_reader.specs.Entries.{lock_reader, entry_reader}
use Rattle.lu_judge_reader.proofs.CallsAgain.{call_some, call_again, call_shown}
use Rattle.lu_judge_reader.proofs.AnswersAgain.{answer_words, answer_spelled, answer_some, answer_again, answer_shown}
use Rattle.lu_judge_reader.proofs.MessagesAgain.{message_words, message_spelled, message_some, message_again, message_shown}
use Rattle.lu_judge_reader.proofs.Stats.{terms_again, terms_shown}

-- a lock, and words behind it
lock_again : (lock : Lock) (rest : List (List ℕ)) → IsLock lock
    → lock_reader (pair_text lock.cookie.0 ∷ who_text lock.ask.who ∷ resource_text lock.resource lock.ask.policy ∷ mode_text lock.ask.mode
    ∷ policy_text lock.ask.policy ∷ rest) ≡ Some (lock, rest)
unfolding lock_reader
lock_again lock rest is =
    one_then pair_of (λ c. one who_of >>= λ w. terms >>= λ on. give
    (record { cookie = record { 0 = c }; resource = on.0; ask = record { who = w; mode = on.1; policy = on.2 } }))
    (pair_text lock.cookie.0)
    (who_text lock.ask.who ∷ resource_text lock.resource lock.ask.policy ∷ mode_text lock.ask.mode ∷ policy_text lock.ask.policy ∷ rest)
    lock.cookie.0 (pair_again lock.cookie.0 is.0)
    ∙ one_then who_of (λ w. terms >>= λ on. give (record {
      cookie = lock.cookie;
      resource = on.0;
      ask =
          record { who = w; mode = on.1; policy = on.2 };
    })) (who_text lock.ask.who)
    (resource_text lock.resource lock.ask.policy ∷ mode_text lock.ask.mode ∷ policy_text lock.ask.policy ∷ rest) lock.ask.who
    (who_again lock.ask.who is.1)
    ∙ then_again terms (λ on. give (record {
      cookie = lock.cookie;
      resource = on.0;
      ask =
          record { who = lock.ask.who; mode = on.1; policy = on.2 };
    }))
    (resource_text lock.resource lock.ask.policy ∷ mode_text lock.ask.mode ∷ policy_text lock.ask.policy ∷ rest) rest
    (lock.resource, lock.ask.mode, lock.ask.policy)
    (terms_again lock.resource lock.ask.mode lock.ask.policy rest is.2)

lock_shown : (lock : Lock) (rest : List (List ℕ)) → IsLock lock → AreShown rest
    → AreShown (pair_text lock.cookie.0 ∷ who_text lock.ask.who ∷ resource_text lock.resource lock.ask.policy ∷ mode_text lock.ask.mode
    ∷ policy_text lock.ask.policy ∷ rest)
lock_shown lock rest is are =
    more_words (pair_text lock.cookie.0) (who_text lock.ask.who ∷ resource_text lock.resource lock.ask.policy ∷ mode_text lock.ask.mode
    ∷ policy_text lock.ask.policy ∷ rest) (pair_shown lock.cookie.0 is.0)
    (more_words (who_text lock.ask.who) (resource_text lock.resource lock.ask.policy ∷ mode_text lock.ask.mode ∷ policy_text lock.ask.policy
    ∷ rest) (who_shown lock.ask.who is.1)
    (terms_shown lock.resource lock.ask.mode lock.ask.policy rest is.2 are))

-- the words of an entry
abbrev pub entry_words : Entry → List (List ℕ)
entry_words (entry.Begin slot call) = codes "begin" ∷ decimal slot ∷ call_words call
entry_words (entry.Busy slot) = codes "busy" ∷ decimal slot ∷ []
entry_words entry.Skip = codes "skip" ∷ []
entry_words (entry.Send number to message) = codes "send" ∷ decimal number ∷ node_text to ∷ message_words message
entry_words (entry.Take number) = codes "take" ∷ decimal number ∷ []
entry_words entry.Tick = codes "tick" ∷ []
entry_words (entry.Heard target xid) = codes "heard" ∷ target_text target.0 ∷ decimal xid.0 ∷ []
entry_words (entry.Hold target cookie) = codes "hold" ∷ target_text target.0 ∷ pair_text cookie.0 ∷ []
entry_words (entry.Drop target cookie) = codes "drop" ∷ target_text target.0 ∷ pair_text cookie.0 ∷ []
entry_words (entry.Told slot at answer) = codes "told" ∷ decimal slot ∷ at_text at ∷ answer_words answer
entry_words (entry.Peek target cookie size) = codes "peek" ∷ target_text target.0 ∷ pair_text cookie.0 ∷ decimal size ∷ []
entry_words (entry.Life who) = codes "life" ∷ who_text who ∷ []
entry_words entry.Die = codes "die" ∷ []
entry_words (entry.Act who xid answer) = codes "act" ∷ who_text who ∷ decimal xid.0 ∷ answer_words answer
entry_words (entry.Txn txn who xid seen answer) = codes "txn" ∷ pair_text txn.0 ∷ who_text who ∷ decimal xid.0 ∷ seen_text seen
    ∷ answer_words answer
entry_words (entry.Grant lock) = codes "grant" ∷ pair_text lock.cookie.0 ∷ who_text lock.ask.who
    ∷ resource_text lock.resource lock.ask.policy ∷ mode_text lock.ask.mode ∷ policy_text lock.ask.policy ∷ []
entry_words (entry.Wait lock) = codes "wait" ∷ pair_text lock.cookie.0 ∷ who_text lock.ask.who ∷ resource_text lock.resource lock.ask.policy
    ∷ mode_text lock.ask.mode ∷ policy_text lock.ask.policy ∷ []
entry_words (entry.Block cookie) = codes "block" ∷ pair_text cookie.0 ∷ []
entry_words (entry.Release cookie) = codes "release" ∷ pair_text cookie.0 ∷ []
entry_words (entry.Commit txn) = codes "commit" ∷ pair_text txn.0 ∷ []
entry_words entry.Crash = codes "crash" ∷ []
entry_words (entry.Boot boot) = codes "boot" ∷ decimal boot ∷ []
entry_words (entry.Back who) = codes "back" ∷ who_text who ∷ []
entry_words entry.Close = codes "close" ∷ []
entry_words (entry.Kept txn) = codes "kept" ∷ pair_text txn.0 ∷ []
entry_words (entry.Restore lock) = codes "restore" ∷ pair_text lock.cookie.0 ∷ who_text lock.ask.who
    ∷ resource_text lock.resource lock.ask.policy ∷ mode_text lock.ask.mode ∷ policy_text lock.ask.policy ∷ []
entry_words (entry.Evict who cause) = codes "evict" ∷ who_text who ∷ cause_text cause ∷ []
entry_words (entry.Joined who) = codes "joined" ∷ who_text who ∷ []
entry_words entry.Fail = codes "fail" ∷ []

-- its text is these words, with one space between them
pub entry_spelled : (v : Entry) → entry_text v ≡ words (entry_words v)
entry_spelled (entry.Begin slot call) = last_words (codes "begin" ∷ decimal slot ∷ []) (call_words call) (call_some call)
entry_spelled (entry.Busy slot) = refl
entry_spelled entry.Skip = refl
entry_spelled (entry.Send number to message) = ap (λ (t : List ℕ). words (codes "send" ∷ decimal number ∷ node_text to ∷ t ∷ []))
    (message_spelled message) ∙ last_words (codes "send" ∷ decimal number ∷ node_text to ∷ []) (message_words message)
    (message_some message)
entry_spelled (entry.Take number) = refl
entry_spelled entry.Tick = refl
entry_spelled (entry.Heard target xid) = refl
entry_spelled (entry.Hold target cookie) = refl
entry_spelled (entry.Drop target cookie) = refl
entry_spelled (entry.Told slot at answer) = ap (λ (t : List ℕ). words (codes "told" ∷ decimal slot ∷ at_text at ∷ t ∷ []))
    (answer_spelled answer) ∙ last_words (codes "told" ∷ decimal slot ∷ at_text at ∷ []) (answer_words answer) (answer_some answer)
entry_spelled (entry.Peek target cookie size) = refl
entry_spelled (entry.Life who) = refl
entry_spelled entry.Die = refl
entry_spelled (entry.Act who xid answer) = ap (λ (t : List ℕ). words (codes "act" ∷ who_text who ∷ decimal xid.0 ∷ t ∷ []))
    (answer_spelled answer) ∙ last_words (codes "act" ∷ who_text who ∷ decimal xid.0 ∷ []) (answer_words answer) (answer_some answer)
entry_spelled (entry.Txn txn who xid seen answer) = ap (λ (t : List ℕ). words
    (codes "txn" ∷ pair_text txn.0 ∷ who_text who ∷ decimal xid.0 ∷ seen_text seen ∷ t ∷ [])) (answer_spelled answer)
    ∙ last_words (codes "txn" ∷ pair_text txn.0 ∷ who_text who ∷ decimal xid.0 ∷ seen_text seen ∷ []) (answer_words answer)
    (answer_some answer)
entry_spelled (entry.Grant lock) = refl
entry_spelled (entry.Wait lock) = refl
entry_spelled (entry.Block cookie) = refl
entry_spelled (entry.Release cookie) = refl
entry_spelled (entry.Commit txn) = refl
entry_spelled entry.Crash = refl
entry_spelled (entry.Boot boot) = refl
entry_spelled (entry.Back who) = refl
entry_spelled entry.Close = refl
entry_spelled (entry.Kept txn) = refl
entry_spelled (entry.Restore lock) = refl
entry_spelled (entry.Evict who cause) = refl
entry_spelled (entry.Joined who) = refl
entry_spelled entry.Fail = refl

pub entry_some : (v : Entry) → entry_words v ≢ []
entry_some (entry.Begin slot call) none = cc none
entry_some (entry.Busy slot) none = cc none
entry_some entry.Skip none = cc none
entry_some (entry.Send number to message) none = cc none
entry_some (entry.Take number) none = cc none
entry_some entry.Tick none = cc none
entry_some (entry.Heard target xid) none = cc none
entry_some (entry.Hold target cookie) none = cc none
entry_some (entry.Drop target cookie) none = cc none
entry_some (entry.Told slot at answer) none = cc none
entry_some (entry.Peek target cookie size) none = cc none
entry_some (entry.Life who) none = cc none
entry_some entry.Die none = cc none
entry_some (entry.Act who xid answer) none = cc none
entry_some (entry.Txn txn who xid seen answer) none = cc none
entry_some (entry.Grant lock) none = cc none
entry_some (entry.Wait lock) none = cc none
entry_some (entry.Block cookie) none = cc none
entry_some (entry.Release cookie) none = cc none
entry_some (entry.Commit txn) none = cc none
entry_some entry.Crash none = cc none
entry_some (entry.Boot boot) none = cc none
entry_some (entry.Back who) none = cc none
entry_some entry.Close none = cc none
entry_some (entry.Kept txn) none = cc none
entry_some (entry.Restore lock) none = cc none
entry_some (entry.Evict who cause) none = cc none
entry_some (entry.Joined who) none = cc none
entry_some entry.Fail none = cc none

-- it is read from its words
pub entry_again : (stamp : ℕ) (v : Entry) → IsEntry stamp v → entry_reader (record { 0 = stamp }) (entry_words v) ≡ Some (v, [])
unfolding entry_reader
entry_again stamp (entry.Begin slot call) is =
    one_then (small_of 8) (λ first. call_reader >>= λ second. give (entry.Begin first second)) (decimal slot) (call_words call) slot
    (octet_again slot is.0)
    ∙ then_again call_reader (λ second. give (entry.Begin slot second)) (call_words call) [] call (call_again call is.1)
entry_again stamp (entry.Busy slot) is =
    one_then (small_of 8) (λ first. give (entry.Busy first)) (decimal slot) [] slot (octet_again slot is)
entry_again stamp entry.Skip is = refl
entry_again stamp (entry.Send number to message) is =
    one_then number_of (λ first. one node_of >>= λ second. (message_reader (record { 0 = stamp })) >>=
    λ third. give (entry.Send first second third)) (decimal number) (node_text to ∷ message_words message) number
    (number_of-decimal number is.0)
    ∙ one_then node_of (λ second. (message_reader (record { 0 = stamp })) >>= λ third. give (entry.Send number second third)) (node_text to)
    (message_words message) to (node_again to is.1)
    ∙ then_again (message_reader (record { 0 = stamp })) (λ third. give (entry.Send number to third)) (message_words message) [] message
    (message_again stamp message is.2)
entry_again stamp (entry.Take number) is =
    one_then number_of (λ first. give (entry.Take first)) (decimal number) [] number (number_of-decimal number is)
entry_again stamp entry.Tick is = refl
entry_again stamp (entry.Heard target xid) is =
    one_then target_of (λ first. one number_of >>= λ second. give (entry.Heard (record { 0 = first }) (record { 0 = second })))
    (target_text target.0) (decimal xid.0 ∷ []) target.0 (target_again target.0 is.0)
    ∙ one_then number_of (λ second. give (entry.Heard (record { 0 = target.0 }) (record { 0 = second }))) (decimal xid.0) [] xid.0
    (number_of-decimal xid.0 is.1)
entry_again stamp (entry.Hold target cookie) is =
    one_then target_of (λ first. one pair_of >>= λ second. give (entry.Hold (record { 0 = first }) (record { 0 = second })))
    (target_text target.0) (pair_text cookie.0 ∷ []) target.0 (target_again target.0 is.0)
    ∙ one_then pair_of (λ second. give (entry.Hold (record { 0 = target.0 }) (record { 0 = second }))) (pair_text cookie.0) [] cookie.0
    (pair_again cookie.0 is.1)
entry_again stamp (entry.Drop target cookie) is =
    one_then target_of (λ first. one pair_of >>= λ second. give (entry.Drop (record { 0 = first }) (record { 0 = second })))
    (target_text target.0) (pair_text cookie.0 ∷ []) target.0 (target_again target.0 is.0)
    ∙ one_then pair_of (λ second. give (entry.Drop (record { 0 = target.0 }) (record { 0 = second }))) (pair_text cookie.0) [] cookie.0
    (pair_again cookie.0 is.1)
entry_again stamp (entry.Told slot at answer) is =
    one_then (small_of 8) (λ first. one at_of >>= λ second. answer_reader >>= λ third. give (entry.Told first second third)) (decimal slot)
    (at_text at ∷ answer_words answer) slot (octet_again slot is.0)
    ∙ one_then at_of (λ second. answer_reader >>= λ third. give (entry.Told slot second third)) (at_text at) (answer_words answer) at
    (at_again at is.1)
    ∙ then_again answer_reader (λ third. give (entry.Told slot at third)) (answer_words answer) [] answer (answer_again answer is.2)
entry_again stamp (entry.Peek target cookie size) is =
    one_then target_of (λ first. one pair_of >>= λ second. one number_of >>=
    λ third. give (entry.Peek (record { 0 = first }) (record { 0 = second }) third)) (target_text target.0)
    (pair_text cookie.0 ∷ decimal size ∷ []) target.0 (target_again target.0 is.0)
    ∙ one_then pair_of (λ second. one number_of >>= λ third. give (entry.Peek (record { 0 = target.0 }) (record { 0 = second }) third))
    (pair_text cookie.0) (decimal size ∷ []) cookie.0 (pair_again cookie.0 is.1)
    ∙ one_then number_of (λ third. give (entry.Peek (record { 0 = target.0 }) (record { 0 = cookie.0 }) third)) (decimal size) [] size
    (number_of-decimal size is.2)
entry_again stamp (entry.Life who) is =
    one_then who_of (λ first. give (entry.Life first)) (who_text who) [] who (who_again who is)
entry_again stamp entry.Die is = refl
entry_again stamp (entry.Act who xid answer) is =
    one_then who_of (λ first. one number_of >>= λ second. answer_reader >>= λ third. give (entry.Act first (record { 0 = second }) third))
    (who_text who) (decimal xid.0 ∷ answer_words answer) who (who_again who is.0)
    ∙ one_then number_of (λ second. answer_reader >>= λ third. give (entry.Act who (record { 0 = second }) third)) (decimal xid.0)
    (answer_words answer) xid.0 (number_of-decimal xid.0 is.1)
    ∙ then_again answer_reader (λ third. give (entry.Act who (record { 0 = xid.0 }) third)) (answer_words answer) [] answer
    (answer_again answer is.2)
entry_again stamp (entry.Txn txn who xid seen answer) is =
    one_then pair_of (λ first. one who_of >>= λ second. one number_of >>= λ third. one seen_of >>= λ fourth. answer_reader >>=
    λ fifth. give (entry.Txn (record { 0 = first }) second (record { 0 = third }) fourth fifth)) (pair_text txn.0)
    (who_text who ∷ decimal xid.0 ∷ seen_text seen ∷ answer_words answer) txn.0 (pair_again txn.0 is.0)
    ∙ one_then who_of (λ second. one number_of >>= λ third. one seen_of >>= λ fourth. answer_reader >>=
    λ fifth. give (entry.Txn (record { 0 = txn.0 }) second (record { 0 = third }) fourth fifth)) (who_text who)
    (decimal xid.0 ∷ seen_text seen ∷ answer_words answer) who (who_again who is.1)
    ∙ one_then number_of (λ third. one seen_of >>= λ fourth. answer_reader >>=
    λ fifth. give (entry.Txn (record { 0 = txn.0 }) who (record { 0 = third }) fourth fifth)) (decimal xid.0)
    (seen_text seen ∷ answer_words answer) xid.0 (number_of-decimal xid.0 is.2)
    ∙ one_then seen_of (λ fourth. answer_reader >>= λ fifth. give
    (entry.Txn (record { 0 = txn.0 }) who (record { 0 = xid.0 }) fourth fifth)) (seen_text seen) (answer_words answer) seen
    (seen_again seen is.3)
    ∙ then_again answer_reader (λ fifth. give (entry.Txn (record { 0 = txn.0 }) who (record { 0 = xid.0 }) seen fifth))
    (answer_words answer) [] answer (answer_again answer is.4)
entry_again stamp (entry.Grant lock) is =
    then_again lock_reader (λ first. give (entry.Grant first)) (pair_text lock.cookie.0 ∷ who_text lock.ask.who
    ∷ resource_text lock.resource lock.ask.policy ∷ mode_text lock.ask.mode ∷ policy_text lock.ask.policy ∷ []) [] lock
    (lock_again lock [] is)
entry_again stamp (entry.Wait lock) is =
    then_again lock_reader (λ first. give (entry.Wait first)) (pair_text lock.cookie.0 ∷ who_text lock.ask.who
    ∷ resource_text lock.resource lock.ask.policy ∷ mode_text lock.ask.mode ∷ policy_text lock.ask.policy ∷ []) [] lock
    (lock_again lock [] is)
entry_again stamp (entry.Block cookie) is =
    one_then pair_of (λ first. give (entry.Block (record { 0 = first }))) (pair_text cookie.0) [] cookie.0 (pair_again cookie.0 is)
entry_again stamp (entry.Release cookie) is =
    one_then pair_of (λ first. give (entry.Release (record { 0 = first }))) (pair_text cookie.0) [] cookie.0 (pair_again cookie.0 is)
entry_again stamp (entry.Commit txn) is =
    one_then pair_of (λ first. give (entry.Commit (record { 0 = first }))) (pair_text txn.0) [] txn.0 (pair_again txn.0 is)
entry_again stamp entry.Crash is = refl
entry_again stamp (entry.Boot boot) is =
    one_then (small_of 32) (λ first. give (entry.Boot first)) (decimal boot) [] boot (short_again boot is)
entry_again stamp (entry.Back who) is =
    one_then who_of (λ first. give (entry.Back first)) (who_text who) [] who (who_again who is)
entry_again stamp entry.Close is = refl
entry_again stamp (entry.Kept txn) is =
    one_then pair_of (λ first. give (entry.Kept (record { 0 = first }))) (pair_text txn.0) [] txn.0 (pair_again txn.0 is)
entry_again stamp (entry.Restore lock) is =
    then_again lock_reader (λ first. give (entry.Restore first))
    (pair_text lock.cookie.0 ∷ who_text lock.ask.who ∷ resource_text lock.resource lock.ask.policy ∷ mode_text lock.ask.mode
    ∷ policy_text lock.ask.policy ∷ []) [] lock (lock_again lock [] is)
entry_again stamp (entry.Evict who cause) is =
    one_then who_of (λ first. one cause_of >>= λ second. give (entry.Evict first second)) (who_text who) (cause_text cause ∷ []) who
    (who_again who is)
    ∙ one_then cause_of (λ second. give (entry.Evict who second)) (cause_text cause) [] cause (cause_again cause)
entry_again stamp (entry.Joined who) is =
    one_then who_of (λ first. give (entry.Joined first)) (who_text who) [] who (who_again who is)
entry_again stamp entry.Fail is = refl

-- each byte of its words is shown, and no space
pub entry_shown : (stamp : ℕ) (v : Entry) → IsEntry stamp v → AreShown (entry_words v)
entry_shown stamp (entry.Begin slot call) is = more_words (codes "begin") (decimal slot ∷ call_words call) (code_shown (codes "begin") refl)
    (more_words (decimal slot) (call_words call) (octet_shown slot is.0) (call_shown call is.1))
entry_shown stamp (entry.Busy slot) is = more_words (codes "busy") (decimal slot ∷ []) (code_shown (codes "busy") refl)
    (more_words (decimal slot) [] (octet_shown slot is) (no_words))
entry_shown stamp entry.Skip is = more_words (codes "skip") [] (code_shown (codes "skip") refl) (no_words)
entry_shown stamp (entry.Send number to message) is = more_words (codes "send") (decimal number ∷ node_text to ∷ message_words message)
    (code_shown (codes "send") refl) (more_words (decimal number) (node_text to ∷ message_words message) (decimal_shown number is.0)
    (more_words (node_text to) (message_words message) (node_shown to is.1) (message_shown stamp message is.2)))
entry_shown stamp (entry.Take number) is = more_words (codes "take") (decimal number ∷ []) (code_shown (codes "take") refl)
    (more_words (decimal number) [] (decimal_shown number is) (no_words))
entry_shown stamp entry.Tick is = more_words (codes "tick") [] (code_shown (codes "tick") refl) (no_words)
entry_shown stamp (entry.Heard target xid) is = more_words (codes "heard") (target_text target.0 ∷ decimal xid.0 ∷ [])
    (code_shown (codes "heard") refl) (more_words (target_text target.0) (decimal xid.0 ∷ []) (target_shown target.0 is.0)
    (more_words (decimal xid.0) [] (decimal_shown xid.0 is.1) (no_words)))
entry_shown stamp (entry.Hold target cookie) is = more_words (codes "hold") (target_text target.0 ∷ pair_text cookie.0 ∷ [])
    (code_shown (codes "hold") refl) (more_words (target_text target.0) (pair_text cookie.0 ∷ []) (target_shown target.0 is.0)
    (more_words (pair_text cookie.0) [] (pair_shown cookie.0 is.1) (no_words)))
entry_shown stamp (entry.Drop target cookie) is = more_words (codes "drop") (target_text target.0 ∷ pair_text cookie.0 ∷ [])
    (code_shown (codes "drop") refl) (more_words (target_text target.0) (pair_text cookie.0 ∷ []) (target_shown target.0 is.0)
    (more_words (pair_text cookie.0) [] (pair_shown cookie.0 is.1) (no_words)))
entry_shown stamp (entry.Told slot at answer) is = more_words (codes "told") (decimal slot ∷ at_text at ∷ answer_words answer)
    (code_shown (codes "told") refl) (more_words (decimal slot) (at_text at ∷ answer_words answer) (octet_shown slot is.0)
    (more_words (at_text at) (answer_words answer) (at_shown at is.1) (answer_shown answer is.2)))
entry_shown stamp (entry.Peek target cookie size) is = more_words (codes "peek")
    (target_text target.0 ∷ pair_text cookie.0 ∷ decimal size ∷ []) (code_shown (codes "peek") refl)
    (more_words (target_text target.0) (pair_text cookie.0 ∷ decimal size ∷ []) (target_shown target.0 is.0)
    (more_words (pair_text cookie.0) (decimal size ∷ []) (pair_shown cookie.0 is.1)
    (more_words (decimal size) [] (decimal_shown size is.2) (no_words))))
entry_shown stamp (entry.Life who) is = more_words (codes "life") (who_text who ∷ []) (code_shown (codes "life") refl)
    (more_words (who_text who) [] (who_shown who is) (no_words))
entry_shown stamp entry.Die is = more_words (codes "die") [] (code_shown (codes "die") refl) (no_words)
entry_shown stamp (entry.Act who xid answer) is = more_words (codes "act") (who_text who ∷ decimal xid.0 ∷ answer_words answer)
    (code_shown (codes "act") refl) (more_words (who_text who) (decimal xid.0 ∷ answer_words answer) (who_shown who is.0)
    (more_words (decimal xid.0) (answer_words answer) (decimal_shown xid.0 is.1) (answer_shown answer is.2)))
entry_shown stamp (entry.Txn txn who xid seen answer) is = more_words (codes "txn")
    (pair_text txn.0 ∷ who_text who ∷ decimal xid.0 ∷ seen_text seen ∷ answer_words answer) (code_shown (codes "txn") refl)
    (more_words (pair_text txn.0) (who_text who ∷ decimal xid.0 ∷ seen_text seen ∷ answer_words answer) (pair_shown txn.0 is.0)
    (more_words (who_text who) (decimal xid.0 ∷ seen_text seen ∷ answer_words answer) (who_shown who is.1)
    (more_words (decimal xid.0) (seen_text seen ∷ answer_words answer) (decimal_shown xid.0 is.2)
    (more_words (seen_text seen) (answer_words answer) (seen_shown seen is.3) (answer_shown answer is.4)))))
entry_shown stamp (entry.Grant lock) is = more_words (codes "grant")
    (pair_text lock.cookie.0 ∷ who_text lock.ask.who ∷ resource_text lock.resource lock.ask.policy ∷ mode_text lock.ask.mode
    ∷ policy_text lock.ask.policy ∷ []) (code_shown (codes "grant") refl) (lock_shown lock [] is (no_words))
entry_shown stamp (entry.Wait lock) is = more_words (codes "wait")
    (pair_text lock.cookie.0 ∷ who_text lock.ask.who ∷ resource_text lock.resource lock.ask.policy ∷ mode_text lock.ask.mode
    ∷ policy_text lock.ask.policy ∷ []) (code_shown (codes "wait") refl) (lock_shown lock [] is (no_words))
entry_shown stamp (entry.Block cookie) is = more_words (codes "block") (pair_text cookie.0 ∷ []) (code_shown (codes "block") refl)
    (more_words (pair_text cookie.0) [] (pair_shown cookie.0 is) (no_words))
entry_shown stamp (entry.Release cookie) is = more_words (codes "release") (pair_text cookie.0 ∷ []) (code_shown (codes "release") refl)
    (more_words (pair_text cookie.0) [] (pair_shown cookie.0 is) (no_words))
entry_shown stamp (entry.Commit txn) is = more_words (codes "commit") (pair_text txn.0 ∷ []) (code_shown (codes "commit") refl)
    (more_words (pair_text txn.0) [] (pair_shown txn.0 is) (no_words))
entry_shown stamp entry.Crash is = more_words (codes "crash") [] (code_shown (codes "crash") refl) (no_words)
entry_shown stamp (entry.Boot boot) is = more_words (codes "boot") (decimal boot ∷ []) (code_shown (codes "boot") refl)
    (more_words (decimal boot) [] (short_shown boot is) (no_words))
entry_shown stamp (entry.Back who) is = more_words (codes "back") (who_text who ∷ []) (code_shown (codes "back") refl)
    (more_words (who_text who) [] (who_shown who is) (no_words))
entry_shown stamp entry.Close is = more_words (codes "close") [] (code_shown (codes "close") refl) (no_words)
entry_shown stamp (entry.Kept txn) is = more_words (codes "kept") (pair_text txn.0 ∷ []) (code_shown (codes "kept") refl)
    (more_words (pair_text txn.0) [] (pair_shown txn.0 is) (no_words))
entry_shown stamp (entry.Restore lock) is = more_words (codes "restore")
    (pair_text lock.cookie.0 ∷ who_text lock.ask.who ∷ resource_text lock.resource lock.ask.policy ∷ mode_text lock.ask.mode
    ∷ policy_text lock.ask.policy ∷ []) (code_shown (codes "restore") refl) (lock_shown lock [] is (no_words))
entry_shown stamp (entry.Evict who cause) is = more_words (codes "evict") (who_text who ∷ cause_text cause ∷ [])
    (code_shown (codes "evict") refl) (more_words (who_text who) (cause_text cause ∷ []) (who_shown who is)
    (more_words (cause_text cause) [] (cause_shown cause) (no_words)))
entry_shown stamp (entry.Joined who) is = more_words (codes "joined") (who_text who ∷ []) (code_shown (codes "joined") refl)
    (more_words (who_text who) [] (who_shown who is) (no_words))
entry_shown stamp entry.Fail is = more_words (codes "fail") [] (code_shown (codes "fail") refl) (no_words)
