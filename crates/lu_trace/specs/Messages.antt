-- The text of a message.
use Rattle.std.specs.Prelude.{ℕ, ◌==◌, if◌then◌else◌, List, [], ◌∷◌, ◌++◌, Option, Some, None, codes, decimal}
use Rattle.lu_base.specs.Texts.{pair_text}
use Rattle.lu_base.specs.declared.ids.Cookie.{Cookie}
use Rattle.lu_base.specs.declared.ids.Who.{Who}
use Rattle.lu_base.specs.declared.ids.Xid.{Xid}
use Rattle.lu_base.specs.declared.locks.Mode.{Mode}
use Rattle.lu_base.specs.declared.locks.Policy.{Policy}
use Rattle.lu_base.specs.declared.locks.Resource.{Resource}
use Rattle.lu_msg.specs.declared.messages.Message.{Message}
use Rattle.lu_msg.specs.declared.messages.Reply.{Reply as ReplyBody}
use Rattle.lu_msg.specs.declared.messages.Message.TheVariants.{Request, Cancel, Where, Replay, Lock, Word, Join, Size, Up, Reply, Grant}
use Rattle.lu_msg.specs.declared.messages.Message.TheVariants.{Block, Ask, Ready, Evicted}
use Rattle.lu_trace.specs.Words.{words}
use Rattle.lu_base.specs.Values.{mode_text}
use Rattle.lu_trace.specs.Values.{who_text, at_text, extent_text, policy_text, resource_text}
use Rattle.lu_trace.specs.Lists.{seen_text, locks_text}
use Rattle.lu_trace.specs.Ops.{op_text}
use Rattle.lu_trace.specs.Answers.{answer_text}

-- a request's number, and after a slash its tag where that isn't 0
abbrev pub tagged_text : Xid → ℕ → List ℕ
tagged_text xid tag = if tag == 0 then decimal xid.0 else decimal xid.0 ++ codes "/" ++ decimal tag

-- a size, or `-` for none
abbrev pub size_text : Option ℕ → List ℕ
size_text None = codes "-"
size_text (Some size) = decimal size

-- a word, the life, the boot and a lock
abbrev pub of_lock_text : List ℕ → Who → ℕ → Cookie → List ℕ
of_lock_text word who boot cookie = words (word ∷ who_text who ∷ decimal boot ∷ pair_text cookie.0 ∷ [])

-- what a lock is on, its mode and its policy
abbrev pub terms_text : Resource → Mode → Policy → List ℕ
terms_text resource mode policy = words (resource_text resource policy ∷ mode_text mode ∷ policy_text policy ∷ [])

-- when a request was executed, what it was granted and its answer
abbrev pub outcome_text : ReplyBody → List ℕ
outcome_text reply = words (at_text reply.at ∷ locks_text reply.locks ∷ answer_text reply.answer ∷ [])

abbrev pub message_text : Message → List ℕ
message_text (Request r) = words (codes "req" ∷ who_text r.who ∷ decimal r.boot ∷ tagged_text r.xid r.tag ∷ op_text r.op ∷ [])
message_text (Cancel who boot cookie) = of_lock_text (codes "cancel") who boot cookie
message_text (Where who boot cookie) = of_lock_text (codes "where") who boot cookie
message_text (Replay r) =
    words (codes "replay" ∷ who_text r.who ∷ decimal r.boot ∷ pair_text r.txn.0 ∷ tagged_text r.xid r.tag ∷ seen_text r.seen ∷ op_text r.op
    ∷ [])
message_text (Lock l) =
    words (codes "lock" ∷ who_text l.who ∷ decimal l.boot ∷ pair_text l.cookie.0
    ∷ resource_text l.resource l.policy ∷ mode_text l.mode ∷ policy_text l.policy ∷ [])
message_text (Word who boot replays locks seen) =
    words (codes "word" ∷ who_text who ∷ decimal boot ∷ decimal replays ∷ decimal locks ∷ seen_text seen ∷ [])
message_text (Join who boot) = words (codes "join" ∷ who_text who ∷ decimal boot ∷ [])
message_text (Size s) =
    words (codes "size" ∷ who_text s.who ∷ decimal s.boot ∷ pair_text s.cookie.0
    ∷ who_text s.for_who ∷ decimal s.xid.0 ∷ size_text s.size ∷ [])
message_text (Up boot) = words (codes "up" ∷ decimal boot ∷ [])
message_text (Reply r) =
    words (codes "reply" ∷ who_text r.who ∷ decimal r.boot ∷ decimal r.xid.0 ∷ pair_text r.txn.0 ∷ pair_text r.committed.0
    ∷ seen_text r.seen ∷ at_text r.at ∷ locks_text r.locks ∷ answer_text r.answer ∷ [])
message_text (Grant g) =
    words (codes "grant" ∷ who_text g.who ∷ decimal g.boot ∷ pair_text g.cookie.0
    ∷ extent_text g.extent ∷ decimal g.size ∷ pair_text g.committed.0 ∷ seen_text g.seen ∷ [])
message_text (Block who boot cookie) = of_lock_text (codes "block") who boot cookie
message_text (Ask who boot cookie for_who xid) =
    words (codes "ask" ∷ who_text who ∷ decimal boot ∷ pair_text cookie.0 ∷ who_text for_who ∷ decimal xid.0 ∷ [])
message_text (Ready who boot committed) = words (codes "ready" ∷ who_text who ∷ decimal boot ∷ pair_text committed.0 ∷ [])
message_text (Evicted who boot) = words (codes "evicted" ∷ who_text who ∷ decimal boot ∷ [])
