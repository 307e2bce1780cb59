-- A reply that isn't executed in its turn answers a request that was taken in it, and is the last reply that the target
-- sent to that life and request number, but for boot and committed number (Lustre Operations Manual, recovery).
use Rattle.std.specs.Prelude.{◌≡◌, ℕ, Bool, true, false, Option, Some, None, List}
use Rattle.std.specs.List.{list_any}
use Rattle.lu_base.specs.declared.ids.At.{At}
use Rattle.lu_base.specs.declared.ids.Node.{Node}
use Rattle.lu_base.specs.declared.ids.Node.TheVariants.{Target}
use Rattle.lu_base.specs.declared.ids.Who.{Who}
use Rattle.lu_msg.specs.declared.messages.Message.{Message}
use Rattle.lu_msg.specs.declared.messages.Message.TheVariants.{Request, Reply}
use Rattle.lu_msg.specs.declared.messages.Reply.{Reply as ReplyOf}
use Rattle.lu_trace.specs.declared.entries.Entry.{Entry}
use Rattle.lu_trace.specs.declared.entries.Entry.TheVariants.{Send}
use Rattle.lu_trace.specs.declared.entries.Line.{Line}
use Rattle.lu_spec_laws.specs.Words.Pasts.{Past, newest}
use Rattle.lu_spec_laws.specs.Words.Sends.{taken, as_reply}
use Rattle.lu_spec_laws.specs.Laws.Recovery.{is_executed}
use Rattle.lu_spec_laws.specs.Order.Requests.{is_request}

abbrev pub replies : ℕ → Who → ℕ → Past → Line → Option ReplyOf
replies t who x past l = elim l.entry [ Send number to message ↦ as_reply t who x l.at.node message | _ ↦ None ]

-- the last reply that the target sent to that life's request
abbrev pub last_reply : ℕ → Who → ℕ → Past → Option ReplyOf
last_reply t who x past = newest (replies t who x) past

abbrev pub asks : Who → ℕ → Message → Bool
asks who x (Request r) = is_request who x r
asks who x _ = false

-- the turn took that request
abbrev pub took_request : Past → At → Who → ℕ → Bool
took_request past at who x = list_any (λ s. asks who x s.message) (taken past at)

pub record SameReply (r first : ReplyOf) : Type 0 where
  pub number : r.txn ≡ first.txn
  pub seen : r.seen ≡ first.seen
  pub turn : r.at ≡ first.at
  pub locks : r.locks ≡ first.locks
  pub answer : r.answer ≡ first.answer

abbrev pub Repeats : ReplyOf → Option ReplyOf → Type 0
Repeats r None = ⊥
Repeats r (Some first) = SameReply r first

pub record RepeatedAt (past : Past) (at : At) (t : ℕ) (r : ReplyOf) : Type 0 where
  pub asked : took_request past at r.who r.xid.0 ≡ true
  pub same : Repeats r (last_reply t r.who r.xid.0 past)

abbrev pub RepeatedBy : Past → At → Node → Message → Type 0
RepeatedBy past at (Target t) (Reply r) = is_executed past at r ≡ false → RepeatedAt past at t r
RepeatedBy past at node message = Unit {0}

abbrev pub RepeatedIn : Past → At → Entry → Type 0
RepeatedIn past at (Send number to message) = RepeatedBy past at at.node message
RepeatedIn past at _ = Unit {0}

abbrev pub Repeated : Past → Line → List Line → Type 0
Repeated past l later = RepeatedIn past l.at l.entry
