-- An act's or a transaction's request was taken there since the target serves, under its present boot, and no reply to
-- it was sent since (Lustre Operations Manual, recovery: what comes again is answered from the kept reply).
use Rattle.std.specs.Prelude.{◌≡◌, ℕ, Bool, true, false, not, ◌==◌, ◌&&◌, if◌then◌else◌, Option, Some, List, [], ◌∷◌, filter}
use Rattle.std.specs.List.{list_any}
use Rattle.lu_base.specs.declared.ids.Node.{Node}
use Rattle.lu_base.specs.declared.ids.Node.TheVariants.{Client, Target}
use Rattle.lu_base.specs.declared.ids.Who.{Who}
use Rattle.lu_msg.specs.declared.messages.Message.{Message}
use Rattle.lu_msg.specs.declared.messages.Message.TheVariants.{Request, Reply}
use Rattle.lu_msg.specs.declared.messages.Request.{Request as RequestOf}
use Rattle.lu_trace.specs.declared.entries.Entry.{Entry}
use Rattle.lu_trace.specs.declared.entries.Entry.TheVariants.{Send, Take, Act, Txn, Boot, Close, Evict}
use Rattle.lu_trace.specs.declared.entries.Line.{Line}
use Rattle.lu_spec_machine.specs.Tree.{same_life}
use Rattle.lu_spec_laws.specs.Words.Pasts.{Past, is_target}
use Rattle.lu_spec_laws.specs.Words.Boots.{boot}
use Rattle.lu_spec_laws.specs.Order.Handed.{comes_to}

-- ---- the requests that a target took since it serves and that it hasn't answered, the newest first

abbrev pub is_request : Who → ℕ → RequestOf → Bool
is_request who x r = same_life r.who who && r.xid.0 == x

-- what names another boot than the present one isn't taken up
abbrev pub with_request : Option Message → ℕ → List RequestOf → List RequestOf
with_request (Some (Request r)) b requests = if r.boot == b then r ∷ requests else requests
with_request _ b requests = requests

abbrev pub without_answered : Message → List RequestOf → List RequestOf
without_answered (Reply reply) requests = filter (λ r. not (is_request reply.who reply.xid.0 r)) requests
without_answered _ requests = requests

abbrev pub without_life : Who → List RequestOf → List RequestOf
without_life who requests = filter (λ r. not (same_life r.who who)) requests

abbrev pub unanswered : ℕ → Past → List RequestOf
unanswered t [] = []
unanswered t (l ∷ past) =
    elim l.entry [
      | Take n ↦ with_request (comes_to t past l.at.node n) (boot t past) (unanswered t past)
      | Send number to message ↦
          if is_target t l.at.node then without_answered message (unanswered t past) else unanswered t past
      | Evict who cause ↦ if is_target t l.at.node then without_life who (unanswered t past) else unanswered t past
      | Boot b ↦ if is_target t l.at.node then [] else unanswered t past
      | Close ↦ if is_target t l.at.node then [] else unanswered t past
      | _ ↦ unanswered t past
    ]

-- the node is a target, and that request is among them
abbrev pub has_request : Past → Node → Who → ℕ → Bool
has_request past (Target t) who x = list_any (is_request who x) (unanswered t past)
has_request past (Client c) who x = false

-- ---- the condition

abbrev pub RequestsAt : Past → Node → Entry → Type 0
RequestsAt past node (Act who xid answer) = has_request past node who xid.0 ≡ true
RequestsAt past node (Txn number who xid seen answer) = has_request past node who xid.0 ≡ true
RequestsAt past node _ = Unit {0}

abbrev pub Requests : Past → Line → List Line → Type 0
Requests past l later = RequestsAt past l.at.node l.entry
