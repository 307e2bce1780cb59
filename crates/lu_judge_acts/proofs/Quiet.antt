-- The law of acts asks nothing at other lines.
use Rattle.std.proofs.Common.{◌≡◌, ℕ, Bool, List, refl}
use Rattle.lu_base.specs.declared.ids.At.{At}
use Rattle.lu_base.specs.declared.ids.Node.{Node}
use Rattle.lu_base.specs.declared.ids.Txn.{Txn as TxnOf}
use Rattle.lu_base.specs.declared.ids.Who.{Who}
use Rattle.lu_base.specs.declared.ids.Xid.{Xid}
use Rattle.lu_msg.specs.declared.answers.Answer.{Answer}
use Rattle.lu_msg.specs.declared.calls.Call.{Call}
use Rattle.lu_msg.specs.declared.messages.Message.{Message}
use Rattle.lu_trace.specs.declared.entries.Entry.{Entry}
use Rattle.lu_trace.specs.declared.entries.Entry.TheVariants.{Begin, Send, Told, Txn}
use Rattle.lu_trace.specs.declared.entries.Line.{Line}
use Rattle.lu_spec_laws.specs.Words.Pasts.{Past}
use Rattle.lu_spec_laws.specs.Laws.Acts.{ActsAt}

pub asks_nothing : (out : Who → Bool) (lost : ℕ → ℕ → Bool) (whole past : Past) (l : Line) (later : List Line) (e : Entry)
    → ((slot : ℕ) (call : Call) → e ≡ Begin slot call → ⊥)
    → ((number : ℕ) (to : Node) (message : Message) → e ≡ Send number to message → ⊥)
    → ((slot : ℕ) (turn : At) (answer : Answer) → e ≡ Told slot turn answer → ⊥)
    → ((number : TxnOf) (who : Who) (xid : Xid) (seen : List ℕ) (answer : Answer) → e ≡ Txn number who xid seen answer → ⊥)
    → ActsAt out lost whole past l later e
asks_nothing out lost whole past l later (Begin slot call) begins sends tells makes = absurd (begins slot call refl)
asks_nothing out lost whole past l later (Send number to message) begins sends tells makes = absurd (sends number to message refl)
asks_nothing out lost whole past l later (Told slot turn answer) begins sends tells makes = absurd (tells slot turn answer refl)
asks_nothing out lost whole past l later (Txn number who xid seen answer) begins sends tells makes =
    absurd (makes number who xid seen answer refl)
asks_nothing out lost whole past l later _ begins sends tells makes = tt
