-- What was sent.
use Rattle.std.proofs.Common.{◌≡◌, List, [], ◌∷◌, inl, inr, ⊎_elim}
use Rattle.lu_base.specs.declared.ids.Node.{Node}
use Rattle.lu_msg.specs.declared.messages.Message.{Message}
use Rattle.lu_spec_entries.specs.Words.{Entry, Send, Line, line}
use Rattle.lu_proof_lawful.proofs.Preconditions.Heard.{Was}
use Rattle.lu_proof_taken.specs.Taken.{WasSent}

pub sent_was : (past : List Line) (from to : Node) (m : Message) → WasSent past from to m → Was past from to m
sent_was [] from to m w = w
sent_was (l ∷ past) from to m w = by l.entry w (λ v. sent_was past from to m v)
  where
    by : (e : Entry) → WasSent (line l.at e ∷ past) from to m → (WasSent past from to m → Was past from to m)
        → Was (line l.at e ∷ past) from to m
    by (Send node message) w more = ⊎_elim
        (λ (here : (l.at.node ≡ from) × (node ≡ to) × (message ≡ m)). inl here)
        (λ (before : WasSent past from to m). inr (more before))
        w
    by e w more = more w
