-- The messages that were sent. The n-th message of a run has number n.
use Rattle.std.specs.Prelude.{◌≡◌, ℕ, ◌+◌, List, [], ◌∷◌, ◌⊎◌}
use Rattle.lu_base.specs.declared.ids.Node.{Node}
use Rattle.lu_msg.specs.declared.messages.Message.{Message}
use Rattle.lu_spec_entries.specs.Words.{Send, Line}

-- how many messages were sent: reads Send
abbrev pub count_sent : List Line → ℕ
count_sent [] = 0
count_sent (l ∷ past) = elim l.entry [ Send to m ↦ count_sent past + 1 | _ ↦ count_sent past ]

-- that node sent that message to that node under that number: reads Send
abbrev pub Sent : List Line → (number : ℕ) → (from to : Node) → Message → Type 0
Sent [] n from to m = ⊥
Sent (l ∷ past) n from to m =
    elim l.entry [
      | Send node message ↦ ((n ≡ count_sent past + 1) × (l.at.node ≡ from) × (node ≡ to) × (message ≡ m)) ⊎ Sent past n from to m
      | _ ↦ Sent past n from to m
    ]
