-- A life that a target has told that it is over asks nothing more of another one, nor gives it back a lock, before the client's next life
-- begins.
use Rattle.std.proofs.Common.{◌≡◌, ℕ, List, [], ◌∷◌}
use Rattle.lu_base.specs.declared.ids.Node.TheVariants.{Client, Target}
use Rattle.lu_msg.specs.declared.messages.Message.{Message}
use Rattle.lu_msg.specs.declared.messages.Message.TheVariants as message
use Rattle.lu_spec_entries.specs.Words.{Send, Line}
use Rattle.lu_proof_lawful.proofs.Preconditions.Guards.{Ending}

-- a request, or a lock that is given back
abbrev pub IsSpoken : Message → Type 0
IsSpoken (message.Request r) = Unit {0}
IsSpoken (message.Cancel who boot cookie) = Unit {0}
IsSpoken _ = ⊥

abbrev pub SpeaksNow : List Line → Line → Type 0
SpeaksNow past l = (c t : ℕ) (m : Message) → l.at.node ≡ Client c → l.entry ≡ Send (Target t) m → IsSpoken m → Ending past c → ⊥

abbrev pub AllSpeak : List Line → Type 0
AllSpeak [] = Unit {0}
AllSpeak (l ∷ past) = SpeaksNow past l × AllSpeak past
