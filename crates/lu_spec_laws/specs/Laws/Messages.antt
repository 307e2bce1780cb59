-- Law of messages. The N-th message that is sent has number N, and what a node takes was sent to it before. Turns stand in
-- order. A call begins on a free slot of a client, and what is told belongs to a call that isn't told yet. The dead do nothing
-- (this project's profile).
use Rattle.std.specs.Prelude.{◌≡◌, ℕ, suc, true, false, is_some, List, [], ◌∷◌}
use Rattle.lu_base.specs.declared.ids.At.{At}
use Rattle.lu_base.specs.declared.ids.Node.{Node}
use Rattle.lu_base.specs.declared.ids.Node.TheVariants.{Client, Target}
use Rattle.lu_trace.specs.declared.entries.Entry.{Entry}
use Rattle.lu_trace.specs.declared.entries.Entry.TheVariants.{Begin, Send, Take, Told}
use Rattle.lu_trace.specs.declared.entries.Line.{Line}
use Rattle.lu_spec_laws.specs.Words.Pasts.{Past, UpTo, has_died}
use Rattle.lu_spec_laws.specs.Words.Sends.{sends, is_sent_to}
use Rattle.lu_spec_laws.specs.Words.Calls.{call_in}

-- the newest line before is of this turn or an earlier one
abbrev pub Follows : Past → At → Type 0
Follows [] at = Unit {0}
Follows (l ∷ past) at = UpTo l.at at

abbrev pub Lives : Past → Node → Type 0
Lives past (Client c) = has_died c past ≡ false
Lives past (Target t) = Unit {0}

-- only clients have slots
abbrev pub IsFree : Past → Node → ℕ → Type 0
IsFree past (Client c) slot = is_some (call_in c slot past) ≡ false
IsFree past (Target t) slot = ⊥

abbrev pub IsOpen : Past → Node → ℕ → Type 0
IsOpen past (Client c) slot = is_some (call_in c slot past) ≡ true
IsOpen past (Target t) slot = ⊥

abbrev pub Passes : Past → At → Entry → Type 0
Passes past at (Send number to message) = number ≡ suc (sends past)
Passes past at (Take n) = is_sent_to past n at.node ≡ true
Passes past at (Begin slot call) = IsFree past at.node slot
Passes past at (Told slot turn answer) = IsOpen past at.node slot
Passes past at _ = Unit {0}

pub record MessagesAt (past : Past) (at : At) (said : Entry) : Type 0 where
  pub order : Follows past at
  pub living : Lives past at.node
  pub passes : Passes past at said

abbrev pub Messages : Past → Line → List Line → Type 0
Messages past l later = MessagesAt past l.at l.entry
