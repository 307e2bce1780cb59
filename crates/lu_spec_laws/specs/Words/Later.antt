-- What follows a line in its turn: how the call that a slot has is told there.
use Rattle.std.specs.Prelude.{ℕ, Bool, ◌==◌, ◌&&◌, if◌then◌else◌, Option, Some, None, List, [], ◌∷◌}
use Rattle.lu_base.specs.declared.ids.At.{At}
use Rattle.lu_msg.specs.declared.answers.Answer.{Answer}
use Rattle.lu_trace.specs.declared.entries.Entry.TheVariants.{Told}
use Rattle.lu_trace.specs.declared.entries.Line.{Line}
use Rattle.lu_spec_laws.specs.Words.Pasts.{same_turn}

-- the answer that the next line of this turn that tells something in that slot has
abbrev pub told_later : ℕ → At → List Line → Option Answer
told_later slot at [] = None
told_later slot at (l ∷ later) =
    elim l.entry [
      | Told other turn answer ↦ if same_turn l.at at && other == slot then Some answer else told_later slot at later
      | _
          ↦ told_later slot at later
    ]
