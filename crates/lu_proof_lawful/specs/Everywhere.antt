-- What holds of the printed trace of every run of the whole table whose lines are covered.
use Rattle.std.specs.Prelude.{ℕ, Bool, List}
use Rattle.lu_base.specs.declared.ids.Who.{Who}
use Rattle.lu_spec_entries.specs.Printed.{printed}
use Rattle.lu_spec_run.specs.Heads.{Head, IsHead}
use Rattle.lu_spec_run.specs.Runs.{Turn, lines_of, IsRun}
use Rattle.lu_proof_lawful.specs.Covered.Runs.{AllCovered}
use Rattle.lu_spec_laws.specs.Words.Pasts.{Past}
use Rattle.lu_proof_lawful.specs.Fits.{Fits}

-- over the number of object storage targets and all printed lines, the newest first
abbrev pub OfEveryRun : (ℕ → Past → Type 0) → Type 0
OfEveryRun P = (head : Head) (turns : List Turn) → IsHead head → IsRun head turns → AllCovered (lines_of turns)
    → P head.osts (printed (lines_of turns))

-- and for all lives that may be out and numbers that may be lost after the run
abbrev pub OfAllThatFit : ((Who → Bool) → (ℕ → ℕ → Bool) → ℕ → Past → Type 0) → Type 0
OfAllThatFit P =
    (head : Head) (turns : List Turn) → IsHead head → IsRun head turns → AllCovered (lines_of turns)
    → (out : Who → Bool) (lost : ℕ → ℕ → Bool) → Fits head.osts out lost (lines_of turns) → P out lost head.osts (printed (lines_of turns))
