-- What holds of the printed trace of every run of the whole table in which no disk fails; and how a run of few turns goes on.
use Rattle.std.specs.Prelude.{◌≡◌, ◌<◌, ℕ, Bool, false, List, ◌∷◌, length, Option}
use Rattle.lu_base.specs.declared.ids.At.{At}
use Rattle.lu_base.specs.declared.ids.Who.{Who}
use Rattle.lu_spec_entries.specs.Printed.{printed}
use Rattle.lu_spec_run.specs.Heads.{Head, IsHead}
use Rattle.lu_spec_run.specs.Runs.{EventAt, Turn, Follows, Meets, IsRun, has_failed, lines_of, row}
use Rattle.lu_proof_lawful.specs.Covered.Runs.{AllCovered}
use Rattle.lu_spec_laws.specs.Words.Pasts.{Past}
use Rattle.lu_proof_lawful.specs.Fits.{Fits}

-- over the number of object storage targets and all printed lines, the newest first
abbrev pub OfUnfailedRuns : (ℕ → Past → Type 0) → Type 0
OfUnfailedRuns P =
    (head : Head) (turns : List Turn) → IsHead head → IsRun head turns → has_failed (lines_of turns) ≡ false
    → P head.osts (printed (lines_of turns))

-- and where one failed, it did so in the last turn
abbrev pub OfRunsToFailure : (ℕ → Past → Type 0) → Type 0
OfRunsToFailure P =
    (head : Head) (last : Turn) (turns : List Turn) → IsHead head → IsRun head (last ∷ turns) → has_failed (lines_of turns) ≡ false
    → P head.osts (printed (lines_of (last ∷ turns)))

-- and for all lives that may be out and numbers that may be lost after the run
abbrev pub OfAllThatFit : ((Who → Bool) → (ℕ → ℕ → Bool) → ℕ → Past → Type 0) → Type 0
OfAllThatFit P =
    (head : Head) (turns : List Turn) → IsHead head → IsRun head turns → has_failed (lines_of turns) ≡ false
    → (out : Who → Bool) (lost : ℕ → ℕ → Bool) → Fits head.osts out lost (lines_of turns) → P out lost head.osts (printed (lines_of turns))

-- each is covered
abbrev pub AllAreCovered : Type 0
AllAreCovered = (head : Head) (turns : List Turn) → IsRun head turns → has_failed (lines_of turns) ≡ false → AllCovered (lines_of turns)

-- one of fewer turns than 2^26 goes on with each turn that comes later and may come, whichever call to a disk fails in it: numbers are left
abbrev pub GoOn : Type 0
GoOn =
    (head : Head) (turns : List Turn) → IsRun head turns → has_failed (lines_of turns) ≡ false → length turns < 67108864
    → (at : At) (event : EventAt at.node) (fails : Option ℕ) → Follows turns at → Meets head (lines_of turns) at.node event
    → IsRun head (record { at = at; entries = row head (lines_of turns) at event fails } ∷ turns)
