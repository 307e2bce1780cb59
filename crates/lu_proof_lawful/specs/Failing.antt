-- What holds of the printed trace of every run whose last turn is broken off by a failing call to a disk: all its turns before are
-- covered, and so would this one be, had no call failed.
use Rattle.std.specs.Prelude.{ℕ, zero, suc, List, [], ◌∷◌}
use Rattle.lu_base.specs.declared.ids.Node.TheVariants.{Target}
use Rattle.lu_base.specs.declared.ids.Stamp.{Stamp}
use Rattle.lu_spec_entries.specs.Printed.{printed}
use Rattle.lu_spec_entries.specs.Words.{Entry, Boot, with_turn}
use Rattle.lu_spec_target.specs.Disks.{failing}
use Rattle.lu_spec_run.specs.Heads.{Head, IsHead}
use Rattle.lu_spec_run.specs.Runs.{Turn, lines_of, FailsAtStart, IsRun}
use Rattle.lu_proof_lawful.specs.Covered.Runs.{AllCovered}
use Rattle.lu_spec_laws.specs.Words.Pasts.{Past}

-- which call of a turn may fail, so many having succeeded before: its first, and where it begins with a boot, which calls twice, the
-- next one too. No row calls once more
abbrev pub IsFirstCall : List Entry → ℕ → Type 0
IsFirstCall es zero = Unit {0}
IsFirstCall (Boot boot disk ∷ es) (suc zero) = Unit {0}
IsFirstCall (Boot boot disk ∷ es) (suc (suc zero)) = Unit {0}
IsFirstCall es n = ⊥

-- a target's turn
abbrev pub turn_of : Stamp → ℕ → List Entry → Turn
turn_of stamp t es = record { at = record { stamp = stamp; node = Target t }; entries = es }

-- over the number of object storage targets and all printed lines, the newest first
abbrev pub OfEveryFailedRun : (ℕ → Past → Type 0) → Type 0
OfEveryFailedRun P =
    (head : Head) (turns : List Turn) (stamp : Stamp) (t : ℕ) (es : List Entry) → IsHead head
    → IsRun head (turn_of stamp t es ∷ turns) → AllCovered (lines_of (turn_of stamp t es ∷ turns)) → (n : ℕ) → IsFirstCall es n
    → P head.osts (printed (with_turn (record { stamp = stamp; node = Target t }) (failing es n) (lines_of turns)))

-- and of the only line of a run of which a target's start fails
abbrev pub OfEveryFailedStart : (ℕ → Past → Type 0) → Type 0
OfEveryFailedStart P =
    (head : Head) (turn : Turn) → IsHead head → FailsAtStart head [] turn → P head.osts (printed (lines_of (turn ∷ [])))
