-- Whether a disk has failed, after one more turn: a row that has no such line leaves it open, and one in which a call to the disk
-- fails has it.
use Rattle.std.proofs.Common.{◌≡◌, ◌<◌, ℕ, zero, suc, ◌+◌, Bool, true, false, List, [], ◌∷◌, None, refl, arith}
use Rattle.lu_base.specs.declared.ids.At.{At}
use Rattle.lu_base.specs.declared.ids.Node.{Node}
use Rattle.lu_base.specs.declared.ids.Node.TheVariants.{Client, Target}
use Rattle.lu_trace.specs.declared.entries.Entry.TheVariants as entry
use Rattle.lu_trace.specs.declared.entries.Line.{Line as PrintedLine}
use Rattle.lu_spec_entries.specs.Words.{Entry, Commit, Boot, Fail, Line, line, with_turn}
use Rattle.lu_spec_entries.specs.Given.{step_lines}
use Rattle.lu_spec_entries.specs.Printed.{printed}
use Rattle.lu_spec_target.specs.Disks.{calls, failing}
use Rattle.lu_spec_run.specs.Heads.{Head}
use Rattle.lu_spec_run.specs.Runs.{limits_of, client_of, target_of, EventAt, row_at, row, has_failed}
use Rattle.lu_proof_run.proofs.Unfailing.{no_fail, row_unfailing}
use Rattle.lu_proof_run.proofs.ClientUnfailing.{client_unfailing}

-- ---- a turn without the line of a failed disk

pub failed_same : (at : At) (es : List Entry) (past : List Line) → no_fail es ≡ true → has_failed (with_turn at es past) ≡ has_failed past
failed_same at [] past none = refl
failed_same at (Fail ∷ es) past none = absurd (cc)
failed_same at (e ∷ es) past none = failed_same at es (line at e ∷ past) none

-- no row of any node has it
pub node_unfailing : (head : Head) (past : List Line) (at : At) (node : Node) (event : EventAt node)
    → no_fail (row_at head past at node event) ≡ true
node_unfailing head past at (Client c) event = client_unfailing (limits_of head) at event (client_of head c past)
node_unfailing head past at (Target t) event = row_unfailing (target_of head t past) at event

-- where no call fails
pub turn_unfailed : (head : Head) (past : List Line) (at : At) (event : EventAt at.node)
    → has_failed (with_turn at (row head past at event None) past) ≡ has_failed past
turn_unfailed head past at event = failed_same at (row_at head past at at.node event) past (node_unfailing head past at at.node event)

-- ---- a failure is kept in mind

failed_after : (at : At) (e : Entry) (past : List Line) → has_failed past ≡ true → has_failed (line at e ∷ past) ≡ true
failed_after at Fail past failed = refl
failed_after at e past failed = failed

pub failed_stays : (at : At) (es : List Entry) (past : List Line) → has_failed past ≡ true → has_failed (with_turn at es past) ≡ true
failed_stays at [] past failed = failed
failed_stays at (e ∷ es) past failed = failed_stays at es (line at e ∷ past) (failed_after at e past failed)

-- ---- a turn in which a call fails, of those that its row makes

fewer : (m n : ℕ) → m < 0 + n → m < n
fewer m n few = omega arith

pub failing_fails : (at : At) (es : List Entry) (n : ℕ) (past : List Line) → n < calls es → has_failed (with_turn at (failing es n) past)
    ≡ true
failing_fails at [] n past few = absurd (omega arith)
failing_fails at (Commit to batch ∷ es) zero past few = refl
failing_fails at (Commit to batch ∷ es) (suc n) past few = failing_fails at es n (line at (Commit to batch) ∷ past) (omega arith)
failing_fails at (Boot boot disk ∷ es) zero past few = refl
failing_fails at (Boot boot disk ∷ es) (suc zero) past few = refl
failing_fails at (Boot boot disk ∷ es) (suc (suc n)) past few = failing_fails at es n (line at (Boot boot disk) ∷ past) (omega arith)
failing_fails at (e ∷ es) n past few = failing_fails at es n (line at e ∷ past) (fewer n (calls es) few)

-- ---- as the printed lines have it

abbrev pub shows_fail : List PrintedLine → Bool
shows_fail [] = false
shows_fail (l ∷ lines) = elim l.entry [ entry.Fail ↦ true | _ ↦ shows_fail lines ]

-- what was sent has no part in it
pub printed_failed : (past : List Line) → shows_fail (printed past) ≡ has_failed past
printed_failed [] = refl
printed_failed (l ∷ past) = by l.entry (printed_failed past)
  where
    by : (e : Entry) → shows_fail (printed past) ≡ has_failed past → shows_fail (printed (line l.at e ∷ past))
        ≡ has_failed (line l.at e ∷ past)
    by Fail rest = refl
    by e rest = rest

-- the lines of a turn tell of it
pub shown_fails : (at : At) (es : List Entry) (past : List Line) → shows_fail (step_lines at es) ≡ true → has_failed (with_turn at es past)
    ≡ true
shown_fails at [] past shown = absurd (cc)
shown_fails at (Fail ∷ es) past shown = failed_stays at es (line at Fail ∷ past) refl
shown_fails at (e ∷ es) past shown = shown_fails at es (line at e ∷ past) shown

-- and whether there is such a line says whether the row was without
pub shown_unfailing : (at : At) (es : List Entry) → shows_fail (step_lines at es) ≡ false → no_fail es ≡ true
shown_unfailing at [] shown = refl
shown_unfailing at (Fail ∷ es) shown = absurd (cc)
shown_unfailing at (e ∷ es) shown = shown_unfailing at es shown
