-- A disk that fails at a commit ends the run; and what a call begins with where its line gives no numbers.
use Rattle.std.proofs.Common.{◌≡◌, [], ◌∷◌, Some, None, refl, pos}
use Rattle.std.specs.Prelude.{List, ℕ, zero, suc, codes}
use Rattle.lu_base.specs.declared.ids.Node.TheVariants.{Client, Target}
use Rattle.lu_msg.specs.declared.calls.Call.TheVariants as call
use Rattle.lu_msg.specs.declared.operations.Op.TheVariants as op
use Rattle.lu_scene.specs.declared.scene.Scene.{Scene}
use Rattle.lu_scene.specs.declared.scene.SceneLine.TheVariants.{Call, Run, Commit}
use Rattle.lu_trace.specs.declared.entries.Entry.TheVariants as entry
use Rattle.lu_spec_entries.specs.Printed.{printed}
use Rattle.lu_spec_run.specs.Scenarios.{Config, Disks, Fails, head_of, past_of, next, start, steps}
use Rattle.lu_spec_laws.specs.Words.Pasts.{Past}
use Rattle.lu_spec_laws.proofs.Words as trace
use Rattle.lu_spec_laws.proofs.Words.{turn, first, made, request, reply, heard, txn}
use Rattle.lu_proof_examples.proofs.Runs.Words.{with_head, trace_after}

abbrev a : List (List ℕ)
a = codes "a" ∷ []

-- the third call of the disk of target 0 fails, after the two of its start
abbrev third : Disks
third zero = 2 ∷ []
third (suc t) = []

-- ---- a commit fails: the line `fail` stands in its place, and the run has ended

abbrev failed : Scene
failed = record { head = with_head 1 1; lines = Call 0 0 (call.Mkdir a) ∷ Run ∷ Commit (record { 0 = 0 }) ∷ Run ∷ [] }

abbrev ended : Config
ended = steps (head_of failed.head) third 9 (start (head_of failed.head) third failed)

abbrev failed_past : Past
failed_past =
    trace.target 4 0 entry.Fail
    ∷ trace.client 3 0 (entry.Told 0 (turn 2 (Target 0)) (made 1))
    ∷ trace.client 3 0 (heard 0 1)
    ∷ trace.client 3 0 (entry.Take 2)
    ∷ trace.target 2 0 (entry.Send 2 (Client 0) (reply 0 1 (first 1) [] (turn 2 (Target 0)) (made 1)))
    ∷ trace.target 2 0 (txn (first 1) 0 1 [] (made 1))
    ∷ trace.target 2 0 (entry.Take 1)
    ∷ trace.client 1 0 (entry.Send 1 (Target 0) (request 0 1 0 (op.Mkdir a)))
    ∷ trace.client 1 0 (entry.Begin 0 (call.Mkdir a))
    ∷ []

pub commit_fails : printed (past_of ended) ≡ failed_past
commit_fails = refl

pub failed_ends : next (head_of failed.head) third ended ≡ Fails
failed_ends = refl

-- ---- a `create` that gives no numbers begins, and is asked, with the defaults

abbrev without_numbers : Scene
without_numbers = record { head = with_head 1 1; lines = Call 0 0 (call.Create a None) ∷ [] }

abbrev defaults_past : Past
defaults_past =
    trace.client 1 0 (entry.Send 1 (Target 0) (request 0 1 0 (op.Create a 1048576 (pos 1))))
    ∷ trace.client 1 0 (entry.Begin 0 (call.Create a (Some (1048576, pos 1))))
    ∷ []

pub create_with_defaults : trace_after 1 without_numbers ≡ defaults_past
create_with_defaults = refl
