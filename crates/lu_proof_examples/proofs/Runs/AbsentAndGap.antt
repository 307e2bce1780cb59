-- A window that is closed by a command: one client is dead when the target recovers, so what it made is lost; a second has seen that, so it
-- has a
-- gap; a third has replayed its own, which stands. The first two are evicted. The second joins both targets in a new life; its old one goes
-- at the
-- object target too.
use Rattle.std.proofs.Common.{◌≡◌, ℕ, [], ◌∷◌, refl}
use Rattle.std.specs.Prelude.{List, codes}
use Rattle.lu_msg.specs.declared.calls.Call.TheVariants as call
use Rattle.lu_scene.specs.declared.scene.Scene.{Scene}
use Rattle.lu_scene.specs.declared.scene.SceneLine.TheVariants.{Call, Run, Crash, Boot, Close, Die}
use Rattle.lu_spec_laws.proofs.Rows.Crashes.{absent_and_gap_past}
use Rattle.lu_proof_examples.proofs.Runs.Words.{with_head, trace_after}

abbrev a : List (List ℕ)
a = codes "a" ∷ []

abbrev b : List (List ℕ)
b = codes "b" ∷ []

abbrev pub absent_and_gap : Scene
absent_and_gap =
    record {
      head = with_head 3 1;
      lines =
          Call 0 0 (call.Mkdir a) ∷ Run ∷ Call 1 0 (call.Lookup a) ∷ Call 2 0 (call.Mkdir b) ∷ Run ∷ Die 0 ∷ Crash (record { 0 = 0 })
          ∷ Boot (record { 0 = 0 }) ∷ Run ∷ Close (record { 0 = 0 }) ∷ Run ∷ [];
    }

pub absent_and_gap_run : trace_after 40 absent_and_gap ≡ absent_and_gap_past
absent_and_gap_run = refl
