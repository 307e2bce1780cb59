-- Scenes whose calls change bytes. In the first one a client reads what another has written in its cache alone: the writer's lock is called
-- back, the
-- reader waits, the bytes are written back, and the lock comes; the read is narrow, and has reached with the two bytes there are, since its
-- lock grew to the
-- end. In the second one a glimpse is answered by the holder of a lock to write. In the third one a cut makes a file longer over two
-- stripes, and a read
-- ends at its size. The first two are shipped scenarios, and the third is the beginning of one, with the read that comes there a little
-- later.
use Rattle.std.proofs.Common.{◌≡◌, [], ◌∷◌, Some, refl, pos}
use Rattle.std.specs.Prelude.{ℕ, List, codes}
use Rattle.lu_base.specs.declared.ids.Node.TheVariants.{Client, Target}
use Rattle.lu_base.specs.declared.locks.Mode.TheVariants.{PR, PW}
use Rattle.lu_base.specs.declared.locks.Policy.TheVariants.{Range}
use Rattle.lu_msg.specs.declared.answers.Answer.TheVariants as told
use Rattle.lu_msg.specs.declared.calls.Call.TheVariants as call
use Rattle.lu_msg.specs.declared.messages.Message.TheVariants.{Block, Cancel}
use Rattle.lu_msg.specs.declared.operations.Op.TheVariants as op
use Rattle.lu_trace.specs.declared.entries.Entry.TheVariants as entry
use Rattle.lu_layout.specs.Raid0.{stripe_of, offset_of, position_of, below_of, greatest_end}
use Rattle.lu_spec_laws.specs.Words.Pasts.{Past}
use Rattle.lu_spec_laws.proofs.Words.{turn, client, target, life, number, fid, txn_of, cookie, extent, onward, object, striped, lock}
use Rattle.lu_spec_laws.proofs.Words.{asks, replies, grants}
use Rattle.lu_spec_laws.proofs.Words.{sends, heard, hold, drop, executes}
use Rattle.lu_scene.specs.declared.scene.Scene.{Scene}
use Rattle.lu_scene.specs.declared.scene.SceneLine.TheVariants.{Call, Run}
use Rattle.lu_proof_examples.proofs.Runs.Words.{with_head, trace_after}

abbrev f : List (List ℕ)
f = codes "f" ∷ []

-- ---- a write that is called back before a read

abbrev pub written : Scene
written =
    record {
      head = with_head 2 1;
      lines =
          Call 0 0 (call.Create f (Some (1048576, pos 1))) ∷ Run ∷ Call 0 0 (call.Open 0 f) ∷ Run ∷ Call 1 0 (call.Open 0 f) ∷ Run
          ∷ Call 0 0 (call.Write 0 0 (104 ∷ 105 ∷ [])) ∷ Run ∷ Call 1 0 (call.Read 0 0 8) ∷ Run ∷ [];
    }

abbrev pub written_past : Past
written_past =
    client 22 1 (entry.Told 0 (turn 22 (Client 1)) (told.Content (104 ∷ 105 ∷ []))) ∷
    client 22 1 (heard 1 2) ∷
    client 22 1 (entry.Take 17) ∷
    target 21 1
    (sends 17 (Client 1) (replies (life 1 1) 1 2 (txn_of 0 0) (txn_of 0 0) (number 1 1 ∷ []) (turn 21 (Target 1)) []
    (told.Content (104 ∷ 105 ∷ [])))) ∷
    target 21 1 (entry.Take 16) ∷
    client 20 1 (sends 16 (Target 1) (asks (life 1 1) 1 2 0 (op.Get (object 1 1 0) (cookie 1 2) 0))) ∷
    client 20 1 (hold 1 (cookie 1 2)) ∷
    client 20 1 (entry.Take 15) ∷
    target 19 1 (sends 15 (Client 1) (grants (life 1 1) 1 (cookie 1 2) (onward 0) 2 (txn_of 0 0) (number 1 1 ∷ []))) ∷
    target 19 1 (entry.Grant (lock (cookie 1 2) (life 1 1) (object 1 1 0) PR (Range (onward 0)))) ∷
    target 19 1 (entry.Release (cookie 1 1)) ∷
    target 19 1 (entry.Take 14) ∷
    client 18 0 (sends 14 (Target 1) (Cancel (life 0 1) 1 (cookie 1 1))) ∷
    client 18 0 (drop 1 (cookie 1 1)) ∷
    client 18 0 (heard 1 2) ∷
    client 18 0 (entry.Take 13) ∷
    target 17 1 (sends 13 (Client 0) (replies (life 0 1) 1 2 (txn_of 1 1) (txn_of 0 0) [] (turn 17 (Target 1)) [] told.Done)) ∷
    target 17 1 (executes (txn_of 1 1) (life 0 1) 2 [] told.Done) ∷
    target 17 1 (entry.Take 12) ∷
    client 16 0 (sends 12 (Target 1) (asks (life 0 1) 1 2 0 (op.Put (object 1 1 0) (cookie 1 1) 0 (104 ∷ 105 ∷ [])))) ∷
    client 16 0 (entry.Take 11) ∷
    client 15 1 (heard 1 1) ∷
    client 15 1 (entry.Take 10) ∷
    target 14 1 (sends 11 (Client 0) (Block (life 0 1) 1 (cookie 1 1))) ∷
    target 14 1 (entry.Block (cookie 1 1)) ∷
    target 14 1 (sends 10 (Client 1) (replies (life 1 1) 1 1 (txn_of 0 0) (txn_of 0 0) [] (turn 14 (Target 1)) []
    (told.Waiting (cookie 1 2)))) ∷
    target 14 1 (entry.Wait (lock (cookie 1 2) (life 1 1) (object 1 1 0) PR (Range (extent 0 7)))) ∷
    target 14 1 (entry.Take 9) ∷
    client 13 1 (sends 9 (Target 1) (asks (life 1 1) 1 1 0 (op.Enqueue (object 1 1 0) PR (extent 0 7)))) ∷
    client 13 1 (entry.Begin 0 (call.Read 0 0 8)) ∷
    client 12 0 (entry.Told 0 (turn 12 (Client 0)) told.Done) ∷
    client 12 0 (hold 1 (cookie 1 1)) ∷
    client 12 0 (heard 1 1) ∷
    client 12 0 (entry.Take 8) ∷
    target 11 1 (sends 8 (Client 0) (replies (life 0 1) 1 1 (txn_of 0 0) (txn_of 0 0) [] (turn 11 (Target 1)) []
    (told.Granted (cookie 1 1) (onward 0) 0))) ∷
    target 11 1 (entry.Grant (lock (cookie 1 1) (life 0 1) (object 1 1 0) PW (Range (onward 0)))) ∷
    target 11 1 (entry.Take 7) ∷
    client 10 0 (sends 7 (Target 1) (asks (life 0 1) 1 1 0 (op.Enqueue (object 1 1 0) PW (extent 0 1)))) ∷
    client 10 0 (entry.Begin 0 (call.Write 0 0 (104 ∷ 105 ∷ []))) ∷
    client 9 1 (entry.Told 0 (turn 8 (Target 0)) (told.Made (fid 1 1))) ∷
    client 9 1 (heard 0 1) ∷
    client 9 1 (entry.Take 6) ∷
    target 8 0 (sends 6 (Client 1) (replies (life 1 1) 1 1 (txn_of 1 3) (txn_of 0 0) (number 1 1 ∷ []) (turn 8 (Target 0)) []
    (told.OpenFile (fid 1 1) (txn_of 1 3) (striped 1048576 (1 ∷ []))))) ∷
    target 8 0 (executes (txn_of 1 3) (life 1 1) 1 (number 1 1 ∷ []) (told.OpenFile (fid 1 1) (txn_of 1 3) (striped 1048576 (1 ∷ [])))) ∷
    target 8 0 (entry.Take 5) ∷
    client 7 1 (sends 5 (Target 0) (asks (life 1 1) 1 1 0 (op.Open f))) ∷
    client 7 1 (entry.Begin 0 (call.Open 0 f)) ∷
    client 6 0 (entry.Told 0 (turn 5 (Target 0)) (told.Made (fid 1 1))) ∷
    client 6 0 (heard 0 2) ∷
    client 6 0 (entry.Take 4) ∷
    target 5 0 (sends 4 (Client 0) (replies (life 0 1) 1 2 (txn_of 1 2) (txn_of 0 0) (number 1 1 ∷ []) (turn 5 (Target 0)) []
    (told.OpenFile (fid 1 1) (txn_of 1 2) (striped 1048576 (1 ∷ []))))) ∷
    target 5 0 (executes (txn_of 1 2) (life 0 1) 2 (number 1 1 ∷ []) (told.OpenFile (fid 1 1) (txn_of 1 2) (striped 1048576 (1 ∷ [])))) ∷
    target 5 0 (entry.Take 3) ∷
    client 4 0 (sends 3 (Target 0) (asks (life 0 1) 1 2 0 (op.Open f))) ∷
    client 4 0 (entry.Begin 0 (call.Open 0 f)) ∷
    client 3 0 (entry.Told 0 (turn 2 (Target 0)) (told.Made (fid 1 1))) ∷
    client 3 0 (heard 0 1) ∷
    client 3 0 (entry.Take 2) ∷
    target 2 0 (sends 2 (Client 0) (replies (life 0 1) 1 1 (txn_of 1 1) (txn_of 0 0) [] (turn 2 (Target 0)) [] (told.Made (fid 1 1)))) ∷
    target 2 0 (executes (txn_of 1 1) (life 0 1) 1 [] (told.Made (fid 1 1))) ∷
    target 2 0 (entry.Take 1) ∷
    client 1 0 (sends 1 (Target 0) (asks (life 0 1) 1 1 0 (op.Create f 1048576 (pos 1)))) ∷
    client 1 0 (entry.Begin 0 (call.Create f (Some (1048576, pos 1)))) ∷
    []

pub written_run : trace_after 60 written ≡ written_past
unfolding stripe_of offset_of position_of below_of greatest_end
written_run = refl
