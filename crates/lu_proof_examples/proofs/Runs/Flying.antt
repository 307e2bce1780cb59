-- Requests of one client in flight, with tags, and those that wait to be sent.
use Rattle.std.proofs.Common.{◌≡◌, ℕ, [], ◌∷◌, refl}
use Rattle.std.specs.Prelude.{List, codes}
use Rattle.lu_base.specs.declared.ids.Node.TheVariants.{Client, Target}
use Rattle.lu_msg.specs.declared.answers.Answer.TheVariants as answer
use Rattle.lu_msg.specs.declared.calls.Call.TheVariants as call
use Rattle.lu_msg.specs.declared.operations.Op.{Op}
use Rattle.lu_msg.specs.declared.operations.Op.TheVariants as op
use Rattle.lu_scene.specs.declared.scene.Scene.{Scene}
use Rattle.lu_scene.specs.declared.scene.SceneLine.TheVariants.{Call, Deliver, Tick, Die}
use Rattle.lu_trace.specs.declared.entries.Entry.TheVariants as entry
use Rattle.lu_spec_laws.specs.Words.Pasts.{Past}
use Rattle.lu_spec_laws.proofs.Words as trace
use Rattle.lu_spec_laws.proofs.Words.{turn, first, made, request, reply, heard, txn}
use Rattle.lu_proof_examples.proofs.Runs.Words.{with_head, trace_after}

abbrev a : List (List ℕ)
a = codes "a" ∷ []

abbrev b : List (List ℕ)
b = codes "b" ∷ []

abbrev c : List (List ℕ)
c = codes "c" ∷ []

abbrev mkdir_a : Op
mkdir_a = op.Mkdir a

abbrev mkdir_b : Op
mkdir_b = op.Mkdir b

abbrev rmdir_b : Op
rmdir_b = op.Rmdir b

abbrev rmdir_c : Op
rmdir_c = op.Rmdir c

-- ---- one in flight at most: two further calls wait and are sent in their order, a call finds its slot busy, a reply that comes
-- again and a request below the newest one are taken and nothing else, a target ticks, the client dies

abbrev pub queue : Scene
queue =
    record {
      head = with_head 1 1;
      lines =
          Call 0 0 (call.Mkdir a) ∷ Call 0 1 (call.Mkdir b) ∷ Call 0 1 (call.Rmdir a) ∷ Call 0 2 (call.Rmdir c) ∷ Deliver 1 ∷ Deliver 2
          ∷ Deliver 2 ∷ Deliver 3
          ∷ Deliver 1 ∷ Tick (Client 0) ∷ Tick (Target 1) ∷ Deliver 4 ∷ Die 0 ∷ [];
    }

abbrev pub queue_past : Past
queue_past =
    trace.client 13 0 entry.Die
    ∷ trace.client 12 0 (entry.Send 6 (Target 0) (request 0 3 0 rmdir_c))
    ∷ trace.client 12 0 (entry.Told 1 (turn 8 (Target 0)) (made 2))
    ∷ trace.client 12 0 (heard 0 2)
    ∷ trace.client 12 0 (entry.Take 4)
    ∷ trace.target 11 1 entry.Tick
    ∷ trace.client 10 0 (entry.Send 5 (Target 0) (request 0 2 0 mkdir_b))
    ∷ trace.client 10 0 entry.Tick
    ∷ trace.target 9 0 (entry.Take 1)
    ∷ trace.target 8 0 (entry.Send 4 (Client 0) (reply 0 2 (first 2) [] (turn 8 (Target 0)) (made 2)))
    ∷ trace.target 8 0 (txn (first 2) 0 2 [] (made 2))
    ∷ trace.target 8 0 (entry.Take 3)
    ∷ trace.client 7 0 (entry.Take 2)
    ∷ trace.client 6 0 (entry.Send 3 (Target 0) (request 0 2 0 mkdir_b))
    ∷ trace.client 6 0 (entry.Told 0 (turn 5 (Target 0)) (made 1))
    ∷ trace.client 6 0 (heard 0 1)
    ∷ trace.client 6 0 (entry.Take 2)
    ∷ trace.target 5 0 (entry.Send 2 (Client 0) (reply 0 1 (first 1) [] (turn 5 (Target 0)) (made 1)))
    ∷ trace.target 5 0 (txn (first 1) 0 1 [] (made 1))
    ∷ trace.target 5 0 (entry.Take 1)
    ∷ trace.client 4 0 (entry.Begin 2 (call.Rmdir (codes "c" ∷ [])))
    ∷ trace.client 3 0 (entry.Busy 1)
    ∷ trace.client 2 0 (entry.Begin 1 (call.Mkdir (codes "b" ∷ [])))
    ∷ trace.client 1 0 (entry.Send 1 (Target 0) (request 0 1 0 mkdir_a))
    ∷ trace.client 1 0 (entry.Begin 0 (call.Mkdir (codes "a" ∷ [])))
    ∷ []

pub queue_run : trace_after 13 queue ≡ queue_past
queue_run = refl

-- ---- two in flight at most: a tick sends both again in rising number, the least free tag is given, each tag has a kept reply

abbrev pub tags : Scene
tags =
    record {
      head = with_head 1 2;
      lines =
          Call 0 0 (call.Mkdir a) ∷ Call 0 1 (call.Mkdir b) ∷ Tick (Client 0) ∷ Deliver 4 ∷ Deliver 5 ∷ Call 0 1 (call.Rmdir b) ∷ Deliver 2
          ∷ Deliver 6
          ∷ Deliver 1 ∷ Deliver 9 ∷ Call 0 0 (call.Mkdir a) ∷ [];
    }

abbrev pub tags_past : Past
tags_past =
    trace.client 11 0 (entry.Send 10 (Target 0) (request 0 4 0 mkdir_a))
    ∷ trace.client 11 0 (entry.Begin 0 (call.Mkdir (codes "a" ∷ [])))
    ∷ trace.client 10 0 (entry.Told 0 (turn 9 (Target 0)) (made 3))
    ∷ trace.client 10 0 (heard 0 1)
    ∷ trace.client 10 0 (entry.Take 9)
    ∷ trace.target 9 0 (entry.Send 9 (Client 0) (reply 0 1 (first 3) [] (turn 9 (Target 0)) (made 3)))
    ∷ trace.target 9 0 (txn (first 3) 0 1 [] (made 3))
    ∷ trace.target 9 0 (entry.Take 1)
    ∷ trace.target 8 0 (entry.Send 8 (Client 0) (reply 0 3 (first 2) (first 1 ∷ []) (turn 8 (Target 0)) answer.Done))
    ∷ trace.target 8 0 (txn (first 2) 0 3 (first 1 ∷ []) answer.Done)
    ∷ trace.target 8 0 (entry.Take 6)
    ∷ trace.target 7 0 (entry.Send 7 (Client 0) (reply 0 2 (first 1) [] (turn 4 (Target 0)) (made 1)))
    ∷ trace.target 7 0 (entry.Take 2)
    ∷ trace.client 6 0 (entry.Send 6 (Target 0) (request 0 3 1 rmdir_b))
    ∷ trace.client 6 0 (entry.Begin 1 (call.Rmdir (codes "b" ∷ [])))
    ∷ trace.client 5 0 (entry.Told 1 (turn 4 (Target 0)) (made 1))
    ∷ trace.client 5 0 (heard 0 2)
    ∷ trace.client 5 0 (entry.Take 5)
    ∷ trace.target 4 0 (entry.Send 5 (Client 0) (reply 0 2 (first 1) [] (turn 4 (Target 0)) (made 1)))
    ∷ trace.target 4 0 (txn (first 1) 0 2 [] (made 1))
    ∷ trace.target 4 0 (entry.Take 4)
    ∷ trace.client 3 0 (entry.Send 4 (Target 0) (request 0 2 1 mkdir_b))
    ∷ trace.client 3 0 (entry.Send 3 (Target 0) (request 0 1 0 mkdir_a))
    ∷ trace.client 3 0 entry.Tick
    ∷ trace.client 2 0 (entry.Send 2 (Target 0) (request 0 2 1 mkdir_b))
    ∷ trace.client 2 0 (entry.Begin 1 (call.Mkdir (codes "b" ∷ [])))
    ∷ trace.client 1 0 (entry.Send 1 (Target 0) (request 0 1 0 mkdir_a))
    ∷ trace.client 1 0 (entry.Begin 0 (call.Mkdir (codes "a" ∷ [])))
    ∷ []

pub tags_run : trace_after 11 tags ≡ tags_past
tags_run = refl
