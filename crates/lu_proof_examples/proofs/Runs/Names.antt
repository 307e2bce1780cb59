-- Calls on names: the worked traces of the laws come of their scenarios; a file that is made, renamed and taken away; what is committed.
use Rattle.std.proofs.Common.{◌≡◌, ℕ, [], ◌∷◌, refl}
use Rattle.std.specs.Prelude.{List, codes}
use Rattle.lu_base.specs.declared.ids.At.{At}
use Rattle.lu_base.specs.declared.ids.Node.TheVariants.{Client, Target}
use Rattle.lu_msg.specs.declared.answers.Answer.{Answer}
use Rattle.lu_msg.specs.declared.answers.Answer.TheVariants as answer
use Rattle.lu_msg.specs.declared.calls.Call.TheVariants as call
use Rattle.lu_msg.specs.declared.messages.Message.{Message}
use Rattle.lu_msg.specs.declared.messages.Message.TheVariants.{Reply}
use Rattle.lu_msg.specs.declared.operations.Op.{Op}
use Rattle.lu_msg.specs.declared.operations.Op.TheVariants as op
use Rattle.lu_scene.specs.declared.scene.Scene.{Scene}
use Rattle.lu_scene.specs.declared.scene.SceneLine.TheVariants.{Call, Run, Deliver, Commit, CommitSome}
use Rattle.lu_trace.specs.declared.entries.Entry.TheVariants as entry
use Rattle.lu_spec_laws.specs.Words.Pasts.{Past}
use Rattle.lu_spec_laws.proofs.Rows.Names.{one_client_past}
use Rattle.lu_spec_laws.proofs.Words as trace
use Rattle.lu_spec_laws.proofs.Words.{turn, who, first, made, request, reply, heard, txn}
use Rattle.lu_proof_examples.proofs.Runs.Words.{with_head, trace_after}

abbrev a : List (List ℕ)
a = codes "a" ∷ []

abbrev b : List (List ℕ)
b = codes "b" ∷ []

-- ---- a directory is made, once more in vain, one that isn't there is looked up, and the directory is removed

abbrev pub one_client : Scene
one_client =
    record {
      head = with_head 1 1;
      lines = Call 0 0 (call.Mkdir a) ∷ Run ∷ Call 0 0 (call.Mkdir a) ∷ Run ∷ Call 0 0 (call.Lookup b) ∷ Run ∷ Call 0 0 (call.Rmdir a) ∷ Run
          ∷ [];
    }

pub one_client_run : trace_after 20 one_client ≡ one_client_past
one_client_run = refl

-- ---- a directory is made, and that is committed; its request comes again, and its reply tells the committed number; the directory is
-- removed, having seen nothing that isn't committed; that is committed too, and a further command finds nothing

abbrev mkdir : Op
mkdir = op.Mkdir a

abbrev rmdir : Op
rmdir = op.Rmdir a

-- a reply that tells a committed number
abbrev committed : ℕ → ℕ → ℕ → ℕ → List ℕ → At → Answer → Message
committed c xid number to seen at told =
    Reply (record {
      who = who c;
      boot = 1;
      xid = record { 0 = xid };
      txn = record { 0 = number };
      committed = record { 0 = to };
      seen = seen;
      at = at;
      locks = [];
      answer = told;
    })

abbrev pub commits : Scene
commits =
    record {
      head = with_head 1 1;
      lines =
          Call 0 0 (call.Mkdir a) ∷ Deliver 1 ∷ Commit (record { 0 = 0 }) ∷ Deliver 2 ∷ Deliver 1 ∷ Call 0 0 (call.Rmdir a) ∷ Deliver 4
          ∷ Deliver 5
          ∷ CommitSome (record { 0 = 0 }) 1 ∷ Commit (record { 0 = 0 }) ∷ [];
    }

abbrev pub commits_past : Past
commits_past =
    trace.target 10 0 entry.Skip
    ∷ trace.target 9 0 (entry.Commit (record { 0 = first 2 }))
    ∷ trace.client 8 0 (entry.Told 0 (turn 7 (Target 0)) answer.Done)
    ∷ trace.client 8 0 (heard 0 2)
    ∷ trace.client 8 0 (entry.Take 5)
    ∷ trace.target 7 0 (entry.Send 5 (Client 0) (committed 0 2 (first 2) (first 1) [] (turn 7 (Target 0)) answer.Done))
    ∷ trace.target 7 0 (txn (first 2) 0 2 [] answer.Done)
    ∷ trace.target 7 0 (entry.Take 4)
    ∷ trace.client 6 0 (entry.Send 4 (Target 0) (request 0 2 0 rmdir))
    ∷ trace.client 6 0 (entry.Begin 0 (call.Rmdir (codes "a" ∷ [])))
    ∷ trace.target 5 0 (entry.Send 3 (Client 0) (committed 0 1 (first 1) (first 1) [] (turn 2 (Target 0)) (made 1)))
    ∷ trace.target 5 0 (entry.Take 1)
    ∷ trace.client 4 0 (entry.Told 0 (turn 2 (Target 0)) (made 1))
    ∷ trace.client 4 0 (heard 0 1)
    ∷ trace.client 4 0 (entry.Take 2)
    ∷ trace.target 3 0 (entry.Commit (record { 0 = first 1 }))
    ∷ trace.target 2 0 (entry.Send 2 (Client 0) (reply 0 1 (first 1) [] (turn 2 (Target 0)) (made 1)))
    ∷ trace.target 2 0 (txn (first 1) 0 1 [] (made 1))
    ∷ trace.target 2 0 (entry.Take 1)
    ∷ trace.client 1 0 (entry.Send 1 (Target 0) (request 0 1 0 mkdir))
    ∷ trace.client 1 0 (entry.Begin 0 (call.Mkdir (codes "a" ∷ [])))
    ∷ []

pub commits_run : trace_after 10 commits ≡ commits_past
commits_run = refl
