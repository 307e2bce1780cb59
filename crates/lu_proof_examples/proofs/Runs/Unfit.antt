-- A reply whose answer doesn't fit the operation is only taken: its request stays in flight, and its call goes on waiting.
-- No target sends one, so this past isn't a run's: a call's turn, and then a reply that was made up.
use Rattle.std.proofs.Common.{◌≡◌, ℕ, false, [], ◌∷◌, None, refl}
use Rattle.std.specs.Prelude.{List, codes}
use Rattle.lu_base.specs.declared.ids.Node.TheVariants.{Client, Target}
use Rattle.lu_spec_client.specs.Calls.{call_at}
use Rattle.lu_spec_client.specs.Rows as client
use Rattle.lu_spec_machine.specs.Fits.{answer_fits}
use Rattle.lu_msg.specs.declared.answers.Answer.{Answer}
use Rattle.lu_msg.specs.declared.answers.Answer.TheVariants as told
use Rattle.lu_msg.specs.declared.calls.Call.TheVariants as call
use Rattle.lu_msg.specs.declared.messages.Message.{Message}
use Rattle.lu_msg.specs.declared.operations.Op.{Op}
use Rattle.lu_msg.specs.declared.operations.Op.TheVariants as op
use Rattle.lu_scene.specs.declared.scene.Scene.{Scene}
use Rattle.lu_scene.specs.declared.scene.SceneLine.TheVariants.{Call}
use Rattle.lu_trace.specs.declared.entries.Entry.TheVariants as entry
use Rattle.lu_spec_entries.specs.Printed.{printed}
use Rattle.lu_spec_entries.specs.Words.{Entry, Take, Line, with_turn}
use Rattle.lu_spec_run.specs.Runs.{row}
use Rattle.lu_spec_run.specs.Scenarios.{head_of, past_of}
use Rattle.lu_spec_laws.proofs.Words as trace
use Rattle.lu_spec_laws.proofs.Words.{turn, first, made, reply, heard}
use Rattle.lu_proof_examples.proofs.Runs.Words.{with_head, after, trace_after}

abbrev mkdir : Op
mkdir = op.Mkdir (codes "a" ∷ [])

abbrev pub scene : Scene
scene = record { head = with_head 1 1; lines = Call 0 0 (call.Mkdir (codes "a" ∷ [])) ∷ [] }

-- the call has asked
abbrev pub past : List Line
past = past_of (after 1 scene)

-- what made a directory tells which; this reply tells only that it is done
pub no_fit : answer_fits mkdir told.Done ≡ false
no_fit = refl

abbrev replied : Answer → Message
replied answer = reply 0 1 (first 1) [] (turn 2 (Target 0)) answer

abbrev row_of : List Line → (stamp number : ℕ) → Message → List Entry
row_of past stamp number m = row (head_of scene.head) past (turn stamp (Client 0)) (client.Comes number (Target 0) m) None

pub is_taken : row_of past 3 2 (replied told.Done) ≡ Take 2 (Target 0) (replied told.Done) ∷ []
is_taken = refl

-- ---- after it the call waits on, and the reply that fits is heard

abbrev pub later : List Line
later = with_turn (turn 3 (Client 0)) (row_of past 3 2 (replied told.Done)) past

pub still_asks : call_at 0 0 later ≡ call_at 0 0 past
still_asks = refl

pub is_heard : printed (with_turn (turn 4 (Client 0)) (row_of later 4 3 (replied (made 1))) later)
    ≡ trace.client 4 0 (entry.Told 0 (turn 2 (Target 0)) (made 1)) ∷ trace.client 4 0 (heard 0 1) ∷ trace.client 4 0 (entry.Take 3)
    ∷ trace.client 3 0 (entry.Take 2) ∷ trace_after 1 scene
is_heard = refl
