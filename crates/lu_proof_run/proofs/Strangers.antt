-- A node that isn't of the run has made no turn, so it takes what comes as at the start.
use Rattle.std.proofs.Common.{◌≡◌, ◌≤◌, ◌<◌, ℕ, not, Bool, true, false, List, [], ◌∷◌, inl, inr, refl, sym, subst, ap, ◌∙◌, arith}
use Rattle.std.proofs.lemmas.Bool.Decides.{nat_tests}
use Rattle.lu_base.specs.declared.ids.Node.{Node}
use Rattle.lu_base.specs.declared.ids.Node.TheVariants.{Client, Target}
use Rattle.lu_scene.specs.declared.scene.Scene.{Scene}
use Rattle.lu_spec_entries.specs.Words.{Line, is_client, is_target}
use Rattle.lu_spec_client.specs.Calls.{is_dead}
use Rattle.lu_spec_client.specs.Rows as client
use Rattle.lu_spec_target.specs.Rows as target
use Rattle.lu_spec_target.specs.States.{Target as TargetState}
use Rattle.lu_spec_run.specs.Heads.{Head}
use Rattle.lu_spec_run.specs.Runs.{setting_of, target_of, EventAt, Meets, Turn, lines_of, IsTurn, IsRun}
use Rattle.lu_spec_run.specs.Scenarios.{Config, head_of, past_of, is_down}
use Rattle.lu_proof_run.specs.InTable.{IsOfRun}
use Rattle.lu_proof_run.proofs.Clients.{dead_other}
use Rattle.lu_proof_run.proofs.Targets.{target_other}
use Rattle.lu_proof_run.specs.Steps.{none_failing, LeadsTo}

-- ---- a turn is of a node of the run

meets_of : (head : Head) (past : List Line) (node : Node) (event : EventAt node) → Meets head past node event → IsOfRun head node
meets_of head past (Client c) (client.Begins slot call) meets = meets.0.one
meets_of head past (Client c) (client.Comes n from m) meets = meets.0.one
meets_of head past (Client c) client.Ticks meets = meets.one
meets_of head past (Client c) client.Dies meets = meets.one
meets_of head past (Target t) (target.Comes n from m) meets = meets.0
meets_of head past (Target t) event meets = meets.0

turn_of_run : (head : Head) (turns : List Turn) (turn : Turn) → IsTurn head turns turn → IsOfRun head turn.at.node
turn_of_run head turns turn (inl row) = meets_of head (lines_of turns) turn.at.node row.event row.meets
turn_of_run head turns turn (inr fails) = subst (IsOfRun head) (sym fails.node) fails.one

-- ---- a client

other_client : (head : Head) (c : ℕ) (node : Node) → (c < head.clients → ⊥) → IsOfRun head node → is_client c node ≡ false
other_client head c (Client d) stranger one = by (is_client c (Client d)) refl
  where
    by : (own : Bool) → is_client c (Client d) ≡ own → own ≡ false
    by true is = let same : c ≡ d = grind (arith, nat_tests, is) in absurd (stranger (subst (λ (n : ℕ). n < head.clients) (sym same) one))
    by false is = refl
other_client head c (Target t) stranger one = refl

pub client_up : (head : Head) (c : ℕ) (turns : List Turn) → (c < head.clients → ⊥) → IsRun head turns → is_dead c (lines_of turns) ≡ false
client_up head c [] stranger run = refl
client_up head c (turn ∷ turns) stranger run =
    dead_other c (lines_of turns) turn.at turn.entries (other_client head c turn.at.node stranger (turn_of_run head turns turn run.1))
    ∙ client_up head c turns stranger run.2

-- ---- a target

other_target : (head : Head) (t : ℕ) (node : Node) → (t ≤ head.osts → ⊥) → IsOfRun head node → is_target t node ≡ false
other_target head t (Client c) stranger one = refl
other_target head t (Target u) stranger one = by (is_target t (Target u)) refl
  where
    by : (own : Bool) → is_target t (Target u) ≡ own → own ≡ false
    by true is = let same : t ≡ u = grind (arith, nat_tests, is) in absurd (stranger (subst (λ (n : ℕ). n ≤ head.osts) (sym same) one))
    by false is = refl

pub target_up : (head : Head) (t : ℕ) (turns : List Turn) → (t ≤ head.osts → ⊥) → IsRun head turns → (target_of head t (lines_of turns)).up
    ≡ true
target_up head t [] stranger run = refl
target_up head t (turn ∷ turns) stranger run =
    ap (λ (v : TargetState). v.up)
    (target_other (setting_of head t) head.clients (lines_of turns) turn.at turn.entries
    (other_target head t turn.at.node stranger (turn_of_run head turns turn run.1)))
    ∙ target_up head t turns stranger run.2

-- ---- both

pub strangers_up : (scene : Scene) (c : Config) (node : Node) → LeadsTo scene c → (IsOfRun (head_of scene.head) node → ⊥)
    → is_down (head_of scene.head) none_failing node (past_of c) ≡ false
strangers_up scene c (Client d) is stranger = client_up (head_of scene.head) d c.turns stranger is.table.run
strangers_up scene c (Target t) is stranger = ap not (target_up (head_of scene.head) t c.turns stranger is.table.run)
