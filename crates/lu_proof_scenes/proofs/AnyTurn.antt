-- One more turn of any run in which no disk has failed: whatever comes to its node, its lines are covered, and what was so of each node is
-- so
-- after it.
use Rattle.std.proofs.Common.{◌≡◌, ℕ, ◌≤◌, Bool, true, false, List, refl, sym, subst}
use Rattle.std.proofs.lemmas.Bool.{eqb-true}
use Rattle.lu_base.specs.declared.ids.At.{At}
use Rattle.lu_base.specs.declared.ids.Node.{Node}
use Rattle.lu_base.specs.declared.ids.Node.TheVariants.{Client, Target}
use Rattle.lu_base.specs.declared.ids.Stamp.{Stamp}
use Rattle.lu_msg.specs.declared.calls.Call.{Call as CallOf}
use Rattle.lu_msg.specs.declared.messages.Message.{Message}
use Rattle.lu_trace.specs.WellFormed.{IsCall}
use Rattle.lu_spec_entries.specs.Words.{Entry, Line, with_turn, is_client}
use Rattle.lu_spec_entries.specs.Sent.{Sent}
use Rattle.lu_spec_client.specs.Rows as client
use Rattle.lu_spec_target.specs.Rows as target
use Rattle.lu_spec_target.specs.States.{Target as TargetState}
use Rattle.lu_spec_run.specs.Heads.{Head}
use Rattle.lu_spec_run.specs.Runs.{EventAt, Meets, MeetsClient, MeetsTarget, row_at, limits_of, setting_of, client_of, target_of}
use Rattle.lu_proof_lawful.specs.Covered.Runs.{AllCovered}
use Rattle.lu_proof_run.proofs.Clients.{client_own, client_other}
use Rattle.lu_proof_lawful.proofs.Invariants.Asked.{Began}
use Rattle.lu_proof_lawful.proofs.Preconditions.Grown.{Grown}
use Rattle.lu_proof_lawful.proofs.Preconditions.Turns.{covered_head}
use Rattle.lu_proof_lawful.proofs.Preconditions.Lists.{self, turn}
use Rattle.lu_proof_scenes.proofs.Arrivals.{Arrives, target_served, client_calm}
use Rattle.lu_proof_scenes.proofs.Asking.{AllSuit, turn_suits}
use Rattle.lu_proof_scenes.proofs.Clients.{Calm, AllCalm, turn_calm, lines_covered, lines_suit}
use Rattle.lu_proof_scenes.proofs.ClientRows.{EventCalm, row_calm}
use Rattle.lu_proof_scenes.proofs.Served.{AllServed, OfRun, stays_of_run, served_covered, served_suit, served_began}
use Rattle.lu_proof_scenes.proofs.Targets.{comes_served, tick_served, commit_served, crash_served, close_served, boots_served}
use Rattle.lu_proof_scenes.proofs.Turns.{all_covered, turn_began}

-- any turn may ask a disk: no run is quiet
abbrev pub MayAsk : Type 0
MayAsk = ⊥ → ⊥

pub may : MayAsk
may quiet = quiet

-- what is so of each node after a past
pub record Sound (head : Head) (past : List Line) : Type 0 where
  pub covered : AllCovered past
  pub suits : AllSuit MayAsk head.osts head.clients past
  pub calm : (who : ℕ) → Calm MayAsk head.osts (client_of head who past)
  pub begun : (call : CallOf) → Began past call → IsCall call

pub of_run : (head : Head) (past : List Line) → Sound head past → (t : ℕ) → OfRun head.clients (target_of head t past)
of_run head past s t = stays_of_run MayAsk head.osts (setting_of head t) head.clients past s.suits

-- what is known of a message that comes to a target
pub arrives : (head : Head) (past : List Line) (s : Sound head past) (g : Grown (covered_head head) past) (t n : ℕ) (from : Node)
    (m : Message) → Sent past n from (Target t) m
    → Arrives ⊥ (covered_head head) head.osts past g s.suits s.begun t (target_of head t past) m
arrives head past s g t n from m sent =
    target_served ⊥ (covered_head head) head.osts past g s.suits s.begun t (target_of head t past) (λ quiet. absurd quiet)
    (λ quiet. absurd quiet) n from m sent

module _ (head : Head) (past : List Line) (s : Sound head past) (g : Grown (covered_head head) past) (stamp : Stamp) where
  abbrev at : Node → At
  at node = turn stamp node

  abbrev lines_at : (node : Node) → EventAt node → List Entry
  lines_at node event = row_at head past (at node) node event

  -- ---- of a client

  event_calm : (c : ℕ) (event : client.Event) → MeetsClient head past c event → EventCalm IsCall MayAsk head.osts event
  event_calm c (client.Begins slot call) meets = (meets.2, meets.2)
  event_calm c (client.Comes n from m) meets = client_calm ⊥ (covered_head head) head.osts past g s.suits s.begun n c from m meets.1
  event_calm c client.Ticks meets = tt
  event_calm c client.Dies meets = tt

  client_sound : (c : ℕ) (event : client.Event) → MeetsClient head past c event
      → Sound head (with_turn (at (Client c)) (lines_at (Client c) event) past)
  client_sound c event meets =
      record {
        covered = all_covered (at (Client c)) es past (lines_covered IsCall MayAsk head.osts es all) s.covered;
        suits = turn_suits MayAsk head.osts head.clients past (at (Client c)) es tt (lines_suit IsCall MayAsk head.osts head.clients es all)
            s.suits;
        calm = λ d. calm d (is_client d (Client c)) refl;
        begun = turn_began IsCall MayAsk head.osts past (at (Client c)) es s.begun all;
      }
    where
      es : List Entry
      es = lines_at (Client c) event

      all : AllCalm IsCall MayAsk head.osts es
      all = row_calm IsCall MayAsk head.osts (limits_of head) (at (Client c)) event (client_of head c past) (event_calm c event meets)
          (s.calm c)

      calm : (d : ℕ) (own : Bool) → is_client d (Client c) ≡ own
          → Calm MayAsk head.osts (client_of head d (with_turn (at (Client c)) es past))
      calm d false e = subst (Calm MayAsk head.osts) (sym (client_other (limits_of head) d past (at (Client c)) es e)) (s.calm d)
      calm d true e =
          let same : d ≡ c = eqb-true d c e in
          subst (λ (k : ℕ). Calm MayAsk head.osts (client_of head k (with_turn (at (Client c)) es past))) (sym same)
          (subst (Calm MayAsk head.osts) (sym (client_own (limits_of head) c past (at (Client c)) es (self c)))
          (turn_calm IsCall MayAsk head.osts (client_of head c past) es (s.calm c) all))

  -- ---- of a target

  served_sound : (Ticks : Type 0) (t : ℕ) (es : List Entry) → t ≤ head.osts → AllServed Ticks MayAsk head.clients es
      → Sound head (with_turn (at (Target t)) es past)
  served_sound Ticks t es one all =
      record {
        covered = all_covered (at (Target t)) es past (served_covered Ticks MayAsk head.clients es all) s.covered;
        suits = turn_suits MayAsk head.osts head.clients past (at (Target t)) es one
            (served_suit Ticks MayAsk head.clients head.osts es all) s.suits;
        calm = λ d. subst (Calm MayAsk head.osts) (sym (client_other (limits_of head) d past (at (Target t)) es refl)) (s.calm d);
        begun = λ call i. s.begun call (served_began Ticks MayAsk head.clients past (at (Target t)) es all call i);
      }

  target_sound : (t : ℕ) (event : target.Event) → MeetsTarget head past t event
      → Sound head (with_turn (at (Target t)) (lines_at (Target t) event) past)
  target_sound t event meets = by event meets
    where
      v : TargetState
      v = target_of head t past

      runs : OfRun head.clients v
      runs = of_run head past s t

      by : (event : target.Event) → MeetsTarget head past t event → Sound head (with_turn (at (Target t)) (lines_at (Target t) event) past)
      by (target.Comes n from m) meets =
          served_sound ⊥ t (lines_at (Target t) (target.Comes n from m)) meets.0
          (comes_served MayAsk head.clients v (at (Target t)) n from m runs (arrives head past s g t n from m meets.3).served)
      by target.Ticks meets = served_sound (Unit {0}) t (lines_at (Target t) target.Ticks) meets.0
          (tick_served MayAsk head.clients v (at (Target t)) runs (λ who gone e. may))
      by (target.Commits count) meets = served_sound ⊥ t (lines_at (Target t) (target.Commits count)) meets.0
          (commit_served MayAsk head.clients v (at (Target t)) count may)
      by target.Crashes meets = served_sound ⊥ t (lines_at (Target t) target.Crashes) meets.0
          (crash_served MayAsk head.clients v (at (Target t)))
      by target.Boots meets = served_sound ⊥ t (lines_at (Target t) target.Boots) meets.0
          (boots_served MayAsk head.clients v (at (Target t)) may runs)
      by target.Closes meets = served_sound ⊥ t (lines_at (Target t) target.Closes) meets.0
          (close_served MayAsk head.clients v (at (Target t)) may runs)

  -- ---- of any node

  pub turn_sound : (node : Node) (event : EventAt node) → Meets head past node event
      → Sound head (with_turn (at node) (lines_at node event) past)
  turn_sound (Client c) event meets = client_sound c event meets
  turn_sound (Target t) event meets = target_sound t event meets
