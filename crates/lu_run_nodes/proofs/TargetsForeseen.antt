-- A target makes each turn that is foreseen of it, unless memory is wanting or its disk fails.
use Rattle.std.proofs.Common.{◌≡◌, ℕ, ◌⊎◌, inl, inr, true, false, List, Some, None, Result, Err, refl, sym, ap, subst, ◌∙◌}
use Rattle.std.specs.Prelude.{All}
use Rattle.std.specs.Result.{IsErrAnd}
use Rattle.lu_base.specs.declared.ids.Node.{Node}
use Rattle.lu_base.specs.declared.ids.Stamp.{Stamp}
use Rattle.lu_base.specs.declared.ids.Node.TheVariants.{Target}
use Rattle.lu_target.specs.LockServers.{most_ticks}
use Rattle.lu_msg.specs.declared.messages.Message.{Message}
use Rattle.lu_msg.specs.declared.messages.Message.TheVariants.{Lock, Replay, Request}
use Rattle.lu_msg.specs.declared.messages.Request.{Request as RequestOf}
use Rattle.lu_service.specs.declared.services.Kind.{Kind}
use Rattle.lu_service.specs.Takes.{Takes}
use Rattle.lu_spec_entries.specs.Words.{Line}
use Rattle.lu_spec_target.specs.Locks.{same_request}
use Rattle.lu_spec_target.specs.Rows.{Event, Comes, Ticks, overruns, row}
use Rattle.lu_spec_target.specs.States.{Target as TargetOf, is_serving}
use Rattle.lu_spec_run.specs.Heads.{Head}
use Rattle.lu_spec_run.specs.Runs.{target_of}
use Rattle.lu_trace.specs.declared.traces.Step.{Step}
use Rattle.lu_target.specs.Recovering.{Recovers}
use Rattle.lu_target.specs.Servers.{Shows}
use Rattle.lu_target.specs.declared.faults.StepFault.{StepFault}
use Rattle.lu_target.specs.declared.faults.StepFault.TheVariants as step_fault
use Rattle.lu_target.specs.Running.{RunningState, IsIn, MayHeed}
use Rattle.lu_target.specs.Targets.{TargetState, turn_of, Steps}
use Rattle.lu_target.proofs.Turning.{in_none, in_some, recovering_is}
use Rattle.lu_run_nodes.specs.declared.faults.TurnFault.{TurnFault}
use Rattle.lu_run_nodes.specs.declared.faults.TurnFault.TheVariants as fault
use Rattle.lu_run_nodes.specs.Faults.{step_fault as given_as}
use Rattle.lu_run_nodes.specs.Foreseen.{MayHave, TakesSurely, IsTickForeseen}
use Rattle.lu_run_nodes.specs.Shown.{IsUp, ShowsTarget, kind_of}
use Rattle.lu_run_nodes.specs.States.{TargetSeat}
use Rattle.lu_run_nodes.specs.Turns.{turn_at}
use Rattle.lu_run_nodes.proofs.TargetsTurning.{is_down, up_in_seat}

pub true_false : true ≡ false → ⊥
true_false is = absurd (cc)

-- ---- a message that it may have it may heed

recovers_not : (t : RunningState) (v : TargetOf) → IsIn t v → is_serving v ≡ true → (w : _) → t.window ≡ Some w → ⊥
recovers_not t v it serves w some = true_false (sym serves ∙ recovering_is t.server w v (Recovers.gathers (in_some t w v some it)))

may_heed : (m : Message) (t : RunningState) (v : TargetOf) → IsIn t v → t.server.kind ≡ kind_of v.setting.id → is_serving v ≡ true
    → MayHave m v → MayHeed m t
may_heed (Request r) t v it sort serves may = λ none later life.
    let shows : Shows t.server v = in_none t v none it in
    record {
      life = life;
      tag = may.0;
      takes = subst (λ (k : Kind). Takes k r.op) (sym sort) may.1;
      tags = subst (λ (queue : List RequestOf). All (λ q. same_request q r ≡ true → q.tag ≡ r.tag) queue) shows.requests may.2;
    }
may_heed (Replay r) t v it sort serves may = λ w some own life. absurd (recovers_not t v it serves w some)
may_heed (Lock r) t v it sort serves may = λ w some own life. absurd (recovers_not t v it serves w some)
may_heed _ t v it sort serves may = tt

-- ---- a number was wanting, of which the seat is told so

step_spent : (error : StepFault) → fault.Unforeseen ≡ given_as error → error ≡ step_fault.NumbersSpent
step_spent (step_fault.Disk s) is = absurd (cc)
step_spent step_fault.NumbersSpent is = refl
step_spent step_fault.Memory is = absurd (cc)

-- ---- a seat as it was passed

module _ (inside old : TargetSeat) (is : inside ≡ old) (head : Head) (t : ℕ) (past : List Line) (shows : ShowsTarget head past t old) where
  abbrev v : TargetOf
  v = target_of head t past

  inside_shows : ShowsTarget head past t inside
  inside_shows = subst (ShowsTarget head past t) (sym is) shows

  -- a target that is down takes nothing
  pub takes_up : inside.target ≡ None → (stamp : Stamp) (from : Node) (m : Message) → TakesSurely head past stamp from m t → ⊥
  takes_up none stamp from m takes = true_false (sym takes.0 ∙ is_down head past t inside none inside_shows)

  module _ (s : TargetState) (up : inside.target ≡ Some s) where
    own_up : IsUp head past t inside.kind s
    own_up = up_in_seat head past t inside s up inside_shows

    pub takes_heeds : (stamp : Stamp) (from : Node) (m : Message) → TakesSurely head past stamp from m t → MayHeed m s.running
    takes_heeds stamp from m takes = may_heed m s.running v own_up.shows (own_up.sort ∙ inside_shows.sits.sort) takes.1 takes.2

    -- no number is wanting for a turn that has its numbers
    numbered : (e : Event) (stamp : Stamp) → ((e ≡ Ticks) × (v.ticks ≡ most_ticks) → ⊥) → overruns v (row v (turn_at stamp (Target t)) e)
        ≡ false
        → (u : TargetState) (error : StepFault) → Steps e stamp s u (Err error) → (result : Result Step TurnFault)
        → IsErrAnd result (λ f. f ≡ given_as error)
        → result ≡ Err fault.Unforeseen → ⊥
    numbered e stamp unticked room u error steps result given failed =
        let told = step_spent error (subst (λ (r : Result Step TurnFault). IsErrAnd r (λ f. f ≡ given_as error)) failed given) in
        by (steps.numbers own_up.unspent (ap (λ (f : StepFault). Err f) told) v own_up.shows)
      where
        by : (overruns v (row v (turn_of s.id stamp) e) ≡ true) ⊎ ((e ≡ Ticks) × (v.ticks ≡ most_ticks)) → ⊥
        by (inl over) = true_false (sym over ∙ ap (λ (i : ℕ). overruns v (row v (turn_of i stamp) e)) own_up.id ∙ room)
        by (inr tick) = unticked tick

    comes_not : (n : ℕ) (from : Node) (m : Message) → (Comes n from m ≡ Ticks) × (v.ticks ≡ most_ticks) → ⊥
    comes_not n from m tick = let same : Comes n from m ≡ Ticks = tick.0 in absurd (cc)

    pub takes_numbers : (stamp : Stamp) (from : Node) (m : Message) → TakesSurely head past stamp from m t
        → (u : TargetState) (error : StepFault)
        → Steps (Comes 0 from m) stamp s u (Err error) → (result : Result Step TurnFault) → IsErrAnd result (λ f. f ≡ given_as error)
        → result ≡ Err fault.Unforeseen → ⊥
    takes_numbers stamp from m takes = numbered (Comes 0 from m) stamp (comes_not 0 from m) takes.3

    pub ticks_numbers : (stamp : Stamp) → IsTickForeseen head past stamp t → (u : TargetState) (error : StepFault)
        → Steps Ticks stamp s u (Err error) → (result : Result Step TurnFault) → IsErrAnd result (λ f. f ≡ given_as error) → result
        ≡ Err fault.Unforeseen → ⊥
    ticks_numbers stamp ticks = numbered Ticks stamp (λ tick. ticks.0 tick.1) ticks.1
