-- The turn is made, and ends.
use Rattle.std.proofs.Common.{◌≡◌, None, refl, sym, subst}
use Rattle.lu_spec_target.specs.Leaving.{row_tick}
use Rattle.lu_spec_target.specs.Rows.{Ticks}
use Rattle.lu_target.specs.Targets.{TargetState, turn_of, Steps}
use Rattle.lu_target.proofs.Steps.{new_turn, ended_up, tick_lacks}
use Rattle.lu_target.proofs.targets.Target.tick.Goals as goal

pub returns : goal.returns
returns g c =
    let t : TargetState = record { id = c.self.inside.id.0; running = c.self.inside.running; spent = c.self.inside.spent } in
    let mid : TargetState = record { id = c.self.inside.id.0; running = c.tick-made.new.self; spent = c.self.inside.spent } in
    let unspent : t.spent ≡ None = subst (λ (s : TargetState). s.spent ≡ None) (sym c.self.view_is) c.in-Ok.ensures.begun.0 in
    let start : c.in-Ok.turn ≡ new_turn (turn_of t.id c.args.stamp) =
    subst (λ (s : TargetState). c.in-Ok.turn ≡ new_turn (turn_of s.id c.args.stamp)) (sym c.self.view_is) c.in-Ok.ensures.begun.1 in
    record {
      steps = subst (λ (s : TargetState). Steps Ticks c.args.stamp s c.end.new.self c.end.result) c.self.view_is
          (ended_up Ticks (λ v at. row_tick v at) (λ v at. refl) c.args.stamp t mid c.end.new.self c.in-Ok.turn c.tick-made.new.turn
          c.tick-made.result c.end.result
          unspent refl unspent start c.tick-made.ensures.turns (λ spent. tick_lacks c.in-Ok.turn.at t.running
          (c.tick-made.ensures.numbers spent)) c.tick-made.ensures.failed c.tick-made.ensures.batches c.end.ensures.ended);
    }
