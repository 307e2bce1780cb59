-- The turn is made, and ends.
use Rattle.std.proofs.Common.{◌≡◌, None, refl, sym, subst}
use Rattle.std.proofs.lemmas.Result.{on_ok_weaker}
use Rattle.lu_spec_target.specs.Rows.{Comes}
use Rattle.lu_target.specs.Targets.{TargetState, turn_of, Steps}
use Rattle.lu_target.proofs.Steps.{new_turn, ended_steps, takes_lack}
use Rattle.lu_target.proofs.targets.Target.deliver.Goals as goal

pub returns : goal.returns
returns g c =
    let t : TargetState = record { id = c.self.inside.id.0; running = c.self.inside.running; spent = c.self.inside.spent } in
    let mid : TargetState = record { id = c.self.inside.id.0; running = c.take-made.new.self; spent = c.self.inside.spent } in
    let unspent : t.spent ≡ None = subst (λ (s : TargetState). s.spent ≡ None) (sym c.self.view_is) c.in-Ok.ensures.begun.0 in
    let start : c.in-Ok.turn ≡ new_turn (turn_of t.id c.args.stamp) =
    subst (λ (s : TargetState). c.in-Ok.turn ≡ new_turn (turn_of s.id c.args.stamp)) (sym c.self.view_is) c.in-Ok.ensures.begun.1 in
    record {
      steps = λ from.
          subst (λ (s : TargetState). Steps (Comes 0 from c.args.message.now) c.args.stamp s c.end.new.self c.end.result) c.self.view_is
          (ended_steps (Comes 0 from c.args.message.now) c.args.stamp t mid c.end.new.self c.in-Ok.turn c.take-made.new.turn
          c.take-made.result c.end.result
          unspent refl unspent start (on_ok_weaker c.take-made.result (λ turns. turns from) c.take-made.ensures.turns)
          (λ spent. takes_lack from c.args.message.now c.in-Ok.turn.at t.running (c.take-made.ensures.numbers spent from))
          (λ failed. c.take-made.ensures.failed failed from)
          (c.take-made.ensures.batches from) c.end.ensures.ended);
    }
