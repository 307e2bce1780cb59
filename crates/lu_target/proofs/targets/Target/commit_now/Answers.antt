-- The turn is made, and ends.
use Rattle.std.proofs.Common.{◌≡◌, None, refl, sym, subst}
use Rattle.lu_spec_target.specs.Rows.{row_commit}
use Rattle.lu_spec_target.specs.Rows.{Commits}
use Rattle.lu_target.specs.Targets.{TargetState, turn_of, Steps}
use Rattle.lu_target.proofs.Steps.{new_turn, ended_up}
use Rattle.lu_target.proofs.targets.Target.commit_now.Goals as goal

pub returns : goal.returns
returns g c =
    let t : TargetState = record { id = c.self.inside.id.0; running = c.self.inside.running; spent = c.self.inside.spent } in
    let mid : TargetState = record { id = c.self.inside.id.0; running = c.commit-made.new.self; spent = c.self.inside.spent } in
    let unspent : t.spent ≡ None = subst (λ (s : TargetState). s.spent ≡ None) (sym c.self.view_is) c.in-Ok.ensures.begun.0 in
    let start : c.in-Ok.turn ≡ new_turn (turn_of t.id c.args.stamp) =
    subst (λ (s : TargetState). c.in-Ok.turn ≡ new_turn (turn_of s.id c.args.stamp)) (sym c.self.view_is) c.in-Ok.ensures.begun.1 in
    record {
      steps = subst (λ (s : TargetState). Steps (Commits c.args.count) c.args.stamp s c.end.new.self c.end.result) c.self.view_is
          (ended_up (Commits c.args.count) (λ v at. row_commit v c.args.count) (λ v at. refl) c.args.stamp t mid c.end.new.self c.in-Ok.turn
          c.commit-made.new.turn c.commit-made.result c.end.result
          unspent refl unspent start c.commit-made.ensures.turns (λ spent. absurd (c.commit-made.ensures.numbers spent))
          c.commit-made.ensures.failed c.commit-made.ensures.batches c.end.ensures.ended);
    }
