-- While it recovers it is counted alone.
use Rattle.std.proofs.Common.{rules, ◌≡◌, true, refl, subst, inl}
use Rattle.std.specs.Option.{is_some}
use Rattle.lu_spec_target.specs.Leaving.{row_tick}
use Rattle.lu_target.specs.Running.{RunningState, Turns, HasNoTickIn}
use Rattle.lu_target.proofs.Numbers.{no_tick_in}
use Rattle.lu_target.proofs.Ticking.{both_ok, tick_turns}
use Rattle.lu_target.proofs.running.Running.tick.Goals as goal

pub returns-then-is_some-clause-turns : goal.returns-then-is_some-clause-turns
returns-then-is_some-clause-turns g c =
    let t : RunningState = record { server = c.self.inside.server; window = c.self.inside.recovery } in
    let now : RunningState = record { server = c.count_tick.new.self; window = c.self.inside.recovery } in
    let some : is_some c.self.inside.recovery ≡ true = search rules in
    both_ok c.count_tick.result
    (λ told counts. subst (λ (s : RunningState). Turns (λ v. row_tick v c.args.turn.now.at) s now c.args.turn.now c.count_tick.new.turn)
    c.self.view_is
    (tick_turns t now c.args.turn.now c.count_tick.new.turn some refl c.count_tick.ensures.same told counts))
    c.count_tick.ensures.given c.count_tick.ensures.counts

pub returns-then-is_some-clause-numbers : goal.returns-then-is_some-clause-numbers
returns-then-is_some-clause-numbers g c = λ spent.
    let t : RunningState = record { server = c.self.inside.server; window = c.self.inside.recovery } in
    let some : is_some c.self.inside.recovery ≡ true = search rules in
    inl (subst HasNoTickIn c.self.view_is (no_tick_in t some (c.count_tick.ensures.numbers spent)))
