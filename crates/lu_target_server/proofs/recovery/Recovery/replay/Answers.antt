-- Who gave it is known with the window's replay, and known no more where the window doesn't take it.
use Rattle.std.proofs.Common.{subst, sym}
use Rattle.lu_window.specs.Shown.{replayed}
use Rattle.lu_window.specs.States.{State}
use Rattle.lu_target_server.specs.Recovering.{IsOnlyReplay}
use Rattle.lu_target_server.proofs.GiverKnown.{replay_known, replay_undone, replay_passed}
use Rattle.lu_target_server.proofs.recovery.Recovery.replay.Goals as goal

pub invariant_of-self-in-Ok : goal.invariant_of-self-in-Ok
invariant_of-self-in-Ok c =
    let r = replayed c.args.who c.args.replay in
    replay_known r c.self.inside.replays c.add.new.self c.self.inside.locks c.self.inside.window c.replay.new.self c.in-Ok.ensures.taken
    c.in_ok-first.ensures.given
    (subst (λ (it : State). IsOnlyReplay r it.window.replays) (sym c.self.view_is) c.requires.only) c.self.invariant

pub invariant_of-self-then-first : goal.invariant_of-self-then-first
invariant_of-self-then-first c =
    replay_undone (replayed c.args.who c.args.replay) c.self.inside.replays c.add.new.self c.forget.new.self c.self.inside.locks
    c.self.inside.window c.replay.new.self c.in-Err.ensures.kept
    c.in_ok-first.ensures.given (c.in_ok-first.ensures.first.0 c.if-first.true) c.forget.ensures.forgotten c.self.invariant

pub invariant_of-self-else-first : goal.invariant_of-self-else-first
invariant_of-self-else-first c =
    let r = replayed c.args.who c.args.replay in
    replay_passed r c.self.inside.replays c.add.new.self c.self.inside.locks c.self.inside.window c.replay.new.self c.in_ok-first.first
    c.if-first.false c.in_ok-first.ensures.first
    c.in-Err.ensures.kept c.in_ok-first.ensures.given (subst (λ (it : State). IsOnlyReplay r it.window.replays) (sym c.self.view_is)
    c.requires.only) c.self.invariant
