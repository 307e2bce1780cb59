-- Who gave it is known with the window's lock, and known no more where the window doesn't take it.
use Rattle.std.proofs.Common.{subst, sym}
use Rattle.lu_window.specs.States.{State}
use Rattle.lu_target_server.specs.Recovering.{IsOnlyLock}
use Rattle.lu_target_server.proofs.GiverKnown.{lock_known, lock_undone, lock_passed}
use Rattle.lu_target_server.proofs.recovery.Recovery.lock.Goals as goal

pub invariant_of-self-in-Ok : goal.invariant_of-self-in-Ok
invariant_of-self-in-Ok c =
    lock_known c.args.lock c.self.inside.replays c.self.inside.locks c.add.new.self c.self.inside.window c.lock.new.self
    c.in-Ok.ensures.taken c.in_ok-first.ensures.given
    (subst (λ (it : State). IsOnlyLock c.args.lock it.window.brought) (sym c.self.view_is) c.requires.only) c.self.invariant

pub invariant_of-self-then-first : goal.invariant_of-self-then-first
invariant_of-self-then-first c =
    lock_undone c.args.lock c.self.inside.replays c.self.inside.locks c.add.new.self c.forget.new.self c.self.inside.window c.lock.new.self
    c.in-Err.ensures.kept c.in_ok-first.ensures.given
    (c.in_ok-first.ensures.first.0 c.if-first.true) c.forget.ensures.forgotten c.self.invariant

pub invariant_of-self-else-first : goal.invariant_of-self-else-first
invariant_of-self-else-first c =
    lock_passed c.args.lock c.self.inside.replays c.self.inside.locks c.add.new.self c.self.inside.window c.lock.new.self
    c.in_ok-first.first c.if-first.false c.in_ok-first.ensures.first
    c.in-Err.ensures.kept c.in_ok-first.ensures.given (subst (λ (it : State). IsOnlyLock c.args.lock it.window.brought) (sym c.self.view_is)
    c.requires.only) c.self.invariant
