-- What a window decided is done.
use Rattle.std.proofs.Common.{refl, sym, subst, rules}
use Rattle.lu_target_store.specs.Stores as stores
use Rattle.lu_spec_target.specs.Recovery.{row_close}
use Rattle.lu_target_server.specs.Closing.{Settles}
use Rattle.lu_target_server.specs.Servers.{ServerState}
use Rattle.lu_target_server.proofs.CarryingOut.{ordered_so, carried, is_written, may_be_written, stops}
use Rattle.lu_target_server.proofs.Passings.{no_batches}
use Rattle.lu_target_server.proofs.WholeClose.{decides}
use Rattle.lu_target_server.proofs.server.Server.carry_out.Goals as goal

pub stand-requires : goal.stand-requires
stand-requires g c =
    let m = c.requires.settles in
    record { may = (m.0, decides c.args.self.now c.args.outcome m.0 c.in_ok-gone.gone c.in_ok-gone.ensures.gone m.1) }

pub restore_and_tell-requires : goal.restore_and_tell-requires
restore_and_tell-requires g c =
    let m = c.requires.settles in
    record { ordered = ordered_so c.args.self.now c.args.outcome m.0 m.1 c.args.turn.now.at }

pub returns-in_err-lives-clause-batches : goal.returns-in_err-lives-clause-batches
returns-in_err-lives-clause-batches g c =
    no_batches (Settles c.args.self.now c.args.outcome) (row_close c.args.turn.now.at) c.args.self.now.store.batches
    c.args.self.now.store.batches refl

pub returns-in_err-gone-clause-batches : goal.returns-in_err-gone-clause-batches
returns-in_err-gone-clause-batches g c =
    no_batches (Settles c.args.self.now c.args.outcome) (row_close c.args.turn.now.at) c.args.self.now.store.batches
    c.args.self.now.store.batches refl

pub returns-in_err-stand-clause-failed : goal.returns-in_err-stand-clause-failed
returns-in_err-stand-clause-failed g c =
    λ e. stops c.args.self.now c.stand.new.self c.args.outcome c.args.turn.now c.stand.new.turn (c.stand.ensures.failed (search (rules, e)))

pub returns-in_err-stand-clause-batches : goal.returns-in_err-stand-clause-batches
returns-in_err-stand-clause-batches g c =
    may_be_written c.args.self.now c.stand.new.self c.args.outcome c.in_ok-gone.gone c.args.turn.now.at c.in_ok-gone.ensures.gone
    c.stand.ensures.batches

pub returns-in_err-restore_and_tell-clause-batches : goal.returns-in_err-restore_and_tell-clause-batches
returns-in_err-restore_and_tell-clause-batches g c =
    is_written c.args.self.now c.stand.new.self c.restore_and_tell.new.self c.args.outcome c.in_ok-lives.lives c.in_ok-gone.gone
    c.args.turn.now c.stand.new.turn c.restore_and_tell.new.turn
    c.in_ok-gone.ensures.gone c.in_ok-stand.ensures.kept c.restore_and_tell.ensures.disk.batches

pub returns-clause-batches : goal.returns-clause-batches
returns-clause-batches g c =
    is_written c.args.self.now c.stand.new.self c.restore_and_tell.new.self c.args.outcome c.in_ok-lives.lives c.in_ok-gone.gone
    c.args.turn.now c.stand.new.turn c.restore_and_tell.new.turn
    c.in_ok-gone.ensures.gone c.in_ok-stand.ensures.kept c.restore_and_tell.ensures.disk.batches

pub returns-clause-closed : goal.returns-clause-closed
returns-clause-closed g c =
    carried c.args.self.now c.stand.new.self c.restore_and_tell.new.self c.args.outcome c.in_ok-lives.lives c.in_ok-gone.gone
    c.args.turn.now c.stand.new.turn c.restore_and_tell.new.turn
    c.in_ok-gone.ensures.gone c.in_ok-stand.ensures.kept
    (λ v recovers. c.in_ok-lives.ensures.recovering v (subst (λ (it : ServerState). stores.Recovers it.store v) (sym c.self.view_is)
    recovers))
    c.in_ok-restore_and_tell.ensures.told c.in_ok-restore_and_tell.ensures.stand c.restore_and_tell.ensures.same
