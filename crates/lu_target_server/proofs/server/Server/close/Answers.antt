-- What the window decides of what it has is carried out.
use Rattle.std.proofs.Common.{refl}
use Rattle.std.proofs.lemmas.Result.{on_ok_weaker}
use Rattle.lu_spec_target.specs.Recovery.{row_close}
use Rattle.lu_target_server.specs.Closing.{Settles}
use Rattle.lu_target_server.specs.Recovering.{Gathers}
use Rattle.lu_target_server.proofs.CarryingOut.{settles_so, closed_under, stops_under, batches_under}
use Rattle.lu_target_server.proofs.Passings.{no_batches}
use Rattle.lu_target_server.proofs.server.Server.close.Goals as goal

pub carry_out-requires : goal.carry_out-requires
carry_out-requires g c =
    let m = c.requires.gathers in
    record { settles = (m.0, settles_so c.args.self.now c.args.recovery c.in_ok-outcome.outcome c.in_ok-outcome.ensures.settled m.0 m.1) }

pub returns-in_err-outcome-clause-batches : goal.returns-in_err-outcome-clause-batches
returns-in_err-outcome-clause-batches g c =
    no_batches (Gathers c.args.self.now c.args.recovery) (row_close c.args.turn.now.at) c.args.self.now.store.batches
    c.args.self.now.store.batches refl

pub returns-clause-closed : goal.returns-clause-closed
returns-clause-closed g c =
    on_ok_weaker c.carry_out.result
    (closed_under (Settles c.args.self.now c.in_ok-outcome.outcome) (Gathers c.args.self.now c.args.recovery)
    (settles_so c.args.self.now c.args.recovery c.in_ok-outcome.outcome c.in_ok-outcome.ensures.settled) (row_close c.args.turn.now.at)
    c.carry_out.new.self c.args.turn.now c.carry_out.new.turn)
    c.carry_out.ensures.closed

pub returns-clause-failed : goal.returns-clause-failed
returns-clause-failed g c =
    λ e. let failed = c.carry_out.ensures.failed e in (
      failed.0,
      stops_under (Settles c.args.self.now c.in_ok-outcome.outcome) (Gathers c.args.self.now c.args.recovery)
          (settles_so c.args.self.now c.args.recovery c.in_ok-outcome.outcome c.in_ok-outcome.ensures.settled)
          (row_close c.args.turn.now.at) 0 c.args.turn.now c.carry_out.new.turn failed.1,
    )

pub returns-clause-batches : goal.returns-clause-batches
returns-clause-batches g c =
    batches_under (Settles c.args.self.now c.in_ok-outcome.outcome) (Gathers c.args.self.now c.args.recovery)
    (settles_so c.args.self.now c.args.recovery c.in_ok-outcome.outcome c.in_ok-outcome.ensures.settled) (row_close c.args.turn.now.at)
    c.args.self.now.store.batches c.carry_out.new.self.store.batches
    c.carry_out.ensures.batches
