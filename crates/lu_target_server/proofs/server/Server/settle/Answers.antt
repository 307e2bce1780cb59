-- The window stays open, or it closes.
use Rattle.std.proofs.Common.{refl, sym, ◌∙◌, rules}
use Rattle.lu_spec_target.specs.Recovery.{settles}
use Rattle.lu_target_server.specs.Recovering.{Gathers}
use Rattle.lu_target_server.proofs.Passings.{passes_open, passes_closed, stops_closed, batches_closed, no_batches}
use Rattle.lu_target_server.proofs.server.Server.settle.Goals as goal

pub returns-then-not-all_back-clause-passes : goal.returns-then-not-all_back-clause-passes
returns-then-not-all_back-clause-passes g c = passes_open c.args.self.now c.args.recovery c.args.turn.now
    (sym c.all_back.ensures.settled ∙ c.if-not-all_back.true)

pub returns-then-not-all_back-clause-batches : goal.returns-then-not-all_back-clause-batches
returns-then-not-all_back-clause-batches g c = no_batches (Gathers c.args.self.now c.args.recovery) (settles c.args.turn.now.at)
    c.args.self.now.store.batches c.args.self.now.store.batches refl

pub returns-in_err-close-clause-failed : goal.returns-in_err-close-clause-failed
returns-in_err-close-clause-failed g c = λ e.
    let failed = c.close.ensures.failed (search rules) in (
      failed.0,
      stops_closed c.args.self.now c.args.recovery c.args.turn.now c.close.new.turn
          (sym c.all_back.ensures.settled ∙ c.if-not-all_back.false) failed.1,
    )

pub returns-in_err-close-clause-batches : goal.returns-in_err-close-clause-batches
returns-in_err-close-clause-batches g c =
    batches_closed c.args.self.now c.args.recovery c.args.turn.now.at c.args.self.now.store.batches c.close.new.self.store.batches
    (sym c.all_back.ensures.settled ∙ c.if-not-all_back.false) c.close.ensures.batches

pub returns-clause-batches : goal.returns-clause-batches
returns-clause-batches g c =
    batches_closed c.args.self.now c.args.recovery c.args.turn.now.at c.args.self.now.store.batches c.close.new.self.store.batches
    (sym c.all_back.ensures.settled ∙ c.if-not-all_back.false) c.close.ensures.batches

pub returns-clause-passes : goal.returns-clause-passes
returns-clause-passes g c = passes_closed c.args.self.now c.close.new.self c.args.recovery c.args.turn.now c.close.new.turn
    (sym c.all_back.ensures.settled ∙ c.if-not-all_back.false) c.in_ok-close.ensures.closed
