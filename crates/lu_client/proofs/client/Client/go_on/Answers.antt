use Rattle.std.proofs.Common.{ap, sym, ◌∙◌}
use Rattle.lu_spec_client.specs.Slots.{slots_go}
use Rattle.lu_client.proofs.Making.{remains_end}
use Rattle.lu_client.proofs.Passing.{round, round_ends, rounds_done}
use Rattle.lu_client.proofs.Unasked.{asks_then}
use Rattle.lu_client.proofs.client.Client.go_on.Goals as goal

pub returns-then-not-has_free_close-clause-makes : goal.returns-then-not-has_free_close-clause-makes
returns-then-not-has_free_close-clause-makes c =
    round_ends c.loop-pass._pass c.args.self.now c.loop-pass.self c.pass.new.self c.args.turn.now c.loop-pass.turn c.pass.new.turn
    c.loop-pass-test.true c.loop-pass.invariant.0 c.in_ok-pass.ensures.makes
    (sym c.has_free_close.ensures.free ∙ c.if-not-has_free_close.true)

pub loop-pass-preserved : goal.loop-pass-preserved
loop-pass-preserved c = (
  round c.loop-pass._pass c.args.self.now c.loop-pass.self c.pass.new.self c.args.turn.now c.loop-pass.turn c.pass.new.turn
      c.loop-pass-test.true c.loop-pass.invariant.0 c.in_ok-pass.ensures.makes
      (sym c.has_free_close.ensures.free ∙ c.if-not-has_free_close.false),
  asks_then c.loop-pass.invariant.1 c.in_ok-pass.ensures.asks,
)

pub returns-clause-makes : goal.returns-clause-makes
returns-clause-makes c =
    remains_end (ap (λ (n : _). slots_go n c.args.turn.now.at c.loop-pass.self.client)
    (rounds_done c.loop-pass._pass c.loop-pass-test.false)) c.loop-pass.invariant.0
