use Rattle.std.proofs.Common.{◌≡◌, false, sym, ◌∙◌}
use Rattle.std.proofs.lemmas.Result.{on_ok_weaker}
use Rattle.lu_spec_client.specs.Calls.{call_on}
use Rattle.lu_client.specs.Advancing.{must_wait}
use Rattle.lu_client.proofs.Going.{gone, gone_asks}
use Rattle.lu_client.proofs.client.Client.go_on_slot.Goals as goal

pub returns-clause-makes : goal.returns-clause-makes
returns-clause-makes c =
    let free : must_wait c.args.self.now.client.calls (call_on c.args.slot c.args.self.now.client.calls) ≡ false =
    sym c.must_wait.ensures.waits ∙ c.if-must_wait.false in
    on_ok_weaker c.finish_call.result
    (λ did. gone c.at.result c.args.slot c.args.self.now c.advance_call.new.self c.finish_call.new.self c.in_ok-next.next c.args.turn.now
    c.finish_call.new.turn c.at.ensures.at free c.in_ok-next.ensures.advances did)
    c.finish_call.ensures.finishes

pub returns-clause-asks : goal.returns-clause-asks
returns-clause-asks c =
    on_ok_weaker c.finish_call.result
    (λ did. gone_asks c.at.result c.args.slot (call_on c.args.slot c.args.self.now.client.calls) c.args.self.now c.advance_call.new.self
    c.finish_call.new.self c.in_ok-next.next c.args.turn.now c.finish_call.new.turn c.in_ok-next.ensures.advances did)
    c.finish_call.ensures.finishes
