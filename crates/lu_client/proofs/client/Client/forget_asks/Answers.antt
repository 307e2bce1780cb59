use Rattle.std.proofs.Common.{◌≡◌, ℕ, ◌<◌, ◌≤◌, length, sym, subst, ◌∙◌, arith}
use Rattle.lu_client.proofs.Recovering.{asks_next, asks_ended}
use Rattle.lu_client.proofs.client.Client.forget_asks.Goals as goal

pub loop-slot-preserved : goal.loop-slot-preserved
loop-slot-preserved c =
    let count : c.slots-slot-end.result ≡ length c.args.self.now.client.calls = c.slots-slot-end.ensures.slots in
    let inside : c.loop-slot.slot < length c.loop-slot.self.client.calls =
    subst (λ (n : ℕ). c.loop-slot.slot < n) (count ∙ sym c.loop-slot.invariant.slots) c.loop-slot-test.true in
    asks_next c.args.target.0 c.loop-slot.slot c.args.self.now c.loop-slot.self c.forget_ask_on.new.self inside c.loop-slot.invariant
    c.forget_ask_on.ensures.forgets

pub returns : goal.returns
returns c =
    let count : c.slots-slot-end.result ≡ length c.args.self.now.client.calls = c.slots-slot-end.ensures.slots in
    let slots = c.loop-slot.invariant.slots in
    let over = c.loop-slot-test.false in
    let past : length c.loop-slot.self.client.calls ≤ c.loop-slot.slot = omega (arith, count, slots, over) in
    record { forgets = asks_ended c.args.target.0 c.loop-slot.slot c.args.self.now c.loop-slot.self past c.loop-slot.invariant }
