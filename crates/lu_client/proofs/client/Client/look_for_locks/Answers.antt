use Rattle.std.proofs.Common.{◌≡◌, ◌<◌, ◌≤◌, length, sym, subst, ◌∙◌, arith, ℕ}
use Rattle.lu_client.proofs.Serving.{looks_next, looks_ended}
use Rattle.lu_client.proofs.client.Client.look_for_locks.Goals as goal

pub loop-slot-preserved : goal.loop-slot-preserved
loop-slot-preserved c =
    let count : c.slots-slot-end.result ≡ length c.args.self.now.client.calls = c.slots-slot-end.ensures.slots in
    let inside : c.loop-slot.slot < length c.loop-slot.self.client.calls =
    subst (λ (n : ℕ). c.loop-slot.slot < n) (count ∙ sym c.loop-slot.invariant.slots) c.loop-slot-test.true in
    looks_next c.args.target.0 c.loop-slot.slot c.args.self.now c.loop-slot.self c.look_for_lock.new.self inside c.loop-slot.invariant
    c.look_for_lock.ensures.makes

pub returns : goal.returns
returns c =
    let count : c.slots-slot-end.result ≡ length c.args.self.now.client.calls = c.slots-slot-end.ensures.slots in
    let slots = c.loop-slot.invariant.slots in
    let over = c.loop-slot-test.false in
    let past : length c.loop-slot.self.client.calls ≤ c.loop-slot.slot = omega (arith, count, slots, over) in
    record { makes = looks_ended c.args.target.0 c.loop-slot.slot c.args.self.now c.loop-slot.self past c.loop-slot.invariant }
