-- The new slot stands in order, and there is room for its life among those that go.
use Rattle.std.proofs.Common.{◌≡◌, ◌+◌, ◌≤◌, length, arith}
use Rattle.std.specs.Vec.{vec_len, vec_capacity}
use Rattle.lu_txn.specs.Slots.{with_life}
use Rattle.lu_txn.proofs.Lookups.{some_with_life}
use Rattle.lu_txn.proofs.SlotLaws.{rises-with_life, tags-with_life, length-with_life}
use Rattle.lu_txn.proofs.Soundness.{sound_slots}
use Rattle.lu_txn.proofs.journals.Journal.add_slot.Goals as goal

pub invariant_of-self-2 : goal.invariant_of-self-2
invariant_of-self-2 c =
    let who = c.args.who in
    let slots = c.self.inside.slots in
    let removed = c.reserve-2.new.self in
    let grown : length (with_life who slots) ≤ length slots + 1 = length-with_life who slots in
    let room : vec_len removed + (c.len.result + 1) ≤ vec_capacity removed = c.in_ok-reserve-2.ensures.ok in
    let count : c.len.result ≡ length slots = c.len.ensures.count in
    let long : vec_len removed ≡ length removed.items = removed.ok.0 in (
      rw c.in_ok-add.ensures.added (sound_slots _ (with_life who slots) _ _ _ c.self.invariant.0
          (rises-with_life who slots c.self.invariant.0.lives) (tags-with_life who slots c.self.invariant.0.tags)),
      rw c.reserve-2.ensures.items c.self.invariant.1,
      rw c.in_ok-add.ensures.added (omega (arith, grown, room, count, long)),
    )

pub returns-clause-sound : goal.returns-clause-sound
returns-clause-sound c = (invariant_of-self-2 c).0

pub returns-clause-slot : goal.returns-clause-slot
returns-clause-slot c = rw c.in_ok-add.ensures.added (some_with_life c.args.who c.self.inside.slots)
