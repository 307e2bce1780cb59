-- What the batches tell is sound.
use Rattle.std.proofs.Common.{◌≡◌, ◌+◌, ◌≤◌, ◌∙◌, length, arith}
use Rattle.std.specs.Vec.{vec_len, vec_capacity}
use Rattle.lu_txn.specs.Loads.{Stored, stored_by}
use Rattle.lu_txn.proofs.Loading.{sound_parts}
use Rattle.lu_txn.proofs.journals.Journal.new.Goals as goal

pub invariant_of-result : goal.invariant_of-result
invariant_of-result c =
    let stored = c.slots.inside in
    let told : record { committed = stored.committed.0; slots = stored.slots; removed = stored.removed.items }
    ≡ stored_by c.args.batches.now = c.slots.view_is ∙ c.in_ok-committed.ensures.stored in
    let removed = c.reserve.new.self in
    let long : vec_len removed ≡ length removed.items = removed.ok.0 in
    let settled : c.len-settled.result ≡ vec_len removed = c.len-settled.ensures in
    let room : vec_len removed + c.len.result ≤ vec_capacity removed = c.in_ok-reserve.ensures.ok in
    let count : c.len.result ≡ length stored.slots = c.len.ensures.count in (
      rw c.new.ensures.new (sound_parts c.args.batches.now c.args.boot stored.committed.0 stored.slots stored.removed.items _ _ _ told
          c.ranges.boot.fits c.requires.boots),
      omega (arith, long, settled),
      omega (arith, long, room, count),
    )

pub returns-clause-sound : goal.returns-clause-sound
returns-clause-sound c = (invariant_of-result c).0
