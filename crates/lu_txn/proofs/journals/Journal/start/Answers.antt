-- The lives that have slots rise.
use Rattle.std.proofs.Common.{◌≡◌, ◌+◌, ◌≤◌, ◌∙◌, [], length, ap, arith}
use Rattle.std.specs.Vec.{vec_len, vec_capacity}
use Rattle.lu_txn.specs.Slots.{with_lives}
use Rattle.lu_txn.proofs.Lookups.{slots_of}
use Rattle.lu_txn.proofs.Soundness.{sound_fresh}
use Rattle.lu_txn.proofs.journals.Journal.start.Goals as goal

pub invariant_of-result : goal.invariant_of-result
invariant_of-result c =
    let slots : c.add_all.new.self ≡ with_lives c.args.first.now [] = c.in_ok-add_all.ensures.added
    ∙ ap (with_lives c.args.first.now) c.new-slots.ensures.empty in
    let removed = c.reserve.new.self in
    let long : vec_len removed ≡ length removed.items = removed.ok.0 in
    let room : vec_len removed + c.len.result ≤ vec_capacity removed = c.in_ok-reserve.ensures.ok in
    let count : c.len.result ≡ length c.add_all.new.self = c.len.ensures.count in (
      rw (slots, c.new.ensures.new) (sound_fresh c.args.first.now _ _ _),
      omega arith,
      omega (arith, long, room, count),
    )

pub returns-clause-sound : goal.returns-clause-sound
returns-clause-sound c = (invariant_of-result c).0

pub returns-clause-lives : goal.returns-clause-lives
returns-clause-lives c = λ who.
    let slots : c.add_all.new.self ≡ with_lives c.args.first.now [] = c.in_ok-add_all.ensures.added
    ∙ ap (with_lives c.args.first.now) c.new-slots.ensures.empty in
    rw slots (slots_of c.args.first.now [] who tt)
