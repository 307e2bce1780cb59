-- The slot leaves, and its life stands among those that went.
use Rattle.std.proofs.Common.{◌≡◌, ◌+◌, ◌≤◌, [], ◌∷◌, ◌++◌, length, filter, ap, ◌∙◌, arith, rules}
use Rattle.std.specs.Prelude.{IsSome, not, drop}
use Rattle.std.specs.Vec.{vec_len, vec_capacity}
use Rattle.std.proofs.lemmas.Fn.{filter_same}
use Rattle.std.proofs.lemmas.List.{length_push, drop-append-le}
use Rattle.lu_txn.specs.Slots.{same_life, slot_of, without_life}
use Rattle.lu_txn.specs.Journals.{without_slot}
use Rattle.lu_txn.proofs.Lookups.{none_without}
use Rattle.lu_txn.proofs.SlotLaws.{rises-without_life, tags-without_life, length-without_life}
use Rattle.lu_txn.proofs.Soundness.{sound_slots, without_slot_is}
use Rattle.lu_txn.proofs.journals.Journal.drop_slot.Goals as goal

pub invariant_of-self : goal.invariant_of-self
invariant_of-self c =
    let who = c.args.who in
    let slots = c.self.inside.slots in
    let removed = c.self.inside.removed in
    let some : IsSome (slot_of who slots) = search rules in
    let fewer : length (without_life who slots) + 1 ≡ length slots = length-without_life who slots some in
    let more : length (removed.items ++ who ∷ []) ≡ length removed.items + 1 = length_push removed.items who in
    let room : length removed.items + length slots ≤ vec_capacity removed = c.self.invariant.2 in (
      rw c.remove.ensures.removed (sound_slots _ (without_life who slots) _ _ _ c.self.invariant.0
          (rises-without_life who slots c.self.invariant.0.lives) (tags-without_life who slots c.self.invariant.0.tags)),
      rw c.push_reserved.ensures.items (omega (arith, more, c.self.invariant.1)),
      rw (c.push_reserved.ensures.items, c.remove.ensures.removed, c.push_reserved.ensures.capacity) (omega (arith, fewer, more, room)),
    )

pub returns-clause-sound : goal.returns-clause-sound
returns-clause-sound c = (invariant_of-self c).0

pub returns-clause-dropped : goal.returns-clause-dropped
returns-clause-dropped c = λ some.
    let who = c.args.who in
    let journal = c.self.inside in
    let kept : c.retain.new.self.items ≡ filter (λ life. not (same_life life who)) journal.added.items =
    filter_same _ _ _ (λ x b f' k. search rules) _ _ c.retain.ensures.filtered in
    let went : drop journal.settled c.push_reserved.new.self.items ≡ drop journal.settled journal.removed.items ++ who ∷ [] =
    ap (drop journal.settled) c.push_reserved.ensures.items ∙ drop-append-le journal.settled journal.removed.items (who ∷ [])
    c.self.invariant.1 in
    without_slot_is who
    (record {
      boot = journal.boot;
      boot_stored = journal.boot_stored;
      newest = journal.log.newest;
      committed = journal.committed.0;
      transactions = journal.log.transactions;
      slots = journal.slots;
      added = journal.added.items;
      dropped = drop journal.settled journal.removed.items;
      removed = journal.removed.items;
    })
    c.remove.new.self c.retain.new.self.items _ c.push_reserved.new.self.items
    c.remove.ensures.removed kept went c.push_reserved.ensures.items
    ∙ ap (without_slot who) c.self.view_is

pub returns-clause-slot : goal.returns-clause-slot
returns-clause-slot c = rw c.remove.ensures.removed (none_without c.args.who c.self.inside.slots c.self.invariant.0.lives)
