-- The old life has a slot and the new one has none.
use Rattle.std.proofs.Common.{◌≡◌, is_some, true, false, rules}
use Rattle.lu_txn.specs.Slots.{slot_of}
use Rattle.lu_test_target.proofs.StoreDisks.{may_move}
use Rattle.lu_test_target.proofs.stores.replaced.Goals as goal

pub move_lives-requires : goal.move_lives-requires
move_lives-requires c =
    let there : is_some (slot_of c.args.old c.args.store.now.journal.slots) ≡ true = search rules in
    let absent : is_some (slot_of c.args.new c.args.store.now.journal.slots) ≡ false = search rules in
    record { may = may_move c.args.store.now c.args.old c.args.new there absent }
