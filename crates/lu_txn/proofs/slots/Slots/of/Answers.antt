-- The map finds the slot of the life.
use Rattle.std.proofs.Common.{◌∙◌, ap}
use Rattle.lu_txn.specs.Slots.{slot_of}
use Rattle.lu_txn.proofs.SlotMaps.{slot_found}
use Rattle.lu_txn.proofs.slots.Slots.of.Goals as goal

pub returns : goal.returns
returns c = record {
  slot = c.get.ensures.value ∙ slot_found c.args.who c.self.inside.by_life.entries c.self.invariant.keyed
      ∙ ap (slot_of c.args.who) c.self.view_is;
}
