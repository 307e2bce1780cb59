-- The entry of the life leaves the map.
use Rattle.std.proofs.Common.{◌∙◌, ap}
use Rattle.lu_txn.specs.Slots.{without_life}
use Rattle.lu_txn.proofs.SlotMaps.{life_removed, by_life_removed, values_all, by_life_all}
use Rattle.lu_txn.proofs.slots.Slots.remove.Goals as goal

pub invariant_of-self : goal.invariant_of-self
invariant_of-self c = by_life_all c.remove.ensures.entries (by_life_removed c.args.who c.self.inside.by_life.entries c.self.invariant)

pub returns : goal.returns
returns c = record {
  removed =
      values_all c.remove.ensures.entries
      ∙ life_removed c.args.who c.self.inside.by_life.entries c.self.invariant.keyed
      ∙ ap (without_life c.args.who) c.self.view_is;
}
