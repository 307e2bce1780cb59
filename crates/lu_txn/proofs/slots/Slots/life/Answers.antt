-- The keys in order are the lives of the slots.
use Rattle.std.proofs.Common.{◌∙◌, ap}
use Rattle.std.specs.Prelude.{slice_get, option_map}
use Rattle.std.proofs.lemmas.Iterator.Consumers.{nth_from_yields_List, YieldsList-from_rest}
use Rattle.lu_txn.proofs.SlotMaps.{life_at}
use Rattle.lu_txn.proofs.slots.Slots.life.Goals as goal

pub returns : goal.returns
returns c = record {
  life =
      c.copied.ensures
      ∙ nth_from_yields_List c.nth.result c.nth.new.self c.args.at c.nth.ensures.ran (YieldsList-from_rest _ c.keys.ensures.rest)
      ∙ life_at c.self.inside.by_life.entries c.args.at c.self.invariant.keyed
      ∙ ap (λ slots. option_map (λ slot. slot.who) (slice_get slots c.args.at)) c.self.view_is;
}
