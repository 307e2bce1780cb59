-- The keys in order are the lives of the slots.
use Rattle.std.proofs.Common.{◌≡◌, ◌∙◌, ap, subst, IfOk}
use Rattle.std.proofs.lemmas.Iterator.{items_from_collect}
use Rattle.std.specs.Map.{keys_of}
use Rattle.std.proofs.lemmas.Iterator.Consumers.{YieldsList-from_rest, YieldsList-from_copied}
use Rattle.lu_txn.specs.Slots.{lives_of}
use Rattle.lu_txn.proofs.SlotMaps.{keys_lives}
use Rattle.lu_txn.proofs.slots.Slots.lives.Goals as goal

pub returns : goal.returns
returns c =
    let all : keys_of c.self.inside.by_life.entries ≡ lives_of c.args.self.now =
    keys_lives c.self.inside.by_life.entries c.self.invariant.keyed ∙ ap lives_of c.self.view_is in
    record {
      lives = subst (λ lives. IfOk c.collect.result (λ w. w.items ≡ lives)) all
          (items_from_collect _ c.collect.ensures.ran (YieldsList-from_copied
          (YieldsList-from_rest (keys_of c.self.inside.by_life.entries) (cc))));
    }
