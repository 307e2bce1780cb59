-- A life that has its slot keeps it; a new one gets its slot in order.
use Rattle.std.proofs.Common.{◌≡◌, ◌∙◌, true, None, ap, sym}
use Rattle.std.specs.Prelude.{is_some}
use Rattle.std.specs.Map.{lookup}
use Rattle.lu_txn.specs.Slots.{with_life}
use Rattle.lu_txn.proofs.SlotMaps.{at, there_stays, none_of, life_added, by_life_added}
use Rattle.lu_txn.proofs.slots.Slots.add.Goals as goal

pub returns-then-contains_key-clause-added : goal.returns-then-contains_key-clause-added
returns-then-contains_key-clause-added c =
    let entries = c.self.inside.by_life.entries in
    let there : is_some (lookup (at c.args.who) entries) ≡ true = sym c.contains_key.ensures ∙ c.if-contains_key.true in
    sym c.self.view_is ∙ there_stays c.args.who entries c.self.invariant there ∙ ap (with_life c.args.who) c.self.view_is

pub invariant_of-self-2 : goal.invariant_of-self-2
invariant_of-self-2 c =
    let entries = c.self.inside.by_life.entries in
    let none : lookup (at c.args.who) entries ≡ None = none_of _ (sym c.contains_key.ensures ∙ c.if-contains_key.false) in
    rw (c.in_ok-insert.ensures.entries, c.empty.ensures) (by_life_added c.args.who entries c.self.invariant none)

pub returns-clause-added : goal.returns-clause-added
returns-clause-added c =
    let entries = c.self.inside.by_life.entries in
    let none : lookup (at c.args.who) entries ≡ None = none_of _ (sym c.contains_key.ensures ∙ c.if-contains_key.false) in
    rw (c.in_ok-insert.ensures.entries, c.empty.ensures) (life_added c.args.who entries c.self.invariant.keyed none
    ∙ ap (with_life c.args.who) c.self.view_is)
