-- A key that isn't there gets its place, and its life counts one more; where there is no memory for it the count goes back.
use Rattle.std.proofs.Common.{◌≡◌, ◌∙◌, ◌+◌, ◌-◌, true, false, not, cond, None, length, filter, ap, sym, refl, arith, rules, tests}
use Rattle.std.specs.Prelude.{is_some}
use Rattle.std.specs.Map.{lookup}
use Rattle.std.specs.BTreeMap.{insert_entry}
use Rattle.std.proofs.lemmas.Bool.Decides.{nat_tests}
use Rattle.lu_replay.specs.Handed.{same_life, has, with_item, count_at, IsCounted}
use Rattle.lu_replay.proofs.Items.{by_key, at_key, found, put, none_of, restored, taken}
use Rattle.lu_replay.proofs.handed.Handed.insert.Goals as goal

pub returns-then-contains_key-clause-new : goal.returns-then-contains_key-clause-new
returns-then-contains_key-clause-new g c =
    let there : is_some (lookup (at_key c.args.key) c.self.inside.items.entries) ≡ true = sym c.contains_key.ensures
    ∙ c.if-contains_key.true in
    let has : has c.args.key c.args.self.now ≡ true = ap (has c.args.key) (sym c.self.view_is)
    ∙ sym (found c.args.key c.self.inside.items.entries) ∙ there in
    rw has refl

pub invariant_of-self-then-is_err : goal.invariant_of-self-then-is_err
invariant_of-self-then-is_err g c =
    let count : c.count-count.result ≡ count_at c.self.inside.counts.entries c.args.key.who = c.count-count.ensures.count
    ∙ ap (λ items. length (filter (λ item. same_life item.0.who c.args.key.who) items)) (sym c.self.view_is)
    ∙ sym (c.self.invariant c.args.key.who) in
    let kept : c.insert-2.new.self.entries ≡ c.self.inside.items.entries = search (rules, tests) in
    rw kept (restored c.args.key.who c.count-count.result c.self.inside.items.entries c.self.inside.counts c.insert.new.self
    c.lower.new.counts count c.in_ok-insert.ensures.updates c.lower.ensures c.self.invariant)

pub invariant_of-self-else-is_err : goal.invariant_of-self-else-is_err
invariant_of-self-else-is_err g c =
    let none : lookup (at_key c.args.key) c.self.inside.items.entries ≡ None =
    none_of _ (sym c.contains_key.ensures ∙ c.if-contains_key.false) in
    let count : c.count-count.result ≡ count_at c.self.inside.counts.entries c.args.key.who = c.count-count.ensures.count
    ∙ ap (λ items. length (filter (λ item. same_life item.0.who c.args.key.who) items)) (sym c.self.view_is)
    ∙ sym (c.self.invariant c.args.key.who) in
    let inserted : c.insert-2.new.self.entries ≡ insert_entry by_key c.self.inside.items.entries c.args.key c.args.item =
    search (rules, tests) in
    let added : c.insert-2.new.self.entries ≡ with_item c.args.key c.args.item c.self.inside.items.entries = inserted
    ∙ put c.args.key c.args.item c.self.inside.items.entries none in
    rw added (taken c.args.key c.args.item c.count-count.result c.self.inside.items.entries c.self.inside.counts c.insert.new.self count
    c.in_ok-insert.ensures.updates c.self.invariant)

pub returns-clause-new : goal.returns-clause-new
returns-clause-new g c =
    let there : is_some (lookup (at_key c.args.key) c.self.inside.items.entries) ≡ false = sym c.contains_key.ensures
    ∙ c.if-contains_key.false in
    let has : has c.args.key c.args.self.now ≡ false = ap (has c.args.key) (sym c.self.view_is)
    ∙ sym (found c.args.key c.self.inside.items.entries) ∙ there in
    rw has refl

pub returns-clause-added : goal.returns-clause-added
returns-clause-added g c =
    let none : lookup (at_key c.args.key) c.self.inside.items.entries ≡ None =
    none_of _ (sym c.contains_key.ensures ∙ c.if-contains_key.false) in
    let inserted : c.insert-2.new.self.entries ≡ insert_entry by_key c.self.inside.items.entries c.args.key c.args.item =
    search (rules, tests) in
    inserted ∙ put c.args.key c.args.item c.self.inside.items.entries none ∙ ap (with_item c.args.key c.args.item) c.self.view_is
