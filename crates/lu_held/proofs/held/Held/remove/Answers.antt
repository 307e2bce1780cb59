-- The lock leaves the cache, its name the order, and its mark and count what is kept beside them.
use Rattle.std.proofs.Common.{◌≡◌, ◌∙◌, ap, subst, sym, Some, None}
use Rattle.std.specs.Prelude.{is_some, AllPairs, vec_capacity}
use Rattle.std.specs.Map.{lookup, values_of}
use Rattle.lu_held.specs.Names.{same_name, IsEarlier}
use Rattle.lu_held.specs.Locks.{named}
use Rattle.lu_held.specs.Held.{is_held, without}
use Rattle.lu_held.proofs.Entries.{lookup_held, values_removed}
use Rattle.lu_held.proofs.Keeping.{the_state, kept_removed}
use Rattle.lu_held.proofs.Indexes.{marks_rise, none_removed, indexed_popped}
use Rattle.lu_held.proofs.held.Held.remove.Goals as goal

pub returns-in_default-clause-held : goal.returns-in_default-clause-held
returns-in_default-clause-held c =
    let name = named c.args.target c.args.cookie in
    let entries = c.self.inside.uses.entries in
    let absent : lookup (same_name name) entries ≡ None = sym c.pop.ensures.value ∙ c.in_default.is in
    ap is_some (sym absent) ∙ lookup_held name entries c.self.invariant.kept.keyed ∙ ap (λ state. is_held name state.locks) c.self.view_is

pub returns-in_default-clause-without : goal.returns-in_default-clause-without
returns-in_default-clause-without c =
    let name = named c.args.target c.args.cookie in
    rw c.pop.ensures.entries (ap (λ locks. the_state c.self.inside.unused locks)
    (values_removed name c.self.inside.uses.entries c.self.invariant.kept.keyed c.self.invariant.kept.once)
    ∙ ap (λ state. (the_state state.unused (without name state.locks))) c.self.view_is)

pub invariant_of-self : goal.invariant_of-self
invariant_of-self c =
    let name = named c.args.target c.args.cookie in
    let entries = c.self.inside.uses.entries in
    let absent : lookup (same_name name) entries ≡ None = sym c.pop.ensures.value ∙ c.in_default.is in
    let same : c.pop.new.self.entries ≡ entries = ap (λ h. h.entries) c.pop.ensures.entries ∙ none_removed name entries absent in
    record {
      kept = rw same c.self.invariant.kept;
      room = rw c.pop.ensures.entries c.self.invariant.room;
      indexed = rw same c.self.invariant.indexed;
    }

pub returns-in_default-clause-sound : goal.returns-in_default-clause-sound
returns-in_default-clause-sound c = (invariant_of-self c).kept.sound

pub remark-requires-clause-order : goal.remark-requires-clause-order
remark-requires-clause-order c = subst (AllPairs IsEarlier) (sym c.self.invariant.indexed.marked)
    (marks_rise (values_of c.self.inside.uses.entries) c.self.invariant.kept.sound)

pub invariant_of-self-2 : goal.invariant_of-self-2
invariant_of-self-2 c =
    let name = named c.args.target c.args.cookie in
    let names = c.self.inside.names.keys in
    let entries = c.self.inside.uses.entries in
    let marked = c.self.inside.marked in
    let there : lookup (same_name name) entries ≡ Some c.in-Some.held = sym c.pop.ensures.value ∙ c.in-Some.is in
    record {
      kept = rw (c.remove.ensures.keys, c.pop.ensures.entries) (kept_removed names name entries c.self.invariant.kept);
      room = rw c.pop.ensures.entries c.self.invariant.room;
      indexed = rw (c.pop.ensures.entries, c.remark.ensures.names, c.recounted-self-inside.ensures, c.is_free.ensures)
          (indexed_popped names name entries c.in-Some.held marked.items (vec_capacity marked) (vec_capacity c.remark.new.marked)
          c.self.inside.free c.self.invariant.kept there c.remark.ensures.larger c.self.invariant.indexed);
    }

pub returns-clause-held : goal.returns-clause-held
returns-clause-held c =
    let name = named c.args.target c.args.cookie in
    let entries = c.self.inside.uses.entries in
    let there : lookup (same_name name) entries ≡ Some c.in-Some.held = sym c.pop.ensures.value ∙ c.in-Some.is in
    ap is_some (sym there) ∙ lookup_held name entries c.self.invariant.kept.keyed ∙ ap (λ state. is_held name state.locks) c.self.view_is

pub returns-clause-without : goal.returns-clause-without
returns-clause-without c =
    let name = named c.args.target c.args.cookie in
    rw c.pop.ensures.entries (ap (λ locks. the_state c.self.inside.unused locks)
    (values_removed name c.self.inside.uses.entries c.self.invariant.kept.keyed c.self.invariant.kept.once)
    ∙ ap (λ state. (the_state state.unused (without name state.locks))) c.self.view_is)

pub returns-clause-sound : goal.returns-clause-sound
returns-clause-sound c = (invariant_of-self-2 c).kept.sound
