-- The lock is written back under its name, or none of this name is there.
use Rattle.std.proofs.Common.{subst, length, ◌≤◌, arith, ◌≡◌, ◌∙◌, Some, None, ap, sym, rules}
use Rattle.std.specs.Prelude.{is_some, AllPairs, vec_capacity}
use Rattle.std.specs.Map.{lookup, set_value, values_of}
use Rattle.lu_held.specs.Names.{same_name, IsEarlier}
use Rattle.lu_held.specs.Locks.{after}
use Rattle.lu_held.specs.Kept.{IsKept}
use Rattle.lu_held.specs.Held.{is_held, changed}
use Rattle.lu_held.proofs.Entries.{lookup_held, lookup_none, none_named, changed_none, values_set}
use Rattle.lu_held.proofs.Indexes.{marks_rise, mark_fits, count_fits, length_values, found_value, indexed_set}
use Rattle.lu_held.proofs.Keeping.{the_state, kept_set}
use Rattle.lu_held.proofs.held.Held.change.Goals as goal

pub returns-in_default-clause-held : goal.returns-in_default-clause-held
returns-in_default-clause-held c =
    let entries = c.self.inside.uses.entries in
    let absent : lookup (same_name c.args.name) entries ≡ None = search rules in
    ap is_some (sym absent) ∙ lookup_held c.args.name entries c.self.invariant.kept.keyed
    ∙ ap (λ state. is_held c.args.name state.locks) c.self.view_is

pub returns-in_default-clause-changed : goal.returns-in_default-clause-changed
returns-in_default-clause-changed c =
    let entries = c.self.inside.uses.entries in
    let absent : lookup (same_name c.args.name) entries ≡ None = search rules in
    let none = none_named c.args.name entries c.self.invariant.kept.keyed (lookup_none c.args.name entries absent) in
    let kept : c.write.new.uses.entries ≡ entries = search rules in
    ap (λ es. the_state c.self.inside.unused (values_of es)) kept
    ∙ ap (λ locks. the_state c.self.inside.unused locks) (sym (changed_none c.args.name c.args.change _ none))
    ∙ ap (λ state. the_state state.unused (changed c.args.name c.args.change state.locks)) c.self.view_is

pub remark-requires-clause-order : goal.remark-requires-clause-order
remark-requires-clause-order c = subst (AllPairs IsEarlier) (sym c.self.invariant.indexed.marked)
    (marks_rise (values_of c.self.inside.uses.entries) c.self.invariant.kept.sound)

pub remark-requires-clause-room : goal.remark-requires-clause-room
remark-requires-clause-room c = λ was now.
    mark_fits c.args.name (values_of c.self.inside.uses.entries) c.in-Some.was c.self.inside.marked.items
    (vec_capacity c.self.inside.marked) c.self.inside.free c.self.invariant.kept.sound
    (found_value c.self.inside.names.keys c.args.name c.self.inside.uses.entries c.in-Some.was c.self.invariant.kept
    (sym c.write.ensures.found ∙ c.in-Some.is)) c.self.invariant.indexed was

pub recounted-self-inside-requires : goal.recounted-self-inside-requires
recounted-self-inside-requires c =
    let entries = c.self.inside.uses.entries in
    let most : c.self.inside.free ≤ length (values_of entries) =
    count_fits (values_of entries) c.self.inside.marked.items (vec_capacity c.self.inside.marked) c.self.inside.free
    c.self.invariant.indexed in
    let same : length (values_of entries) ≡ length entries = length_values entries in
    let len : c.len.result ≡ length entries = c.len.ensures.len in
    record { room = λ was now. omega arith }

pub invariant_of-self-2 : goal.invariant_of-self-2
invariant_of-self-2 c =
    let names = c.self.inside.names.keys in
    let entries = c.self.inside.uses.entries in
    let marked = c.self.inside.marked in
    let there : lookup (same_name c.args.name) entries ≡ Some c.in-Some.was = sym c.write.ensures.found ∙ c.in-Some.is in
    let written : c.write.new.uses.entries ≡ set_value (same_name c.args.name) entries (after c.args.change c.in-Some.was) = search rules in
    record {
      kept = subst (IsKept names) (sym written) (kept_set names c.args.name c.args.change entries c.in-Some.was c.self.invariant.kept
          there);
      room = c.write.ensures.room ∙ c.self.invariant.room;
      indexed = rw (
        written,
        c.remark.ensures.names,
        c.recounted-self-inside.ensures,
        c.is_free.ensures,
        c.is_free-2.ensures,
        c.after-now.ensures,
      )
          (indexed_set names c.args.name c.args.change entries c.in-Some.was marked.items (vec_capacity marked)
          (vec_capacity c.remark.new.marked) c.self.inside.free c.self.invariant.kept there c.remark.ensures.larger
          c.self.invariant.indexed);
    }

pub returns-clause-held : goal.returns-clause-held
returns-clause-held c =
    let entries = c.self.inside.uses.entries in
    let there : lookup (same_name c.args.name) entries ≡ Some c.in-Some.was = search rules in
    ap is_some (sym there) ∙ lookup_held c.args.name entries c.self.invariant.kept.keyed
    ∙ ap (λ state. is_held c.args.name state.locks) c.self.view_is

pub returns-clause-changed : goal.returns-clause-changed
returns-clause-changed c =
    let entries = c.self.inside.uses.entries in
    let there : lookup (same_name c.args.name) entries ≡ Some c.in-Some.was = sym c.write.ensures.found ∙ c.in-Some.is in
    let written : c.write.new.uses.entries ≡ set_value (same_name c.args.name) entries (after c.args.change c.in-Some.was) = search rules in
    ap (λ es. the_state c.self.inside.unused (values_of es)) written
    ∙ ap (λ locks. the_state c.self.inside.unused locks) (values_set c.args.name c.args.change entries c.in-Some.was
    c.self.invariant.kept.keyed c.self.invariant.kept.once there)
    ∙ ap (λ state. the_state state.unused (changed c.args.name c.args.change state.locks)) c.self.view_is

pub returns-clause-sound : goal.returns-clause-sound
returns-clause-sound c = (invariant_of-self-2 c).kept.sound
