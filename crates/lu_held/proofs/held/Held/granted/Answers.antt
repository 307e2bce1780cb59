-- The lock stands in front under its name; where the name finds no room, the lock leaves again.
use Rattle.std.proofs.Common.{refl, length, ◌+◌, ◌^◌, ◌≤◌, ◌<◌, arith, ◌≡◌, ◌∙◌, ◌∷◌, None, ap, rules}
use Rattle.std.specs.Prelude.{vec_capacity}
use Rattle.std.specs.BTreeSet.{insert_key}
use Rattle.std.specs.Map.{lookup, values_of, remove_entry}
use Rattle.lu_held.specs.declared.locks.HeldLock.{HeldLock}
use Rattle.lu_held.specs.Names.{same_name}
use Rattle.lu_held.specs.Locks.{name_of}
use Rattle.lu_held.specs.Held.{granted, is_held}
use Rattle.lu_held.proofs.NameLaws.{by_name}
use Rattle.lu_held.proofs.Entries.{lookup_held, none_of, removed_first}
use Rattle.lu_held.proofs.Indexes.{count_fits, length_values, indexed_granted, indexed_grown}
use Rattle.lu_held.proofs.Keeping.{the_state, kept_granted}
use Rattle.lu_held.proofs.held.Held.granted.Goals as goal

pub put_first-requires : goal.put_first-requires
put_first-requires c =
    let name = name_of (granted c.args.target c.args.lock) in
    let entries = c.self.inside.uses.entries in
    let absent : lookup (same_name name) entries ≡ None = none_of _
    (lookup_held name entries c.self.invariant.kept.keyed ∙ ap (λ state. is_held name state.locks) c.self.view_is ∙ c.requires.absent)
    in
    record { absent = rw c.name-name.ensures absent; room = c.self.invariant.room }

pub invariant_of-self-then-is_err : goal.invariant_of-self-then-is_err
invariant_of-self-then-is_err c =
    let held : HeldLock = granted c.args.target c.args.lock in
    let entries = c.self.inside.uses.entries in
    let popped : c.pop.new.self.entries ≡ entries = ap (λ h. h.entries) c.pop.ensures.entries
    ∙ ap (remove_entry (same_name c.name-name.result)) c.in_ok-put_first.ensures.first ∙ removed_first c.name-name.result held entries
    in
    let names : c.insert.new.self.keys ≡ c.self.inside.names.keys = search rules in
    record {
      kept = rw (popped, names) c.self.invariant.kept;
      room = rw c.pop.ensures.entries c.in_ok-put_first.ensures.room;
      indexed = rw popped (indexed_grown (values_of entries) c.self.inside.marked.items c.make_room.new.marked.items
          (vec_capacity c.self.inside.marked) (vec_capacity c.make_room.new.marked) c.self.inside.free c.make_room.ensures.same
          c.make_room.ensures.larger c.self.invariant.indexed);
    }

pub invariant_of-self-2 : goal.invariant_of-self-2
invariant_of-self-2 c =
    let held : HeldLock = granted c.args.target c.args.lock in
    let entries = c.self.inside.uses.entries in
    let absent : lookup (same_name (name_of held)) entries ≡ None =
    none_of _ (lookup_held (name_of held) entries c.self.invariant.kept.keyed
    ∙ ap (λ state. is_held (name_of held) state.locks) c.self.view_is ∙ c.requires.absent) in
    let put : c.put_first.new.uses.entries ≡ (name_of held, held) ∷ entries = rw (← c.name-name.ensures) c.in_ok-put_first.ensures.first in
    let names : c.insert.new.self.keys ≡ insert_key by_name c.self.inside.names.keys c.name-name.result = search rules in
    let same : length (values_of entries) ≡ length entries = length_values entries in
    let len : c.len.result ≡ length entries = c.len.ensures.len in
    let room : c.len.result + 1 ≤ vec_capacity c.make_room.new.marked = c.in_ok-make_room.ensures.room in
    record {
      kept = rw (put, names, c.name-name.ensures) (kept_granted c.self.inside.names.keys held entries c.self.invariant.kept absent);
      room = c.in_ok-put_first.ensures.room;
      indexed = rw (put, c.make_room.ensures.same) (indexed_granted held (values_of entries) c.self.inside.marked.items
          (vec_capacity c.self.inside.marked) (vec_capacity c.make_room.new.marked) c.self.inside.free refl refl (omega arith)
          c.self.invariant.indexed);
    }

pub invariant_of-self : goal.invariant_of-self
invariant_of-self c = record {
  kept = c.self.invariant.kept;
  room = c.self.invariant.room;
  indexed = indexed_grown (values_of c.self.inside.uses.entries) c.self.inside.marked.items c.make_room.new.marked.items
      (vec_capacity c.self.inside.marked) (vec_capacity c.make_room.new.marked) c.self.inside.free c.make_room.ensures.same
      c.make_room.ensures.larger c.self.invariant.indexed;
}

pub invariant_of-self-in_err-put_first : goal.invariant_of-self-in_err-put_first
invariant_of-self-in_err-put_first c =
    let entries = c.self.inside.uses.entries in
    let same : c.put_first.new.uses.entries ≡ entries = c.in_err-put_first.ensures.kept in
    record {
      kept = rw same c.self.invariant.kept;
      room = c.in_err-put_first.ensures.room;
      indexed = rw same (indexed_grown (values_of entries) c.self.inside.marked.items c.make_room.new.marked.items
          (vec_capacity c.self.inside.marked) (vec_capacity c.make_room.new.marked) c.self.inside.free c.make_room.ensures.same
          c.make_room.ensures.larger c.self.invariant.indexed);
    }

pub overflow_add-self : goal.overflow_add-self
overflow_add-self c =
    let entries = c.self.inside.uses.entries in
    let most : c.self.inside.free ≤ length (values_of entries) =
    count_fits (values_of entries) c.self.inside.marked.items (vec_capacity c.self.inside.marked) c.self.inside.free
    c.self.invariant.indexed in
    let same : length (values_of entries) ≡ length entries = length_values entries in
    let len : c.len.result ≡ length entries = c.len.ensures.len in
    let few : c.len.result < 2 ^ 63 = c.len.ensures.fits in
    omega arith

pub returns-then-is_err-clause-kept : goal.returns-then-is_err-clause-kept
returns-then-is_err-clause-kept c =
    let held : HeldLock = granted c.args.target c.args.lock in
    let entries = c.self.inside.uses.entries in
    let popped : c.pop.new.self.entries ≡ entries = ap (λ h. h.entries) c.pop.ensures.entries
    ∙ ap (remove_entry (same_name c.name-name.result)) c.in_ok-put_first.ensures.first ∙ removed_first c.name-name.result held entries
    in
    ap (λ es. the_state c.self.inside.unused (values_of es)) popped ∙ c.self.view_is

pub returns-then-is_err-clause-sound : goal.returns-then-is_err-clause-sound
returns-then-is_err-clause-sound c = (invariant_of-self-then-is_err c).kept.sound

pub returns-clause-added : goal.returns-clause-added
returns-clause-added c =
    let held : HeldLock = granted c.args.target c.args.lock in
    ap (λ es. the_state c.self.inside.unused (values_of es)) c.in_ok-put_first.ensures.first
    ∙ ap (λ state. the_state state.unused (held ∷ state.locks)) c.self.view_is

pub returns-clause-sound : goal.returns-clause-sound
returns-clause-sound c = (invariant_of-self-2 c).kept.sound
