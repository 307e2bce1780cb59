-- What the cache's calls do to the held locks.
use Rattle.std.proofs.Common.{◌≡◌, ◌<◌, ◌-◌, take, ◌||◌, Bool, true, false, not, cond, List, [], ◌∷◌, length, filter, map, find, Option}
use Rattle.std.proofs.Common.{Some, None, refl, ap, subst, sym, ◌∙◌, arith}
use Rattle.std.specs.Prelude.{All, AllPairs, is_some}
use Rattle.std.specs.List.{list_any}
use Rattle.std.specs.Map.{keys_of, values_of, lookup, lookup_entry, remove_entry, set_value}
use Rattle.std.proofs.lemmas.List.Elements.{All-cons}
use Rattle.lu_held.specs.declared.names.LockName.{LockName}
use Rattle.lu_held.specs.declared.locks.HeldLock.{HeldLock}
use Rattle.lu_held.specs.declared.locks.Change.{Change}
use Rattle.lu_held.specs.declared.locks.Change.TheVariants.{Mark, Unmark, Pin, Unpin}
use Rattle.lu_held.specs.Names.{same_name}
use Rattle.lu_held.specs.Locks.{name_of, is_named, after}
use Rattle.lu_held.specs.Held.{is_held, changed, without}
use Rattle.lu_held.proofs.Lists.{some_is, rest_all, rest_pairs, first_pairs, filter_all, filter_none, turned}
use Rattle.lu_held.proofs.NameLaws.{Apart, others, same_self, same_is, all_others}
use Rattle.std.proofs.lemmas.Grind.{common_steps}
use Rattle.lru.specs.LruCache.{LruCache, put_entries}

abbrev pub Keyed : (LockName × HeldLock) → Type 0
Keyed entry = entry.0 ≡ name_of entry.1

-- looking up
pub lookup_find : (name : LockName) (entries : List (LockName × HeldLock)) → All Keyed entries → lookup (same_name name) entries
    ≡ find (is_named name) (values_of entries)
lookup_find name [] keyed = refl
lookup_find name ((key, held) ∷ entries) keyed =
    let here : key ≡ name_of held = keyed 0 (key, held) (omega arith) in
    rw (here, lookup_find name entries (rest_all Keyed (key, held) entries keyed)) refl

pub lookup_held : (name : LockName) (entries : List (LockName × HeldLock)) → All Keyed entries → is_some (lookup (same_name name) entries)
    ≡ is_held name (values_of entries)
lookup_held name [] keyed = refl
lookup_held name ((key, held) ∷ entries) keyed = by (same_name name key) refl
    (lookup_held name entries (rest_all Keyed (key, held) entries keyed)) where
      by : (same : Bool) → same_name name key ≡ same → is_some (lookup (same_name name) entries) ≡ is_held name (values_of entries)
          → is_some (cond same (Some held) (lookup (same_name name) entries)) ≡ (is_named name held || is_held name (values_of entries))
      by true e rest = let here : key ≡ name_of held = keyed 0 (key, held) (omega arith) in let at : is_named name held ≡ true =
          subst (λ k. same_name name k ≡ true) here e in rw at refl
      by false e rest = let here : key ≡ name_of held = keyed 0 (key, held) (omega arith) in let at : is_named name held ≡ false =
          subst (λ k. same_name name k ≡ false) here e in rw at rest

pub lookup_none : (name : LockName) (entries : List (LockName × HeldLock)) → lookup (same_name name) entries ≡ None
    → All (Apart name) (keys_of entries)
lookup_none name [] none = λ k d within. absurd (omega arith)
lookup_none name ((key, held) ∷ entries) none = by (same_name name key) refl none (lookup_none name entries) where
  by : (same : Bool) → same_name name key ≡ same → cond same (Some held) (lookup (same_name name) entries) ≡ None
      → (lookup (same_name name) entries ≡ None → All (Apart name) (keys_of entries)) → All (Apart name) (key ∷ keys_of entries)
  by true e h rest = absurd (cc)
  by false e h rest = All-cons (Apart name) key (keys_of entries) e (rest h)

pub keys_values : (entries : List (LockName × HeldLock)) → All Keyed entries → keys_of entries ≡ map name_of (values_of entries)
keys_values [] keyed = refl
keys_values ((key, held) ∷ entries) keyed =
    let here : key ≡ name_of held = keyed 0 (key, held) (omega arith) in
    rw (here, keys_values entries (rest_all Keyed (key, held) entries keyed)) refl

-- no lock of this name
pub none_named : (name : LockName) (entries : List (LockName × HeldLock)) → All Keyed entries → All (Apart name) (keys_of entries)
    → All (λ held. is_named name held ≡ false) (values_of entries)
none_named name [] keyed apart = λ k d within. absurd (omega arith)
none_named name ((key, held) ∷ entries) keyed apart =
    let here : key ≡ name_of held = keyed 0 (key, held) (omega arith) in
    let off : is_named name held ≡ false = subst (λ k. same_name name k ≡ false) here (apart 0 key (omega arith)) in
    All-cons (λ other. is_named name other ≡ false) held (values_of entries) off
    (none_named name entries (rest_all Keyed (key, held) entries keyed) (rest_all (Apart name) key (keys_of entries) apart))

pub changed_none : (name : LockName) (change : Change) (locks : List HeldLock) → All (λ held. is_named name held ≡ false) locks
    → changed name change locks ≡ locks
changed_none name change [] none = refl
changed_none name change (held ∷ locks) none =
    let off : is_named name held ≡ false = none 0 held (omega arith) in
    rw off (ap (λ more. held ∷ more) (changed_none name change locks (rest_all (λ other. is_named name other ≡ false) held locks none)))

pub name_after : (change : Change) (held : HeldLock) → name_of (after change held) ≡ name_of held
name_after Mark held = refl
name_after Unmark held = refl
name_after Pin held = refl
name_after Unpin held = refl

-- writing one lock
pub values_set : (name : LockName) (change : Change) (entries : List (LockName × HeldLock)) (held : HeldLock) → All Keyed entries
    → AllPairs Apart (keys_of entries) → lookup (same_name name) entries ≡ Some held
    → values_of (set_value (same_name name) entries (after change held)) ≡ changed name change (values_of entries)
values_set name change [] held keyed once there = absurd (cc)
values_set name change ((key, first) ∷ entries) held keyed once there =
    by (same_name name key) refl there (values_set name change entries held (rest_all Keyed (key, first) entries keyed)
    (rest_pairs Apart key (keys_of entries) once)) where
      by : (same : Bool) → same_name name key ≡ same → cond same (Some first) (lookup (same_name name) entries) ≡ Some held
          → (lookup (same_name name) entries ≡ Some held → values_of (set_value (same_name name) entries (after change held))
          ≡ changed name change (values_of entries))
          → values_of (cond same ((key, after change held) ∷ entries) ((key, first) ∷ set_value (same_name name) entries (after change held)))
          ≡ cond (is_named name first) (after change first) first ∷ changed name change (values_of entries)
      by true e h rest =
          let here : key ≡ name_of first = keyed 0 (key, first) (omega arith) in
          let at : is_named name first ≡ true = subst (λ k. same_name name k ≡ true) here e in
          let found : first ≡ held = some_is first held h in
          let same : name ≡ key = same_is name key e in
          let apart : All (Apart name) (keys_of entries) = subst (λ k. All (Apart k) (keys_of entries)) (sym same)
          (first_pairs Apart key (keys_of entries) once) in
          let still : changed name change (values_of entries) ≡ values_of entries =
          changed_none name change (values_of entries) (none_named name entries (rest_all Keyed (key, first) entries keyed) apart) in
          rw (at, still) (ap (λ l. after change l ∷ values_of entries) (sym found))
      by false e h rest =
          let here : key ≡ name_of first = keyed 0 (key, first) (omega arith) in
          let off : is_named name first ≡ false = subst (λ k. same_name name k ≡ false) here e in
          rw off (ap (λ more. first ∷ more) (rest h))

pub keyed_set : (name : LockName) (change : Change) (entries : List (LockName × HeldLock)) (held : HeldLock) → All Keyed entries
    → lookup (same_name name) entries ≡ Some held → All Keyed (set_value (same_name name) entries (after change held))
keyed_set name change [] held keyed there = absurd (cc)
keyed_set name change ((key, first) ∷ entries) held keyed there =
    by (same_name name key) there (keyed_set name change entries held (rest_all Keyed (key, first) entries keyed)) where
      by : (same : Bool) → cond same (Some first) (lookup (same_name name) entries) ≡ Some held
          → (lookup (same_name name) entries ≡ Some held → All Keyed (set_value (same_name name) entries (after change held)))
          → All Keyed (cond same ((key, after change held) ∷ entries) ((key, first) ∷ set_value (same_name name) entries (after change held)))
      by true h rest =
          let here : key ≡ name_of first = keyed 0 (key, first) (omega arith) in
          let found : first ≡ held = some_is first held h in
          All-cons Keyed (key, after change held) entries (here ∙ ap name_of found ∙ sym (name_after change held))
          (rest_all Keyed (key, first) entries keyed)
      by false h rest = All-cons Keyed (key, first) (set_value (same_name name) entries (after change held))
          (keyed 0 (key, first) (omega arith)) (rest h)

-- taking one lock out
pub keys_removed : (name : LockName) (entries : List (LockName × HeldLock)) → AllPairs Apart (keys_of entries)
    → keys_of (remove_entry (same_name name) entries) ≡ filter (others name) (keys_of entries)
keys_removed name [] once = refl
keys_removed name ((key, first) ∷ entries) once = by (same_name name key) refl
    (keys_removed name entries (rest_pairs Apart key (keys_of entries) once)) where
      by : (same : Bool) → same_name name key ≡ same → keys_of (remove_entry (same_name name) entries) ≡ filter (others name) (keys_of entries)
          → keys_of (cond same entries ((key, first) ∷ remove_entry (same_name name) entries))
          ≡ cond (not same) (key ∷ filter (others name) (keys_of entries)) (filter (others name) (keys_of entries))
      by true e rest =
          let same : name ≡ key = same_is name key e in
          let apart : All (Apart name) (keys_of entries) = subst (λ k. All (Apart k) (keys_of entries)) (sym same)
          (first_pairs Apart key (keys_of entries) once) in
          sym (all_others name (keys_of entries) apart)
      by false e rest = ap (λ more. key ∷ more) rest

pub values_removed : (name : LockName) (entries : List (LockName × HeldLock)) → All Keyed entries → AllPairs Apart (keys_of entries)
    → values_of (remove_entry (same_name name) entries) ≡ without name (values_of entries)
values_removed name [] keyed once = refl
values_removed name ((key, first) ∷ entries) keyed once = by (same_name name key) refl
    (values_removed name entries (rest_all Keyed (key, first) entries keyed) (rest_pairs Apart key (keys_of entries) once)) where
      by : (same : Bool) → same_name name key ≡ same → values_of (remove_entry (same_name name) entries) ≡ without name (values_of entries)
          → values_of (cond same entries ((key, first) ∷ remove_entry (same_name name) entries))
          ≡ cond (not (is_named name first)) (first ∷ without name (values_of entries)) (without name (values_of entries))
      by true e rest =
          let here : key ≡ name_of first = keyed 0 (key, first) (omega arith) in
          let at : is_named name first ≡ true = subst (λ k. same_name name k ≡ true) here e in
          let same : name ≡ key = same_is name key e in
          let apart : All (Apart name) (keys_of entries) = subst (λ k. All (Apart k) (keys_of entries)) (sym same)
          (first_pairs Apart key (keys_of entries) once) in
          let none = none_named name entries (rest_all Keyed (key, first) entries keyed) apart in
          rw at (sym (filter_all (λ held. not (is_named name held)) (values_of entries) (turned (is_named name) (values_of entries) none)))
      by false e rest =
          let here : key ≡ name_of first = keyed 0 (key, first) (omega arith) in
          let off : is_named name first ≡ false = subst (λ k. same_name name k ≡ false) here e in
          rw off (ap (λ more. first ∷ more) rest)

pub keyed_removed : (name : LockName) (entries : List (LockName × HeldLock)) → All Keyed entries
    → All Keyed (remove_entry (same_name name) entries)
keyed_removed name [] keyed = keyed
keyed_removed name ((key, first) ∷ entries) keyed = by (same_name name key)
    (keyed_removed name entries (rest_all Keyed (key, first) entries keyed)) where
      by : (same : Bool) → All Keyed (remove_entry (same_name name) entries)
          → All Keyed (cond same entries ((key, first) ∷ remove_entry (same_name name) entries))
      by true rest = rest_all Keyed (key, first) entries keyed
      by false rest = All-cons Keyed (key, first) (remove_entry (same_name name) entries) (keyed 0 (key, first) (omega arith)) rest

-- the entry of a name
pub record IsEntryOf (name : LockName) (entries : List (LockName × HeldLock)) (entry : LockName × HeldLock) : Type 0 where
  pub key : entry.0 ≡ name
  pub keyed : Keyed entry
  pub there : list_any (same_name name) (keys_of entries) ≡ true
  pub only : filter (is_named name) (values_of entries) ≡ entry.1 ∷ []

pub entry_of : (name : LockName) (entries : List (LockName × HeldLock)) (entry : LockName × HeldLock) → All Keyed entries
    → AllPairs Apart (keys_of entries) → lookup_entry (same_name name) entries ≡ Some entry → IsEntryOf name entries entry
entry_of name [] entry keyed once found = absurd (cc)
entry_of name ((key, first) ∷ entries) entry keyed once found =
    by (same_name name key) refl found (entry_of name entries entry (rest_all Keyed (key, first) entries keyed)
    (rest_pairs Apart key (keys_of entries) once)) where
      by : (same : Bool) → same_name name key ≡ same → cond same (Some (key, first)) (lookup_entry (same_name name) entries) ≡ Some entry
          → (lookup_entry (same_name name) entries ≡ Some entry → IsEntryOf name entries entry) → IsEntryOf name ((key, first) ∷ entries) entry
      by true e h rest =
          let here : key ≡ name_of first = keyed 0 (key, first) (omega arith) in
          let at : is_named name first ≡ true = subst (λ k. same_name name k ≡ true) here e in
          let same : name ≡ key = same_is name key e in
          let apart : All (Apart name) (keys_of entries) = subst (λ k. All (Apart k) (keys_of entries)) (sym same)
          (first_pairs Apart key (keys_of entries) once) in
          let none = none_named name entries (rest_all Keyed (key, first) entries keyed) apart in
          let is : (key, first) ≡ entry = some_is (key, first) entry h in
          subst (IsEntryOf name ((key, first) ∷ entries)) is (record {
            key = sym same;
            keyed = here;
            there = rw e refl;
            only = rw at (ap (λ more. first ∷ more) (filter_none (is_named name) (values_of entries) none));
          })
      by false e h rest =
          let here : key ≡ name_of first = keyed 0 (key, first) (omega arith) in
          let off : is_named name first ≡ false = subst (λ k. same_name name k ≡ false) here e in
          let on = rest h in
          record {
            key = on.key;
            keyed = on.keyed;
            there = rw e on.there;
            only = rw off on.only;
          }

pub no_entry : (name : LockName) (entries : List (LockName × HeldLock)) → lookup_entry (same_name name) entries ≡ None
    → All (Apart name) (keys_of entries)
no_entry name [] none = λ k d within. absurd (omega arith)
no_entry name ((key, held) ∷ entries) none = by (same_name name key) refl none (no_entry name entries) where
  by : (same : Bool) → same_name name key ≡ same → cond same (Some (key, held)) (lookup_entry (same_name name) entries) ≡ None
      → (lookup_entry (same_name name) entries ≡ None → All (Apart name) (keys_of entries)) → All (Apart name) (key ∷ keys_of entries)
  by true e h rest = absurd (cc)
  by false e h rest = All-cons (Apart name) key (keys_of entries) e (rest h)

-- a new lock, put into a cache that isn't full
lookup_entry-none : (name : LockName) (entries : List (LockName × HeldLock)) → lookup (same_name name) entries ≡ None
    → lookup_entry (same_name name) entries ≡ None
lookup_entry-none name [] none = refl
lookup_entry-none name (entry ∷ entries) none = grind (arith, common_steps, lookup_entry-none name entries)

pub put_new : (name : LockName) (held : HeldLock) (uses : LruCache LockName HeldLock) → length uses.entries < uses.cap
    → lookup (same_name name) uses.entries ≡ None → put_entries same_name uses name held ≡ (name, held) ∷ uses.entries
put_new name held uses room none =
    let all : take (uses.cap - 1) uses.entries ≡ uses.entries = grind (arith, common_steps) in
    rw (lookup_entry-none name uses.entries none, all) refl

pub none_of : (found : Option HeldLock) → is_some found ≡ false → found ≡ None
none_of None e = refl
none_of (Some held) e = absurd (cc)

pub removed_first : (name : LockName) (held : HeldLock) (entries : List (LockName × HeldLock))
    → remove_entry (same_name name) ((name, held) ∷ entries) ≡ entries
removed_first name held entries = rw (same_self name) refl
