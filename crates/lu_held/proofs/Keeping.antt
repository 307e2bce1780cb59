-- The order of names, and the names under which locks stand, last through each call.
use Rattle.std.proofs.Common.{◌≡◌, ℕ, Bool, true, false, not, List, [], ◌∷◌, filter, map, Option, Some, None, refl, ap, subst, sym, ◌∙◌}
use Rattle.std.proofs.Common.{arith}
use Rattle.std.specs.Prelude.{All, AllPairs}
use Rattle.std.specs.Option.{option_map_or}
use Rattle.std.specs.Map.{keys_of, values_of, lookup, lookup_entry, remove_entry, set_value}
use Rattle.std.proofs.lemmas.Map.{keys-set_value}
use Rattle.std.proofs.lemmas.List.Kept.{AllPairs-cons, AllPairs-filter}
use Rattle.std.proofs.lemmas.List.Elements.{All-cons}
use Rattle.lru.specs.LruCache.{promoted}
use Rattle.lu_held.specs.declared.names.LockName.{LockName}
use Rattle.lu_held.specs.declared.locks.HeldLock.{HeldLock}
use Rattle.lu_held.specs.declared.locks.Change.{Change}
use Rattle.lu_held.specs.Names.{same_name, sorted, with_name}
use Rattle.lu_held.specs.Locks.{name_of, is_named, after}
use Rattle.lu_held.specs.Held.{HeldState, used}
use Rattle.lu_held.specs.Kept.{IsKept}
use Rattle.lu_held.proofs.Lists.{rest_all, rest_pairs, first_pairs, filter_all, filter_none, filter_passes, turned}
use Rattle.lu_held.proofs.NameLaws.{Apart, others, by_name, key_put, key_removed, apart_sorted, all_sorted, sorted_used, sorted_without}
use Rattle.std.specs.Ordering.{is_eq}
use Rattle.std.specs.Set.{remove_key}
use Rattle.std.specs.BTreeSet.{insert_key}
use Rattle.lu_held.proofs.Entries.{Keyed, keys_values, keyed_set, keys_removed, keyed_removed, values_removed, lookup_none, none_named}
use Rattle.lu_held.proofs.Entries.{IsEntryOf, entry_of, no_entry}

named_apart : (one : HeldLock) (locks : List HeldLock) → All (Apart (name_of one)) (map name_of locks)
    → All (λ other. is_named (name_of one) other ≡ false) locks
named_apart one [] apart = λ k d within. absurd (omega arith)
named_apart one (held ∷ locks) apart = All-cons (λ other. is_named (name_of one) other ≡ false) held locks
    (apart 0 (name_of held) (omega arith)) (named_apart one locks (rest_all (Apart (name_of one)) (name_of held) (map name_of locks) apart))

names_apart : (locks : List HeldLock) → AllPairs Apart (map name_of locks)
    → AllPairs (λ one other. is_named (name_of one) other ≡ false) locks
names_apart [] apart = λ i j d less within. absurd (omega arith)
names_apart (held ∷ locks) apart = AllPairs-cons (λ one other. is_named (name_of one) other ≡ false) held locks
    (named_apart held locks (first_pairs Apart (name_of held) (map name_of locks) apart))
    (names_apart locks (rest_pairs Apart (name_of held) (map name_of locks) apart))

-- no lock is held twice, then
pub kept_of : (names : List LockName) (entries : List (LockName × HeldLock)) → All Keyed entries → AllPairs Apart (keys_of entries) → names
    ≡ sorted (keys_of entries) → IsKept names entries
kept_of names entries keyed once index = record {
  keyed = keyed;
  once = once;
  index = index;
  sound = names_apart (values_of entries) (subst (AllPairs Apart) (keys_values entries keyed) once);
}

pub kept_set : (names : List LockName) (name : LockName) (change : Change) (entries : List (LockName × HeldLock)) (held : HeldLock)
    → IsKept names entries → lookup (same_name name) entries ≡ Some held
    → IsKept names (set_value (same_name name) entries (after change held))
kept_set names name change entries held kept there =
    let keys : keys_of (set_value (same_name name) entries (after change held)) ≡ keys_of entries =
    keys-set_value (same_name name) entries (after change held) in
    kept_of names (set_value (same_name name) entries (after change held)) (keyed_set name change entries held kept.keyed there)
    (subst (AllPairs Apart) (sym keys) kept.once) (kept.index ∙ ap sorted (sym keys))

pub kept_removed : (names : List LockName) (name : LockName) (entries : List (LockName × HeldLock)) → IsKept names entries
    → IsKept (remove_key (λ other. is_eq (by_name name other)) names) (remove_entry (same_name name) entries)
kept_removed names name entries kept =
    let keys : keys_of (remove_entry (same_name name) entries) ≡ filter (others name) (keys_of entries) =
    keys_removed name entries kept.once in
    let apart : AllPairs Apart names = subst (AllPairs Apart) (sym kept.index) (apart_sorted (keys_of entries) kept.once) in
    kept_of (remove_key (λ other. is_eq (by_name name other)) names) (remove_entry (same_name name) entries)
    (keyed_removed name entries kept.keyed)
    (subst (AllPairs Apart) (sym keys) (AllPairs-filter Apart (others name) (keys_of entries) kept.once))
    (key_removed name names apart ∙ ap (filter (others name)) kept.index ∙ sorted_without name (keys_of entries) kept.once
    ∙ ap sorted (sym keys))

apart_passes : (name : LockName) (names : List LockName) → All (λ other. others name other ≡ true) names → All (Apart name) names
apart_passes name [] passes = λ k d within. absurd (omega arith)
apart_passes name (first ∷ names) passes = All-cons (Apart name) first names (off (same_name name first) (passes 0 first (omega arith)))
    (apart_passes name names (rest_all (λ other. others name other ≡ true) first names passes)) where
      off : (same : Bool) → not same ≡ true → same ≡ false
      off true e = absurd (cc)
      off false e = refl

used_key : (name : LockName) (entries : List (LockName × HeldLock)) (entry : LockName × HeldLock) → AllPairs Apart (keys_of entries)
    → IsEntryOf name entries entry → keys_of (entry ∷ remove_entry (same_name name) entries) ≡ name ∷ filter (others name) (keys_of entries)
used_key name entries entry once is = rw (is.key, keys_removed name entries once) refl

pub kept_promoted : (names : List LockName) (name : LockName) (entries : List (LockName × HeldLock)) → IsKept names entries
    → IsKept names (promoted (same_name name) entries)
kept_promoted names name entries kept = by (lookup_entry (same_name name) entries) refl where
  by : (found : Option (LockName × HeldLock)) → lookup_entry (same_name name) entries ≡ found
      → IsKept names (option_map_or (λ e. e ∷ remove_entry (same_name name) entries) found entries)
  by None e = kept
  by (Some entry) e =
      let is : IsEntryOf name entries entry = entry_of name entries entry kept.keyed kept.once e in
      let keys = used_key name entries entry kept.once is in
      let apart : All (Apart name) (filter (others name) (keys_of entries)) =
      apart_passes name (filter (others name) (keys_of entries)) (filter_passes (others name) (keys_of entries)) in
      kept_of names (entry ∷ remove_entry (same_name name) entries)
      (All-cons Keyed entry (remove_entry (same_name name) entries) is.keyed (keyed_removed name entries kept.keyed))
      (subst (AllPairs Apart) (sym keys) (AllPairs-cons Apart name (filter (others name) (keys_of entries)) apart
      (AllPairs-filter Apart (others name) (keys_of entries) kept.once)))
      (kept.index ∙ sym (sorted_used name (keys_of entries) kept.once is.there) ∙ ap sorted (sym keys))

pub values_promoted : (names : List LockName) (name : LockName) (entries : List (LockName × HeldLock)) → IsKept names entries
    → values_of (promoted (same_name name) entries) ≡ used name (values_of entries)
values_promoted names name entries kept = by (lookup_entry (same_name name) entries) refl where
  by : (found : Option (LockName × HeldLock)) → lookup_entry (same_name name) entries ≡ found
      → values_of (option_map_or (λ e. e ∷ remove_entry (same_name name) entries) found entries) ≡ used name (values_of entries)
  by None e =
      let none = none_named name entries kept.keyed (no_entry name entries e) in
      rw (
        filter_none (is_named name) (values_of entries) none,
        filter_all (λ held. not (is_named name held)) (values_of entries) (turned (is_named name) (values_of entries) none),
      ) refl
  by (Some entry) e =
      let is : IsEntryOf name entries entry = entry_of name entries entry kept.keyed kept.once e in
      rw is.only (ap (λ more. entry.1 ∷ more) (values_removed name entries kept.keyed kept.once))

pub kept_granted : (names : List LockName) (held : HeldLock) (entries : List (LockName × HeldLock)) → IsKept names entries
    → lookup (same_name (name_of held)) entries ≡ None → IsKept (insert_key by_name names (name_of held)) ((name_of held, held) ∷ entries)
kept_granted names held entries kept absent =
    let others_apart : All (Apart (name_of held)) (keys_of entries) = lookup_none (name_of held) entries absent in
    let apart : All (Apart (name_of held)) names = subst (All (Apart (name_of held))) (sym kept.index)
    (all_sorted (Apart (name_of held)) (keys_of entries) others_apart) in
    kept_of (insert_key by_name names (name_of held)) ((name_of held, held) ∷ entries)
    (All-cons Keyed (name_of held, held) entries refl kept.keyed)
    (AllPairs-cons Apart (name_of held) (keys_of entries) others_apart kept.once)
    (key_put (name_of held) names apart ∙ ap (with_name (name_of held)) kept.index)

abbrev pub the_state : ℕ → List HeldLock → HeldState
the_state unused locks = record { unused = unused; locks = locks }
