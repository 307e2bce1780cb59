-- The locks that are free, among the cache's entries; and marks that are taken away one by one.
use Rattle.std.proofs.Common.{◌≡◌, ℕ, suc, ◌+◌, ◌-◌, Bool, true, false, cond, List, [], ◌∷◌, length, filter, fold, Option, Some, None, refl}
use Rattle.std.proofs.Common.{ap, sym, ◌∙◌, arith}
use Rattle.std.specs.Prelude.{All, slice_get, option_map, count_by}
use Rattle.std.specs.Map.{values_of}
use Rattle.std.proofs.lemmas.List.Sums.{length-filter}
use Rattle.lu_held.specs.declared.names.LockName.{LockName}
use Rattle.lu_held.specs.declared.locks.HeldLock.{HeldLock}
use Rattle.lu_held.specs.Locks.{name_of, is_free}
use Rattle.lu_held.proofs.Lists.{rest_all}
use Rattle.lu_held.proofs.Entries.{Keyed}

count_from : (n : ℕ) (entries : List (LockName × HeldLock)) → fold (λ count entry. count + cond (is_free entry.1) 1 0) n entries
    ≡ fold (λ count held. count + cond (is_free held) 1 0) n (values_of entries)
count_from n [] = refl
count_from n ((key, held) ∷ entries) = count_from (n + cond (is_free held) 1 0) entries

pub count_free : (entries : List (LockName × HeldLock)) → count_by (λ entry. is_free entry.1) entries
    ≡ length (filter is_free (values_of entries))
count_free entries = count_from 0 entries ∙ sym (length-filter is_free (values_of entries))

-- the last of a list, or this where it is empty
abbrev or_last : Option LockName → List HeldLock → Option LockName
or_last found [] = found
or_last found (held ∷ locks) = or_last (Some (name_of held)) locks

last_name : (held : HeldLock) (locks : List HeldLock) → or_last (Some (name_of held)) locks
    ≡ option_map name_of (slice_get (held ∷ locks) (length locks))
last_name held [] = refl
last_name held (next ∷ locks) = last_name next locks

pub or_last_is : (locks : List HeldLock) → or_last None locks ≡ option_map name_of (slice_get locks (length locks - 1))
or_last_is [] = refl
or_last_is (held ∷ locks) = let e : suc (length locks) - 1 ≡ length locks = omega arith in last_name held locks
    ∙ ap (λ k. option_map name_of (slice_get (held ∷ locks) k)) (sym e)

last_free_from : (found : Option LockName) (entries : List (LockName × HeldLock)) → All Keyed entries
    → fold (λ found entry. cond (is_free entry.1) (Some entry.0) found) found entries ≡ or_last found (filter is_free (values_of entries))
last_free_from found [] keyed = refl
last_free_from found ((key, held) ∷ entries) keyed = by (is_free held)
    (last_free_from found entries (rest_all Keyed (key, held) entries keyed))
    (last_free_from (Some key) entries (rest_all Keyed (key, held) entries keyed)) where
      by : (free : Bool) → fold (λ found entry. cond (is_free entry.1) (Some entry.0) found) found entries
          ≡ or_last found (filter is_free (values_of entries)) → fold (λ found entry. cond (is_free entry.1) (Some entry.0) found) (Some key)
          entries ≡ or_last (Some key) (filter is_free (values_of entries))
          → fold (λ found entry. cond (is_free entry.1) (Some entry.0) found) (cond free (Some key) found) entries
          ≡ or_last found (cond free (held ∷ filter is_free (values_of entries)) (filter is_free (values_of entries)))
      by true same next = let here : key ≡ name_of held = keyed 0 (key, held) (omega arith) in next
          ∙ ap (λ k. or_last (Some k) (filter is_free (values_of entries))) here
      by false same next = same

pub last_free_is : (entries : List (LockName × HeldLock)) → All Keyed entries
    → fold (λ found entry. cond (is_free entry.1) (Some entry.0) found) None entries
    ≡ option_map name_of (slice_get (filter is_free (values_of entries)) (length (filter is_free (values_of entries)) - 1))
last_free_is entries keyed = last_free_from None entries keyed ∙ or_last_is (filter is_free (values_of entries))
