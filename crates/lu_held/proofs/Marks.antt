-- Where only marked locks are looked for, the names of the marked ones lead to them.
use Rattle.std.proofs.Common.{◌≡◌, ℕ, ◌==◌, ◌&&◌, Bool, true, false, List, filter, map, refl, ap, ◌∙◌}
use Rattle.std.specs.Prelude.{slice_get, option_map}
use Rattle.std.specs.Option.{option_map_or}
use Rattle.std.specs.Map.{values_of}
use Rattle.std.specs.List.{filter_map}
use Rattle.std.proofs.lemmas.List.Elements.{All-filter}
use Rattle.std.proofs.lemmas.Option.{slice_get-map}
use Rattle.lu_held.specs.declared.names.LockName.{LockName}
use Rattle.lu_held.specs.declared.locks.HeldLock.{HeldLock}
use Rattle.lu_held.specs.declared.locks.Wanted.{Wanted}
use Rattle.lu_held.specs.declared.locks.Wanted.TheVariants.{Of, Marked, Ready, Serving, ServingToTheEnd, Holding}
use Rattle.lu_held.specs.Locks.{name_of, matches}
use Rattle.lu_held.specs.Held.{in_order, those}
use Rattle.lu_held.specs.Kept.{IsKept, IsIndexed, is_marked, of_marked, is_asked, asked, where_it_is}
use Rattle.lu_held.proofs.Lists.{filter_within}
use Rattle.lu_held.proofs.Entries.{lookup_find}
use Rattle.lu_held.proofs.Looks.{IsFound, asks, chosen, filter_names, filter_alike, chosen_names, map_alike, found_in_order}
use Rattle.lu_held.proofs.Indexes.{marks_are}

both_hold : (there marked : Bool) → (there && marked) ≡ true → marked ≡ true
both_hold true marked e = e
both_hold false marked e = absurd (cc)

first_holds : (marked there : Bool) → (marked && there) ≡ true → marked ≡ true
first_holds true there e = refl
first_holds false there e = absurd (cc)

only_marked : (wanted : Wanted) (held : HeldLock) → of_marked wanted ≡ true → matches wanted held ≡ true → held.marked ≡ true
only_marked (Of target) held of e = absurd (cc)
only_marked (Marked target) held of e = both_hold (held.target.0 == target.0) held.marked e
only_marked Ready held of e = first_holds held.marked (held.pins == 0) e
only_marked (Serving wanted) held of e = absurd (cc)
only_marked (ServingToTheEnd wanted) held of e = absurd (cc)
only_marked (Holding target resource offset) held of e = absurd (cc)

pub looked_marked : (wanted : Wanted) (names : List LockName) (entries : List (LockName × HeldLock)) (marked : List LockName)
    (most count : ℕ) → of_marked wanted ≡ true → IsKept names entries → IsIndexed (values_of entries) marked most count
    → filter (is_asked wanted entries) marked ≡ map name_of (those wanted (values_of entries))
looked_marked wanted names entries marked most count of kept indexed =
    let locks = values_of entries in
    let some = filter is_marked (in_order locks) in
    filter_alike (is_asked wanted entries) (asks wanted locks) (λ name. ap (λ found. option_map_or (matches wanted) found false)
    (lookup_find name entries kept.keyed)) marked
    ∙ ap (filter (asks wanted locks)) (indexed.marked ∙ marks_are locks kept.sound)
    ∙ filter_names wanted locks some (All-filter is_marked (IsFound locks) (in_order locks) (found_in_order names entries kept))
    ∙ ap (map name_of) (filter_within (matches wanted) is_marked (λ held. only_marked wanted held of) (in_order locks))

pub looked_at_marked : (wanted : Wanted) (names : List LockName) (entries : List (LockName × HeldLock)) (marked : List LockName)
    (most count at : ℕ) → of_marked wanted ≡ true → IsKept names entries → IsIndexed (values_of entries) marked most count
    → slice_get (filter (is_asked wanted entries) marked) at ≡ option_map name_of (slice_get (those wanted (values_of entries)) at)
looked_at_marked wanted names entries marked most count at of kept indexed =
    ap (λ some. slice_get some at) (looked_marked wanted names entries marked most count of kept indexed)
    ∙ slice_get-map name_of (those wanted (values_of entries)) at

pub listed_marked : (wanted : Wanted) (names : List LockName) (entries : List (LockName × HeldLock)) (marked : List LockName)
    (most count : ℕ) → of_marked wanted ≡ true → IsKept names entries → IsIndexed (values_of entries) marked most count
    → filter_map (asked wanted entries) marked ≡ those wanted (values_of entries)
listed_marked wanted names entries marked most count of kept indexed =
    let locks = values_of entries in
    let some = filter is_marked (in_order locks) in
    map_alike (asked wanted entries) (chosen wanted locks) (λ name. ap (where_it_is (matches wanted)) (lookup_find name entries kept.keyed))
    marked
    ∙ ap (filter_map (chosen wanted locks)) (indexed.marked ∙ marks_are locks kept.sound)
    ∙ chosen_names wanted locks some (All-filter is_marked (IsFound locks) (in_order locks) (found_in_order names entries kept))
    ∙ filter_within (matches wanted) is_marked (λ held. only_marked wanted held of) (in_order locks)
