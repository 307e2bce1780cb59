-- How far an extent grows when its lock is granted (this project's profile): up to the nearest of the other
-- granted and waiting locks whose mode isn't compatible with the asked one, the waiting ones with the extents
-- that they asked for; and not at all where such a waiting lock meets the asked extent.
use Rattle.std.specs.Prelude.{ℕ, ◌+◌, ◌-◌, ◌^◌, min, max, nat_lt, if◌then◌else◌, Option, Some, None, List, ◌++◌, fold, map, filter, not}
use Rattle.std.specs.List.{filter_map, list_any}
use Rattle.lu_base.specs.declared.locks.Ask.{Ask}
use Rattle.lu_base.specs.declared.locks.Extent.{Extent}
use Rattle.lu_base.specs.declared.locks.Mode.{Mode}
use Rattle.lu_base.specs.declared.locks.Policy.{Policy}
use Rattle.lu_base.specs.declared.locks.Policy.TheVariants.{Bits, Range}
use Rattle.lu_lock.specs.Modes.{compatible}
use Rattle.lu_lock.specs.Overlap.{extents_meet}

-- The greatest offset of an object, where a range to the end ends.
abbrev pub the_end : ℕ
the_end = 2 ^ 64 - 1

-- The extent of a range.
abbrev pub extent_of : Policy → Option Extent
extent_of (Range extent) = Some extent
extent_of (Bits _) = None

-- The extents of the locks whose mode isn't compatible with this one.
abbrev pub opposing : Mode → List Ask → List Extent
opposing mode locks =
    filter_map (λ lock. extent_of lock.policy) (filter (λ lock. not (compatible mode lock.mode)) locks)

-- The greatest of the numbers, or 0.
abbrev pub greatest : List ℕ → ℕ
greatest numbers = fold max 0 numbers

-- The least of the numbers, or the end.
abbrev pub least : List ℕ → ℕ
least numbers = fold min the_end numbers

-- One past the greatest end below this offset, or 0.
abbrev pub past_below : ℕ → List Extent → ℕ
past_below offset others =
    greatest (map (λ extent. extent.last + 1) (filter (λ extent. nat_lt extent.last offset) others))

-- One before the least start above this offset, or the end.
abbrev pub before_above : ℕ → List Extent → ℕ
before_above offset others =
    least (map (λ extent. extent.first - 1) (filter (λ extent. nat_lt offset extent.first) others))

-- The asked extent as it is granted, beside the extents of granted and waiting locks of incompatible modes.
abbrev pub grown_extent : Extent → (granted waiting : List Extent) → Extent
grown_extent asked granted waiting =
    if list_any (extents_meet asked) waiting
    then asked
    else (record {
      first = past_below asked.first (granted ++ waiting);
      last = before_above asked.last (granted ++ waiting);
    })

-- What is granted of a policy beside these extents: a range grows, bits never do.
abbrev pub grown_policy : Policy → (granted waiting : List Extent) → Policy
grown_policy (Range asked) granted waiting = Range (grown_extent asked granted waiting)
grown_policy (Bits bits) granted waiting = Bits bits

-- What an asked lock covers when it is granted beside the other granted and waiting locks of its resource.
abbrev pub granted_policy : Ask → (granted waiting : List Ask) → Policy
granted_policy ask granted waiting =
    grown_policy ask.policy (opposing ask.mode granted) (opposing ask.mode waiting)

-- The lock as it is granted.
abbrev pub granted_ask : Ask → (granted waiting : List Ask) → Ask
granted_ask ask granted waiting = record ask { policy = granted_policy ask granted waiting }
