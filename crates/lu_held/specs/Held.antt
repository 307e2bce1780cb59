-- The locks that a client holds, in order of their last use, and what each call makes of them (this project's profile).
use Rattle.std.specs.Prelude.{◌≡◌, ℕ, ◌-◌, ◌≤◌, ◌==◌, nat_le, if◌then◌else◌, Bool, true, false, not, List, [], ◌∷◌, ◌++◌, length, map}
use Rattle.std.specs.Prelude.{filter, slice_get, AllPairs, Option, Some, None}
use Rattle.std.specs.List.{list_any}
use Rattle.lu_base.specs.declared.ids.TargetId.{TargetId}
use Rattle.lu_base.specs.declared.locks.Lock.{Lock}
use Rattle.lu_held.specs.declared.names.LockName.{LockName}
use Rattle.lu_held.specs.declared.locks.HeldLock.{HeldLock}
use Rattle.lu_held.specs.declared.locks.Use.{Use}
use Rattle.lu_held.specs.declared.locks.Change.{Change}
use Rattle.lu_held.specs.declared.locks.Change.TheVariants.{Mark, Unmark}
use Rattle.lu_held.specs.declared.locks.Wanted.{Wanted}
use Rattle.lu_held.specs.declared.locks.Wanted.TheVariants.{Serving, ServingToTheEnd}
use Rattle.lu_held.specs.Names.{is_before}
use Rattle.lu_held.specs.Locks.{name_of, is_named, reaches_end, after, matches, is_free}

-- how many locks that are neither pinned nor marked may be kept, and the held locks, the most recently used first
pub record HeldState : Type 0 where
  pub unused : ℕ
  pub locks : List HeldLock

-- A lock that was granted: nothing pins it, and it isn't marked.
abbrev pub granted : TargetId → Lock → HeldLock
granted target lock = record { target = target; lock = lock; pins = 0; marked = false }

-- A lock is held under this name.
abbrev pub is_held : LockName → List HeldLock → Bool
is_held name locks = list_any (is_named name) locks

-- The locks once this was done to the one of this name.
abbrev pub changed : LockName → Change → List HeldLock → List HeldLock
changed name change locks = map (λ held. if is_named name held then after change held else held) locks

-- What the state is once this was done to the lock of this name.
abbrev pub with_change : LockName → Change → HeldState → HeldState
with_change name change held = record held { locks = changed name change held.locks }

-- The locks of other names.
abbrev pub without : LockName → List HeldLock → List HeldLock
without name locks = filter (λ held. not (is_named name held)) locks

-- The locks with the one of this name as the last used.
abbrev pub used : LockName → List HeldLock → List HeldLock
used name locks = filter (is_named name) locks ++ without name locks

abbrev pub with_last : LockName → HeldState → HeldState
with_last name held = record held { locks = used name held.locks }

-- The locks with no mark at this target.
abbrev pub unmarked : TargetId → List HeldLock → List HeldLock
unmarked target locks = map (λ held. if held.target.0 == target.0 then after Unmark held else held) locks

-- The locks by target and then by cookie.
abbrev pub put_in : HeldLock → List HeldLock → List HeldLock
put_in held [] = held ∷ []
put_in held (first ∷ locks) =
    if is_before (name_of first) (name_of held) then first ∷ put_in held locks else held ∷ first ∷ locks

abbrev pub in_order : List HeldLock → List HeldLock
in_order [] = []
in_order (held ∷ locks) = put_in held (in_order locks)

-- Those that are looked for, by target and then by cookie.
abbrev pub those : Wanted → List HeldLock → List HeldLock
those wanted locks = filter (matches wanted) (in_order locks)

-- The lock that does for a use: one that reaches the end before one that doesn't, and then the one of least cookie.
abbrev pub serving : Use → List HeldLock → Option HeldLock
serving wanted locks = first (slice_get (those (ServingToTheEnd wanted) locks) 0) where
  first : Option HeldLock → Option HeldLock
  first (Some held) = Some held
  first None = slice_get (those (Serving wanted) locks) 0

-- The last of some locks.
abbrev pub last_of : List HeldLock → Option HeldLock
last_of locks = slice_get locks (length locks - 1)

-- The least recently used of those that are neither pinned nor marked, where these are more than may be kept.
abbrev pub to_trim : HeldState → Option HeldLock
to_trim held =
    if nat_le (length (filter is_free held.locks)) held.unused then None
    else last_of (filter is_free held.locks)

-- What `trim` makes of the locks: that one is marked.
abbrev pub trimmed : HeldState → HeldState
trimmed held = mark (to_trim held) where
  mark : Option HeldLock → HeldState
  mark None = held
  mark (Some lock) = with_change (name_of lock) Mark held

-- One name comes before the other's, by target and then by cookie.
abbrev pub IsBefore : HeldLock → HeldLock → Type 0
IsBefore earlier later = is_before (name_of earlier) (name_of later) ≡ true

-- Of two locks that do for a use this one is taken: it reaches the end if the other does, and where both or neither
-- do, its cookie isn't greater.
abbrev pub IsBest : HeldLock → HeldLock → Type 0
IsBest held other =
    (reaches_end held.lock.ask.policy ≡ reaches_end other.lock.ask.policy
    → held.lock.cookie.0 ≤ other.lock.cookie.0)
    × (reaches_end other.lock.ask.policy ≡ true → reaches_end held.lock.ask.policy ≡ true)

-- No two of them are held under one target and cookie.
abbrev pub IsOnce : List HeldLock → Type 0
IsOnce locks = AllPairs (λ one other. is_named (name_of one) other ≡ false) locks

-- What always holds: no lock is held twice under one target and cookie.
abbrev pub IsSound : HeldState → Type 0
IsSound held = IsOnce held.locks
