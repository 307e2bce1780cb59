-- How the code keeps the held locks: each under its name, no two under one, the names in order beside them, and those
-- of the marked ones, in order too.
use Rattle.std.specs.Prelude.{◌≡◌, ◌≤◌, ℕ, ◌+◌, ◌-◌, ◌^◌, ◌==◌, nat_lt, if◌then◌else◌, Bool, true, false, not, List, length, map, filter}
use Rattle.std.specs.Prelude.{All, AllPairs, Option, Some, None}
use Rattle.std.specs.Option.{option_map_or}
use Rattle.std.specs.Map.{keys_of, values_of, lookup}
use Rattle.lru.specs.LruCache.{LruCache}
use Rattle.lu_base.specs.declared.ids.TargetId.{TargetId}
use Rattle.lu_held.specs.declared.names.LockName.{LockName}
use Rattle.lu_held.specs.declared.locks.HeldLock.{HeldLock}
use Rattle.lu_held.specs.declared.locks.Wanted.{Wanted}
use Rattle.lu_held.specs.declared.locks.Wanted.TheVariants.{Of, Marked, Ready, Serving, ServingToTheEnd, Holding}
use Rattle.lu_held.specs.Names.{same_name, with_name, sorted}
use Rattle.lu_held.specs.Locks.{name_of, is_named, matches, is_free}

pub record IsKept (names : List LockName) (entries : List (LockName × HeldLock)) : Type 0 where
  pub keyed : All (λ entry. entry.0 ≡ name_of entry.1) entries
  pub once : AllPairs (λ one other. same_name one other ≡ false) (keys_of entries)
  pub index : names ≡ sorted (keys_of entries)
  pub sound : AllPairs (λ one other. is_named (name_of one) other ≡ false) (values_of entries)

-- The names of the marked locks, in order.
abbrev pub is_marked : HeldLock → Bool
is_marked held = held.marked

abbrev pub marks : List HeldLock → List LockName
marks locks = sorted (map name_of (filter is_marked locks))

-- What is kept beside the locks: the names of the marked ones, room for the name of each, and how many are free.
pub record IsIndexed (locks : List HeldLock) (names : List LockName) (most count : ℕ) : Type 0 where
  pub marked : names ≡ marks locks
  pub space : length locks ≤ most
  pub free : count ≡ length (filter is_free locks)

-- The names of the marked ones once the lock of this name is marked or not, as it was or wasn't.
abbrev pub remarked : LockName → Bool → Bool → List LockName → List LockName
remarked name true true names = names
remarked name true false names = filter (λ other. not (same_name name other)) names
remarked name false true names = with_name name names
remarked name false false names = names

-- How many are free once one of them is or isn't, as it was or wasn't.
abbrev pub recounted : Bool → Bool → ℕ → ℕ
recounted true true count = count
recounted true false count = count - 1
recounted false true count = count + 1
recounted false false count = count

-- How many entries a cache without a bound may have.
abbrev pub unbounded : ℕ
unbounded = 2 ^ 64 - 1

-- The same in the cache, out of which no entry falls.
pub record IsStored (names : List LockName) (uses : LruCache LockName HeldLock) (marked : List LockName) (most count : ℕ) : Type 0 where
  pub kept : IsKept names uses.entries
  pub room : uses.cap ≡ unbounded
  pub indexed : IsIndexed (values_of uses.entries) marked most count

-- Only marked locks are looked for.
abbrev pub of_marked : Wanted → Bool
of_marked (Of target) = false
of_marked (Marked target) = true
of_marked Ready = true
of_marked (Serving wanted) = false
of_marked (ServingToTheEnd wanted) = false
of_marked (Holding target resource offset) = false

-- The target of which locks are looked for, if it is one.
abbrev pub target_of : Wanted → Option TargetId
target_of (Of target) = Some target
target_of (Marked target) = Some target
target_of Ready = None
target_of (Serving wanted) = Some wanted.target
target_of (ServingToTheEnd wanted) = Some wanted.target
target_of (Holding target resource offset) = Some target

-- It names a lock of this target.
abbrev pub is_at : TargetId → LockName → Bool
is_at target name = name.target.0 == target.0

-- The names of this target's locks; of the last target that there is, all names.
abbrev pub names_at : TargetId → List LockName → List LockName
names_at target names = if nat_lt target.0 (2 ^ 16 - 1) then filter (is_at target) names else names

-- The names among which locks are looked for: those of the one target, or all.
abbrev pub names_for : Wanted → List LockName → List LockName
names_for wanted names = among (target_of wanted) where
  among : Option TargetId → List LockName
  among None = names
  among (Some target) = names_at target names

-- The lock that is kept under this name is one of those that are looked for.
abbrev pub is_asked : Wanted → List (LockName × HeldLock) → LockName → Bool
is_asked wanted entries name = option_map_or (matches wanted) (lookup (same_name name) entries) false

-- What is there, where it passes a test.
abbrev pub where_it_is : (HeldLock → Bool) → Option HeldLock → Option HeldLock
where_it_is test None = None
where_it_is test (Some held) = if test held then Some held else None

-- The lock that is kept under this name, where it is one of those that are looked for.
abbrev pub asked : Wanted → List (LockName × HeldLock) → LockName → Option HeldLock
asked wanted entries name = where_it_is (matches wanted) (lookup (same_name name) entries)
