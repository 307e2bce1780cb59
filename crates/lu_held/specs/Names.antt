-- The names of locks, by target and then by cookie (this project's profile).
use Rattle.std.specs.Prelude.{◌≡◌, ◌==◌, ◌&&◌, ◌||◌, nat_lt, if◌then◌else◌, Bool, true, List, [], ◌∷◌}
use Rattle.lu_held.specs.declared.names.LockName.{LockName}

-- Both are one name.
abbrev pub same_name : LockName → LockName → Bool
same_name one other = one.target.0 == other.target.0 && one.cookie.0 == other.cookie.0

-- One name comes before another.
abbrev pub is_before : LockName → LockName → Bool
is_before earlier later =
    nat_lt earlier.target.0 later.target.0
    || (earlier.target.0 == later.target.0 && nat_lt earlier.cookie.0 later.cookie.0)

-- The same, as what holds.
abbrev pub IsEarlier : LockName → LockName → Type 0
IsEarlier earlier later = is_before earlier later ≡ true

-- The names, which are in order, with this one in its place.
abbrev pub with_name : LockName → List LockName → List LockName
with_name name [] = name ∷ []
with_name name (first ∷ names) =
    if is_before first name then first ∷ with_name name names else name ∷ first ∷ names

-- The names in order.
abbrev pub sorted : List LockName → List LockName
sorted [] = []
sorted (name ∷ names) = with_name name (sorted names)
