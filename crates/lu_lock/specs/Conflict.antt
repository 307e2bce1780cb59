-- Two locks on one resource conflict where their modes aren't compatible and they meet, whoever holds them
-- (Wang et al., Understanding Lustre Filesystem Internals, the lock manager).
use Rattle.std.specs.Prelude.{◌≡◌, Bool, false, not, ◌&&◌, IsTrue, List}
use Rattle.std.specs.List.{list_any}
use Rattle.lu_base.specs.declared.locks.Ask.{Ask}
use Rattle.lu_lock.specs.Modes.{compatible}
use Rattle.lu_lock.specs.Overlap.{policies_meet, PoliciesMeet}

-- Whether they conflict.
abbrev pub conflict : Ask → Ask → Bool
conflict a b = not (compatible a.mode b.mode) && policies_meet a.policy b.policy

-- The same as a fact.
abbrev pub Conflict : Ask → Ask → Type 0
Conflict a b = (¬ IsTrue (compatible a.mode b.mode)) × PoliciesMeet a.policy b.policy

-- Whether a lock of the list conflicts with this one.
abbrev pub conflicts_with_any : Ask → List Ask → Bool
conflicts_with_any ask locks = list_any (conflict ask) locks

-- Where the ask conflicts with none of the locks, what is granted for it conflicts with none either.
abbrev pub StaysClear : (ask granted : Ask) → List Ask → Type 0
StaysClear ask granted locks = conflicts_with_any ask locks ≡ false → conflicts_with_any granted locks ≡ false
