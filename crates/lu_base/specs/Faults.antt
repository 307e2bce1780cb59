-- Counts of faults, and what reading and writing everything owes.
use Rattle.std.specs.Prelude.{ℕ, ◌+◌, ◌-◌, ◌^◌, ◌≤◌, ◌<◌, min, OnErr, List, length, take}
use Rattle.std.specs.declared.result.Result.{Result}
use Rattle.std.specs.declared.option.Option.{Option}
use Rattle.std.specs.Io.KnownBytes.{Consumes, Appends, IsAtEnd}

-- the count rose: it is greater, or stands at the greatest u64
abbrev pub Rose : ℕ → ℕ → Type 0
Rose before now = min (before + 1) (2 ^ 64 - 1) ≤ now

-- the count never falls, and a call fails only where it rose
pub record HasCause {T E : Type 0} (before now : ℕ) (result : Result T E) : Type 0 where
  pub later : before ≤ now
  pub failed : OnErr result (Rose before now)

-- these bytes came, and nothing is left
pub record ReadWhole (old new : Option (List ℕ)) (bytes : List ℕ) : Type 0 where
  pub came : Consumes old new bytes
  pub at_end : IsAtEnd new

-- more bytes than the limit came
abbrev pub CameMore : Option (List ℕ) → Option (List ℕ) → ℕ → Type 0
CameMore old new limit = (bytes : List ℕ) × Consumes old new bytes × (limit < length bytes)

-- a prefix of the whole was written
abbrev pub WrotePrefix : Option (List ℕ) → Option (List ℕ) → List ℕ → Type 0
WrotePrefix old new whole = (n : ℕ) × (n ≤ length whole) × Appends old new (take n whole)
