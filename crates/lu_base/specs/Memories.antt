-- What a source and a sink in memory show.
use Rattle.std.specs.Prelude.{ℕ, List, ◌+◌, ◌-◌, ◌^◌, min}

-- the bytes left, the numbers of the calls that fail, and the calls and faults so far
pub record MemoryInput : Type 0 where
  pub left : List ℕ
  pub failing : List ℕ
  pub calls : ℕ
  pub faults : ℕ

-- the bytes written, the most that one call takes, the numbers of the calls that fail, and the calls and faults so far
pub record MemoryOutput : Type 0 where
  pub written : List ℕ
  pub piece : ℕ
  pub failing : List ℕ
  pub calls : ℕ
  pub faults : ℕ

-- one more, up to the greatest u64
abbrev pub counted : ℕ → ℕ
counted n = min (n + 1) (2 ^ 64 - 1)
