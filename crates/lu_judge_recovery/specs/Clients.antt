-- How many clients a trace has, by the greatest one.
use Rattle.std.specs.Prelude.{ℕ, suc, Option, Some, None}

abbrev pub count_of : Option ℕ → ℕ
count_of None = 0
count_of (Some c) = suc c
