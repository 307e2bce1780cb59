-- Numbers in units: a * w + x with x below w.
use Rattle.std.specs.Prelude.{ℕ, ◌+◌, ◌*◌, ◌/◌, ◌<◌, ◌≤◌}
use Rattle.std.proofs.Common.{arith}
use Rattle.std.proofs.Math.Nat.{mul-le-mul_right, add-mul, div-mul-le_self}
use Rattle.std.proofs.lemmas.Nat.{le-div}

-- a number in an earlier unit is the lesser one
pub earlier_unit : (a w x b y : ℕ) → a < b → x < w → a * w + x < b * w + y
earlier_unit a w x b y h k =
    let le : (a + 1) * w ≤ b * w = mul-le-mul_right w (omega arith) in omega (arith, add-mul a 1 w)

-- the units of two numbers are in their order
pub div_monotone : (w m n : ℕ) → 0 < w → m ≤ n → m / w ≤ n / w
div_monotone w m n pos h = le-div (m / w) n w pos (omega (arith, div-mul-le_self m w))
