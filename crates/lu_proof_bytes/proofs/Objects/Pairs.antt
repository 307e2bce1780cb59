-- Two numbers as one, so that a life (client and life) or an object (file and stripe) can be a number of a story: no bound is needed.
use Rattle.std.proofs.Common.{◌≡◌, ℕ, zero, suc, ◌*◌, refl, ap, arith}

-- two numbers as one
abbrev pub pair : ℕ → ℕ → ℕ
pair zero l = 2 * l
pair (suc c) l = suc (2 * pair c l)

pub same_pair : (c d l m : ℕ) → pair c l ≡ pair d m → (c ≡ d) × (l ≡ m)
same_pair zero zero l m e = (refl, omega arith)
same_pair zero (suc d) l m e = absurd (omega arith)
same_pair (suc c) zero l m e = absurd (omega arith)
same_pair (suc c) (suc d) l m e = let r = same_pair c d l m (omega arith) in (ap suc r.0, r.1)
