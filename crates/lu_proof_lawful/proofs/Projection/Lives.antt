-- Each life has a number of its own.
use Rattle.std.proofs.Common.{◌≡◌, ℕ, refl, ap, arith}
use Rattle.std.specs.Prelude.{zero, suc}
use Rattle.lu_base.specs.declared.ids.Who.{Who}
use Rattle.lu_proof_lawful.specs.Projection.Lives.{pair, number_of}

pub same_pair : (c d l m : ℕ) → pair c l ≡ pair d m → (c ≡ d) × (l ≡ m)
same_pair zero zero l m e = (refl, omega arith)
same_pair zero (suc d) l m e = absurd (omega arith)
same_pair (suc c) zero l m e = absurd (omega arith)
same_pair (suc c) (suc d) l m e = let r = same_pair c d l m (omega arith) in (ap suc r.0, r.1)

pub same_life : (v w : Who) → number_of v ≡ number_of w → v ≡ w
same_life v w e = let r = same_pair v.client w.client v.life w.life e in (λ i. record { client = r.0 i; life = r.1 i })
