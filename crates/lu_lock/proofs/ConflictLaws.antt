-- The test of conflict is what it stands for, and is symmetric.
use Rattle.std.proofs.Common.{◌≡◌, Bool, true, false, not, ◌&&◌, IsTrue, ◌↔◌, refl}
use Rattle.lu_base.specs.declared.locks.Ask.{Ask}
use Rattle.lu_lock.specs.Modes.{compatible}
use Rattle.lu_lock.specs.Overlap.{policies_meet, PoliciesMeet}
use Rattle.lu_lock.specs.Conflict.{conflict, Conflict}
use Rattle.lu_lock.proofs.ModeLaws.{compatible_symmetric}
use Rattle.lu_lock.proofs.OverlapLaws.{policies_meet_symmetric, policies_meet_rule}

pub conflict_symmetric : (a b : Ask) → conflict a b ≡ conflict b a
conflict_symmetric a b =
    rw (compatible_symmetric a.mode b.mode, policies_meet_symmetric a.policy b.policy) refl

pub conflict_rule : (a b : Ask) → IsTrue (conflict a b) ↔ Conflict a b
conflict_rule a b = by (compatible a.mode b.mode) refl (policies_meet_rule a.policy b.policy) where
  by : (v : Bool) → compatible a.mode b.mode ≡ v →
      IsTrue (policies_meet a.policy b.policy) ↔ PoliciesMeet a.policy b.policy →
      IsTrue (not v && policies_meet a.policy b.policy) ↔ ((¬ IsTrue v) × PoliciesMeet a.policy b.policy)
  by true e meets = (λ h. cc, λ h. absurd (h.0 refl))
  by false e meets = (λ h. (λ f. cc, meets.0 h), λ h. meets.1 h.1)

-- Where the modes aren't compatible, two locks conflict where they meet.
pub conflict-apart : (a b : Ask) → compatible a.mode b.mode ≡ false → conflict a b ≡ policies_meet a.policy b.policy
conflict-apart a b apart = rw apart refl
