-- What a life's rows may use: which lock its changes lie under.
use Rattle.std.proofs.Common.{◌≡◌, ℕ, suc, List, Option, Some, None, Bool, true, false, refl, sym, ap, ◌∙◌, subst, arith}
use Rattle.std.specs.Prelude.{nat_lt, ◌||◌}
use Rattle.std.proofs.lemmas.Bool.{both_ways}
use Rattle.std.proofs.lemmas.Bool.Decides.{nat_tests}
use Rattle.lu_proof_bytes.specs.Object.Words.{Lock, Cut, Entry, covers, changes}
use Rattle.lu_proof_bytes.specs.Object.Folds.{evicted, HeldBy, pending, dirty, is_some, masked, touched}
use Rattle.lu_proof_bytes.specs.Object.Guards.{Covers}
use Rattle.lu_proof_bytes.proofs.Object.Numbers.{Numbers}
use Rattle.lu_proof_bytes.proofs.Object.Locks.{Lockings, held_granted}
use Rattle.lu_proof_bytes.proofs.Object.Patches.{Patches}
use Rattle.lu_proof_bytes.proofs.Object.Facts.{one_lock}

-- a held lock that meets a pending cut (from one position before it on) is the one that covers it whole
pub cut_lock : (h : List Entry) (l : Lock) (q p : ℕ) → Numbers h → Lockings h → Patches h → evicted l.life h ≡ false → HeldBy h l
    → pending l.life h ≡ Some q → changes (Cut q) p ≡ true → covers l p ≡ true → (l.write ≡ true) × Covers l (changes (Cut q))
cut_lock h l q p n lk pt v i e at cov =
    let c = pt.cuts l.life q e in
    let same = one_lock h l c.lock p lk (held_granted h l n lk i v)
    (held_granted h c.lock n lk c.held (ap (λ (d : ℕ). evicted d h) c.life ∙ v)) cov (c.covered p at) c.mode in
    (ap (λ (m : Lock). m.write) same ∙ c.mode, λ r f. subst (λ (m : Lock). covers m r ≡ true) (sym same) (c.covered r f))

-- a held lock over a dirty byte is a PW lock
pub dirty_lock : (h : List Entry) (l : Lock) (p b : ℕ) → Numbers h → Lockings h → Patches h → evicted l.life h ≡ false → HeldBy h l
    → dirty l.life h p ≡ Some b → covers l p ≡ true → l.write ≡ true
dirty_lock h l p b n lk pt v i e cov =
    let c = pt.cover l.life p (rw e) in
    ap (λ (m : Lock). m.write) (one_lock h l c.lock p lk (held_granted h l n lk i v)
    (held_granted h c.lock n lk c.held (ap (λ (d : ℕ). evicted d h) c.life ∙ v)) cov c.covered c.mode) ∙ c.mode

-- a lock whose range the patch doesn't hide anywhere is clean: there is no cut that begins right behind it
pub clean_lock : (h : List Entry) (l : Lock) → Numbers h → Lockings h → Patches h → evicted l.life h ≡ false → HeldBy h l
    → ((p : ℕ) → covers l p ≡ true → masked (pending l.life h) (dirty l.life h p) p ≡ false) → (p : ℕ) → covers l p ≡ true
    → touched (pending l.life h) (dirty l.life h p) p ≡ false
clean_lock h l n lk pt v i clean p cov = by (pending l.life h) refl (dirty l.life h p) refl (clean p cov)
  where
    by : (q : Option ℕ) → pending l.life h ≡ q → (d : Option ℕ) → dirty l.life h p ≡ d
        → masked (pending l.life h) (dirty l.life h p) p ≡ false → touched (pending l.life h) (dirty l.life h p) p ≡ false
    by q e (Some b) f m = absurd (both_ways (masked (pending l.life h) (dirty l.life h p) p) m (rw f))
    by None e None f m = rw (e, f)
    by (Some q) e None f m = rw (e, f) (last (nat_lt q (suc (suc p))) refl)
      where
        last : (w : Bool) → nat_lt q (suc (suc p)) ≡ w → nat_lt q (suc (suc p)) ≡ false
        last false x = x
        last true x =
            let c = (cut_lock h l q p n lk pt v i e x cov).1 in
            let at = c q (grind (arith, nat_tests)) in
            absurd (both_ways (masked (pending l.life h) (dirty l.life h q) q) (clean q at) (rw e (over_cut (dirty l.life h q) q)))
          where
            over_cut : (d : Option ℕ) (q : ℕ) → (is_some d || nat_lt q (suc q)) ≡ true
            over_cut d q = let low : nat_lt q (suc q) ≡ true = grind (arith, nat_tests) in rw low (either (is_some d))
              where
                either : (b : Bool) → (b || true) ≡ true
                either true = refl
                either false = refl
