-- Where a target tells itself how long an object is each write lock on it that is granted ends below that.
use Rattle.std.proofs.Common.{◌≡◌, ℕ, ◌<◌, ◌≤◌, Bool, true, false, List, [], ◌∷◌, Option, Some, None, inl, inr, ⊎_elim, refl, sym, subst}
use Rattle.std.proofs.Common.{ap, ◌∙◌, arith}
use Rattle.std.specs.Prelude.{nat_eq, nat_lt, not, ◌&&◌, if◌then◌else◌}
use Rattle.std.proofs.lemmas.Bool.{eqb-true, eqb-false, ltb-true}
use Rattle.std.proofs.lemmas.Bool.Decides.{nat_tests}
use Rattle.lu_base.specs.declared.locks.Extent.{Extent}
use Rattle.lu_base.specs.declared.locks.Lock.{Lock}
use Rattle.lu_base.specs.declared.locks.Mode.{Mode}
use Rattle.lu_base.specs.declared.locks.Mode.TheVariants.{PW}
use Rattle.lu_base.specs.declared.locks.Policy.{Policy}
use Rattle.lu_base.specs.declared.locks.Policy.TheVariants.{Range}
use Rattle.lu_lock.specs.Conflict.{conflict}
use Rattle.lu_lock.specs.Growth.{the_end}
use Rattle.lu_lock.specs.Modes.{compatible, serves}
use Rattle.lu_lock.specs.Overlap.{policies_meet}
use Rattle.lu_spec_target.specs.Glimpses.{higher, highest}
use Rattle.lu_spec_target.specs.Queues.{extent_of}
use Rattle.lu_proof_lawful.proofs.Preconditions.Guards.{In}
use Rattle.lu_proof_lawful.proofs.Preconditions.ObjectGuards.{GoesPast}
use Rattle.lu_proof_lawful.proofs.Refinement.AllowedBase.{Ranged, ranged_extent}

-- ---- the write lock of greatest start

pub writes_only : (mode : Mode) → serves mode PW ≡ true → mode ≡ PW
writes_only PW e = refl
writes_only _ e = absurd (cc)

-- it starts at or after each granted write lock; without one none is granted
abbrev IsHighest : List Lock → Option Lock → Type 0
IsHighest locks None = (k : Lock) → In k locks → k.ask.mode ≡ PW → ⊥
IsHighest locks (Some h) = In h locks × (h.ask.mode ≡ PW) × ((k : Lock) → In k locks → k.ask.mode ≡ PW
    → (extent_of k).first ≤ (extent_of h).first)

no_writer : (l k : Lock) → serves l.ask.mode PW ≡ false → l ≡ k → k.ask.mode ≡ PW → ⊥
no_writer l k reads same writes =
    let one : serves k.ask.mode PW ≡ true = ap (λ (m : Mode). serves m PW) writes in
    let other : serves k.ask.mode PW ≡ false = ap (λ (m : Lock). serves m.ask.mode PW) (sym same) ∙ reads in
    cc

highest_is : (locks : List Lock) → IsHighest locks (highest locks)
highest_is [] = λ k i e. i
highest_is (l ∷ locks) = by (serves l.ask.mode PW) refl (highest locks) (highest_is locks)
  where
    more : serves l.ask.mode PW ≡ false → (o : Option Lock) → IsHighest locks o → IsHighest (l ∷ locks) o
    more reads None ih = λ k i e. ⊎_elim (λ (q : l ≡ k). no_writer l k reads q e) (λ (j : In k locks). ih k j e) i
    more reads (Some h) ih = (
      inr ih.0,
      ih.1,
      λ k i e. ⊎_elim (λ (q : l ≡ k). absurd (no_writer l k reads q e))
          (λ (j : In k locks). ih.2 k j e) i,
    )

    itself : (n : ℕ) (k : Lock) → (extent_of l).first ≤ n → l ≡ k → (extent_of k).first ≤ n
    itself n k low q = subst (λ (m : Lock). (extent_of m).first ≤ n) q low

    first : serves l.ask.mode PW ≡ true → (o : Option Lock) → IsHighest locks o → IsHighest (l ∷ locks) (higher l o)
    first writes None ih = (
      inl refl,
      writes_only l.ask.mode writes,
      λ k i e. ⊎_elim (itself (extent_of l).first k (omega arith)) (λ (j : In k locks). absurd (ih k j e)) i,
    )
    first writes (Some h) ih = pick (nat_lt (extent_of h).first (extent_of l).first) refl
      where
        pick : (b : Bool) → nat_lt (extent_of h).first (extent_of l).first ≡ b → IsHighest (l ∷ locks) (if b then Some l else Some h)
        pick true e = (
          inl refl,
          writes_only l.ask.mode writes,
          λ k i q. ⊎_elim (itself (extent_of l).first k (omega arith))
              (λ (j : In k locks). let low = ih.2 k j q in grind (arith, nat_tests, low)) i,
        )
        pick false e = (
          inr ih.0,
          ih.1,
          λ k i q. ⊎_elim (itself (extent_of h).first k (grind (arith, nat_tests)))
              (λ (j : In k locks). ih.2 k j q) i,
        )

    by : (b : Bool) → serves l.ask.mode PW ≡ b → (o : Option Lock) → IsHighest locks o → IsHighest (l ∷ locks) (if b then higher l o else o)
    by true e o ih = first e o ih
    by false e o ih = more e o ih

-- of two ranges that don't meet the one that doesn't start later ends before the other starts
before : (k h : Lock) → Ranged k → Ranged h → k.ask.mode ≡ PW → h.ask.mode ≡ PW → conflict k.ask h.ask ≡ false
    → (extent_of k).first ≤ (extent_of h).first → (extent_of k).last < (extent_of h).first
before k h a b kw hw apart low =
    let meet : policies_meet k.ask.policy h.ask.policy ≡ false =
    sym (ap (λ (m : Mode). not (compatible m h.ask.mode) && policies_meet k.ask.policy h.ask.policy) kw
    ∙ ap (λ (m : Mode). not (compatible PW m) && policies_meet k.ask.policy h.ask.policy) hw) ∙ apart in
    let none = ap (λ (p : Policy). policies_meet p h.ask.policy) (sym a.is) ∙ meet in
    let both = ap (λ (p : Policy). policies_meet (Range a.extent) p) (sym b.is) ∙ none in
    let ek = ranged_extent k a in
    let eh = ranged_extent h b in
    let lo : a.extent.first ≤ b.extent.first = subst (λ (x : Extent). x.first ≤ b.extent.first) ek
    (subst (λ (x : Extent). (extent_of k).first ≤ x.first) eh low) in
    let x = a.order in
    let y = b.order in
    subst (λ (v : Extent). v.last < (extent_of h).first) (sym ek)
    (subst (λ (v : Extent). a.extent.last < v.first) (sym eh) (grind (arith, nat_tests, x, y, lo, both)))

-- of locks that are on ranges, and of which no two conflict unless they have one cookie and are one
pub ends_below : (locks : List Lock) (size : ℕ) → GoesPast (highest locks) size → ((k : Lock) → In k locks → Ranged k)
    → ((k l : Lock) → In k locks → In l locks → (k.cookie.0 ≡ l.cookie.0 → ⊥) → conflict k.ask l.ask ≡ false)
    → ((k l : Lock) → In k locks → In l locks → k.cookie.0 ≡ l.cookie.0 → k ≡ l) → (k : Lock) → In k locks → k.ask.mode ≡ PW
    → ((extent_of k).last < size) × ((extent_of k).last < the_end)
ends_below locks size goes on apart once k i writes = by (highest locks) goes (highest_is locks)
  where
    by : (o : Option Lock) → GoesPast o size → IsHighest locks o → ((extent_of k).last < size) × ((extent_of k).last < the_end)
    by None goes high = absurd (high k i writes)
    by (Some h) goes high = within (same (nat_eq k.cookie.0 h.cookie.0) refl)
      where
        same : (b : Bool) → nat_eq k.cookie.0 h.cookie.0 ≡ b → (extent_of k).last ≤ (extent_of h).last
        same true e = subst (λ (x : Lock). (extent_of k).last ≤ (extent_of x).last) (once k h i high.0 (eqb-true k.cookie.0 h.cookie.0 e))
            (omega arith)
        same false e =
            let a = on k i in
            let b = on h high.0 in
            let none = apart k h i high.0 (λ q. eqb-false k.cookie.0 h.cookie.0 e q) in
            let lt = before k h a b writes high.1 none (high.2 k i writes) in
            let order : (extent_of h).first ≤ (extent_of h).last =
            subst (λ (x : Extent). x.first ≤ x.last) (sym (ranged_extent h b)) b.order in
            omega (arith, lt, order)

        within : (extent_of k).last ≤ (extent_of h).last → ((extent_of k).last < size) × ((extent_of k).last < the_end)
        within le =
            let lt = ltb-true (extent_of h).last size goes.1 in
            let b = on h high.0 in
            let low : (extent_of h).last ≤ the_end = subst (λ (x : Extent). x.last ≤ the_end) (sym (ranged_extent h b)) b.low in
            let apart_end = goes.0 in
            (omega (arith, le, lt), grind (arith, nat_tests, le, low, apart_end))
