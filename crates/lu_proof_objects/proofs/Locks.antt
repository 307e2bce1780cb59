-- Locks on ranges of an object.
use Rattle.std.proofs.Common.{◌≡◌, inl, inr, ℕ, suc, ◌≤◌, min, max, Bool, true, false, Some, None, refl, sym, ap, subst, ◌∙◌, arith}
use Rattle.std.specs.Prelude.{nat_eq, nat_lt, nat_le, ◌&&◌, ◌||◌, if◌then◌else◌}
use Rattle.std.proofs.lemmas.Bool.Decides.{nat_tests}
use Rattle.std.proofs.lemmas.Bool.{eqb-true}
use Rattle.lu_lock.specs.Growth.{the_end}
use Rattle.lu_lock.specs.Overlap.{extents_meet}
use Rattle.lu_proof_bytes.specs.Object.Words.{not_above}
use Rattle.lu_proof_objects.specs.Points.{is_write, last_of}
use Rattle.lu_proof_objects.specs.Alike.{LockCovers, LocksConflict, WritesClash}

-- a range to the greatest offset has no last byte, and none is above that
above_last : (p last : ℕ) → p ≤ the_end → last ≤ the_end → not_above p (last_of last) ≡ nat_le p last
above_last p last low high = by (nat_eq last the_end) refl
  where
    by : (v : Bool) → nat_eq last the_end ≡ v → not_above p (if v then None else Some last) ≡ nat_le p last
    by true e = let same : last ≡ the_end = eqb-true last the_end e in let le : p ≤ last = subst (λ (n : ℕ). p ≤ n) (sym same) low
        in grind (arith, nat_tests)
    by false e = grind (arith, nat_tests)

pub lock_covers : LockCovers
lock_covers cookie life mode extent p low high = ap (λ (v : Bool). nat_lt extent.first (suc p) && v) (above_last p extent.last low high)
    ∙ by (nat_le p extent.last)
  where
    same : nat_lt extent.first (suc p) ≡ nat_le extent.first p
    same = grind (arith, nat_tests)

    by : (v : Bool) → (nat_lt extent.first (suc p) && v) ≡ (nat_le extent.first p && v)
    by v = ap (λ (u : Bool). u && v) same

pub locks_conflict : LocksConflict
locks_conflict j c k d a b x y rx ry = by (is_write a || is_write b)
  where
    lx : x.first ≤ the_end
    lx = let p = rx.0 in let q = rx.1 in omega (arith, p, q)

    ly : y.first ≤ the_end
    ly = let p = ry.0 in let q = ry.1 in omega (arith, p, q)

    meets : (nat_le x.first x.last && nat_le y.first y.last && nat_le x.first y.last && nat_le y.first x.last)
        ≡ nat_le (max x.first y.first) (min x.last y.last)
    meets = let p = rx.0 in let q = ry.0 in grind (arith, nat_tests, p, q)

    parts : (not_above x.first (last_of x.last) && not_above y.first (last_of y.last) && not_above x.first (last_of y.last)
        && not_above y.first (last_of x.last)) ≡ extents_meet x y
    parts = rw (
      above_last x.first x.last lx rx.1,
      above_last y.first y.last ly ry.1,
      above_last x.first y.last lx ry.1,
      above_last y.first x.last ly rx.1,
    ) meets

    by : (v : Bool) → (v && (not_above x.first (last_of x.last) && not_above y.first (last_of y.last) && not_above x.first (last_of y.last)
        && not_above y.first (last_of x.last))) ≡ (if v then extents_meet x y else false)
    by true = parts
    by false = refl

pub writes_clash : WritesClash
writes_clash a b (inl e) (inl f) = rw (e, f) refl
writes_clash a b (inl e) (inr f) = rw (e, f) refl
writes_clash a b (inr e) (inl f) = rw (e, f) refl
writes_clash a b (inr e) (inr f) = rw (e, f) refl
