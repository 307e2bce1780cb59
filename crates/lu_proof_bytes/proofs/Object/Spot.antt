-- Changes, patches and reads at one position.
use Rattle.std.proofs.Common.{◌≡◌, ℕ, suc, ◌+◌, ◌<◌, ◌≤◌, ◌⊎◌, inl, inr, List, [], ◌∷◌, length, Option, Some, None, Bool, true, false, refl}
use Rattle.std.proofs.Common.{sym, ap, ◌∙◌, arith}
use Rattle.std.specs.Prelude.{nat_eq, nat_lt, if◌then◌else◌, ◌||◌}
use Rattle.std.proofs.lemmas.Bool.{eqb-true, eqb-false, both_ways, and_parts, ltb-true, ltb-false}
use Rattle.std.proofs.lemmas.Bool.Decides.{nat_tests}
use Rattle.lu_proof_bytes.specs.Object.Words.{Lock, Change, Write, Cut, Op, Flush, Answer, Done, not_above, covers, conflict, overlay}
use Rattle.lu_proof_bytes.specs.Object.Words.{within, value, cut_at, after_at, changes, end_after}
use Rattle.lu_proof_bytes.specs.Object.Folds.{after_op, is_some, cut_by, dirty_by, cut_acked, dirty_acked, cut_over, over, cut_below}
use Rattle.lu_proof_bytes.specs.Object.Folds.{masked, touched, reads_at, base}
use Rattle.lu_proof_bytes.specs.Object.Guards.{in_run}

-- ---- runs

pub run_out : (at : ℕ) (bs : List ℕ) (p : ℕ) (x : Option ℕ) → within at bs p ≡ false → overlay at bs p x ≡ x
run_out at [] p x e = refl
run_out at (b ∷ bs) p x e = grind (arith, run_out (suc at) bs p x)

pub run_in : (at : ℕ) (bs : List ℕ) (p : ℕ) → within at bs p ≡ true → (b : ℕ) × ((x : Option ℕ) → overlay at bs p x ≡ Some b)
run_in at [] p e = absurd (cc)
run_in at (b ∷ bs) p e = by (nat_eq at p) refl (run_in (suc at) bs p)
  where
    by : (v : Bool) → nat_eq at p ≡ v → (within (suc at) bs p ≡ true → (b : ℕ) × ((x : Option ℕ) → overlay (suc at) bs p x ≡ Some b))
        → (c : ℕ) × ((x : Option ℕ) → (if nat_eq at p then Some b else overlay (suc at) bs p x) ≡ Some c)
    by true f ih = (b, λ x. rw f)
    by false f ih = let r = ih (grind arith) in (r.0, λ x. rw (f, r.1 x))

pub run_bounds : (at : ℕ) (bs : List ℕ) (p : ℕ) → within at bs p ≡ true → (at ≤ p) × (p < at + length bs)
run_bounds at [] p e = absurd (cc)
run_bounds at (b ∷ bs) p e = grind (arith, nat_tests, run_bounds (suc at) bs p)

pub in_run_of : (at : ℕ) (bs : List ℕ) (n p : ℕ) → length bs ≡ n → within at bs p ≡ true → in_run at n p ≡ true
in_run_of at bs n p e w = let r = run_bounds at bs p w in let a = r.0 in let b = r.1 in grind (arith, nat_tests)

pub run_some : (at : ℕ) (bs : List ℕ) (p v : ℕ) → overlay at bs p None ≡ Some v → within at bs p ≡ true
run_some at bs p v e = by (within at bs p) refl
  where
    by : (w : Bool) → within at bs p ≡ w → within at bs p ≡ true
    by true f = f
    by false f = absurd (let g = run_out at bs p None f in cc)

pub run_same : (at : ℕ) (bs : List ℕ) (p : ℕ) (x y : Option ℕ) → within at bs p ≡ true → overlay at bs p x ≡ overlay at bs p y
run_same at bs p x y w = let r = run_in at bs p w in r.1 x ∙ sym (r.1 y)

-- ---- changes

pub unchanged : (ch : Change) (p : ℕ) (x : Option ℕ) → changes ch p ≡ false → after_at ch p x ≡ x
unchanged (Write at bs) p x e = run_out at bs p x e
unchanged (Cut n) p x e = grind (arith, nat_tests)

pub twice : (ch : Change) (p : ℕ) (x : Option ℕ) → after_at ch p (after_at ch p x) ≡ after_at ch p x
twice (Write at bs) p x = by (within at bs p) refl
  where
    by : (w : Bool) → within at bs p ≡ w → overlay at bs p (overlay at bs p x) ≡ overlay at bs p x
    by true f = run_same at bs p (overlay at bs p x) x f
    by false f = run_out at bs p (overlay at bs p x) f
twice (Cut n) p None = grind (arith, nat_tests)
twice (Cut n) p (Some b) = grind (arith, nat_tests)

-- ---- a change over a patch

pub told_over : (ch : Change) (q d : Option ℕ) (p : ℕ) (x : Option ℕ)
    → over (cut_by ch q) (dirty_by ch q p d) p x ≡ after_at ch p (over q d p x)
told_over (Write at bs) q d p x = by (within at bs p) refl
  where
    by : (w : Bool) → within at bs p ≡ w → over q (overlay at bs p d) p x ≡ overlay at bs p (over q d p x)
    by true f = let r = run_in at bs p f in rw (r.1 d, r.1 (over q d p x))
    by false f = rw (run_out at bs p d f, run_out at bs p (over q d p x) f)
told_over (Cut n) None None p x = grind (arith, nat_tests)
told_over (Cut n) None (Some b) p x = grind (arith, nat_tests)
told_over (Cut n) (Some q) None p None = grind (arith, nat_tests)
told_over (Cut n) (Some q) None p (Some y) = grind (arith, nat_tests)
told_over (Cut n) (Some q) (Some b) p x = grind (arith, nat_tests)

pub told_changes : (ch : Change) (q d : Option ℕ) (p : ℕ) → changes ch p ≡ true → touched (cut_by ch q) (dirty_by ch q p d) p ≡ true
told_changes (Write at bs) q d p e = let r = run_in at bs p e in rw (r.1 d)
told_changes (Cut n) None d p e = grind (arith, nat_tests)
told_changes (Cut n) (Some q) d p e = grind (arith, nat_tests)

pub told_touched : (ch : Change) (q d : Option ℕ) (p : ℕ) → touched q d p ≡ true → touched (cut_by ch q) (dirty_by ch q p d) p ≡ true
told_touched (Write at bs) q d p e = by (within at bs p) refl
  where
    by : (w : Bool) → within at bs p ≡ w → touched q (overlay at bs p d) p ≡ true
    by true f = let r = run_in at bs p f in rw (r.1 d)
    by false f = rw (run_out at bs p d f, e)
told_touched (Cut n) None None p e = grind (arith, nat_tests)
told_touched (Cut n) None (Some b) p e = grind (arith, nat_tests)
told_touched (Cut n) (Some q) None p e = grind (arith, nat_tests)
told_touched (Cut n) (Some q) (Some b) p e = grind (arith, nat_tests)

pub told_masked : (ch : Change) (q d : Option ℕ) (p : ℕ) → masked q d p ≡ true → masked (cut_by ch q) (dirty_by ch q p d) p ≡ true
told_masked (Write at bs) q d p e = by (within at bs p) refl
  where
    by : (w : Bool) → within at bs p ≡ w → masked q (overlay at bs p d) p ≡ true
    by true f = let r = run_in at bs p f in rw (r.1 d)
    by false f = rw (run_out at bs p d f, e)
told_masked (Cut n) None None p e = grind (arith, nat_tests)
told_masked (Cut n) None (Some b) p e = grind (arith, nat_tests)
told_masked (Cut n) (Some q) None p e = grind (arith, nat_tests)
told_masked (Cut n) (Some q) (Some b) p e = grind (arith, nat_tests)

pub told_new : (ch : Change) (q d : Option ℕ) (p : ℕ) → touched (cut_by ch q) (dirty_by ch q p d) p ≡ true
    → (changes ch p ≡ true) ⊎ (touched q d p ≡ true)
told_new (Write at bs) q d p e = by (within at bs p) refl
  where
    by : (w : Bool) → within at bs p ≡ w → (within at bs p ≡ true) ⊎ (touched q d p ≡ true)
    by true f = inl f
    by false f = inr (let g = run_out at bs p d f in rw (sym g) e)
told_new (Cut n) None None p e = grind (arith, nat_tests)
told_new (Cut n) None (Some b) p e = inr refl
told_new (Cut n) (Some q) None p e = grind (arith, nat_tests)
told_new (Cut n) (Some q) (Some b) p e = inr refl

-- ---- a patch over a changed object

pub masked_over : (q d : Option ℕ) (p : ℕ) (x y : Option ℕ) → masked q d p ≡ true → over q d p x ≡ over q d p y
masked_over q (Some b) p x y e = refl
masked_over None None p x y e = absurd (cc)
masked_over (Some q) None p x y e = grind (arith, nat_tests)

pub cut_under : (q n : ℕ) (d : Option ℕ) (p : ℕ) (x : Option ℕ) → q ≤ n → over (Some q) d p (cut_at n p x) ≡ over (Some q) d p x
cut_under q n (Some b) p x e = refl
cut_under q n None p None e = grind (arith, nat_tests)
cut_under q n None p (Some y) e = grind (arith, nat_tests)

pub cut_value : (q n : ℕ) (d : Option ℕ) (p : ℕ) (x : Option ℕ) → q ≤ n → masked (Some q) d p ≡ false → value (cut_at n p x) ≡ value x
cut_value q n (Some b) p x e m = absurd (cc)
cut_value q n None p x e m = grind (arith, nat_tests)

pub untouched_over : (q d : Option ℕ) (p : ℕ) (x : Option ℕ) → touched q d p ≡ false → over q d p x ≡ x
untouched_over q (Some b) p x e = absurd (cc)
untouched_over None None p x e = refl
untouched_over (Some q) None p x e = grind (arith, nat_tests)

pub masked_touched : (q d : Option ℕ) (p : ℕ) → masked q d p ≡ true → touched q d p ≡ true
masked_touched q (Some b) p e = refl
masked_touched None None p e = absurd (cc)
masked_touched (Some q) None p e = grind (arith, nat_tests)

-- ---- what is read is under the patch

pub reads_value : (q d k : Option ℕ) (p v : ℕ) (x : Option ℕ) → reads_at q d k p ≡ Some v
    → (masked q d p ≡ false → k ≡ Some v → value x ≡ v) → value (over q d p x) ≡ v
reads_value q (Some b) k p v x e f = cc
reads_value None None k p v x e f = f refl e
reads_value (Some q) None k p v x e f = grind (arith, nat_tests)

-- ---- two locks

below_last : (f p : ℕ) (last : Option ℕ) → nat_lt f (suc p) ≡ true → not_above p last ≡ true → not_above f last ≡ true
below_last f p None a b = refl
below_last f p (Some q) a b = grind (arith, nat_tests)

pub conflict_at : (l m : Lock) (p : ℕ) → covers l p ≡ true → covers m p ≡ true → (l.write || m.write) ≡ true → conflict l m ≡ true
conflict_at l m p a b w =
    let la = and_parts (nat_lt l.first (suc p)) (not_above p l.last) a in
    let ma = and_parts (nat_lt m.first (suc p)) (not_above p m.last) b in
    rw (
      w,
      below_last l.first p l.last la.0 la.1,
      below_last m.first p m.last ma.0 ma.1,
      below_last l.first p m.last la.0 ma.1,
      below_last m.first p l.last ma.0 la.1,
    )

-- ---- acknowledgements

-- the byte is in the change that was taken, as it is in the patch, and under no pending cut
abbrev pub Flown : Change → Option ℕ → Option ℕ → ℕ → Type 0
Flown (Write at bs) q d p = (within at bs p ≡ true) × (d ≡ overlay at bs p None) × (cut_below q p ≡ false)
Flown (Cut n) q d p = ⊥

-- so it is in what a request writes back, if it does
abbrev pub FlownBy : Op → Option ℕ → Option ℕ → ℕ → Type 0
FlownBy (Flush k ch) q d p = Flown ch q d p
FlownBy _ q d p = Unit {0}

kept_cut : (q : Option ℕ) (p b : ℕ) → cut_below q p ≡ false → cut_over q p (Some b) ≡ Some b
kept_cut None p b e = refl
kept_cut (Some q) p b e = grind (arith, nat_tests)

pub acked_over : (op : Op) (a : Answer) (q d : Option ℕ) (f : Bool) (p : ℕ) (x : Option ℕ) → ((m : ℕ) → a ≡ Done m → x ≡ after_op op p x)
    → (f ≡ true → FlownBy op q d p) → over (cut_acked op a q) (dirty_acked op a f d) p x ≡ over q d p x
acked_over (Flush k (Write at bs)) (Done m) q d true p x done fly =
    let g = fly refl in
    let r = run_in at bs p g.0 in
    let is : x ≡ Some r.0 = done m refl ∙ r.1 x in
    let has : d ≡ Some r.0 = g.1 ∙ r.1 None in
    let k : cut_over q p (Some r.0) ≡ Some r.0 = kept_cut q p r.0 g.2 in
    rw (is, has, k)
acked_over (Flush k (Write at bs)) (Done m) q d false p x done fly = refl
acked_over (Flush k (Cut n)) (Done m) (Some q) (Some b) f p x done fly = refl
acked_over (Flush k (Cut n)) (Done m) (Some q) None f p x done fly = by (nat_eq q n) refl
  where
    by : (v : Bool) → nat_eq q n ≡ v → cut_over (if v then None else Some q) p x ≡ cut_at q p x
    by true e = done m refl ∙ ap (λ (j : ℕ). cut_at j p x) (sym (eqb-true q n e))
    by false e = refl
acked_over _ a q d f p x done fly = refl

-- an acknowledgement touches nothing new
pub acked_touched : (op : Op) (a : Answer) (q d : Option ℕ) (f : Bool) (p : ℕ) → touched (cut_acked op a q) (dirty_acked op a f d) p ≡ true
    → touched q d p ≡ true
acked_touched (Flush k (Write at bs)) (Done m) q None f p e = grind (arith, nat_tests)
acked_touched (Flush k (Write at bs)) (Done m) q (Some b) f p e = refl
acked_touched (Flush k (Cut n)) (Done m) (Some q) (Some b) f p e = refl
acked_touched (Flush k (Cut n)) (Done m) (Some q) None f p e = grind (arith, nat_tests)
acked_touched _ a q d f p e = e

-- ---- ends

pub run_last : (at : ℕ) (bs : List ℕ) (p : ℕ) → at ≤ p → p < at + length bs → within at bs p ≡ true
run_last at [] p a b = absurd (omega arith)
run_last at (b ∷ bs) p a l = by (nat_eq at p) refl (λ m. run_last (suc at) bs p m (omega arith))
  where
    by : (v : Bool) → nat_eq at p ≡ v → (suc at ≤ p → within (suc at) bs p ≡ true) → (nat_eq at p || within (suc at) bs p) ≡ true
    by true e ih = rw e
    by false e ih = let ne = eqb-false at p e in rw (e, ih (grind arith))

pub end_none : (ch : Change) (e p : ℕ) (x : Option ℕ) → end_after ch e ≤ p → (e ≤ p → x ≡ None) → after_at ch p x ≡ None
end_none (Write at []) e p x low none = none low
end_none (Write at (b ∷ bs)) e p x low none = by (within at (b ∷ bs) p) refl
  where
    by : (v : Bool) → within at (b ∷ bs) p ≡ v → overlay at (b ∷ bs) p x ≡ None
    by true f = absurd (let r = run_bounds at (b ∷ bs) p f in let r1 = r.1 in omega arith)
    by false f = run_out at (b ∷ bs) p x f ∙ none (omega arith)
end_none (Cut n) e p x low none = grind (arith, nat_tests)

some_run : (at : ℕ) (bs : List ℕ) (p : ℕ) (x : Option ℕ) → is_some x ≡ true → is_some (overlay at bs p x) ≡ true
some_run at bs p x e = by (within at bs p) refl
  where
    by : (v : Bool) → within at bs p ≡ v → is_some (overlay at bs p x) ≡ true
    by true f = let r = run_in at bs p f in rw (r.1 x)
    by false f = rw (run_out at bs p x f, e)

pub end_some : (ch : Change) (e p : ℕ) (x : Option ℕ) → suc p ≡ end_after ch e → (suc p ≡ e → is_some x ≡ true)
    → is_some (after_at ch p x) ≡ true
end_some (Write at []) e p x is some = some is
end_some (Write at (b ∷ bs)) e p x is some = by (nat_lt e (suc p)) refl
  where
    by : (v : Bool) → nat_lt e (suc p) ≡ v → is_some (overlay at (b ∷ bs) p x) ≡ true
    by true f = let low = ltb-true e (suc p) f in by_eq (nat_eq e (suc p)) refl
      where
        by_eq : (v : Bool) → nat_eq e (suc p) ≡ v → is_some (overlay at (b ∷ bs) p x) ≡ true
        by_eq true g = some_run at (b ∷ bs) p x (some (sym (eqb-true e (suc p) g)))
        by_eq false g =
            let low = ltb-true e (suc p) f in
            let ne = eqb-false e (suc p) g in
            let top : suc p ≡ at + suc (length bs) = grind arith in
            let r = run_in at (b ∷ bs) p (run_last at (b ∷ bs) p (omega arith) (omega arith)) in rw (r.1 x)
    by false f = let high = ltb-false e (suc p) f in some_run at (b ∷ bs) p x (some (omega arith))
end_some (Cut n) e p x is some = grind (arith, nat_tests)

pub end_above : (at : ℕ) (bs : List ℕ) (e : ℕ) → 0 < length bs → at + length bs ≤ end_after (Write at bs) e
end_above at [] e low = absurd (omega arith)
end_above at (b ∷ bs) e low = omega arith

pub end_least : (at : ℕ) (bs : List ℕ) (e : ℕ) → e ≤ end_after (Write at bs) e
end_least at [] e = omega arith
end_least at (b ∷ bs) e = omega arith

pub end_other : (at : ℕ) (bs : List ℕ) (e p : ℕ) → suc p ≡ end_after (Write at bs) e → within at bs p ≡ false → suc p ≡ e
end_other at [] e p top out = top
end_other at (b ∷ bs) e p top out = by (nat_eq (suc p) e) refl
  where
    by : (v : Bool) → nat_eq (suc p) e ≡ v → suc p ≡ e
    by true f = eqb-true (suc p) e f
    by false f =
        let ne = eqb-false (suc p) e f in
        let at_top : suc p ≡ at + suc (length bs) = grind arith in
        absurd (both_ways (within at (b ∷ bs) p) out (run_last at (b ∷ bs) p (omega arith) (omega arith)))

pub over_none : (q d : Option ℕ) (e p : ℕ) (x : Option ℕ) → d ≡ None → base q e ≤ p → (e ≤ p → touched q d p ≡ false → x ≡ None)
    → over q d p x ≡ None
over_none q (Some b) e p x n low f = absurd (cc)
over_none None None e p x n low f = f low refl
over_none (Some q) None e p x n low f = grind (arith, nat_tests)

pub over_some : (q d : Option ℕ) (e p : ℕ) (x : Option ℕ) → (suc p ≡ base q e) ⊎ (is_some d ≡ true)
    → (suc p ≡ e → touched q d p ≡ false → is_some x ≡ true) → is_some (over q d p x) ≡ true
over_some q (Some b) e p x t f = refl
over_some None None e p x (inl t) f = f t refl
over_some None None e p x (inr t) f = absurd (cc)
over_some (Some q) None e p x (inl t) f = grind (arith, nat_tests)
over_some (Some q) None e p x (inr t) f = absurd (cc)
