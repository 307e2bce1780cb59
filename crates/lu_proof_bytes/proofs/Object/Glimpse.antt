-- What a glimpse tells is the size of the history at that moment.
use Rattle.std.proofs.Common.{◌≡◌, ℕ, suc, zero, ◌<◌, ◌≤◌, ◌+◌, ◌⊎◌, inl, inr, List, Option, Some, None, Bool, true, false, refl, ap, ◌∙◌}
use Rattle.std.proofs.Common.{subst, arith}
use Rattle.std.specs.Prelude.{nat_lt}
use Rattle.std.proofs.lemmas.Bool.{both_ways, ltb-true, and_parts}
use Rattle.std.proofs.lemmas.Bool.Decides.{nat_tests}
use Rattle.lu_proof_bytes.specs.Object.Words.{Lock, Entry, not_above, covers}
use Rattle.lu_proof_bytes.specs.Object.Folds.{evicted, IsGranted, object, nothing_lost, pending, dirty, touched, is_some, base, over}
use Rattle.lu_proof_bytes.specs.Object.History.{Item, history, plain, size_of}
use Rattle.lu_proof_bytes.specs.Object.Guards.{IsEnd, EndAt, AllAllowed}
use Rattle.lu_proof_bytes.proofs.Object.Locks.{held_granted}
use Rattle.lu_proof_bytes.proofs.Object.Spot.{over_none, over_some}
use Rattle.lu_proof_bytes.proofs.Object.Facts.{Outs, lives}
use Rattle.lu_proof_bytes.proofs.Object.Ends.{Bounds, hides, covers_on}
use Rattle.lu_proof_bytes.proofs.Object.Views.{covered, size_is, same_end}
use Rattle.lu_proof_bytes.proofs.Object.World.{Later, World, world, kept_none}

-- the history so far, without lives that are out: those evicted here, and any others
abbrev pub now : (ℕ → Bool) → List Entry → List Item
now out h = history out nothing_lost h

later_now : (out : ℕ → Bool) (h : List Entry) → AllAllowed h → Outs out h → Later out nothing_lost h
later_now out h all outs = (world h all).later out nothing_lost outs (kept_none h all out outs)

same_size : (m : ℕ → Option ℕ) (y z : ℕ) → ((p : ℕ) → y ≤ p → m p ≡ None) → ((p : ℕ) → suc p ≡ y → is_some (m p) ≡ true)
    → ((p : ℕ) → z ≤ p → m p ≡ None) → ((p : ℕ) → suc p ≡ z → is_some (m p) ≡ true) → y ≡ z
same_size m zero zero a b c d = refl
same_size m zero (suc z) a b c d = let r = same_end m 0 0 (suc z) (λ p i j. a p j) (λ p i j. d p j) (omega arith) in absurd (omega arith)
same_size m (suc y) zero a b c d = let r = same_end m 0 0 (suc y) (λ p i j. c p j) (λ p i j. b p j) (omega arith) in absurd (omega arith)
same_size m (suc y) (suc z) a b c d =
    let r = same_end m 0 (suc y) (suc z) (λ p i j. a p j) (λ p i j. d p j) (omega arith) in
    let t = same_end m 0 (suc z) (suc y) (λ p i j. c p j) (λ p i j. b p j) (omega arith) in
    omega arith

-- no PW lock reaches a position: the target's byte is the history's
pub target_byte : (out : ℕ → Bool) (h : List Entry) → AllAllowed h → Outs out h → (p : ℕ)
    → ((l : Lock) → IsGranted h l → l.write ≡ true → covers l p ≡ true → ⊥) → plain (now out h) p ≡ object nothing_lost h p
target_byte out h all outs p none = (later_now out h all outs).views.rest p (λ c o. by c o (touched (pending c h) (dirty c h p) p) refl)
  where
    w : World h
    w = world h all

    by : (c : ℕ) → out c ≡ false → (v : Bool) → touched (pending c h) (dirty c h p) p ≡ v → touched (pending c h) (dirty c h p) p ≡ false
    by c o false t = t
    by c o true t = let k = w.patches.cover c p t in absurd (none k.lock
        (held_granted h k.lock w.numbers w.locks k.held (ap (λ (d : ℕ). evicted d h) k.life ∙ lives out h c outs o)) k.mode k.covered)

-- where no PW lock is granted, the target's size is the history's
pub glimpse_free : (out : ℕ → Bool) (h : List Entry) (s : ℕ) → AllAllowed h → Outs out h → IsEnd h s
    → ((l : Lock) → IsGranted h l → l.write ≡ true → ⊥) → s ≡ size_of (now out h)
glimpse_free out h s all outs end none =
    let at = λ (p : ℕ). target_byte out h all outs p (λ l g m c. none l g m) in
    let t = size_is (now out h) in
    same_size (λ p. plain (now out h) p) s (size_of (now out h)) (λ p i. at p ∙ end.0 p i) (λ p i. ap is_some (at p) ∙ end.1 p i) t.0 t.1

-- where each granted PW lock ends below the object's end, the target's size is the history's: nobody may cut
pub glimpse_above : (out : ℕ → Bool) (h : List Entry) (s : ℕ) → AllAllowed h → Outs out h → IsEnd h s
    → ((l : Lock) → IsGranted h l → l.write ≡ true → (e : ℕ) × (l.last ≡ Some e) × (e < s)) → s ≡ size_of (now out h)
glimpse_above out h s all outs end short =
    let t = size_is (now out h) in
    same_size (λ p. plain (now out h) p) s (size_of (now out h)) none some t.0 t.1
  where
    w : World h
    w = world h all

    above : (l : Lock) (p e : ℕ) → l.last ≡ Some e → covers l p ≡ true → p ≤ e
    above l p e last c =
        let b = (and_parts (nat_lt l.first (suc p)) (not_above p l.last) c).1 in
        let d : not_above p (Some e) ≡ true = subst (λ (o : Option ℕ). not_above p o ≡ true) last b in
        let f = ltb-true p (suc e) d in
        omega arith

    none : (p : ℕ) → s ≤ p → plain (now out h) p ≡ None
    none p i = target_byte out h all outs p (λ l g m c. let b = short l g m in let f = above l p b.0 b.1 c in let x = b.2 in omega arith)
        ∙ end.0 p i

    -- a pending cut lies under a lock to the end
    uncut : (c n : ℕ) → out c ≡ false → pending c h ≡ Some n → ⊥
    uncut c n live e =
        let k = w.patches.cuts c n e in
        let b = short k.lock (held_granted h k.lock w.numbers w.locks k.held (ap (λ (d : ℕ). evicted d h) k.life ∙ lives out h c outs live))
        k.mode in
        let f = above k.lock (suc b.0 + n) b.0 b.1 (k.covered (suc b.0 + n) (grind (arith, nat_tests))) in
        omega arith

    over_uncut : (q d : Option ℕ) (p : ℕ) (x : Option ℕ) → ((n : ℕ) → q ≡ Some n → ⊥) → is_some x ≡ true → is_some (over q d p x) ≡ true
    over_uncut q (Some b) p x u e = refl
    over_uncut None None p x u e = e
    over_uncut (Some n) None p x u e = absurd (u n refl)

    -- the object's last byte stays, with or without a dirty byte over it
    some : (p : ℕ) → suc p ≡ s → is_some (plain (now out h) p) ≡ true
    some p i = by (is_some (plain (now out h) p)) refl
      where
        by : (v : Bool) → is_some (plain (now out h) p) ≡ v → is_some (plain (now out h) p) ≡ true
        by true e = e
        by false e = ap is_some ((later_now out h all outs).views.rest p (λ c o. clear c o (touched (pending c h) (dirty c h p) p) refl))
            ∙ end.1 p i
          where
            clear : (c : ℕ) → out c ≡ false → (v : Bool) → touched (pending c h) (dirty c h p) p ≡ v
                → touched (pending c h) (dirty c h p) p ≡ false
            clear c o false t = t
            clear c o true t = absurd (both_ways (is_some (plain (now out h) p)) e
                (ap is_some ((later_now out h all outs).views.seen c p o t)
                ∙ over_uncut (pending c h) (dirty c h p) p (object nothing_lost h p) (λ n x. uncut c n o x) (end.1 p i)))

-- the end that a holder of a lock to the end knows, where it lies above the lock's start, is the history's size at that moment
pub glimpse_peek : (out : ℕ → Bool) (h : List Entry) (c u0 z : ℕ) → AllAllowed h → Outs out h → out c ≡ false → (u : EndAt h c u0 z)
    → u.lock.first < z → z ≡ size_of (now out h)
glimpse_peek out h c u0 z all outs live u low =
    let t = size_is (now out h) in
    let a = same_end (λ p. plain (now out h) p) u.lock.first (size_of (now out h)) z (λ p i j. t.0 p j) some low in
    let b = same_end (λ p. plain (now out h) p) u.lock.first z (size_of (now out h)) none (λ p i j. t.1 p j) (omega arith) in
    omega arith
  where
    w : World h
    w = world h all

    later : Later out nothing_lost h
    later = later_now out h all outs

    view : (p : ℕ) → u.lock.first ≤ p → plain (now out h) p ≡ over (pending c h) (dirty c h p) p (object nothing_lost h p)
    view p i = covered out nothing_lost h c p u.lock outs w.numbers w.locks w.patches later.views live u.held u.life
        (covers_on u.lock p u.last i)

    bounds : Bounds nothing_lost h u.lock.first u.end (hides h c)
    bounds = subst (λ (d : ℕ). Bounds nothing_lost h u.lock.first u.end (hides h d)) u.life
        (later.ends.kept u.lock u.end u.held (ap out u.life ∙ live) u.last u.known)

    none : (p : ℕ) → u.lock.first ≤ p → z ≤ p → plain (now out h) p ≡ None
    none p i j = let b = u.over.0 in view p i ∙ over_none (pending c h) (dirty c h p) u.end p (object nothing_lost h p) (u.over.1 p j)
        (omega arith) (λ x y. bounds.none p i x y)

    top : (p : ℕ) → suc p ≡ z → (z ≡ base (pending c h) u.end) ⊎ ((q : ℕ) × (suc q ≡ z) × (is_some (dirty c h q) ≡ true))
        → (suc p ≡ base (pending c h) u.end) ⊎ (is_some (dirty c h p) ≡ true)
    top p j (inl e) = inl (j ∙ e)
    top p j (inr (q, e, f)) = let same : q ≡ p = omega arith in inr (subst (λ (k : ℕ). is_some (dirty c h k) ≡ true) same f)

    some : (p : ℕ) → u.lock.first ≤ p → suc p ≡ z → is_some (plain (now out h) p) ≡ true
    some p i j = ap is_some (view p i) ∙ over_some (pending c h) (dirty c h p) u.end p (object nothing_lost h p) (top p j u.over.2)
        (λ x y. bounds.some p i x y)
