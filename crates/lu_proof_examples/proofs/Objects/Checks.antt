-- Tests of stories by which guards over all answers, locks and transactions of a story are shown by computing.
use Rattle.std.proofs.Common.{◌≡◌, inl, inr, ℕ, ◌<◌, Bool, true, false, List, [], ◌∷◌, refl, sym, subst, arith}
use Rattle.std.specs.Prelude.{nat_eq, nat_lt, ◌&&◌, ◌||◌, not}
use Rattle.std.proofs.lemmas.Bool.{and_parts}
use Rattle.std.proofs.lemmas.Bool.Decides.{nat_tests}
use Rattle.lu_proof_bytes.specs.Object.Words.{Lock, Answer, Entry, Hold, Drop, Grant, Wait, Promote, Acts, Txn, Release, Close, conflict}
use Rattle.lu_proof_bytes.specs.Object.Folds.{Answered, HeldBy, IsGranted, Changed, evicted}

-- ---- no request of that number was answered

abbrev pub apart : (c x d y : ℕ) → Bool
apart c x d y = not (nat_eq c d && nat_eq x y)

abbrev pub unanswered : ℕ → ℕ → List Entry → Bool
unanswered c x [] = true
unanswered c x (Grant r l s seen ∷ h) = apart r.life r.xid c x && unanswered c x h
unanswered c x (Wait r l ∷ h) = apart r.life r.xid c x && unanswered c x h
unanswered c x (Acts r a ∷ h) = apart r.life r.xid c x && unanswered c x h
unanswered c x (Txn n r ∷ h) = apart r.life r.xid c x && unanswered c x h
unanswered c x (_ ∷ h) = unanswered c x h

not_both : (c x d y : ℕ) → apart c x d y ≡ true → c ≡ d → x ≡ y → ⊥
not_both c x d y t e f = absurd (grind (arith, nat_tests))

pub no_answer : (h : List Entry) (c x : ℕ) → unanswered c x h ≡ true → (a : Answer) → Answered h c x a → ⊥
no_answer [] c x t a i = i
no_answer (Close b lost gone ∷ h) c x t a i = no_answer h c x t a i.0
no_answer (Grant r l s seen ∷ h) c x t a (inl i) = not_both r.life r.xid c x (and_parts _ _ t).0 i.0 i.1
no_answer (Grant r l s seen ∷ h) c x t a (inr i) = no_answer h c x (and_parts (apart r.life r.xid c x) _ t).1 a i
no_answer (Wait r l ∷ h) c x t a (inl i) = not_both r.life r.xid c x (and_parts _ _ t).0 i.0 i.1
no_answer (Wait r l ∷ h) c x t a (inr i) = no_answer h c x (and_parts (apart r.life r.xid c x) _ t).1 a i
no_answer (Acts r b ∷ h) c x t a (inl i) = not_both r.life r.xid c x (and_parts _ _ t).0 i.0 i.1
no_answer (Acts r b ∷ h) c x t a (inr i) = no_answer h c x (and_parts (apart r.life r.xid c x) _ t).1 a i
no_answer (Txn n r ∷ h) c x t a (inl i) = not_both r.life r.xid c x (and_parts _ _ t).0 i.0 i.1
no_answer (Txn n r ∷ h) c x t a (inr i) = no_answer h c x (and_parts (apart r.life r.xid c x) _ t).1 a i
no_answer (_ ∷ h) c x t a i = no_answer h c x t a i

-- ---- each held lock, and each granted one, has a property

abbrev pub all_held : (Lock → Bool) → List Entry → Bool
all_held P [] = true
all_held P (Hold l s seen ∷ h) = P l && all_held P h
all_held P (Drop l ∷ h) = all_held (λ m. nat_eq l.cookie m.cookie || P m) h
all_held P (_ ∷ h) = all_held P h

abbrev pub all_granted : (Lock → Bool) → List Entry → Bool
all_granted P [] = true
all_granted P (Close b lost gone ∷ h) = all_held (λ m. (gone m.life || evicted m.life h) || P m) h
all_granted P (Grant r l s seen ∷ h) = P l && all_granted P h
all_granted P (Promote l ∷ h) = P l && all_granted P h
all_granted P (Release k ∷ h) = all_granted (λ m. nat_eq k m.cookie || P m) h
all_granted P (_ ∷ h) = all_granted P h

or_other : (k j : ℕ) (b : Bool) → (nat_eq k j || b) ≡ true → (k ≡ j → ⊥) → b ≡ true
or_other k j b t other = by (nat_eq k j) refl t
  where
    by : (v : Bool) → nat_eq k j ≡ v → (v || b) ≡ true → b ≡ true
    by false e f = f
    by true e f = absurd (other (grind (arith, nat_tests)))

or_false : (a b : Bool) → (a || b) ≡ true → a ≡ false → b ≡ true
or_false false b t e = t
or_false true b t e = absurd (cc)

pub held_has : (P : Lock → Bool) (h : List Entry) (m : Lock) → all_held P h ≡ true → HeldBy h m → P m ≡ true
held_has P [] m t i = absurd i
held_has P (Hold l s seen ∷ h) m t (inl e) = subst (λ (x : Lock). P x ≡ true) e (and_parts (P l) _ t).0
held_has P (Hold l s seen ∷ h) m t (inr i) = held_has P h m (and_parts (P l) _ t).1 i
held_has P (Drop l ∷ h) m t i = or_other l.cookie m.cookie (P m) (held_has (λ m. nat_eq l.cookie m.cookie || P m) h m t i.1) i.0
held_has P (_ ∷ h) m t i = held_has P h m t i

pub granted_has : (P : Lock → Bool) (h : List Entry) (m : Lock) → all_granted P h ≡ true → IsGranted h m → P m ≡ true
granted_has P [] m t i = absurd i
granted_has P (Close b lost gone ∷ h) m t i =
    or_false (gone m.life || evicted m.life h) (P m) (held_has (λ m. (gone m.life || evicted m.life h) || P m) h m t i.0) i.1
granted_has P (Grant r l s seen ∷ h) m t (inl e) = subst (λ (x : Lock). P x ≡ true) e (and_parts (P l) _ t).0
granted_has P (Grant r l s seen ∷ h) m t (inr i) = granted_has P h m (and_parts (P l) _ t).1 i
granted_has P (Promote l ∷ h) m t (inl e) = subst (λ (x : Lock). P x ≡ true) e (and_parts (P l) _ t).0
granted_has P (Promote l ∷ h) m t (inr i) = granted_has P h m (and_parts (P l) _ t).1 i
granted_has P (Release k ∷ h) m t i = or_other k m.cookie (P m) (granted_has (λ m. nat_eq k m.cookie || P m) h m t i.1) i.0
granted_has P (_ ∷ h) m t i = granted_has P h m t i

-- a lock conflicts with no granted one
abbrev pub is_free : Lock → List Entry → Bool
is_free l h = all_granted (λ m. not (conflict l m)) h

not_true : (b : Bool) → not b ≡ true → b ≡ false
not_true false e = refl
not_true true e = absurd (cc)

pub free_is : (l : Lock) (h : List Entry) → is_free l h ≡ true → (m : Lock) → IsGranted h m → conflict l m ≡ false
free_is l h t m i = not_true (conflict l m) (granted_has (λ m. not (conflict l m)) h m t i)

-- ---- each number of a transaction that stands has a property

abbrev pub all_standing : (ℕ → Bool) → List Entry → Bool
all_standing P [] = true
all_standing P (Txn m r ∷ h) = P m && all_standing P h
all_standing P (Close b lost gone ∷ h) = all_standing (λ n. lost n || P n) h
all_standing P (_ ∷ h) = all_standing P h

standing_has : (P : ℕ → Bool) (h : List Entry) (n p : ℕ) → all_standing P h ≡ true → Changed h n p → P n ≡ true
standing_has P [] n p t i = absurd i
standing_has P (Txn m r ∷ h) n p t (inl e) = subst (λ (x : ℕ). P x ≡ true) (sym e.0) (and_parts (P m) _ t).0
standing_has P (Txn m r ∷ h) n p t (inr i) = standing_has P h n p (and_parts (P m) _ t).1 i
standing_has P (Close b lost gone ∷ h) n p t i = or_false (lost n) (P n) (standing_has (λ n. lost n || P n) h n p t i.1) i.0
standing_has P (_ ∷ h) n p t i = standing_has P h n p t i

-- `seen` has all that stands above a number
abbrev pub sees_above : ℕ → (ℕ → Bool) → List Entry → Bool
sees_above to seen h = all_standing (λ n. not (nat_lt to n) || seen n) h

above : (to n : ℕ) (b : Bool) → (not (nat_lt to n) || b) ≡ true → to < n → b ≡ true
above to n b t i = by (nat_lt to n) refl t
  where
    by : (v : Bool) → nat_lt to n ≡ v → (not v || b) ≡ true → b ≡ true
    by true e f = f
    by false e f = absurd (grind (arith, nat_tests))

pub seen_is : (seen : ℕ → Bool) (h : List Entry) (to : ℕ) → sees_above to seen h ≡ true → (n p : ℕ) → Changed h n p → to < n → seen n ≡ true
seen_is seen h to t n p i over = above to n (seen n) (standing_has (λ n. not (nat_lt to n) || seen n) h n p t i) over

-- ---- whoever holds the lock of a cookie is evicted

abbrev pub holder_is_out : ℕ → List Entry → Bool
holder_is_out k h = all_granted (λ m. not (nat_eq m.cookie k) || evicted m.life h) h

pub released : (k : ℕ) (h : List Entry) → holder_is_out k h ≡ true → (m : Lock) → IsGranted h m → m.cookie ≡ k → evicted m.life h ≡ true
released k h t m i e = by (nat_eq m.cookie k) refl (granted_has (λ m. not (nat_eq m.cookie k) || evicted m.life h) h m t i)
  where
    by : (v : Bool) → nat_eq m.cookie k ≡ v → (not v || evicted m.life h) ≡ true → evicted m.life h ≡ true
    by true f g = g
    by false f g = absurd (grind (arith, nat_tests))
