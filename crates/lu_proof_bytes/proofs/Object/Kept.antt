-- Lost transactions: what a life that stays has heard of is not among them.
use Rattle.std.proofs.Common.{◌≡◌, ℕ, ◌<◌, ◌≤◌, inl, inr, List, [], ◌∷◌, Option, Bool, true, false, refl, sym, ap, ◌∙◌, arith}
use Rattle.std.specs.Prelude.{nat_lt, if◌then◌else◌, ◌||◌}
use Rattle.std.proofs.lemmas.Bool.{ltb-true, ltb-false}
use Rattle.lu_proof_bytes.specs.Object.Words.{Op, Enqueue, Get, Flush, Size, Answer, Granted, Waiting, Content, Done, Sized, Uncovered}
use Rattle.lu_proof_bytes.specs.Object.Words.{Entry, Takes, Flies, Heard, Hold, Drop, Forgets, Tells, Grant, Wait, Promote, Acts, Txn}
use Rattle.lu_proof_bytes.specs.Object.Words.{Release, Evict, Commit, Close, Send}
use Rattle.lu_proof_bytes.specs.Object.Folds.{also, nothing_lost, object, committed, op_changes, after_op, Changed}
use Rattle.lu_proof_bytes.specs.Object.Guards.{HeardOf, KeptFor, Sees}
use Rattle.lu_proof_bytes.proofs.Object.Spot.{unchanged}
use Rattle.lu_proof_bytes.proofs.Object.Numbers.{Numbers}

op_unchanged : (op : Op) (p : ℕ) (x : Option ℕ) → op_changes op p ≡ false → after_op op p x ≡ x
op_unchanged (Flush k ch) p x e = unchanged ch p x e
op_unchanged (Get k at n) p x e = refl
op_unchanged (Enqueue w f t) p x e = refl
op_unchanged Size p x e = refl

or_same : (a b c : Bool) → (c ≡ false → a ≡ b) → (a || c) ≡ (b || c)
or_same a b true f = grind arith
or_same a b false f = ap (λ (x : Bool). x || false) (f refl)

-- the object depends on what is lost only through what changed there
pub agree : (a b : ℕ → Bool) (h : List Entry) (p : ℕ) → ((n : ℕ) → Changed h n p → a n ≡ b n) → object a h p ≡ object b h p
agree a b [] p e = refl
agree a b (Close d l gone ∷ h) p e = agree (also a l) (also b l) h p (λ n i. or_same (a n) (b n) (l n) (λ x. e n (x, i)))
agree a b (Txn m r ∷ h) p e = by (op_changes r.op p) refl (agree a b h p (λ n i. e n (inr i)))
  where
    by : (v : Bool) → op_changes r.op p ≡ v → object a h p ≡ object b h p
        → (if a m then object a h p else after_op r.op p (object a h p)) ≡ (if b m then object b h p else after_op r.op p (object b h p))
    by true t ih = rw (e m (inl (refl, t)), ih)
    by false t ih = either (a m) (object a h p) ∙ ih ∙ sym (either (b m) (object b h p))
      where
        either : (v : Bool) (x : Option ℕ) → (if v then x else after_op r.op p x) ≡ x
        either true x = refl
        either false x = op_unchanged r.op p x t
agree a b (Takes c k ch ∷ h) p e = agree a b h p e
agree a b (Flies r ∷ h) p e = agree a b h p e
agree a b (Heard r x ∷ h) p e = agree a b h p e
agree a b (Hold l s sn ∷ h) p e = agree a b h p e
agree a b (Drop l ∷ h) p e = agree a b h p e
agree a b (Forgets c ∷ h) p e = agree a b h p e
agree a b (Tells c call ∷ h) p e = agree a b h p e
agree a b (Grant r l s sn ∷ h) p e = agree a b h p e
agree a b (Wait r l ∷ h) p e = agree a b h p e
agree a b (Promote l ∷ h) p e = agree a b h p e
agree a b (Acts r x ∷ h) p e = agree a b h p e
agree a b (Release k ∷ h) p e = agree a b h p e
agree a b (Evict c ∷ h) p e = agree a b h p e
agree a b (Commit n ∷ h) p e = agree a b h p e
agree a b (Send m ∷ h) p e = agree a b h p e

or_false : (a b : Bool) → (a || b) ≡ false → a ≡ false
or_false true b e = absurd (cc)
or_false false b e = refl

both_false : (a b : Bool) → a ≡ false → b ≡ false → (a || b) ≡ false
both_false a b e f = rw (e, f)

-- no committed transaction is lost
pub kept_committed : (out lost : ℕ → Bool) (h : List Entry) → KeptFor out lost h → (n : ℕ) → 0 < n → n ≤ committed h → lost n ≡ false
kept_committed out lost [] k n z low = absurd (omega arith)
kept_committed out lost (Commit m ∷ h) k n z low = k.0 n low
kept_committed out lost (Close d l gone ∷ h) k n z low = or_false (lost n) (l n) (kept_committed out (also lost l) h k n z low)
kept_committed out lost (Heard r a ∷ h) k n z low = kept_committed out lost h k.1 n z low
kept_committed out lost (Hold l s sn ∷ h) k n z low = kept_committed out lost h k.1 n z low
kept_committed out lost (_ ∷ h) k n z low = kept_committed out lost h k n z low

-- what is so of a story is so of what came before its last entry, if that isn't a close
pub kept_less : (out lost : ℕ → Bool) (h : List Entry) (e : Entry) → ((d : ℕ) (l gone : ℕ → Bool) → e ≡ Close d l gone → ⊥)
    → KeptFor out lost (e ∷ h) → KeptFor out lost h
kept_less out lost h (Heard r a) p k = k.1
kept_less out lost h (Hold l s sn) p k = k.1
kept_less out lost h (Commit m) p k = k.1
kept_less out lost h (Close d l gone) p k = absurd (p d l gone refl)
kept_less out lost h _ p k = k

-- who saw all that is not committed reads the same bytes when others are lost
pub sees_same : (out lost : ℕ → Bool) (h : List Entry) (seen at : ℕ → Bool) (p : ℕ) → Numbers h → KeptFor out lost h → Sees h seen at
    → ((n : ℕ) → seen n ≡ true → lost n ≡ false) → at p ≡ true → object lost h p ≡ object nothing_lost h p
sees_same out lost h seen at p w k s f a = agree lost nothing_lost h p (λ n i. by n i (nat_lt (committed h) n) refl)
  where
    by : (n : ℕ) → Changed h n p → (v : Bool) → nat_lt (committed h) n ≡ v → lost n ≡ false
    by n i true e = f n (s n p a i (ltb-true (committed h) n e))
    by n i false e = kept_committed out lost h k n (w.positive n p i) (ltb-false (committed h) n e)

-- two sets of lost transactions that each are nothing to those who stay
heard_both : (a b : ℕ → Bool) (x : Answer) → HeardOf a x → HeardOf b x → HeardOf (also a b) x
heard_both a b (Done n) e f = both_false (a n) (b n) e f
heard_both a b (Content vs top sn) e f = λ n i. both_false (a n) (b n) (e n i) (f n i)
heard_both a b (Granted l s sn) e f = tt
heard_both a b (Waiting k) e f = tt
heard_both a b (Sized z) e f = tt
heard_both a b Uncovered e f = tt

heard_same : (a b : ℕ → Bool) (x : Answer) → ((n : ℕ) → a n ≡ b n) → HeardOf a x → HeardOf b x
heard_same a b (Done n) s e = sym (s n) ∙ e
heard_same a b (Content vs top sn) s e = λ n i. sym (s n) ∙ e n i
heard_same a b (Granted l z sn) s e = tt
heard_same a b (Waiting k) s e = tt
heard_same a b (Sized z) s e = tt
heard_same a b Uncovered s e = tt

pub kept_same : (out a b : ℕ → Bool) (h : List Entry) → ((n : ℕ) → a n ≡ b n) → KeptFor out a h → KeptFor out b h
kept_same out a b [] s k = tt
kept_same out a b (Heard r x ∷ h) s k = (λ o. heard_same a b x s (k.0 o), kept_same out a b h s k.1)
kept_same out a b (Hold l z sn ∷ h) s k = (λ o n i. sym (s n) ∙ k.0 o n i, kept_same out a b h s k.1)
kept_same out a b (Commit m ∷ h) s k = (λ n i. sym (s n) ∙ k.0 n i, kept_same out a b h s k.1)
kept_same out a b (Close d l gone ∷ h) s k = kept_same out (also a l) (also b l) h (λ n. ap (λ (x : Bool). x || l n) (s n)) k
kept_same out a b (_ ∷ h) s k = kept_same out a b h s k

or_move : (a b c : Bool) → ((a || c) || (b || c)) ≡ ((a || b) || c)
or_move a b c = grind arith

pub kept_both : (out a b : ℕ → Bool) (h : List Entry) → KeptFor out a h → KeptFor out b h → KeptFor out (also a b) h
kept_both out a b [] k j = tt
kept_both out a b (Heard r x ∷ h) k j = (λ o. heard_both a b x (k.0 o) (j.0 o), kept_both out a b h k.1 j.1)
kept_both out a b (Hold l z sn ∷ h) k j = (λ o n i. both_false (a n) (b n) (k.0 o n i) (j.0 o n i), kept_both out a b h k.1 j.1)
kept_both out a b (Commit m ∷ h) k j = (λ n i. both_false (a n) (b n) (k.0 n i) (j.0 n i), kept_both out a b h k.1 j.1)
kept_both out a b (Close d l gone ∷ h) k j = kept_same out (also (also a l) (also b l)) (also (also a b) l) h
    (λ n. or_move (a n) (b n) (l n)) (kept_both out (also a l) (also b l) h k j)
kept_both out a b (_ ∷ h) k j = kept_both out a b h k j

-- fewer lives that stay: the same may be lost
pub kept_outs : (a b lost : ℕ → Bool) (h : List Entry) → ((c : ℕ) → b c ≡ false → a c ≡ false) → KeptFor a lost h → KeptFor b lost h
kept_outs a b lost [] s k = tt
kept_outs a b lost (Heard r x ∷ h) s k = (λ o. k.0 (s r.life o), kept_outs a b lost h s k.1)
kept_outs a b lost (Hold l z sn ∷ h) s k = (λ o. k.0 (s l.life o), kept_outs a b lost h s k.1)
kept_outs a b lost (Commit m ∷ h) s k = (k.0, kept_outs a b lost h s k.1)
kept_outs a b lost (Close d l gone ∷ h) s k = kept_outs a b (also lost l) h s k
kept_outs a b lost (_ ∷ h) s k = kept_outs a b lost h s k
