-- Turns: what is later, by the rows and by the laws.
use Rattle.std.proofs.Common.{◌≡◌, ℕ, Bool, true, false, List, [], ◌∷◌, inl, inr, ⊎_elim, refl, sym, subst, ap, ◌∙◌, arith}
use Rattle.std.specs.Prelude.{nat_eq, nat_lt, ◌&&◌}
use Rattle.std.proofs.lemmas.Bool.{and_parts, cond_both, eqb-true, ltb-true}
use Rattle.lu_base.specs.declared.ids.At.{At}
use Rattle.lu_base.specs.declared.ids.Node.{Node}
use Rattle.lu_base.specs.declared.ids.Node.TheVariants.{Client, Target}
use Rattle.lu_spec_entries.specs.Words.{Line, node_before, turn_before}
use Rattle.lu_spec_laws.specs.Words.Pasts.{NodeUpTo, UpTo, same_turn, same_node}
use Rattle.lu_proof_lawful.proofs.Preconditions.Guards.{Later, Steps}
use Rattle.lu_proof_lawful.proofs.Preconditions.Lists.{self, turn_trans}
use Rattle.lu_proof_lawful.proofs.Invariants.Groups.{turn, Upto}
use Rattle.lu_proof_lawful.proofs.Invariants.Times.{upto_trans}

-- ---- by the rows

pub steps_trans : (past : List Line) (a b : At) → Steps past a → Upto a b → Steps past b
steps_trans [] a b s u = tt
steps_trans (l ∷ past) a b s u = upto_trans l.at a b s u

-- what is later than the newest turn is later than those before
pub later_before : (l : Line) (past : List Line) (at : At) → Steps past l.at → turn_before l.at at ≡ true → Later past at
later_before l [] at s b = tt
later_before l (m ∷ past) at s b = ⊎_elim (λ (e : m.at ≡ l.at). subst (λ (v : At). turn_before v at ≡ true) (sym e) b)
    (λ (e : turn_before m.at l.at ≡ true). turn_trans m.at l.at at e b) s

-- ---- by the laws

node_self : (a : Node) → NodeUpTo a a
node_self (Client c) = omega arith
node_self (Target t) = omega arith

node_upto : (a b : Node) → node_before a b ≡ true → NodeUpTo a b
node_upto (Client c) (Client d) e = let l = ltb-true c d e in omega arith
node_upto (Client c) (Target t) e = tt
node_upto (Target t) (Client c) e = absurd (cc)
node_upto (Target t) (Target u) e = let l = ltb-true t u e in omega arith

pub upto_is : (a b : At) → Upto a b → UpTo a b
upto_is a b (inl e) = subst (λ (v : At). UpTo a v) e (inr (refl, node_self a.node))
upto_is a b (inr e) =
    cond_both (nat_eq a.stamp.0 b.stamp.0) (node_before a.node b.node) (nat_lt a.stamp.0 b.stamp.0) (λ (v : Bool). v ≡ true → UpTo a b)
    (λ t q. inr (eqb-true a.stamp.0 b.stamp.0 t, node_upto a.node b.node q))
    (λ t q. inl (ltb-true a.stamp.0 b.stamp.0 q))
    e

same_node_is : (a b : Node) → same_node a b ≡ true → a ≡ b
same_node_is (Client c) (Client d) e = ap Client (eqb-true c d e)
same_node_is (Client c) (Target t) e = absurd (cc)
same_node_is (Target t) (Client c) e = absurd (cc)
same_node_is (Target t) (Target u) e = ap Target (eqb-true t u e)

pub same_node_self : (a : Node) → same_node a a ≡ true
same_node_self (Client c) = self c
same_node_self (Target t) = self t

pub same_turn_is : (a b : At) → same_turn a b ≡ true → a ≡ b
same_turn_is a b e =
    let p = and_parts (nat_eq a.stamp.0 b.stamp.0) (same_node a.node b.node) e in
    ap (λ (n : ℕ). turn (record { 0 = n }) a.node) (eqb-true a.stamp.0 b.stamp.0 p.0)
    ∙ ap (λ (n : Node). turn b.stamp n) (same_node_is a.node b.node p.1)

pub same_turn_self : (a : At) → same_turn a a ≡ true
same_turn_self a = rw (self a.stamp.0, same_node_self a.node) refl

-- a turn of a target isn't a client's
pub other_node : (at here : At) (t c : ℕ) → at.node ≡ Target t → here.node ≡ Client c → same_turn at here ≡ false
other_node at here t c n m = subst (λ (v : Node). same_turn (turn at.stamp v) here ≡ false) (sym n)
    (subst (λ (v : Node). same_turn (turn at.stamp (Target t)) (turn here.stamp v) ≡ false) (sym m)
    (and_no (nat_eq at.stamp.0 here.stamp.0)))
  where
    and_no : (b : Bool) → (b && false) ≡ false
    and_no true = refl
    and_no false = refl
