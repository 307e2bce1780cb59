-- Turns, and where they end.
use Rattle.std.proofs.Common.{◌≡◌, ℕ, Bool, true, false, List, [], ◌∷◌, refl, ap, ◌∙◌, sym, subst}
use Rattle.std.specs.Prelude.{◌==◌, ◌&&◌, not, if◌then◌else◌}
use Rattle.lu_base.specs.declared.ids.At.{At}
use Rattle.lu_base.specs.declared.ids.Stamp.{Stamp}
use Rattle.lu_base.specs.declared.ids.Node.{Node}
use Rattle.lu_base.specs.declared.ids.Node.TheVariants.{Client, Target}
use Rattle.lu_trace.specs.declared.entries.Line.{Line}
use Rattle.lu_spec_laws.specs.Words.Pasts.{Past, is_client, is_target, same_node, same_turn}
use Rattle.lu_spec_laws.specs.Words.Glimpses.{to_turn_end}
use Rattle.lu_judge_glimpse.specs.Shown.{turn_end, ends}
use Rattle.lu_judge_glimpse.proofs.Numbers.{eq_same, eq_is, and_left, and_right, and_true}

node_is : (a b : Node) → same_node a b ≡ true → a ≡ b
node_is (Client c) (Client d) is = ap Client (eq_is c d is)
node_is (Target t) (Client d) is = absurd (cc (is))
node_is (Client c) (Target u) is = absurd (cc (is))
node_is (Target t) (Target u) is = ap Target (eq_is t u is)

node_same : (a : Node) → same_node a a ≡ true
node_same (Client c) = eq_same c
node_same (Target t) = eq_same t

turn_same : (a : At) → same_turn a a ≡ true
turn_same a = and_true (a.stamp.0 == a.stamp.0) (same_node a.node a.node) (eq_same a.stamp.0) (node_same a.node)

turn_is : (a b : At) → same_turn a b ≡ true → a ≡ b
turn_is a b is =
    let stamps : a.stamp.0 ≡ b.stamp.0 = eq_is a.stamp.0 b.stamp.0 (and_left (a.stamp.0 == b.stamp.0) (same_node a.node b.node) is) in
    let nodes : a.node ≡ b.node = node_is a.node b.node (and_right (a.stamp.0 == b.stamp.0) (same_node a.node b.node) is) in
    ap (λ (n : ℕ). record { stamp = record { 0 = n }; node = a.node }) stamps
    ∙ ap (λ (n : Node). record { stamp = record { 0 = b.stamp.0 }; node = n }) nodes

turn_other : (a b : At) → same_turn a b ≡ false → same_turn b a ≡ false
turn_other a b is = by (same_turn b a) refl
  where
    by : (v : Bool) → same_turn b a ≡ v → v ≡ false
    by false e = refl
    by true e = absurd (cc (is, subst (λ (x : At). same_turn a x ≡ true) (sym (turn_is b a e)) (turn_same a)))

-- the turn goes on with the next line
pub turn_goes_on : (k l : Line) (past : Past) (later : List Line) → same_turn k.at l.at ≡ true → turn_end (k ∷ past) (l ∷ later)
    ≡ turn_end (l ∷ k ∷ past) later
turn_goes_on k l past later is =
    let same : k.at ≡ l.at = turn_is k.at l.at is in
    let back : same_turn l.at k.at ≡ true = subst (λ (a : At). same_turn l.at a ≡ true) (sym same) (turn_same l.at) in
    ap (λ (v : Bool). if v then to_turn_end k.at later (l ∷ k ∷ past) else (k ∷ past)) back
    ∙ ap (λ (a : At). to_turn_end a later (l ∷ k ∷ past)) same

-- it ends here
pub ended_here : (past : Past) (later : List Line) → ends past later ≡ true → turn_end past later ≡ past
ended_here [] later is = refl
ended_here (k ∷ past) [] is = refl
ended_here (k ∷ past) (l ∷ later) is =
    ap (λ (v : Bool). if v then to_turn_end k.at later (l ∷ k ∷ past) else (k ∷ past))
    (turn_other k.at l.at (not_true (same_turn k.at l.at) is))
  where
    not_true : (v : Bool) → not v ≡ true → v ≡ false
    not_true false e = refl
    not_true true e = absurd (cc (e))

pub same_of_not : (v : Bool) → not v ≡ false → v ≡ true
same_of_not true e = refl
same_of_not false e = absurd (cc (e))

pub other_of_not : (v : Bool) → not v ≡ true → v ≡ false
other_of_not false e = refl
other_of_not true e = absurd (cc (e))
