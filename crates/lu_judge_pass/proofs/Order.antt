-- The order of turns.
use Rattle.std.proofs.Common.{◌≡◌, ℕ, ◌<◌, ◌≤◌, Bool, false, refl, inl, inr, ⊎_elim, arith}
use Rattle.std.specs.Prelude.{◌==◌, ◌&&◌, ◌⊎◌}
use Rattle.std.proofs.lemmas.Bool.{and_left, and_right, ne_eqb}
use Rattle.std.proofs.lemmas.Bool.Decides.{nat_tests}
use Rattle.lu_base.specs.declared.ids.At.{At}
use Rattle.lu_base.specs.declared.ids.Node.{Node}
use Rattle.lu_base.specs.declared.ids.Node.TheVariants.{Client, Target}
use Rattle.lu_spec_laws.specs.Words.Pasts.{NodeUpTo, UpTo, same_node, same_turn}

-- stamp and node of a turn are the other one's or stand before them
abbrev Up : ℕ → Node → ℕ → Node → Type 0
Up s x t y = (s < t) ⊎ ((s ≡ t) × NodeUpTo x y)

stamp_up : (s t : ℕ) (x y : Node) → Up s x t y → s ≤ t
stamp_up s t x y up = ⊎_elim (λ less. omega (arith, less)) (λ same. let is : s ≡ t = same.0 in omega arith) up

-- ---- on and on

node_on : (x y z : Node) → NodeUpTo x y → NodeUpTo y z → NodeUpTo x z
node_on (Client c) (Client d) (Client e) p q = omega arith
node_on (Client c) (Client d) (Target u) p q = tt
node_on (Client c) (Target t) (Client e) p q = absurd q
node_on (Client c) (Target t) (Target u) p q = tt
node_on (Target s) (Client d) z p q = absurd p
node_on (Target s) (Target t) (Client e) p q = absurd q
node_on (Target s) (Target t) (Target u) p q = omega arith

on : (s t u : ℕ) (x y z : Node) → Up s x t y → Up t y u z → Up s x u z
on s t u x y z p q =
    let le : s ≤ t = stamp_up s t x y p in
    let more : t ≤ u = stamp_up t u y z q in
    ⊎_elim
    (λ less. let l : s < t = less in inl (omega arith))
    (λ same. ⊎_elim
    (λ less. let l : t < u = less in inl (omega arith))
    (λ more. let a : s ≡ t = same.0 in let b : t ≡ u = more.0 in inr (omega arith, node_on x y z same.1 more.1)) q)
    p

pub up_to_on : (a b c : At) → UpTo a b → UpTo b c → UpTo a c
up_to_on a b c p q = on a.stamp.0 b.stamp.0 c.stamp.0 a.node b.node c.node p q

-- ---- another turn

node_before : (x y z : Node) → NodeUpTo x y → NodeUpTo y z → same_node y z ≡ false → same_node x z ≡ false
node_before (Client c) (Client d) (Client e) p q r = grind (arith, nat_tests)
node_before (Client c) (Client d) (Target u) p q r = refl
node_before (Client c) (Target t) (Client e) p q r = absurd q
node_before (Client c) (Target t) (Target u) p q r = refl
node_before (Target s) (Client d) z p q r = absurd p
node_before (Target s) (Target t) (Client e) p q r = absurd q
node_before (Target s) (Target t) (Target u) p q r = grind (arith, nat_tests)

node_after : (x y z : Node) → NodeUpTo x y → NodeUpTo y z → same_node y x ≡ false → same_node z x ≡ false
node_after (Client c) (Client d) (Client e) p q r = grind (arith, nat_tests)
node_after (Client c) (Client d) (Target u) p q r = refl
node_after (Client c) (Target t) (Client e) p q r = absurd q
node_after (Client c) (Target t) (Target u) p q r = refl
node_after (Target s) (Client d) z p q r = absurd p
node_after (Target s) (Target t) (Client e) p q r = absurd q
node_after (Target s) (Target t) (Target u) p q r = grind (arith, nat_tests)

rest_false : (s t : ℕ) (b : Bool) → s ≡ t → (s == t && b) ≡ false → b ≡ false
rest_false s t b is other = grind (arith, nat_tests)

stamp_apart : (s u : ℕ) (b : Bool) → s < u → (s == u && b) ≡ false
stamp_apart s u b less = and_left (s == u) b (ne_eqb s u (λ is. omega arith))

stamp_apart_after : (s u : ℕ) (b : Bool) → s < u → (u == s && b) ≡ false
stamp_apart_after s u b less = and_left (u == s) b (ne_eqb u s (λ is. omega arith))

apart : (s t u : ℕ) (x y z : Node) → Up s x t y → Up t y u z → (t == u && same_node y z) ≡ false → (s == u && same_node x z) ≡ false
apart s t u x y z p q other =
    let le : s ≤ t = stamp_up s t x y p in
    let more : t ≤ u = stamp_up t u y z q in
    ⊎_elim
    (λ less. let l : s < t = less in stamp_apart s u (same_node x z) (omega arith))
    (λ same. ⊎_elim
    (λ less. let l : t < u = less in stamp_apart s u (same_node x z) (omega arith))
    (λ more. and_right (s == u) (same_node x z) (node_before x y z same.1 more.1 (rest_false t u (same_node y z) more.0 other))) q)
    p

apart_after : (s t u : ℕ) (x y z : Node) → Up s x t y → Up t y u z → (t == s && same_node y x) ≡ false → (u == s && same_node z x) ≡ false
apart_after s t u x y z p q other =
    let le : s ≤ t = stamp_up s t x y p in
    let more : t ≤ u = stamp_up t u y z q in
    ⊎_elim
    (λ less. let l : s < t = less in stamp_apart_after s u (same_node z x) (omega arith))
    (λ same. ⊎_elim
    (λ less. let l : t < u = less in stamp_apart_after s u (same_node z x) (omega arith))
    (λ more. let is : s ≡ t = same.0 in and_right (u == s) (same_node z x)
    (node_after x y z same.1 more.1 (rest_false t s (same_node y x) (omega arith) other))) q)
    p

-- what stands before another turn that stands before this one is another turn too
pub other_before : (a b c : At) → UpTo a b → UpTo b c → same_turn b c ≡ false → same_turn a c ≡ false
other_before a b c p q other = apart a.stamp.0 b.stamp.0 c.stamp.0 a.node b.node c.node p q other

-- what stands after another turn that stands after this one is another turn too
pub other_after : (a b c : At) → UpTo a b → UpTo b c → same_turn b a ≡ false → same_turn c a ≡ false
other_after a b c p q other = apart_after a.stamp.0 b.stamp.0 c.stamp.0 a.node b.node c.node p q other
