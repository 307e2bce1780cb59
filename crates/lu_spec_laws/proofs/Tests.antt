-- What tests on nodes, turns and lives say.
use Rattle.std.proofs.Common.{◌≡◌, ℕ, Bool, true, false, refl, ap, subst}
use Rattle.std.specs.Prelude.{◌==◌, ◌&&◌, ◌||◌, not}
use Rattle.std.proofs.lemmas.Bool.{eq-eqb, eqb-true}
use Rattle.lu_base.specs.declared.ids.At.{At}
use Rattle.lu_base.specs.declared.ids.Node.{Node}
use Rattle.lu_base.specs.declared.ids.Node.TheVariants.{Client, Target}
use Rattle.lu_base.specs.declared.ids.Who.{Who}
use Rattle.lu_spec_laws.specs.Words.Pasts.{is_client, is_target, same_node, same_turn}
use Rattle.lu_spec_machine.specs.Tree.{same_life}

pub refuted : (a : Bool) → not a ≡ true → a ≡ false
refuted true e = absurd (cc)
refuted false e = refl

pub settled : (a : Bool) → a ≡ false → not a ≡ true
settled true e = absurd (cc)
settled false e = refl

-- what is so isn't not so
pub clash : (a : Bool) → a ≡ true → a ≡ false → ⊥
clash true e f = absurd (cc)
clash false e f = absurd (cc)

pub both : {a b : Bool} → a ≡ true → b ≡ true → (a && b) ≡ true
both {a = true} {b} p q = q
both {a = false} {b} p q = absurd (cc)

pub either_left : {a : Bool} (b : Bool) → a ≡ true → (a || b) ≡ true
either_left {a = true} b p = refl
either_left {a = false} b p = absurd (cc)

pub either_right : (a : Bool) {b : Bool} → b ≡ true → (a || b) ≡ true
either_right true p = refl
either_right false p = p

pub itself : (n : ℕ) → (n == n) ≡ true
itself n = eq-eqb n n refl

pub same_node_itself : (n : Node) → same_node n n ≡ true
same_node_itself (Client c) = itself c
same_node_itself (Target t) = itself t

pub same_turn_itself : (at : At) → same_turn at at ≡ true
same_turn_itself at = both (itself at.stamp.0) (same_node_itself at.node)

pub first_of : (a b : Bool) → (a && b) ≡ true → a ≡ true
first_of true b e = refl
first_of false b e = absurd (cc)

pub rest_of : (a b : Bool) → (a && b) ≡ true → b ≡ true
rest_of true b e = e
rest_of false b e = absurd (cc)

pub client_is : (c : ℕ) (n : Node) → is_client c n ≡ true → n ≡ Client c
client_is c (Client d) e = ap (λ (v : ℕ). Client v) (eqb-true d c e)
client_is c (Target t) e = absurd (cc)

pub target_is : (t : ℕ) (n : Node) → is_target t n ≡ true → n ≡ Target t
target_is t (Client c) e = absurd (cc)
target_is t (Target u) e = ap (λ (v : ℕ). Target v) (eqb-true u t e)

pub node_is : (a b : Node) → same_node a b ≡ true → a ≡ b
node_is a (Client c) e = client_is c a e
node_is a (Target t) e = target_is t a e

pub turn_is : (a b : At) → same_turn a b ≡ true → a ≡ b
turn_is a b e =
    subst (λ (n : Node). a ≡ record { stamp = b.stamp; node = n }) (node_is a.node b.node (rest_of _ _ e))
    (subst (λ (s : ℕ). a ≡ record { stamp = record { 0 = s }; node = a.node }) (eqb-true a.stamp.0 b.stamp.0 (first_of _ _ e)) refl)

pub life_is : (a b : Who) → same_life a b ≡ true → a ≡ b
life_is a b e =
    subst (λ (v : ℕ). a ≡ record { client = b.client; life = v }) (eqb-true a.life b.life (rest_of _ _ e))
    (subst (λ (d : ℕ). a ≡ record { client = d; life = a.life }) (eqb-true a.client b.client (first_of _ _ e)) refl)
