-- The turn of the metadata target, the life and the request number, as the table's key is compared and as the laws do.
use Rattle.std.proofs.Common.{◌≡◌, ℕ, Bool, true, false, refl, arith}
use Rattle.std.specs.Prelude.{◌==◌, ◌&&◌, if◌then◌else◌, Option, None}
use Rattle.std.proofs.lemmas.Bool.Decides.{nat_tests}
use Rattle.lu_base.specs.declared.ids.At.{At}
use Rattle.lu_base.specs.declared.ids.Node.{Node}
use Rattle.lu_base.specs.declared.ids.Node.TheVariants.{Client, Target}
use Rattle.lu_base.specs.declared.ids.Stamp.{Stamp}
use Rattle.lu_base.specs.declared.ids.Who.{Who}
use Rattle.lu_spec_machine.specs.Tree.{same_life}
use Rattle.lu_spec_laws.specs.Words.Pasts.{is_target, same_node}
use Rattle.lu_spec_laws.specs.Words.Histories.{acts_as}
use Rattle.lu_judge_history.specs.Tables.{is_key}

none_of_all : (s l x : Bool) → false ≡ (((true && (s && false)) && l) && x)
none_of_all true l x = refl
none_of_all false l x = refl

in_order : (n m s l x : Bool) → n ≡ m → (n && ((s && l) && x)) ≡ (((true && (s && m)) && l) && x)
in_order n true true l x e = rw e refl
in_order n true false l x e = rw e refl
in_order n false true l x e = rw e refl
in_order n false false l x e = rw e refl

swap : (a b : ℕ) → (a == b) ≡ (b == a)
swap a b = grind (arith, nat_tests)

by_node : (stamp turn_stamp : Stamp) (own who : Who) (xid x : ℕ) (node : Node)
    → (is_target 0 node && ((stamp.0 == turn_stamp.0 && (own.client == who.client && own.life == who.life)) && xid == x))
    ≡ (((true && (stamp.0 == turn_stamp.0 && same_node (Target 0) node)) && same_life own who) && xid == x)
by_node stamp turn_stamp own who xid x (Client c) = none_of_all (stamp.0 == turn_stamp.0) (same_life own who) (xid == x)
by_node stamp turn_stamp own who xid x (Target t) = in_order (t == 0) (0 == t) (stamp.0 == turn_stamp.0) (same_life own who) (xid == x)
    (swap t 0)

pub key_is : (at turn : At) (own who : Who) (xid x : ℕ) → at.node ≡ Target 0 → is_key at.stamp own xid turn who x
    ≡ acts_as turn who x at own xid
key_is at turn own who xid x is = rw is (by_node at.stamp turn.stamp own who xid x turn.node)

-- what is put at a key, where turns of other nodes have none
pub at_key : {A : Type 0} (n k : Bool) (after old new : Option A) → after ≡ (if k then new else old) → (if n then after else None)
    ≡ (if n && k then new else (if n then old else None))
at_key true k after old new is = is
at_key false k after old new is = refl
