-- What is heard in a turn, by the laws: of a turn that is still to come nothing, and of the one that took a reply that reply's number.
use Rattle.std.proofs.Common.{◌≡◌, ℕ, Bool, true, false, List, [], ◌∷◌, Option, Some, None, refl, sym, subst, ap, arith}
use Rattle.std.specs.Prelude.{nat_eq, nat_lt, ◌&&◌, if◌then◌else◌}
use Rattle.std.proofs.lemmas.Bool.Decides.{nat_tests}
use Rattle.lu_base.specs.declared.ids.At.{At}
use Rattle.lu_base.specs.declared.ids.Node.{Node}
use Rattle.lu_base.specs.declared.ids.Node.TheVariants.{Client, Target}
use Rattle.lu_msg.specs.declared.messages.Message.{Message}
use Rattle.lu_msg.specs.declared.messages.Message.TheVariants as message
use Rattle.lu_msg.specs.declared.messages.Reply.{Reply as ReplyTo}
use Rattle.lu_spec_entries.specs.Words.{Entry, Take, Heard, Told, Line, line, node_before, turn_before}
use Rattle.lu_spec_entries.specs.Printed.{printed}
use Rattle.lu_proof_lawful.specs.Covered.Heads.{Head}
use Rattle.lu_spec_laws.specs.Words.Pasts.{same_turn, or_else}
use Rattle.lu_spec_laws.specs.Words.Calls.{heard_in}
use Rattle.lu_proof_lawful.proofs.Preconditions.Guards.{JustHeard, TookNow, Later}
use Rattle.lu_proof_lawful.proofs.Preconditions.Grown.{Allowed, Grown}
use Rattle.lu_proof_lawful.proofs.Preconditions.Lists.{self}
use Rattle.lu_proof_lawful.proofs.Invariants.Groups.{turn}
use Rattle.lu_proof_lawful.proofs.Laws.Turns.{later_before, same_turn_is, same_turn_self}

lt_self : (n : ℕ) → nat_lt n n ≡ false
lt_self n = grind (arith, nat_tests)

node_not_before : (a : Node) → node_before a a ≡ false
node_not_before (Client c) = lt_self c
node_not_before (Target t) = lt_self t

not_before : (a : At) → turn_before a a ≡ false
not_before a = rw (self a.stamp.0) (node_not_before a.node)

-- an earlier turn is another one
pub other_turn : (a b : At) → turn_before a b ≡ true → same_turn a b ≡ false
other_turn a b e = by (same_turn a b) refl
  where
    by : (v : Bool) → same_turn a b ≡ v → v ≡ false
    by true q = let n = not_before a in let e2 = subst (λ (w : At). turn_before a w ≡ true) (sym (same_turn_is a b q)) e in absurd (cc)
    by false q = refl

-- in a turn that is still to come nothing was heard
pub unheard : (head : Head) (past : List Line) (at : At) → Grown head past → Later past at → heard_in (printed past) at ≡ None
unheard head [] at g later = refl
unheard head (l ∷ past) at g later = by l.entry (unheard head past at g.1 (later_before l past at g.0.steps later))
  where
    none_yet : (was : Option ℕ) (b : Bool) (x : ℕ) → was ≡ None → b ≡ false → or_else was (if b then Some x else None) ≡ None
    none_yet None true x e q = absurd (cc)
    none_yet None false x e q = refl
    none_yet (Some y) b x e q = e

    by : (e : Entry) → heard_in (printed past) at ≡ None → heard_in (printed (line l.at e ∷ past)) at ≡ None
    by (Heard t f r) h = none_yet (heard_in (printed past) at) (same_turn l.at at && nat_eq t 0) r.xid.0 h
        (ap (λ (b : Bool). b && nat_eq t 0) (other_turn l.at at later))
    by _ h = h

-- nor before the line that takes the turn's message
unheard_now : (head : Head) (past : List Line) (at : At) (from : Node) (m : Message) → Grown head past → TookNow past at from m
    → heard_in (printed past) at ≡ None
unheard_now head [] at from m g t = absurd t
unheard_now head (l ∷ past) at from m g t = by l.at.node l.entry g.0 t
  where
    by : (node : Node) (e : Entry) → Allowed head past (turn l.at.stamp node) e → TookNow (line (turn l.at.stamp node) e ∷ past) at from m
        → heard_in (printed (line (turn l.at.stamp node) e ∷ past)) at ≡ None
    by node (Take n sender message) k t = unheard head past at g.1 (subst (λ (v : At). Later past v) t.0 k.ok.later)
    by node _ k t = absurd t

-- it was heard at the metadata target, in this turn
pub just_heard : (head : Head) (past : List Line) (at : At) (c : ℕ) (r : ReplyTo) → Grown head past → at.node ≡ Client c
    → JustHeard past at 0 r → heard_in (printed past) at ≡ Some r.xid.0
just_heard head [] at c r g n j = absurd j
just_heard head (l ∷ past) at c r g n j = by l.at.node l.entry g.0 j (just_heard head past at c r g.1 n)
  where
    first : (here : At) (u x y : ℕ) (was : Option ℕ) → was ≡ None → same_turn here at ≡ true → u ≡ 0 → x ≡ y
        → or_else was (if same_turn here at && nat_eq u 0 then Some x else None) ≡ Some y
    first here u x y None e s z same = rw (s, z) (ap (λ (v : ℕ). Some v) same)
    first here u x y (Some w) e s z same = absurd (cc)

    by : (node : Node) (e : Entry) → Allowed head past (turn l.at.stamp node) e → JustHeard (line (turn l.at.stamp node) e ∷ past) at 0 r
        → (JustHeard past at 0 r → heard_in (printed past) at ≡ Some r.xid.0)
        → heard_in (printed (line (turn l.at.stamp node) e ∷ past)) at ≡ Some r.xid.0
    by (Target u) (Heard v f q) k j h = absurd k.ok
    by (Client d) (Heard v f q) k j h =
        let none = unheard_now head past (turn l.at.stamp (Client d)) (Target v) (message.Reply q) g.1 k.ok.1 in
        first (turn l.at.stamp (Client d)) v q.xid.0 r.xid.0 (heard_in (printed past) at)
        (subst (λ (w : At). heard_in (printed past) w ≡ None) j.0 none)
        (subst (λ (w : At). same_turn w at ≡ true) (sym j.0) (same_turn_self at)) j.1 (ap (λ (w : ReplyTo). w.xid.0) j.2)
    by (Client d) (Told slot named given work) k j h = absurd j
    by (Target u) (Told slot named given work) k j h = absurd j
    by _ _ k j h = h j
