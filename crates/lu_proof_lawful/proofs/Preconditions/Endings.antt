-- A turn that ends a life: it is the newest one until the next life begins, and it took no other message than the notice.
use Rattle.std.proofs.Common.{◌≡◌, ℕ, true, List, [], ◌∷◌, inl, inr, ⊎_elim, sym, subst, ap, ◌∙◌}
use Rattle.lu_base.specs.declared.ids.At.{At}
use Rattle.lu_base.specs.declared.ids.Node.{Node}
use Rattle.lu_base.specs.declared.ids.Node.TheVariants.{Target}
use Rattle.lu_base.specs.declared.ids.Stamp.{Stamp}
use Rattle.lu_base.specs.declared.ids.Who.{Who}
use Rattle.lu_msg.specs.declared.messages.Message.TheVariants as message
use Rattle.lu_msg.specs.declared.messages.Reply.{Reply as ReplyTo}
use Rattle.lu_spec_entries.specs.Words.{Entry, Take, Line, line, turn_before}
use Rattle.lu_proof_lawful.specs.Covered.Calls.{life_at}
use Rattle.lu_proof_lawful.specs.Covered.Heads.{Head}
use Rattle.lu_proof_lawful.proofs.Preconditions.Guards.{Took, TookNow, Noticed, Later, Ending, Closes, EntryOk}
use Rattle.lu_proof_lawful.proofs.Preconditions.Grown.{Grown}
use Rattle.lu_proof_lawful.proofs.Preconditions.Lists.{turn, turn_irreflexive}
use Rattle.lu_proof_lawful.proofs.Preconditions.Ends.{took_more, none_took}

pub noticed_more : (l : Line) (past : List Line) (at : At) (who : Who) → Noticed past at who → Noticed (l ∷ past) at who
noticed_more l past at who n = record {
  target = n.target;
  boot = n.boot;
  took =
      took_more l past at (Target n.target) (message.Evicted who n.boot) n.took;
}

-- a line that leaves the life leaves the turn that ends it
pub ending_more : (past : List Line) (stamp : Stamp) (node : Node) (e : Entry) (c : ℕ) → Closes past (turn stamp node) → life_at c past
    ≡ life_at c (line (turn stamp node) e ∷ past) → Ending past c → Ending (line (turn stamp node) e ∷ past) c
ending_more [] stamp node e c closes same k = absurd k
ending_more (l ∷ past) stamp node e c (inr over) same k = absurd (over c k)
ending_more (l ∷ past) stamp node e c (inl now) same k = (
  ap (λ (at : At). at.node) (sym now) ∙ k.0,
  subst (λ v. Noticed (line (turn stamp node) e ∷ l ∷ past) (turn stamp node) v) same
      (subst (λ (at : At). Noticed (line (turn stamp node) e ∷ l ∷ past) at (life_at c (l ∷ past))) now
      (noticed_more (line (turn stamp node) e) (l ∷ past) l.at (life_at c (l ∷ past)) k.1)),
)

-- what a turn begins with comes after it
pub later_ends : (past : List Line) (at : At) (c : ℕ) → Closes past at → Later past at → Ending past c → ⊥
later_ends [] at c closes later k = k
later_ends (l ∷ past) at c (inl now) later k = turn_irreflexive at (subst (λ (a : At). turn_before a at ≡ true) now later)
later_ends (l ∷ past) at c (inr over) later k = over c k

-- a turn that took a reply took no notice
pub reply_ends_none : (head : Head) (past : List Line) (at : At) (from : Node) (r : ReplyTo) (c : ℕ) → Grown head past
    → TookNow past at from (message.Reply r) → Ending past c → ⊥
reply_ends_none head [] at from r c g now k = absurd now
reply_ends_none head (l ∷ past) at from r c g now k = by l.entry g.0.ok now k.1.took
  where
    by : (e : Entry) → EntryOk past l.at l.at.node e → TookNow (line l.at e ∷ past) at from (message.Reply r)
        → Took (line l.at e ∷ past) l.at (Target k.1.target) (message.Evicted (life_at c (l ∷ past)) k.1.boot) → ⊥
    by (Take n sender m) ok now took = ⊎_elim
        (λ (p : (l.at ≡ l.at) × (sender ≡ Target k.1.target) × (m ≡ message.Evicted (life_at c (l ∷ past)) k.1.boot)). let q = now.2
        in let w = p.2 in absurd (cc))
        (λ (p : Took past l.at (Target k.1.target) (message.Evicted (life_at c (l ∷ past)) k.1.boot)). none_took head past l.at
        (Target k.1.target) (message.Evicted (life_at c (l ∷ past)) k.1.boot) g.1 ok.later p)
        took
    by _ ok now took = absurd now
