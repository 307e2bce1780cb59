-- What a client holds of the metadata target came with a reply that its present life heard. And a lock that is over, which a client doesn't
-- hold and never
-- will, stays so.
use Rattle.std.proofs.Common.{◌≡◌, ℕ, false, List, [], ◌∷◌, ◌⊎◌, inl, inr, ⊎_elim, refl, sym, subst, ap, ◌∙◌}
use Rattle.std.specs.Prelude.{nat_eq, not}
use Rattle.std.proofs.lemmas.Bool.{cond_both, eqb-true}
use Rattle.lu_base.specs.declared.ids.Node.{Node}
use Rattle.lu_base.specs.declared.ids.Node.TheVariants.{Client, Target}
use Rattle.lu_base.specs.declared.ids.Stamp.{Stamp}
use Rattle.lu_base.specs.declared.ids.Who.{Who}
use Rattle.lu_base.specs.declared.locks.Lock.{Lock}
use Rattle.lu_msg.specs.declared.messages.Message.TheVariants as message
use Rattle.lu_msg.specs.declared.messages.Reply.{Reply as ReplyTo}
use Rattle.lu_held.specs.declared.locks.HeldLock.{HeldLock}
use Rattle.lu_held.specs.Locks.{is_named, named}
use Rattle.lu_held.specs.Held.{without}
use Rattle.lu_spec_entries.specs.Carried.{Deed, Flight}
use Rattle.lu_spec_entries.specs.Words.{Entry, Heard, Hold, Drop, Life, Pins, Unpins, Marks, Unmarks, Line, line}
use Rattle.lu_spec_entries.specs.Concerns.{concerns, only}
use Rattle.lu_spec_client.specs.Caches.{held_as, with_brought, brought, held_at}
use Rattle.lu_proof_lawful.specs.Covered.ClientStates.{life_of}
use Rattle.lu_proof_lawful.specs.Covered.Heads.{Head}
use Rattle.lu_proof_lawful.proofs.Preconditions.Guards.{In}
use Rattle.lu_proof_lawful.proofs.Preconditions.StoryGuards.{HeardOk, EntryOf}
use Rattle.lu_proof_lawful.proofs.Preconditions.Grown.{Grown}
use Rattle.lu_proof_lawful.proofs.Preconditions.Lists.{in_filter, own_self}
use Rattle.lu_proof_lawful.proofs.Invariants.Groups.{turn, HeardAs, HoldsAt}
use Rattle.lu_proof_lawful.proofs.Invariants.TargetGroups.{Flew, RepliesTo, Gave, IsOver}
use Rattle.lu_proof_lawful.proofs.Invariants.LockLists.{Kept, kept_same, brought_in}
use Rattle.lu_proof_lawful.proofs.Invariants.LocksHeld.{pins_held, unpins_held, marks_held, unmarks_held, shown_held}
use Rattle.lu_proof_lawful.proofs.Invariants.Locks.{keeps_dead, keeps_lapsed}
use Rattle.lu_proof_lawful.proofs.Invariants.All.{holds}
use Rattle.lu_proof_lawful.proofs.Invariants.FirstDeeds.{FirstOf, first_line}

-- ---- a reply that is heard is to what was done

module _ (head : Head) (past : List Line) (c : ℕ) (f : Flight) (r : ReplyTo) (ok : HeardOk past c f r) (all : HoldsAt head past) where
  abbrev pub answers : RepliesTo head.osts past c r
  answers = all.done.sent (Target ok.from) (Client c) (message.Reply r) ok.was

  pub done_who : answers.deed.reply.who ≡ life_of c past
  done_who = ap (λ (v : ReplyTo). v.who) (sym answers.is) ∙ ok.who

  pub done_xid : f.xid ≡ answers.deed.reply.xid.0
  done_xid = ok.xid ∙ ap (λ (v : ReplyTo). v.xid.0) answers.is

  pub done_op : f.op ≡ answers.deed.op
  done_op =
      let g = all.done.flew answers.deed answers.acted in
      let same : f ≡ g.0 = all.numbers.one (life_of c past) f g.0 (all.numbers.flying (life_of c past) f ok.flying)
      (subst (λ (w : Who). Flew past w g.0) done_who g.1) (done_xid ∙ sym g.2) in
      ap (λ (v : Flight). v.op) same ∙ g.3

-- ---- what is held was held, or comes with the reply that is heard

abbrev pub Comes : (past new : List Line) → ℕ → HeldLock → Type 0
Comes past new b h = record {
  flight : Flight;
  reply : ReplyTo;
  ok : HeardOk past b flight reply;
  heard : HeardAs new (life_of b past) flight reply;
  life : life_of b new ≡ life_of b past;
  among : In h.lock (brought flight.op reply);
}

module _ (head : Head) (past : List Line) (stamp : Stamp) where
  abbrev pub Held : (node : Node) (e : Entry) → ℕ → HeldLock → Type 0
  Held node e b h = In h (held_at b (line (turn stamp node) e ∷ past)) → Kept (held_at b past) h
      ⊎ Comes past (line (turn stamp node) e ∷ past) b h

  heard_held : (c t : ℕ) (f : Flight) (r : ReplyTo) → HeardOk past c f r → HoldsAt head past → (b : ℕ) (h : HeldLock)
      → Held (Client c) (Heard t f r) b h
  heard_held c t f r ok all b h =
      cond_both (nat_eq b c) (with_brought t (brought f.op r) (held_at b past)) (held_at b past)
      (λ (hs : List HeldLock). In h hs → Kept (held_at b past) h ⊎ Comes past (line (turn stamp (Client c)) (Heard t f r) ∷ past) b h)
      (λ q i. ⊎_elim
      (λ (j : In h (held_at b past)). inl (kept_same (held_at b past) h j))
      (λ (k : (l : Lock) × In l (brought f.op r) × (held_as t l false ≡ h)). inr
      (subst (λ (v : ℕ). Comes past (line (turn stamp (Client c)) (Heard t f r) ∷ past) v h) (sym (eqb-true b c q)) (now k)))
      (brought_in t (brought f.op r) (held_at b past) h i))
      (λ q i. inl (kept_same (held_at b past) h i))
    where
      now : (l : Lock) × In l (brought f.op r) × (held_as t l false ≡ h)
          → Comes past (line (turn stamp (Client c)) (Heard t f r) ∷ past) c h
      now k =
          record {
            flight = f;
            reply = r;
            ok = ok;
            heard = inl (own_self past c, refl, refl);
            life = refl;
            among = subst (λ (l : Lock). In l (brought f.op r)) (ap (λ (x : HeldLock). x.lock) k.2) k.1;
          }

  dropped_held : (c t : ℕ) (lock : Lock) (b : ℕ) (h : HeldLock) → In h (held_at b (line (turn stamp (Client c)) (Drop t lock) ∷ past))
      → Kept (held_at b past) h
  dropped_held c t lock b h =
      cond_both (nat_eq b c) (without (named (record { 0 = t }) lock.cookie) (held_at b past)) (held_at b past)
      (λ (hs : List HeldLock). In h hs → Kept (held_at b past) h)
      (λ q i. kept_same (held_at b past) h (in_filter (λ (g : HeldLock). not (is_named (named (record { 0 = t }) lock.cookie) g)) h
      (held_at b past) i).0)
      (λ q i. kept_same (held_at b past) h i)

  held_before : (node : Node) (e : Entry) → EntryOf head past (turn stamp node) node e → FirstOf past node e → HoldsAt head past
      → (b : ℕ) (h : HeldLock) → Held node e b h
  held_before (Client c) (Heard t f r) ok of all b h = heard_held c t f r ok all b h
  held_before (Client c) (Hold t lock marked size seen) ok of all b h = λ i. inl (shown_held past stamp c t lock marked size seen of b h i)
  held_before (Client c) (Drop t lock) ok of all b h = λ i. inl (dropped_held c t lock b h i)
  held_before (Client c) (Pins name) ok of all b h = λ i. inl (pins_held past stamp c name b h i)
  held_before (Client c) (Unpins name) ok of all b h = λ i. inl (unpins_held past stamp c name b h i)
  held_before (Client c) (Marks name) ok of all b h = λ i. inl (marks_held past stamp c name b h i)
  held_before (Client c) (Unmarks t) ok of all b h = λ i. inl (unmarks_held past stamp c t b h i)
  held_before (Target t) (Heard u f r) ok of all b h = absurd ok
  held_before (Target t) (Hold u lock marked size seen) ok of all b h = absurd ok
  held_before (Target t) (Drop u lock) ok of all b h = absurd ok
  held_before node e ok of all b h = λ i. inl (kept_same (held_at b past) h i)

-- ---- what is held was heard

pub heard_as_more : (l : Line) (past : List Line) (who : Who) (f : Flight) (r : ReplyTo) → HeardAs past who f r → HeardAs (l ∷ past) who f r
heard_as_more l past who f r i = by l.entry
  where
    by : (e : Entry) → HeardAs (line l.at e ∷ past) who f r
    by (Heard t g k) = inr i
    by _ = i

abbrev pub HeldHeard : List Line → Type 0
HeldHeard past = (c : ℕ) (h : HeldLock) → In h (held_at c past) → (f : Flight) × (r : ReplyTo) × HeardAs past (life_of c past) f r
    × In h.lock (brought f.op r)

-- a client that holds something begins no life
same_life_held : (head : Head) (past : List Line) (stamp : Stamp) (node : Node) (e : Entry) → EntryOf head past (turn stamp node) node e
    → (c : ℕ) (g : HeldLock) → In g (held_at c past) → life_of c (line (turn stamp node) e ∷ past) ≡ life_of c past
same_life_held head past stamp (Client b) (Life who) ok c g i =
    cond_both (nat_eq c b) who (life_of c past) (λ (w : Who). w ≡ life_of c past)
    (λ q. absurd (subst (λ (hs : List HeldLock). In g hs) (ap (λ (v : ℕ). held_at v past) (eqb-true c b q) ∙ ok.empty) i))
    (λ q. refl)
same_life_held head past stamp (Target t) (Life who) ok c g i = absurd ok
same_life_held head past stamp node e ok c g i = refl

pub held_heard : (head : Head) (past : List Line) → Grown head past → HeldHeard (only 0 past)
held_heard head [] g c h i = absurd i
held_heard head (l ∷ past) g c h i =
    cond_both (concerns 0 l.at.node l.entry) (l ∷ P) P Now
    (λ o j. by l.at.node l.entry (g.0.of 0 o) (first_line head past l.at.stamp l.at.node l.entry g.1 g.0 o) (held_heard head past g.1 c) j)
    (λ o j. held_heard head past g.1 c h j)
    i
  where
    P : List Line
    P = only 0 past

    Now : List Line → Type 0
    Now new = In h (held_at c new) → (f : Flight) × (r : ReplyTo) × HeardAs new (life_of c new) f r × In h.lock (brought f.op r)

    by : (node : Node) (e : Entry) → EntryOf head P (turn l.at.stamp node) node e → FirstOf P node e
        → ((k : HeldLock) → In k (held_at c P) → (f : Flight) × (r : ReplyTo) × HeardAs P (life_of c P) f r × In k.lock (brought f.op r))
        → Now (line (turn l.at.stamp node) e ∷ P)
    by node e ok of old j = later (held_before head P l.at.stamp node e ok of ((holds head past g.1).at 0) c h j)
      where
        new : List Line
        new = line (turn l.at.stamp node) e ∷ P

        later : Kept (held_at c P) h ⊎ Comes P new c h → (f : Flight) × (r : ReplyTo) × HeardAs new (life_of c new) f r
            × In h.lock (brought f.op r)
        later (inl k) =
            let o = old k.0 k.1 in
            let life = same_life_held head P l.at.stamp node e ok c k.0 k.1 in (
              o.0,
              o.1,
              subst (λ (w : Who). HeardAs new w o.0 o.1) (sym life)
                  (heard_as_more (line (turn l.at.stamp node) e) P (life_of c P) o.0 o.1 o.2),
              subst (λ (v : Lock). In v (brought o.0.op o.1)) k.3 o.3,
            )
        later (inr k) = (k.flight, k.reply, subst (λ (w : Who). HeardAs new w k.flight k.reply) (sym k.life) k.heard, k.among)

-- ---- what is over

pub keeps_over : (head : Head) (past : List Line) (stamp : Stamp) (node : Node) (e : Entry) → EntryOf head past (turn stamp node) node e
    → HoldsAt head past → (d : Deed) (l : Lock) → Gave past d l → IsOver past d l → IsOver (line (turn stamp node) e ∷ past) d l
keeps_over head past stamp node e ok all d l gave (inl x) = inl (keeps_dead head past stamp all node e ok d l gave x)
keeps_over head past stamp node e ok all d l gave (inr x) = inr (keeps_lapsed head past stamp all node e ok d l gave x)
