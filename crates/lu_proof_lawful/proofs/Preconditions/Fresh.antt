-- A request that comes under a number above the newest one taken of its life and tag isn't waiting already: each number of a life is of
-- one flight, which has one tag, and what waits was taken under its tag.
use Rattle.std.proofs.Common.{◌≡◌, ℕ, ◌+◌, ◌<◌, ◌≤◌, Bool, true, false, List, [], ◌∷◌, ◌++◌, Some, None, ◌⊎◌, inl, inr, ⊎_elim, refl, sym}
use Rattle.std.proofs.Common.{subst, ap, ◌∙◌, arith}
use Rattle.std.specs.Prelude.{nat_eq, not, if◌then◌else◌}
use Rattle.std.specs.List.{filter}
use Rattle.std.proofs.lemmas.Bool.{and_parts, cond_both, cond-true, eqb-true}
use Rattle.lu_base.specs.declared.ids.Node.{Node}
use Rattle.lu_base.specs.declared.ids.Node.TheVariants.{Client, Target}
use Rattle.lu_base.specs.declared.ids.Who.{Who}
use Rattle.lu_msg.specs.declared.messages.Message.{Message}
use Rattle.lu_msg.specs.declared.messages.Message.TheVariants as message
use Rattle.lu_msg.specs.declared.messages.Request.{Request as RequestOf}
use Rattle.lu_spec_entries.specs.Carried.{Deed, Slot, Flight}
use Rattle.lu_spec_entries.specs.Words.{Entry, Send, Flies, Heard, Enters, Act, Txn, Grant, Wait, Answers, Evict, Close, Line, line}
use Rattle.lu_spec_entries.specs.Words.{same_life}
use Rattle.lu_spec_target.specs.Lives.{is_life}
use Rattle.lu_spec_target.specs.Locks.{same_request}
use Rattle.lu_spec_client.specs.Imports.{without_flight}
use Rattle.lu_proof_lawful.specs.Covered.ClientStates.{flights_of, last_of, life_of, is_own}
use Rattle.lu_proof_lawful.specs.Covered.Heads.{Head}
use Rattle.lu_proof_lawful.specs.Covered.TargetParts.{is_request_of, is_slot_of, entered, answered}
use Rattle.lu_proof_lawful.specs.Covered.TargetStates.{server_of, slot_of}
use Rattle.lu_proof_lawful.proofs.Preconditions.Guards.{In, Was}
use Rattle.lu_proof_lawful.proofs.Preconditions.StoryGuards.{FliesOk, SendOf, EntryOf}
use Rattle.lu_proof_lawful.proofs.Preconditions.Grown.{GrownOf}
use Rattle.lu_proof_lawful.proofs.Preconditions.Lists.{turn, in_append, in_filter, life_is, own_is}
use Rattle.lu_proof_lawful.proofs.Preconditions.TargetSlots.{is_slot_self, slot_who}

-- ---- what a life let fly

-- reads Flies
abbrev pub Flew : List Line → Who → Flight → Type 0
Flew [] who f = ⊥
Flew (l ∷ past) who f = elim l.entry [ Flies t g ↦ ((is_own who past l.at.node ≡ true) × (g ≡ f)) ⊎ Flew past who f | _ ↦ Flew past who f ]

-- the request is that of a flight of its life
abbrev pub IsFlown : List Line → RequestOf → Type 0
IsFlown past r = (f : Flight) × Flew past r.who f × (f.xid ≡ r.xid.0) × (f.tag ≡ r.tag)

flown_more : (past : List Line) (l : Line) (r : RequestOf) → IsFlown past r → IsFlown (l ∷ past) r
flown_more past l r k = by l.entry
  where
    by : (e : Entry) → IsFlown (line l.at e ∷ past) r
    by (Flies t f) = (k.0, inr k.1, k.2, k.3)
    by e = k

pub record Flown (past : List Line) : Type 0 where
  pub low : (who : Who) (f : Flight) → Flew past who f → f.xid ≤ last_of who past
  pub one : (who : Who) (f g : Flight) → Flew past who f → Flew past who g → f.xid ≡ g.xid → f ≡ g
  pub flying : (who : Who) (f : Flight) → In f (flights_of who past) → Flew past who f
  pub sent : (from to : Node) (r : RequestOf) → Was past from to (message.Request r) → IsFlown past r

flown_start : Flown []
flown_start = record {
  low = λ who f a. absurd a;
  one = λ who f g a b e. absurd a;
  flying = λ who f i. absurd i;
  sent =
      λ from to r was. absurd was;
}

flown_line : (head : Head) (past : List Line) (l : Line) → EntryOf head past l.at l.at.node l.entry → Flown past → Flown (l ∷ past)
flown_line head past l ok h = by l.at.node l.entry ok
  where
    Next : Node → Entry → Type 0
    Next node e = Flown (line (turn l.at.stamp node) e ∷ past)

    New : Message → Type 0
    New (message.Request r) = IsFlown past r
    New _ = Unit {0}

    sends : (from to : Node) (m : Message) → SendOf head past from to m → New m
    sends (Client c) (Target t) (message.Request r) ok = subst (λ (q : RequestOf). IsFlown past q) (sym ok.is)
        (ok.flight, h.flying (life_of c past) ok.flight ok.flying, refl, refl)
    sends (Client c) (Client d) (message.Request r) ok = absurd ok
    sends (Target t) (Client d) (message.Request r) ok = absurd ok
    sends (Target t) (Target d) (message.Request r) ok = absurd ok
    sends from to m ok = tt

    was : (node to : Node) (m : Message) → New m → (from k : Node) (r : RequestOf) → ((node ≡ from) × (to ≡ k) × (m ≡ message.Request r))
        ⊎ Was past from k (message.Request r) → IsFlown past r
    was node to m new from k r (inl q) = subst New q.2 new
    was node to m new from k r (inr w) = h.sent from k r w

    -- the next number is above all
    flies : (c t : ℕ) (f : Flight) → FliesOk head past c t f → Next (Client c) (Flies t f)
    flies c t f ok =
        record {
          low = low;
          one = one;
          flying = λ who g. cond_both (is_own who past (Client c)) (flights_of who past ++ f ∷ []) (flights_of who past)
              (λ (fs : List Flight). In g fs → Flew (line (turn l.at.stamp (Client c)) (Flies t f) ∷ past) who g)
              (λ own i. ⊎_elim (λ (j : In g (flights_of who past)). inr (h.flying who g j))
              (λ (j : In g (f ∷ [])). ⊎_elim (λ (e : f ≡ g). inl (own, e)) (λ (k : ⊥). absurd k) j)
              (in_append g (flights_of who past) (f ∷ []) i))
              (λ own i. inr (h.flying who g i));
          sent = λ from to r w. let k = h.sent from to r w in (k.0, inr k.1, k.2, k.3);
        }
      where
        next : (who : Who) → is_own who past (Client c) ≡ true → f.xid ≡ last_of who past + 1
        next who own = ap (λ (x : Flight). x.xid) ok.is ∙ ap (λ (w : Who). last_of w past + 1) (sym (own_is who past c own))

        low : (who : Who) (g : Flight) → ((is_own who past (Client c) ≡ true) × (f ≡ g)) ⊎ Flew past who g
            → g.xid ≤ last_of who (line (turn l.at.stamp (Client c)) (Flies t f) ∷ past)
        low who g (inl q) = cond_both (is_own who past (Client c)) f.xid (last_of who past) (λ (m : ℕ). g.xid ≤ m)
            (λ own. let is : f.xid ≡ g.xid = ap (λ (x : Flight). x.xid) q.1 in omega (arith, is)) (λ other. let own = q.0 in absurd (cc))
        low who g (inr a) = let le = h.low who g a in cond_both (is_own who past (Client c)) f.xid (last_of who past) (λ (m : ℕ). g.xid ≤ m)
            (λ own. let is = next who own in omega (arith, is, le)) (λ own. le)

        above : (who : Who) (g : Flight) → is_own who past (Client c) ≡ true → f.xid ≡ g.xid → Flew past who g → ⊥
        above who g own e a = let le = h.low who g a in let is = next who own in omega (arith, is, le, e)

        one : (who : Who) (g k : Flight) → ((is_own who past (Client c) ≡ true) × (f ≡ g)) ⊎ Flew past who g
            → ((is_own who past (Client c) ≡ true) × (f ≡ k)) ⊎ Flew past who k → g.xid ≡ k.xid → g ≡ k
        one who g k (inl q) (inl r) e = sym q.1 ∙ r.1
        one who g k (inl q) (inr a) e = absurd (above who k q.0 (ap (λ (x : Flight). x.xid) q.1 ∙ e) a)
        one who g k (inr a) (inl q) e = absurd (above who g q.0 (ap (λ (x : Flight). x.xid) q.1 ∙ sym e) a)
        one who g k (inr a) (inr b) e = h.one who g k a b e

    by : (node : Node) (e : Entry) → EntryOf head past (turn l.at.stamp node) node e → Next node e
    by (Client c) (Flies t f) ok = flies c t f ok
    by (Client c) (Heard t f r) ok =
        record {
          low = h.low;
          one = h.one;
          flying = λ who g. cond_both (is_own who past (Client c)) (without_flight f.xid (flights_of who past)) (flights_of who past)
              (λ (fs : List Flight). In g fs → Flew past who g)
              (λ own i. h.flying who g (in_filter (λ (x : Flight). not (nat_eq x.xid f.xid)) g (flights_of who past) i).0)
              (λ own i. h.flying who g i);
          sent = h.sent;
        }
    by (Client c) (Send to m) ok = record {
      low = h.low;
      one = h.one;
      flying = h.flying;
      sent =
          was (Client c) to m (sends (Client c) to m ok);
    }
    by (Target t) (Send to m) ok = record {
      low = h.low;
      one = h.one;
      flying = h.flying;
      sent =
          was (Target t) to m (sends (Target t) to m ok);
    }
    by (Target t) (Flies u f) ok = absurd ok
    by node e ok = record { low = h.low; one = h.one; flying = h.flying; sent = h.sent }

-- ---- what waits was taken under its tag

abbrev pub WaitsSo : ℕ → List Line → Type 0
WaitsSo osts past = (r : RequestOf) → In r (server_of osts past).waiting → IsFlown past r × (r.xid.0 ≤ (slot_of r.who r.tag past).taken)

-- a request that enters is the newest of its life and tag
entered_low : (past : List Line) (r q : RequestOf) → (slot_of r.who r.tag past).taken < r.xid.0 → q.xid.0 ≤ (slot_of q.who q.tag past).taken
    → q.xid.0 ≤ (if is_slot_of q.who q.tag r.who r.tag then entered r else slot_of q.who q.tag past).taken
entered_low past r q newer low =
    cond_both (is_slot_of q.who q.tag r.who r.tag) (entered r) (slot_of q.who q.tag past) (λ (s : Slot). q.xid.0 ≤ s.taken)
    (λ own.
    let k = slot_who q.who r.who q.tag r.tag own in
    let same : (slot_of q.who q.tag past).taken ≡ (slot_of r.who r.tag past).taken = ap (λ (w : Who). (slot_of w q.tag past).taken) k.0
    ∙ ap (λ (n : ℕ). (slot_of r.who n past).taken) k.1 in
    omega (arith, same, low, newer))
    (λ own. low)

-- an answer leaves the number
answered_low : (past : List Line) (d : Deed) (q : RequestOf) (slot : Slot) → q.xid.0 ≤ slot.taken
    → q.xid.0 ≤ (if is_slot_of q.who q.tag d.reply.who d.tag then answered d slot else slot).taken
answered_low past d q slot low =
    cond_both (is_slot_of q.who q.tag d.reply.who d.tag) (answered d slot) slot (λ (s : Slot). q.xid.0 ≤ s.taken) (λ own. low) (λ own. low)

waits_line : (head : Head) (past : List Line) (l : Line) → EntryOf head past l.at l.at.node l.entry → Flown past → WaitsSo head.osts past
    → WaitsSo head.osts (l ∷ past)
waits_line head past l ok f h = by l.at.node l.entry ok
  where
    Next : Node → Entry → Type 0
    Next node e = WaitsSo head.osts (line (turn l.at.stamp node) e ∷ past)

    more : (node : Node) (e : Entry) (r : RequestOf) → IsFlown past r → IsFlown (line (turn l.at.stamp node) e ∷ past) r
    more node e r k = flown_more past (line (turn l.at.stamp node) e) r k

    -- those that are left after an answer
    without : (d : Deed) (q : RequestOf) → In q (filter (λ (x : RequestOf). not (is_request_of d x)) (server_of head.osts past).waiting)
        → IsFlown past q × (q.xid.0 ≤ (if is_slot_of q.who q.tag d.reply.who d.tag then answered d (slot_of q.who q.tag past)
        else slot_of q.who q.tag past).taken)
    without d q i =
        let old = h q (in_filter (λ (x : RequestOf). not (is_request_of d x)) q (server_of head.osts past).waiting i).0 in
        (old.0, answered_low past d q (slot_of q.who q.tag past) old.1)

    by : (node : Node) (e : Entry) → EntryOf head past (turn l.at.stamp node) node e → Next node e
    by (Target t) (Enters r) ok = λ q i. ⊎_elim
        (λ (j : In q (server_of head.osts past).waiting). let old = h q j in (old.0, entered_low past r q ok.newer old.1))
        (λ (j : In q (r ∷ [])). one q j)
        (in_append q (server_of head.osts past).waiting (r ∷ []) i)
      where
        own : r.xid.0 ≤ (if is_slot_of r.who r.tag r.who r.tag then entered r else slot_of r.who r.tag past).taken
        own = subst (λ (s : Slot). r.xid.0 ≤ s.taken) (sym (cond-true (is_slot_of r.who r.tag r.who r.tag) (entered r)
            (slot_of r.who r.tag past) (is_slot_self r.who r.tag))) (omega arith)

        one : (q : RequestOf) → In q (r ∷ []) → IsFlown past q × (q.xid.0 ≤
            (if is_slot_of q.who q.tag r.who r.tag then entered r else slot_of q.who q.tag past).taken)
        one q (inl e) = subst (λ (x : RequestOf). IsFlown past x
            × (x.xid.0 ≤ (if is_slot_of x.who x.tag r.who r.tag then entered r else slot_of x.who x.tag past).taken)) e
            (f.sent (Client ok.from) (Target t) r ok.was, own)
        one q (inr j) = absurd j
    by (Target t) (Act d) ok = without d
    by (Target t) (Txn d) ok = without d
    by (Target t) (Grant lock (Some d)) ok = without d
    by (Target t) (Grant lock None) ok = h
    by (Target t) (Wait lock d) ok = without d
    by (Target t) (Answers d) ok = without d
    by (Target t) (Evict w cause) ok = λ q i. h q (in_filter (λ (x : RequestOf). not (is_life x.who (w ∷ []))) q
        (server_of head.osts past).waiting i).0
    by (Target t) (Close o) ok = λ q i. absurd i
    by (Target t) (Flies u f) ok = absurd ok
    by (Target t) e ok = h
    by (Client c) e ok = λ q i. let old = h q i in (more (Client c) e q old.0, old.1)

pub flown_of : (head : Head) (story : List Line) → GrownOf head story → Flown story
flown_of head [] g = flown_start
flown_of head (l ∷ story) g = flown_line head story l g.0 (flown_of head story g.3)

pub waits_so : (head : Head) (story : List Line) → GrownOf head story → WaitsSo head.osts story
waits_so head [] g = λ r i. absurd i
waits_so head (l ∷ story) g = waits_line head story l g.0 (flown_of head story g.3) (waits_so head story g.3)

-- ---- a request of a newer number is fresh

pub fresh : (head : Head) (story : List Line) (c t : ℕ) (r : RequestOf) → GrownOf head story
    → Was story (Client c) (Target t) (message.Request r) → (slot_of r.who r.tag story).taken < r.xid.0
    → (q : RequestOf) → In q (server_of head.osts story).waiting → same_request q r ≡ false
fresh head story c t r g was newer q i = by (same_request q r) refl
  where
    f : Flown story
    f = flown_of head story g

    by : (b : Bool) → same_request q r ≡ b → b ≡ false
    by false e = refl
    by true e =
        let p = and_parts (same_life q.who r.who) (nat_eq q.xid.0 r.xid.0) e in
        let who : q.who ≡ r.who = life_is q.who r.who p.0 in
        let xid : q.xid.0 ≡ r.xid.0 = eqb-true q.xid.0 r.xid.0 p.1 in
        let old = waits_so head story g q i in
        let new = f.sent (Client c) (Target t) r was in
        let mine : Flew story r.who old.0.0 = subst (λ (w : Who). Flew story w old.0.0) who old.0.1 in
        let same : old.0.0 ≡ new.0 = f.one r.who old.0.0 new.0 mine new.1 (old.0.2 ∙ xid ∙ sym new.2) in
        let tag : q.tag ≡ r.tag = sym old.0.3 ∙ ap (λ (x : Flight). x.tag) same ∙ new.3 in
        let low : q.xid.0 ≤ (slot_of r.who r.tag story).taken =
        subst (λ (n : ℕ). q.xid.0 ≤ (slot_of r.who n story).taken) tag
        (subst (λ (w : Who). q.xid.0 ≤ (slot_of w q.tag story).taken) who old.1) in
        absurd (omega (arith, low, newer, xid))
