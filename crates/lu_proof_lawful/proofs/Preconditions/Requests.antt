-- What a life asks of a target: each of its request numbers is of one operation, whatever of it is in flight, was sent, waits there, or was
-- answered.
use Rattle.std.proofs.Common.{◌≡◌, ℕ, ◌+◌, ◌≤◌, true, List, [], ◌∷◌, ◌++◌, Some, None, ◌⊎◌, inl, inr, ⊎_elim, sym, subst, ap, ◌∙◌, arith}
use Rattle.std.specs.Prelude.{nat_eq, not}
use Rattle.std.specs.List.{filter}
use Rattle.std.proofs.lemmas.Bool.{cond_both}
use Rattle.lu_base.specs.declared.ids.Node.{Node}
use Rattle.lu_base.specs.declared.ids.Node.TheVariants.{Client, Target}
use Rattle.lu_base.specs.declared.ids.Who.{Who}
use Rattle.lu_msg.specs.declared.messages.Message.{Message}
use Rattle.lu_msg.specs.declared.messages.Message.TheVariants as message
use Rattle.lu_msg.specs.declared.messages.Reply.{Reply as ReplyTo}
use Rattle.lu_msg.specs.declared.messages.Request.{Request as RequestOf}
use Rattle.lu_msg.specs.declared.operations.Op.{Op}
use Rattle.lu_spec_entries.specs.Carried.{Deed, Flight}
use Rattle.lu_spec_entries.specs.Words.{Entry, Send, Flies, Heard, Enters, Act, Txn, Grant, Wait, Answers, Evict, Close, Line, line}
use Rattle.lu_spec_target.specs.Lives.{is_life}
use Rattle.lu_spec_client.specs.Imports.{without_flight}
use Rattle.lu_proof_lawful.specs.Covered.ClientStates.{flights_of, last_of, life_of, is_own}
use Rattle.lu_proof_lawful.specs.Covered.Heads.{Head}
use Rattle.lu_proof_lawful.specs.Covered.TargetParts.{is_request_of}
use Rattle.lu_proof_lawful.specs.Covered.TargetStates.{server_of}
use Rattle.lu_proof_lawful.proofs.Preconditions.Guards.{In, Was, HeardAs}
use Rattle.lu_proof_lawful.proofs.Preconditions.StoryGuards.{FliesOk, HeardOk, SendOf, EntryOf}
use Rattle.lu_proof_lawful.proofs.Preconditions.Lists.{turn, in_append, in_filter, own_is}

-- that request of the life asked for that: reads Flies
abbrev pub Asks : List Line → Who → ℕ → Op → Type 0
Asks [] who n o = ⊥
Asks (l ∷ past) who n o = elim l.entry [
  | Flies t f ↦ ((is_own who past l.at.node ≡ true) × (f.xid ≡ n) × (f.op ≡ o)) ⊎ Asks past who n o
  | _
      ↦ Asks past who n o
]

pub record Requests (osts : ℕ) (past : List Line) : Type 0 where
  pub low : (who : Who) (n : ℕ) (o : Op) → Asks past who n o → n ≤ last_of who past
  pub one : (who : Who) (n : ℕ) (o p : Op) → Asks past who n o → Asks past who n p → o ≡ p
  pub flying : (who : Who) (f : Flight) → In f (flights_of who past) → Asks past who f.xid f.op
  pub sent : (from to : Node) (r : RequestOf) → Was past from to (message.Request r) → Asks past r.who r.xid.0 r.op
  pub waits : (r : RequestOf) → In r (server_of osts past).waiting → Asks past r.who r.xid.0 r.op
  pub heard : (who : Who) (f : Flight) (r : ReplyTo) → HeardAs past who f r → Asks past who f.xid f.op

pub requests_start : (osts : ℕ) → Requests osts []
requests_start osts = record {
  low = λ who n o a. absurd a;
  one = λ who n o p a b. absurd a;
  flying = λ who f i. absurd i;
  sent =
      λ from to r was. absurd was;
  waits = λ r i. absurd i;
  heard = λ who f r k. absurd k;
}

pub asks_more : (past : List Line) (l : Line) (who : Who) (n : ℕ) (o : Op) → Asks past who n o → Asks (l ∷ past) who n o
asks_more past l who n o a = by l.entry
  where
    by : (e : Entry) → Asks (line l.at e ∷ past) who n o
    by (Flies t f) = inr a
    by e = a

pub requests_line : (head : Head) (past : List Line) (l : Line) → EntryOf head past l.at l.at.node l.entry → Requests head.osts past
    → Requests head.osts (l ∷ past)
requests_line head past l ok h = by l.at.node l.entry ok
  where
    Next : Node → Entry → Type 0
    Next node e = Requests head.osts (line (turn l.at.stamp node) e ∷ past)

    New : Message → Type 0
    New (message.Request r) = Asks past r.who r.xid.0 r.op
    New _ = Unit {0}

    sends : (from to : Node) (m : Message) → SendOf head past from to m → New m
    sends (Client c) (Target t) (message.Request r) ok = subst (λ (q : RequestOf). Asks past q.who q.xid.0 q.op) (sym ok.is)
        (h.flying (life_of c past) ok.flight ok.flying)
    sends (Client c) (Client d) (message.Request r) ok = absurd ok
    sends (Target t) (Client d) (message.Request r) ok = absurd ok
    sends (Target t) (Target d) (message.Request r) ok = absurd ok
    sends from to m ok = tt

    was : (node to : Node) (m : Message) → New m → (from k : Node) (r : RequestOf) → ((node ≡ from) × (to ≡ k) × (m ≡ message.Request r))
        ⊎ Was past from k (message.Request r) → Asks past r.who r.xid.0 r.op
    was node to m new from k r (inl q) = subst New q.2 new
    was node to m new from k r (inr w) = h.sent from k r w

    -- what is done waits no more
    without : (d : Deed) (r : RequestOf) → In r (filter (λ (q : RequestOf). not (is_request_of d q)) (server_of head.osts past).waiting)
        → Asks past r.who r.xid.0 r.op
    without d r i = h.waits r (in_filter (λ (q : RequestOf). not (is_request_of d q)) r (server_of head.osts past).waiting i).0

    -- the next number is above all
    flies : (c t : ℕ) (f : Flight) → FliesOk head past c t f → Next (Client c) (Flies t f)
    flies c t f ok =
        record {
          low = low;
          one = one;
          flying = λ who g. cond_both (is_own who past (Client c)) (flights_of who past ++ f ∷ []) (flights_of who past)
              (λ (fs : List Flight). In g fs → Asks (line (turn l.at.stamp (Client c)) (Flies t f) ∷ past) who g.xid g.op)
              (λ own i. ⊎_elim (λ (j : In g (flights_of who past)). inr (h.flying who g j))
              (λ (j : In g (f ∷ [])). ⊎_elim (λ (e : f ≡ g). inl (own, ap (λ (x : Flight). x.xid) e, ap (λ (x : Flight). x.op) e))
              (λ (k : ⊥). absurd k) j) (in_append g (flights_of who past) (f ∷ []) i))
              (λ own i. inr (h.flying who g i));
          sent = λ from to r w. inr (h.sent from to r w);
          waits = λ r i. inr (h.waits r i);
          heard = λ who g r k. inr (h.heard who g r k);
        }
      where
        next : (who : Who) → is_own who past (Client c) ≡ true → f.xid ≡ last_of who past + 1
        next who own = ap (λ (x : Flight). x.xid) ok.is ∙ ap (λ (w : Who). last_of w past + 1) (sym (own_is who past c own))

        low : (who : Who) (n : ℕ) (o : Op) → ((is_own who past (Client c) ≡ true) × (f.xid ≡ n) × (f.op ≡ o)) ⊎ Asks past who n o
            → n ≤ last_of who (line (turn l.at.stamp (Client c)) (Flies t f) ∷ past)
        low who n o (inl q) = cond_both (is_own who past (Client c)) f.xid (last_of who past) (λ (m : ℕ). n ≤ m)
            (λ own. let is = q.1 in omega (arith, is)) (λ other. let own = q.0 in absurd (cc))
        low who n o (inr a) = let le = h.low who n o a in cond_both (is_own who past (Client c)) f.xid (last_of who past) (λ (m : ℕ). n ≤ m)
            (λ own. let is = next who own in omega (arith, is, le)) (λ own. le)

        above : (who : Who) (n : ℕ) (o : Op) → is_own who past (Client c) ≡ true → f.xid ≡ n → Asks past who n o → ⊥
        above who n o own e a = let le = h.low who n o a in let is = next who own in omega (arith, is, le, e)

        one : (who : Who) (n : ℕ) (o p : Op) → ((is_own who past (Client c) ≡ true) × (f.xid ≡ n) × (f.op ≡ o)) ⊎ Asks past who n o
            → ((is_own who past (Client c) ≡ true) × (f.xid ≡ n) × (f.op ≡ p)) ⊎ Asks past who n p → o ≡ p
        one who n o p (inl q) (inl r) = sym q.2 ∙ r.2
        one who n o p (inl q) (inr a) = absurd (above who n p q.0 q.1 a)
        one who n o p (inr a) (inl q) = absurd (above who n o q.0 q.1 a)
        one who n o p (inr a) (inr b) = h.one who n o p a b

    -- what is heard answers a request in flight
    hears : (c t : ℕ) (f : Flight) (r : ReplyTo) → HeardOk past c f r → (who : Who) (g : Flight) (k : ReplyTo)
        → ((is_own who past (Client c) ≡ true) × (f ≡ g) × (r ≡ k)) ⊎ HeardAs past who g k → Asks past who g.xid g.op
    hears c t f r ok who g k (inl q) =
        subst (λ (x : Flight). Asks past who x.xid x.op) q.1 (subst (λ (w : Who). Asks past w f.xid f.op) (sym (own_is who past c q.0))
        (h.flying (life_of c past) f ok.flying))
    hears c t f r ok who g k (inr q) = h.heard who g k q

    by : (node : Node) (e : Entry) → EntryOf head past (turn l.at.stamp node) node e → Next node e
    by (Client c) (Flies t f) ok = flies c t f ok
    by (Client c) (Heard t f r) ok =
        record {
          low = h.low;
          one = h.one;
          flying = λ who g. cond_both (is_own who past (Client c)) (without_flight f.xid (flights_of who past)) (flights_of who past)
              (λ (fs : List Flight). In g fs → Asks past who g.xid g.op)
              (λ own i. h.flying who g (in_filter (λ (x : Flight). not (nat_eq x.xid f.xid)) g (flights_of who past) i).0)
              (λ own i. h.flying who g i);
          sent = h.sent;
          waits = h.waits;
          heard = λ who g k q. hears c t f r ok who g k q;
        }
    by (Client c) (Send to m) ok = record {
      low = h.low;
      one = h.one;
      flying = h.flying;
      sent =
          was (Client c) to m (sends (Client c) to m ok);
      waits = h.waits;
      heard = h.heard;
    }
    by (Target t) (Send to m) ok = record {
      low = h.low;
      one = h.one;
      flying = h.flying;
      sent =
          was (Target t) to m (sends (Target t) to m ok);
      waits = h.waits;
      heard = h.heard;
    }
    by (Target t) (Flies u f) ok = absurd ok
    by (Target t) (Heard u f r) ok = absurd ok
    by (Target t) (Enters r) ok =
        record {
          low = h.low;
          one = h.one;
          flying = h.flying;
          sent = h.sent;
          waits = λ q i. ⊎_elim (λ (j : In q (server_of head.osts past).waiting). h.waits q j)
              (λ (j : In q (r ∷ [])). ⊎_elim (λ (e : r ≡ q). subst (λ (x : RequestOf). Asks past x.who x.xid.0 x.op) e
              (h.sent (Client ok.from) (Target t) r ok.was)) (λ (k : ⊥). absurd k) j)
              (in_append q (server_of head.osts past).waiting (r ∷ []) i);
          heard = h.heard;
        }
    by (Target t) (Act d) ok = record { low = h.low; one = h.one; flying = h.flying; sent = h.sent; waits = without d; heard = h.heard }
    by (Target t) (Txn d) ok = record { low = h.low; one = h.one; flying = h.flying; sent = h.sent; waits = without d; heard = h.heard }
    by (Target t) (Grant lock (Some d)) ok = record {
      low = h.low;
      one = h.one;
      flying = h.flying;
      sent = h.sent;
      waits = without d;
      heard =
          h.heard;
    }
    by (Target t) (Wait lock d) ok = record {
      low = h.low;
      one = h.one;
      flying = h.flying;
      sent = h.sent;
      waits = without d;
      heard =
          h.heard;
    }
    by (Target t) (Answers d) ok = record { low = h.low; one = h.one; flying = h.flying; sent = h.sent; waits = without d; heard = h.heard }
    by (Target t) (Grant lock None) ok = record {
      low = h.low;
      one = h.one;
      flying = h.flying;
      sent = h.sent;
      waits = h.waits;
      heard =
          h.heard;
    }
    by (Target t) (Evict w cause) ok =
        record {
          low = h.low;
          one = h.one;
          flying = h.flying;
          sent = h.sent;
          waits =
              λ r i. h.waits r (in_filter (λ (q : RequestOf). not (is_life q.who (w ∷ []))) r (server_of head.osts past).waiting i).0;
          heard =
              h.heard;
        }
    by (Target t) (Close o) ok = record {
      low = h.low;
      one = h.one;
      flying = h.flying;
      sent = h.sent;
      waits = λ r i. absurd i;
      heard =
          h.heard;
    }
    by node e ok = record { low = h.low; one = h.one; flying = h.flying; sent = h.sent; waits = h.waits; heard = h.heard }
