-- What ties a whole past to the story of one object stays so at each line.
use Rattle.std.proofs.Common.{◌≡◌, ℕ, ◌≤◌, ◌⊎◌, inl, inr, ⊎_elim, List, ◌∷◌, Option, Some, None, Bool, true, false, refl, sym, ap, ◌∙◌}
use Rattle.std.proofs.Common.{subst, arith}
use Rattle.std.specs.Prelude.{max, nat_eq, if◌then◌else◌, ◌&&◌}
use Rattle.std.proofs.lemmas.Bool.{eqb-true, eq-eqb, both_ways, and_parts, or_right}
use Rattle.lu_proof_bytes.specs.Object.Words.{Lock, Request, Answer, Granted, Waiting, Done, Call, Entry, Takes, Heard, Hold, Drop, Grant}
use Rattle.lu_proof_bytes.specs.Object.Words.{Wait, Promote, Acts, Txn, Release, Flies as Flew, Forgets, Evict as Evicted}
use Rattle.lu_proof_bytes.specs.Object.Words.{Commit as Committed, Close as Closed, Send as Sends, Ask as Asks, Reply as Replies}
use Rattle.lu_proof_bytes.specs.Object.Words.{Give as Gives, Block as Blocks, Cancel as Cancels}
use Rattle.lu_proof_bytes.specs.Object.Folds.{Answered, WasGranted, IsWaiting, awaits, flight}
use Rattle.lu_proof_bytes.specs.Object.Guards.{PromoteOk, ActsOk}
use Rattle.lu_proof_bytes.specs.Objects.Words.{Message, Ask, Reply, Give, Block, Cancel, Join, Ready, Line, Knows, Serves, Flies, Lives}
use Rattle.lu_proof_bytes.specs.Objects.Words.{Tells, Over, Joins, Queue, Serve, Works, Evict, Commit, Crash, Boot, Close, Send, Flight}
use Rattle.lu_proof_bytes.specs.Objects.Words.{Place}
use Rattle.lu_proof_bytes.specs.Objects.Folds.{boot, closed, joined, object_of, Queued, place, Sent}
use Rattle.lu_proof_bytes.specs.Objects.Only.{live, told, is_at, is_object, sent, put, only}
use Rattle.lu_proof_bytes.specs.Objects.Guards.{FreshAt, WaitsAt, WorksOk, LivesOk, LineOk}
use Rattle.lu_proof_bytes.proofs.Objects.Base.{Base, when}
use Rattle.lu_proof_bytes.proofs.Objects.Tied.{at, flies_at, Tied, More, more, keep_at, knows_more, knows_own, flies_more, flies_own}
use Rattle.lu_proof_bytes.proofs.Objects.Tied.{lives_more, heard_own, held_own, dropped_own, taken_own, serve_more, queue_more, served_own}
use Rattle.lu_proof_bytes.proofs.Objects.Tied.{promoted_own, evict_more, evicted_own, close_more, closed_own}

-- ---- tests

-- the line is of this object
pub here_two : (t u o q : ℕ) → (nat_eq t u && nat_eq o q) ≡ true → (t ≡ u) × (o ≡ q)
here_two t u o q e = let p = and_parts (nat_eq t u) (nat_eq o q) e in (eqb-true t u p.0, eqb-true o q p.1)

pub here_three : (t u o q : ℕ) (l : Bool) → (nat_eq t u && nat_eq o q && l) ≡ true → (t ≡ u) × (o ≡ q) × (l ≡ true)
here_three t u o q l e = let p = and_parts (nat_eq t u && nat_eq o q) l e in let h = here_two t u o q p.0 in (h.0, h.1, p.1)

pub at_is : (p : Option Place) (o : ℕ) → is_at p o ≡ true → (v : Place) → p ≡ Some v → v.object ≡ o
at_is None o e v f = absurd (cc)
at_is (Some w) o e v f = let s : w ≡ v = cc in ap (λ (x : Place). x.object) (sym s) ∙ eqb-true w.object o e

pub object_is : (p : Option ℕ) (o q : ℕ) → is_object p o ≡ true → p ≡ Some q → q ≡ o
object_is None o q e f = absurd (cc)
object_is (Some w) o q e f = let s : w ≡ q = cc in sym s ∙ eqb-true w o e

pub some_object : (o q : ℕ) (p : Option ℕ) → p ≡ Some o → p ≡ Some q → q ≡ o
some_object o q p e f = let s : Some q ≡ Some o = sym f ∙ e in cc

-- ---- what is tied stays tied

plain_more : (t o : ℕ) (past : List Line) (u d : ℕ) → More t o past (Joins u d)
plain_more t o past u d = record {
  same_closed = refl;
  same_evicted = λ c. refl;
  lasts = λ c. omega arith;
  tops = omega arith;
  slots = λ c g. omega arith;
  standing = λ lost c g. omega arith;
  known = λ c e. refl;
  has_slot = λ c j. or_right (nat_eq t u && nat_eq c d) (joined t c past) j;
  before = λ c f e i s. i;
  after = λ c g r e i. i;
}

lives_own : (t o u q d : ℕ) (e : Entry) (past : List Line) (h : List Entry) → Base t past → nat_eq t u ≡ true → nat_eq o q ≡ true
    → live t d past ≡ true → LivesOk past u q d e → Tied t o past h → Tied t o (Lives u q d e ∷ past) (e ∷ h)
lives_own t o u q d (Heard r a) past h bs v s l ok w = heard_own t o u q d r a past h bs v s l ok w
lives_own t o u q d (Hold k s sn) past h bs v x l ok w = held_own t o u q d k s sn past h w
lives_own t o u q d (Drop k) past h bs v s l ok w = dropped_own t o u q d k past h w
lives_own t o u q d (Takes c k ch) past h bs v s l ok w = subst (λ (x : ℕ). Tied t o (Lives u q d (Takes x k ch) ∷ past) (Takes x k ch ∷ h))
    (sym ok.0) (taken_own t o u q d k ch past h w)
lives_own t o u q d _ past h bs v s l ok w = absurd ok

-- what waits was sent with the boot of the last close, and isn't answered
abbrev pub Queues : ℕ → List Line → Type 0
Queues t past = record {
  sent : (k : Flight) → Queued t past k → Sent past t (Ask (closed t past) k.tag k.object k.request);
  unanswered : (k : Flight) (a : Answer) → Queued t past k → Answered (only t k.object past) k.request.life k.request.xid a → ⊥;
}

pub served_sent : (t o g : ℕ) (r : Request) (past : List Line) → Base t past → Queues t past → FreshAt past t o g r ⊎ WaitsAt past t o g r
    → Sent past t (Ask (closed t past) g o r)
served_sent t o g r past bs qs (inl f) = subst (λ (b : ℕ). Sent past t (Ask b g o r)) (bs.now f.serving) f.sent
served_sent t o g r past bs qs (inr f) = qs.sent (flies_at o g r) f.queued

placed_here : (t o u q g : ℕ) (r : Request) (past : List Line) → Base t past → Queues t past → t ≡ u → o ≡ q → FreshAt past u q g r
    ⊎ WaitsAt past u q g r → place t r.life r.xid past ≡ Some (at o g)
placed_here t o u q g r past bs qs e f fr = bs.placed (closed t past) g o r
    (served_sent t o g r past bs qs (subst (λ (y : ℕ × ℕ). FreshAt past y.0 y.1 g r ⊎ WaitsAt past y.0 y.1 g r) (λ i. (sym e i, sym f i))
    fr))

serve_own : (t o u q g : ℕ) (r : Request) (e : Entry) (past : List Line) (h : List Entry) → Base t past → Queues t past → nat_eq t u ≡ true
    → nat_eq o q ≡ true → LineOk past (Serve u q g r e) → Tied t o past h → Tied t o (Serve u q g r e ∷ past) (e ∷ h)
serve_own t o u q g r (Grant k l s sn) past h bs qs v x ok w = subst
    (λ (j : Request). LineOk past (Serve u q g r (Grant j l s sn)) → Tied t o (Serve u q g r (Grant j l s sn) ∷ past) (Grant j l s sn ∷ h))
    (sym ok.1.0) (λ ok'. served_own t o u q g r (Grant r l s sn) (Granted l s sn) past h bs ok' (record {
      here = v;
      object = x;
      placed = placed_here t o u q g r past bs qs (eqb-true t u v) (eqb-true o q x) ok'.0;
      new = λ c y b i. i;
      done = λ n lost y a f. absurd (cc);
      low = let z = w.tops in omega arith;
      was = λ m i. ⊎_elim (λ (a : l ≡ m). inr (eq-eqb l.cookie m.cookie (ap (λ (y : Lock). y.cookie) a))) (λ (a : WasGranted h m). inl a) i;
      wait = λ m i. inl i;
      boots = refl;
      outs = λ c. refl;
      asks = λ c. refl;
      flight = λ c. refl;
      awaits = λ c j. refl;
    }) w) ok
serve_own t o u q g r (Wait k l) past h bs qs v x ok w = subst (λ (j : Request). LineOk past (Serve u q g r (Wait j l))
    → Tied t o (Serve u q g r (Wait j l) ∷ past) (Wait j l ∷ h)) (sym ok.1.0)
    (λ ok'. served_own t o u q g r (Wait r l) (Waiting l.cookie) past h bs ok' (record {
      here = v;
      object = x;
      placed = placed_here t o u q g r past bs qs (eqb-true t u v) (eqb-true o q x) ok'.0;
      new = λ c y b i. i;
      done = λ n lost y a f. absurd (cc);
      low = let z = w.tops in omega arith;
      was = λ m i. inl i;
      wait = λ m i. ⊎_elim (λ (a : l ≡ m). inr (eq-eqb l.cookie m.cookie (ap (λ (y : Lock). y.cookie) a))) (λ (a : IsWaiting h m). inl a) i;
      boots = refl;
      outs = λ c. refl;
      asks = λ c. refl;
      flight = λ c. refl;
      awaits = λ c j. refl;
    }) w) ok
serve_own t o u q g r (Acts k a) past h bs qs v x ok w = subst (λ (j : Request). LineOk past (Serve u q g r (Acts j a))
    → Tied t o (Serve u q g r (Acts j a) ∷ past) (Acts j a ∷ h)) (sym ok.1.0)
    (λ ok'. served_own t o u q g r (Acts r a) a past h bs ok' (record {
      here = v;
      object = x;
      placed = placed_here t o u q g r past bs qs (eqb-true t u v) (eqb-true o q x) ok'.0;
      new = λ c y b i. i;
      done = λ n lost y b f. absurd (subst (λ (z : Answer). ActsOk (only u q past) r z) b ok'.1.1);
      low = w.tops;
      was = λ m i. inl i;
      wait = λ m i. inl i;
      boots = refl;
      outs = λ c. refl;
      asks = λ c. refl;
      flight = λ c. refl;
      awaits = λ c j. refl;
    }) w) ok
serve_own t o u q g r (Txn m k) past h bs qs v x ok w = subst (λ (j : Request). LineOk past (Serve u q g r (Txn m j))
    → Tied t o (Serve u q g r (Txn m j) ∷ past) (Txn m j ∷ h)) (sym ok.1.0)
    (λ ok'. served_own t o u q g r (Txn m r) (Done m) past h bs ok' (record {
      here = v;
      object = x;
      placed = placed_here t o u q g r past bs qs (eqb-true t u v) (eqb-true o q x) ok'.0;
      new = λ c y b i. i;
      done = λ n lost y b f. txn_stands n m lost r y b f;
      low = w.tops;
      was = λ j i. inl i;
      wait = λ j i. inl i;
      boots = refl;
      outs = λ c. refl;
      asks = λ c. refl;
      flight = λ c. refl;
      awaits = λ c j. refl;
    }) w) ok
  where
    txn_stands : (n m : ℕ) (lost : ℕ → Bool) (r : Request) (y : ℕ) → Done m ≡ Done n → lost n ≡ false
        → r.xid ≤ (if lost m then y else max r.xid y)
    txn_stands n m lost r y b f = let s : m ≡ n = cc in when (λ (j : ℕ). r.xid ≤ j) (lost m) y (max r.xid y)
        (λ e. absurd (both_ways (lost n) f (ap lost (sym s) ∙ e))) (λ e. omega arith)
serve_own t o u q g r _ past h bs qs v x ok w = absurd ok.1

works_own : (t o u q : ℕ) (e : Entry) (past : List Line) → t ≡ u → o ≡ q → WorksOk past u q e → Tied t o past (only t o past)
    → Tied t o (Works u q e ∷ past) (e ∷ only t o past)
works_own t o u q (Promote l) past a b ok w = promoted_own t o u q l past (only t o past)
    (subst (λ (y : ℕ × ℕ). PromoteOk (only y.0 y.1 past) l) (λ i. (sym a i, sym b i)) ok) w
works_own t o u q (Release k) past a b ok w = w
works_own t o u q _ past a b ok w = absurd ok

tells_own : (t o c : ℕ) (does : ℕ → ℕ → Option Call) (past : List Line) (h : List Entry) (v : Bool) (d : Option Call) → Tied t o past h
    → Tied t o (Tells c does ∷ past) (put (if v then told c d else None) h)
tells_own t o c does past h false d w = w
tells_own t o c does past h true None w = w
tells_own t o c does past h true (Some call) w = w

sends_own : (t o u : ℕ) (m : Message) (past : List Line) (h : List Entry) (v : Bool) → Tied t o past h
    → Tied t o (Send u m ∷ past) (put (if v then sent t o past m else None) h)
sends_own t o u m past h false w = w
sends_own t o u (Ask b g q r) past h true w = keep_at (λ k. Tied t o past k) (nat_eq o q && live t r.life past) (Sends (Asks b r)) h
    (λ v. w) (λ v. w)
sends_own t o u (Reply b c x a) past h true w = keep_at (λ k. Tied t o past k) (is_at (place t c x past) o) (Sends (Replies b c x a)) h
    (λ v. w) (λ v. w)
sends_own t o u (Give b l s sn) past h true w = keep_at (λ k. Tied t o past k) (is_object (object_of t l.cookie past) o)
    (Sends (Gives b l s sn)) h (λ v. w) (λ v. w)
sends_own t o u (Block b c k) past h true w = keep_at (λ j. Tied t o past j) (is_object (object_of t k past) o) (Sends (Blocks b c k)) h
    (λ v. w) (λ v. w)
sends_own t o u (Cancel b c k) past h true w = keep_at (λ j. Tied t o past j) (is_object (object_of t k past) o && live t c past)
    (Sends (Cancels b c k)) h (λ v. w) (λ v. w)
sends_own t o u (Join b c) past h true w = w
sends_own t o u (Ready b c) past h true w = w

pub tied_line : (t o : ℕ) (past : List Line) (l : Line) → LineOk past l → Base t past → Queues t past → Tied t o past (only t o past)
    → Tied t o (l ∷ past) (only t o (l ∷ past))
tied_line t o past (Knows u d b) ok bs qs w = keep_at (λ h. Tied t o (Knows u d b ∷ past) h) (nat_eq t u && live t d past) (Forgets d)
    (only t o past)
    (λ v. knows_own t o u d b past (only t o past) (and_parts (nat_eq t u) (live t d past) v).0 w)
    (λ v. more t o past (Knows u d b) (only t o past) bs ok (knows_more t o u d b past ok v) w)
tied_line t o past (Serves u d b) ok bs qs w = w
tied_line t o past (Flies u q g r) ok bs qs w = keep_at (λ h. Tied t o (Flies u q g r ∷ past) h)
    (nat_eq t u && nat_eq o q && live t r.life past) (Flew r) (only t o past)
    (λ v. let p = here_three t u o q (live t r.life past) v in flies_own t o u q g r past (only t o past) bs ok (eq-eqb t u p.0)
    (eq-eqb o q p.1) w)
    (λ v. more t o past (Flies u q g r) (only t o past) bs ok (flies_more t o u q g r past ok v) w)
tied_line t o past (Lives u q d e) ok bs qs w = keep_at (λ h. Tied t o (Lives u q d e ∷ past) h) (nat_eq t u && nat_eq o q && live t d past)
    e (only t o past)
    (λ v. let p = here_three t u o q (live t d past) v in lives_own t o u q d e past (only t o past) bs (eq-eqb t u p.0) (eq-eqb o q p.1)
    p.2 (ok.1 (subst (λ (k : ℕ). live k d past ≡ true) p.0 p.2)) w)
    (λ v. more t o past (Lives u q d e) (only t o past) bs ok (lives_more t o u q d e past bs ok v) w)
tied_line t o past (Tells c does) ok bs qs w = tells_own t o c does past (only t o past) (live t c past) (does t o) w
tied_line t o past (Over c) ok bs qs w = w
tied_line t o past (Joins u d) ok bs qs w = more t o past (Joins u d) (only t o past) bs ok (plain_more t o past u d) w
tied_line t o past (Queue u q g r) ok bs qs w = more t o past (Queue u q g r) (only t o past) bs ok (queue_more t o u q g r past) w
tied_line t o past (Serve u q g r e) ok bs qs w = keep_at (λ h. Tied t o (Serve u q g r e ∷ past) h) (nat_eq t u && nat_eq o q) e
    (only t o past)
    (λ v. let p = and_parts (nat_eq t u) (nat_eq o q) v in serve_own t o u q g r e past (only t o past) bs qs p.0 p.1 ok w)
    (λ v. more t o past (Serve u q g r e) (only t o past) bs ok (serve_more t o u q g r e past) w)
tied_line t o past (Works u q e) ok bs qs w = keep_at (λ h. Tied t o (Works u q e ∷ past) h) (nat_eq t u && nat_eq o q) e (only t o past)
    (λ v. let p = here_two t u o q v in works_own t o u q e past p.0 p.1 ok w)
    (λ v. w)
tied_line t o past (Evict u d) ok bs qs w = keep_at (λ h. Tied t o (Evict u d ∷ past) h) (nat_eq t u) (Evicted d) (only t o past)
    (λ v. evicted_own t o u d past (only t o past) v w)
    (λ v. more t o past (Evict u d) (only t o past) bs ok (evict_more t o u d past v) w)
tied_line t o past (Commit u n) ok bs qs w = keep_at (λ h. Tied t o (Commit u n ∷ past) h) (nat_eq t u) (Committed n) (only t o past)
    (λ v. w) (λ v. w)
tied_line t o past (Crash u) ok bs qs w = w
tied_line t o past (Boot u b) ok bs qs w = w
tied_line t o past (Close u lost gone) ok bs qs w = keep_at (λ h. Tied t o (Close u lost gone ∷ past) h) (nat_eq t u)
    (Closed (boot t past) lost gone) (only t o past)
    (λ v. closed_own t o u lost gone past (only t o past) bs v w)
    (λ v. more t o past (Close u lost gone) (only t o past) bs ok (close_more t o u lost gone past v) w)
tied_line t o past (Send u m) ok bs qs w = sends_own t o u m past (only t o past) (nat_eq t u) w
