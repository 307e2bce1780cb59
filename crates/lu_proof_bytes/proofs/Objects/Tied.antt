-- What the story of one object says and what the whole past says of its target and of the lives there are tied.
use Rattle.std.proofs.Common.{◌≡◌, ℕ, ◌<◌, ◌≤◌, ◌⊎◌, inl, inr, ⊎_elim, List, [], ◌∷◌, Option, Some, None, Bool, true, false, refl, sym, ap}
use Rattle.std.proofs.Common.{◌∙◌, subst, arith}
use Rattle.std.specs.Prelude.{max, nat_eq, not, if◌then◌else◌, ◌&&◌, ◌||◌}
use Rattle.std.proofs.lemmas.Bool.{eqb-true, eqb-false, eq-eqb, both_ways, and_parts}
use Rattle.lu_proof_bytes.specs.Object.Words.{Lock, Change, Request, Answer, Done, Entry, Takes, Heard, Hold, Drop, Grant, Wait, Promote}
use Rattle.lu_proof_bytes.specs.Object.Words.{Acts, Txn, Release, Flies as Flew, Forgets, Tells as Told, Evict as Evicted}
use Rattle.lu_proof_bytes.specs.Object.Words.{Commit as Committed, Close as Closed, Send as Sends}
use Rattle.lu_proof_bytes.specs.Object.Folds.{closed as closed_in, evicted as evicted_in, asked, top as top_in, Answered, WasGranted}
use Rattle.lu_proof_bytes.specs.Object.Folds.{IsWaiting, awaits, flight, brings, also}
use Rattle.lu_proof_bytes.specs.Object.Guards.{PromoteOk}
use Rattle.lu_proof_bytes.specs.Objects.Words.{Reply, Line, Knows, Flies, Lives, Queue, Serve, Works, Evict, Close, Flight, Place}
use Rattle.lu_proof_bytes.specs.Objects.Folds.{boot, closed, joined, evicted, over, cookie_of, top, gave, object_of, txn_of, stands, slot}
use Rattle.lu_proof_bytes.specs.Objects.Folds.{knows, last, place, heard_of, without, flights, In, Sent}
use Rattle.lu_proof_bytes.specs.Objects.Only.{live, keep, put}
use Rattle.lu_proof_bytes.specs.Objects.Guards.{LivesOk, LineOk}
use Rattle.lu_proof_bytes.proofs.Objects.Base.{Base, when, own, at_two, in_without, place_more, object_more, or_false, cookie_rises}

-- a place by its object and its tag
abbrev pub at : ℕ → ℕ → Place
at o g = record { object = o; tag = g }

-- a request in flight by its object and its tag
abbrev pub flies_at : ℕ → ℕ → Request → Flight
flies_at o g r = record { object = o; tag = g; request = r }

-- story h of object o of target t says of boots and evictions what the past says; its request numbers and cookies are at
-- most the target's; what it answered went to this object, at most at the number of its slot, and a transaction that stands
-- is at most the greatest standing one of its life and tag; its cookies were given for this object; a life that awaits a
-- lock, and wasn't evicted, knows no later boot; and what flies in the past on this object is what flies in the story
abbrev pub Tied : ℕ → ℕ → List Line → List Entry → Type 0
Tied t o past h = record {
  boots : closed_in h ≡ closed t past;
  outs : (c : ℕ) → evicted_in c h ≡ evicted t c past;
  asks : (c : ℕ) → asked c h ≤ last t c past;
  tops : top_in h ≤ top t past;
  answered : (c x : ℕ) (a : Answer) → Answered h c x a → (g : ℕ) × (place t c x past ≡ Some (at o g)) × (x ≤ slot t c g past);
  dones : (c x n : ℕ) (lost : ℕ → Bool) → Answered h c x (Done n) → lost n ≡ false → (g : ℕ) × (place t c x past ≡ Some (at o g))
      × (x ≤ stands t lost c g past);
  cookies : (l : Lock) → WasGranted h l → object_of t l.cookie past ≡ Some o;
  waits : (l : Lock) → IsWaiting h l → object_of t l.cookie past ≡ Some o;
  awaited : (c k : ℕ) → evicted t c past ≡ false → awaits c k h ≡ true → (knows t c past ≤ closed t past) × (joined t c past ≡ true);
  flying : (c : ℕ) (f : Flight) → evicted t c past ≡ false → In f (flights t c past) → f.object ≡ o → flight c h ≡ Some f.request;
  flies : (c : ℕ) (r : Request) → evicted t c past ≡ false → flight c h ≡ Some r → (g : ℕ) × In (flies_at o g r) (flights t c past);
}

-- a line that isn't of the object: the whole past moves on, and what the story is tied to only grows or stays
pub record More (t o : ℕ) (past : List Line) (l : Line) : Type 0 where
  pub same_closed : closed t (l ∷ past) ≡ closed t past
  pub same_evicted : (c : ℕ) → evicted t c (l ∷ past) ≡ evicted t c past
  pub lasts : (c : ℕ) → last t c past ≤ last t c (l ∷ past)
  pub tops : top t past ≤ top t (l ∷ past)
  pub slots : (c g : ℕ) → slot t c g past ≤ slot t c g (l ∷ past)
  pub standing : (lost : ℕ → Bool) (c g : ℕ) → stands t lost c g past ≤ stands t lost c g (l ∷ past)
  pub known : (c : ℕ) → evicted t c past ≡ false → knows t c (l ∷ past) ≡ knows t c past
  pub has_slot : (c : ℕ) → joined t c past ≡ true → joined t c (l ∷ past) ≡ true
  pub before : (c : ℕ) (f : Flight) → evicted t c past ≡ false → In f (flights t c (l ∷ past)) → f.object ≡ o → In f (flights t c past)
  pub after : (c g : ℕ) (r : Request) → evicted t c past ≡ false → In (flies_at o g r) (flights t c past)
      → In (flies_at o g r) (flights t c (l ∷ past))

place_at : (t o : ℕ) (past : List Line) (l : Line) (c x g : ℕ) → Base t past → LineOk past l → place t c x past ≡ Some (at o g)
    → place t c x (l ∷ past) ≡ Some (at o g)
place_at t o past l c x g b ok e = place_more t past l c x (at o g) ok (b.place_low c x (at o g)) e

object_at : (t o : ℕ) (past : List Line) (l : Line) (k : ℕ) → Base t past → LineOk past l → object_of t k past ≡ Some o
    → object_of t k (l ∷ past) ≡ Some o
object_at t o past l k b ok e = object_more t past l k o ok (b.cookie_low k o) e

pub more : (t o : ℕ) (past : List Line) (l : Line) (h : List Entry) → Base t past → LineOk past l → More t o past l → Tied t o past h
    → Tied t o (l ∷ past) h
more t o past l h b ok m w = record {
  boots = w.boots ∙ sym m.same_closed;
  outs = λ c. w.outs c ∙ sym (m.same_evicted c);
  asks = λ c. let x = w.asks c in let y = m.lasts c in omega arith;
  tops = let x = w.tops in let y = m.tops in omega arith;
  answered = λ c x a i. let p = w.answered c x a i in let low = p.2 in let y = m.slots c p.0
      in (p.0, place_at t o past l c x p.0 b ok p.1, (omega arith));
  dones = λ c x n lost i v. let p = w.dones c x n lost i v in let low = p.2 in let y = m.standing lost c p.0
      in (p.0, place_at t o past l c x p.0 b ok p.1, (omega arith));
  cookies = λ k i. object_at t o past l k.cookie b ok (w.cookies k i);
  waits = λ k i. object_at t o past l k.cookie b ok (w.waits k i);
  awaited = λ c k v i. let u = sym (m.same_evicted c) ∙ v in let p = w.awaited c k u i in let x = p.0 in let y = m.known c u in let z =
      m.same_closed in (omega arith, m.has_slot c p.1);
  flying = λ c f v i e. let u = sym (m.same_evicted c) ∙ v in w.flying c f u (m.before c f u i e) e;
  flies = λ c r v e. let u = sym (m.same_evicted c) ∙ v in let p = w.flies c r u e in (p.0, m.after c p.0 r u p.1);
}

-- by whether the line is of the object
pub keep_at : (P : List Entry → Type 0) (v : Bool) (e : Entry) (h : List Entry) → (v ≡ true → P (e ∷ h)) → (v ≡ false → P h)
    → P (put (keep v e) h)
keep_at P true e h a b = a refl
keep_at P false e h a b = b refl

three_parts : (a b c : Bool) → (a && b && c) ≡ true → (a ≡ true) × (b ≡ true) × (c ≡ true)
three_parts a b c e = let p = and_parts (a && b) c e in let q = and_parts a b p.0 in (q.0, q.1, p.1)

pub live_parts : (t c : ℕ) (past : List Line) → live t c past ≡ true → (evicted t c past ≡ false) × (over c past ≡ false)
live_parts t c past e = by (evicted t c past) (over c past) e
  where
    by : (v w : Bool) → (not v && not w) ≡ true → (v ≡ false) × (w ≡ false)
    by false false f = (refl, refl)
    by true w f = absurd (cc)
    by false true f = absurd (cc)

pub not_live : (t c : ℕ) (past : List Line) → evicted t c past ≡ false → over c past ≡ false → live t c past ≡ true
not_live t c past e f = rw (e, f)

pub no_true : (x : Bool) → (x && false) ≡ true → ⊥
no_true true e = cc
no_true false e = cc

-- ---- a life takes a new boot
pub knows_more : (t o u d b : ℕ) (past : List Line) → LineOk past (Knows u d b) → (nat_eq t u && live t d past) ≡ false
    → More t o past (Knows u d b)
knows_more t o u d b past ok v = record {
  same_closed = refl;
  same_evicted = λ c. refl;
  lasts = λ c. omega arith;
  tops = omega arith;
  slots = λ c g. omega arith;
  standing = λ lost c g. omega arith;
  has_slot = λ c j. j;
  before = λ c f e i s. i;
  after = λ c g r e i. i;
  known = λ c e. when (λ n. n ≡ knows t c past) (nat_eq t u && nat_eq c d) b (knows t c past) (λ f. absurd (bad c e f)) (λ f. refl);
}
  where
    bad : (c : ℕ) → evicted t c past ≡ false → (nat_eq t u && nat_eq c d) ≡ true → ⊥
    bad c e f =
        let p = own t u c d f in
        let l = not_live t d past (subst (λ (x : ℕ). evicted t x past ≡ false) p.1 e) ok.0 in
        both_ways (nat_eq t u && live t d past) v (rw (eq-eqb t u p.0, l))

pub knows_own : (t o u d b : ℕ) (past : List Line) (h : List Entry) → nat_eq t u ≡ true → Tied t o past h
    → Tied t o (Knows u d b ∷ past) (Forgets d ∷ h)
knows_own t o u d b past h v w = record {
  boots = w.boots;
  outs = w.outs;
  asks = w.asks;
  tops = w.tops;
  answered = w.answered;
  dones = w.dones;
  cookies = w.cookies;
  waits = w.waits;
  flying = w.flying;
  flies = w.flies;
  awaited = λ c k e. by c k e (nat_eq c d) refl;
}
  where
    by : (c k : ℕ) → evicted t c past ≡ false → (x : Bool) → nat_eq c d ≡ x → (if x then false else awaits c k h) ≡ true
        → ((if nat_eq t u && x then b else knows t c past) ≤ closed t past) × (joined t c past ≡ true)
    by c k e true f i = absurd (cc)
    by c k e false f i = let p = w.awaited c k e i in (
      when (λ n. n ≤ closed t past) (nat_eq t u && false) b (knows t c past)
          (λ g. absurd (no_true (nat_eq t u) g)) (λ g. p.0),
      p.1,
    )

-- ---- a request begins to fly
pub flies_more : (t o u q g : ℕ) (r : Request) (past : List Line) → LineOk past (Flies u q g r)
    → (nat_eq t u && nat_eq o q && live t r.life past) ≡ false → More t o past (Flies u q g r)
flies_more t o u q g r past ok v = record {
  same_closed = refl;
  same_evicted = λ c. refl;
  tops = omega arith;
  slots = λ c g. omega arith;
  standing = λ lost c g. omega arith;
  known = λ c e. refl;
  has_slot = λ c j. j;
  lasts = λ c. when (λ n. last t c past ≤ n) (nat_eq t u && nat_eq c r.life) r.xid (last t c past)
      (λ e. let k = at_two (λ a x. last a x past < r.xid) t u c r.life e ok.next in omega arith) (λ e. omega arith);
  before = λ c f e i s. by c f e s (nat_eq t u && nat_eq c r.life) refl i;
  after = λ c k p e i. when (λ (fs : List Flight). In (flies_at o k p) fs) (nat_eq t u && nat_eq c r.life)
      (flies_at q g r ∷ flights t c past) (flights t c past) (λ x. inr i) (λ x. i);
}
  where
    by : (c : ℕ) (f : Flight) → evicted t c past ≡ false → f.object ≡ o → (x : Bool) → (nat_eq t u && nat_eq c r.life) ≡ x
        → In f (if x then flies_at q g r ∷ flights t c past else flights t c past) → In f (flights t c past)
    by c f e s false y i = i
    by c f e s true y (inr i) = i
    by c f e s true y (inl i) =
        let p = own t u c r.life y in
        let same : q ≡ o = ap (λ (k : Flight). k.object) i ∙ s in
        let l = not_live t r.life past (subst (λ (d : ℕ). evicted t d past ≡ false) p.1 e) ok.goes_on in
        absurd (both_ways (nat_eq t u && nat_eq o q && live t r.life past) v (rw (eq-eqb t u p.0, eq-eqb o q (sym same), l)))

pub flies_own : (t o u q g : ℕ) (r : Request) (past : List Line) (h : List Entry) → Base t past → LineOk past (Flies u q g r) → nat_eq t u
    ≡ true → nat_eq o q ≡ true → Tied t o past h → Tied t o (Flies u q g r ∷ past) (Flew r ∷ h)
flies_own t o u q g r past h bs ok v s w = record {
  boots = w.boots;
  outs = w.outs;
  tops = w.tops;
  cookies = w.cookies;
  waits = w.waits;
  awaited = w.awaited;
  asks = λ c. asks c (nat_eq c r.life);
  answered = λ c x a i. let p = w.answered c x a i in (p.0, place_at t o past (Flies u q g r) c x p.0 bs ok p.1, p.2);
  dones = λ c x n lost i e. let p = w.dones c x n lost i e in (p.0, place_at t o past (Flies u q g r) c x p.0 bs ok p.1, p.2);
  flying = λ c f e i. flying c f e (nat_eq c r.life) refl i;
  flies = λ c k e. flies c k e (nat_eq c r.life) refl;
}
  where
    one : (c : ℕ) (f : Flight) → c ≡ r.life → In f (flights t c past) → f.object ≡ o → ⊥
    one c f e i z = ok.one f (subst (λ (y : ℕ × ℕ). In f (flights y.0 y.1 past)) (λ j. (eqb-true t u v j, e j)) i) (z ∙ eqb-true o q s)

    asks : (c : ℕ) (x : Bool) → (if x then r.xid else asked c h) ≤ (if nat_eq t u && x then r.xid else last t c past)
    asks c true = when (λ n. r.xid ≤ n) (nat_eq t u && true) r.xid (last t c past) (λ e. omega arith)
        (λ e. absurd (both_ways (nat_eq t u && true) e (rw v)))
    asks c false = when (λ n. asked c h ≤ n) (nat_eq t u && false) r.xid (last t c past) (λ e. absurd (no_true (nat_eq t u) e))
        (λ e. w.asks c)

    flying : (c : ℕ) (f : Flight) → evicted t c past ≡ false → (x : Bool) → nat_eq c r.life ≡ x
        → In f (if nat_eq t u && x then flies_at q g r ∷ flights t c past else flights t c past) → f.object ≡ o
        → (if x then Some r else flight c h) ≡ Some f.request
    flying c f e false y i z = w.flying c f e (when (λ (fs : List Flight). In f fs → In f (flights t c past)) (nat_eq t u && false)
        (flies_at q g r ∷ flights t c past) (flights t c past) (λ b. absurd (no_true (nat_eq t u) b)) (λ b j. j) i) z
    flying c f e true y i z = ⊎_elim
        (λ (j : flies_at q g r ≡ f). ap (λ (k : Flight). Some k.request) j)
        (λ (j : In f (flights t c past)). absurd (one c f (eqb-true c r.life y) j z))
        (when (λ (fs : List Flight). In f fs → (flies_at q g r ≡ f) ⊎ In f (flights t c past)) (nat_eq t u && true)
        (flies_at q g r ∷ flights t c past) (flights t c past) (λ b j. j) (λ b j. inr j) i)

    flies : (c : ℕ) (k : Request) → evicted t c past ≡ false → (x : Bool) → nat_eq c r.life ≡ x → (if x then Some r else flight c h)
        ≡ Some k
        → (b : ℕ) × In (flies_at o b k) (if nat_eq t u && x then flies_at q g r ∷ flights t c past else flights t c past)
    flies c k e false y i = let p = w.flies c k e i in (
      p.0,
      when (λ (fs : List Flight). In (flies_at o p.0 k) fs) (nat_eq t u && false)
          (flies_at q g r ∷ flights t c past) (flights t c past) (λ b. inr p.1) (λ b. p.1),
    )
    flies c k e true y i =
        let is : r ≡ k = cc in
        let same : q ≡ o = sym (eqb-true o q s) in (
          g,
          when (λ (fs : List Flight). In (flies_at o g k) fs) (nat_eq t u && true) (flies_at q g r ∷ flights t c past) (flights t c past)
              (λ b. inl (λ j. flies_at (same j) g (is j))) (λ b. absurd (both_ways (nat_eq t u && true) b (rw v))),
        )

-- ---- a life hears, holds or drops
some_same : (p q : Request) → Some p ≡ Some q → p ≡ q
some_same p q e = cc

pub same_place : (o g q b : ℕ) → Some (at o g) ≡ Some (at q b) → o ≡ q
same_place o g q b e = ap (λ (x : Option Place). first_of x) e
  where
    first_of : Option Place → ℕ
    first_of None = o
    first_of (Some p) = p.object

in_kept : (f : Flight) (x : ℕ) (fs : List Flight) → In f fs → (f.request.xid ≡ x → ⊥) → In f (without (Some x) fs)
in_kept f x [] i ne = i
in_kept f x (k ∷ fs) i ne = by (nat_eq k.request.xid x) refl i (λ j. in_kept f x fs j ne)
  where
    by : (v : Bool) → nat_eq k.request.xid x ≡ v → (k ≡ f) ⊎ In f fs → (In f fs → In f (without (Some x) fs))
        → In f (if v then without (Some x) fs else k ∷ without (Some x) fs)
    by true e (inl q) ih = absurd (ne (ap (λ (y : Flight). y.request.xid) (sym q) ∙ eqb-true k.request.xid x e))
    by true e (inr j) ih = ih j
    by false e (inl q) ih = inl q
    by false e (inr j) ih = inr (ih j)

in_not : (f : Flight) (x : ℕ) (fs : List Flight) → In f (without (Some x) fs) → f.request.xid ≡ x → ⊥
in_not f x [] i e = i
in_not f x (k ∷ fs) i e = by (nat_eq k.request.xid x) refl i (λ j. in_not f x fs j e)
  where
    by : (v : Bool) → nat_eq k.request.xid x ≡ v → In f (if v then without (Some x) fs else k ∷ without (Some x) fs)
        → (In f (without (Some x) fs) → ⊥) → ⊥
    by true y j ih = ih j
    by false y (inl q) ih = eqb-false k.request.xid x y (ap (λ (z : Flight). z.request.xid) q ∙ e)
    by false y (inr j) ih = ih j

pub lives_more : (t o u q d : ℕ) (e : Entry) (past : List Line) → Base t past → LineOk past (Lives u q d e)
    → (nat_eq t u && nat_eq o q && live t d past) ≡ false → More t o past (Lives u q d e)
lives_more t o u q d e past bs ok v = record {
  same_closed = refl;
  same_evicted = λ c. refl;
  lasts = λ c. omega arith;
  tops = omega arith;
  slots = λ c g. omega arith;
  standing = λ lost c g. omega arith;
  known = λ c e. refl;
  has_slot = λ c j. j;
  before = λ c f x i s. when (λ (fs : List Flight). In f fs → In f (flights t c past)) (nat_eq t u && nat_eq c d)
      (without (heard_of e) (flights t c past)) (flights t c past) (λ y j. in_without f (heard_of e) (flights t c past) j) (λ y j. j) i;
  after = λ c g r x i. when (λ (fs : List Flight). In (flies_at o g r) fs) (nat_eq t u && nat_eq c d)
      (without (heard_of e) (flights t c past)) (flights t c past) (λ y. stays c g r x i y e refl) (λ y. i);
}
  where
    stays : (c g : ℕ) (r : Request) → evicted t c past ≡ false → In (flies_at o g r) (flights t c past) → (nat_eq t u && nat_eq c d) ≡ true
        → (k : Entry) → e ≡ k → In (flies_at o g r) (without (heard_of k) (flights t c past))
    stays c g r x i y (Heard p a) z = by (live t d past) refl
      where
        mine : (t ≡ u) × (c ≡ d)
        mine = own t u c d y

        by : (b : Bool) → live t d past ≡ b → In (flies_at o g r) (without (Some p.xid) (flights t c past))
        by false l = absurd (both_ways (live t d past) l (not_live t d past (subst (λ (k : ℕ). evicted t k past ≡ false) mine.1 x)
            (dead (over d past) refl)))
          where
            dead : (b : Bool) → over d past ≡ b → over d past ≡ false
            dead false m = m
            dead true m = absurd (let n = subst (λ (k : Entry). heard_of k ≡ None) z (ok.0 m) in cc)
        by true l =
            let k = subst (λ (b : Entry). LivesOk past u q d b) z (ok.1 (subst (λ (b : ℕ). live b d past ≡ true) mine.0 l)) in
            let f1 = (bs.flown c (flies_at o g r) i).0 in
            let f2 = (bs.flown c (flies_at q k.1.0 p) (subst (λ (b : ℕ × ℕ). In (flies_at q k.1.0 p) (flights b.0 b.1 past))
            (λ j. (sym mine.0 j, sym mine.1 j)) k.1.1)).0 in
            in_kept (flies_at o g r) p.xid (flights t c past) i (λ m. other l (apart f1 f2 m))
          where
            apart : {b : ℕ} → place t c r.xid past ≡ Some (at o g) → place t c p.xid past ≡ Some (at q b) → r.xid ≡ p.xid → o ≡ q
            apart {b} m n s = let both : Some (at o g) ≡ Some (at q b) = sym m ∙ ap (λ (j : ℕ). place t c j past) s ∙ n
                in same_place o g q b both

            other : live t d past ≡ true → o ≡ q → ⊥
            other l s = both_ways (nat_eq t u && nat_eq o q && live t d past) v (rw (eq-eqb t u mine.0, eq-eqb o q s, l))
    stays c g r x i y (Hold l s sn) z = i
    stays c g r x i y (Drop l) z = i
    stays c g r x i y (Takes p k ch) z = i
    stays c g r x i y (Flew p) z = i
    stays c g r x i y (Forgets p) z = i
    stays c g r x i y (Told p a) z = i
    stays c g r x i y (Grant p l s sn) z = i
    stays c g r x i y (Wait p l) z = i
    stays c g r x i y (Promote l) z = i
    stays c g r x i y (Acts p a) z = i
    stays c g r x i y (Txn n p) z = i
    stays c g r x i y (Release k) z = i
    stays c g r x i y (Evicted p) z = i
    stays c g r x i y (Committed n) z = i
    stays c g r x i y (Closed b l gone) z = i
    stays c g r x i y (Sends m) z = i

pub heard_own : (t o u q d : ℕ) (r : Request) (a : Answer) (past : List Line) (h : List Entry) → Base t past → nat_eq t u ≡ true
    → nat_eq o q ≡ true
    → live t d past ≡ true → LivesOk past u q d (Heard r a) → Tied t o past h → Tied t o (Lives u q d (Heard r a) ∷ past) (Heard r a ∷ h)
heard_own t o u q d r a past h bs v s l ok w = record {
  boots = w.boots;
  outs = w.outs;
  asks = w.asks;
  tops = w.tops;
  answered = w.answered;
  dones = w.dones;
  cookies = w.cookies;
  waits = w.waits;
  awaited = λ c k e i. awaited c k e (nat_eq c r.life && brings a k) refl i;
  flying = λ c f e i z. flying c f e (nat_eq c r.life) refl i z;
  flies = λ c k e. flies c k e (nat_eq c r.life) refl;
}
  where
    here : t ≡ u
    here = eqb-true t u v

    -- what is heard was in flight on this object
    flown : In (flies_at o ok.1.0 r) (flights t d past)
    flown = subst (λ (y : ℕ × ℕ). In (flies_at y.1 ok.1.0 r) (flights y.0 d past)) (λ j. (sym here j, sym (eqb-true o q s) j)) ok.1.1

    awaited : (c k : ℕ) → evicted t c past ≡ false → (x : Bool) → (nat_eq c r.life && brings a k) ≡ x → (x || awaits c k h) ≡ true
        → (knows t c past ≤ closed t past) × (joined t c past ≡ true)
    awaited c k e false y i = w.awaited c k e i
    awaited c k e true y i =
        let is : c ≡ d = eqb-true c r.life (and_parts (nat_eq c r.life) (brings a k) y).0 ∙ ok.0 in
        let p = bs.replies (knows t d past) d r.xid a (subst (λ (z : ℕ). Sent past z (Reply (knows z d past) d r.xid a)) (sym here) ok.2) in
        (subst (λ (z : ℕ). knows t z past ≤ closed t past) (sym is) p.0, subst (λ (z : ℕ). joined t z past ≡ true) (sym is) p.1)

    mine : (c : ℕ) → nat_eq c r.life ≡ true → (nat_eq t u && nat_eq c d) ≡ true
    mine c e = rw (v, eq-eqb c d (eqb-true c r.life e ∙ ok.0))

    theirs : (c : ℕ) → nat_eq c r.life ≡ false → (nat_eq t u && nat_eq c d) ≡ true → ⊥
    theirs c e f = eqb-false c r.life e ((own t u c d f).1 ∙ sym ok.0)

    flying : (c : ℕ) (f : Flight) → evicted t c past ≡ false → (x : Bool) → nat_eq c r.life ≡ x
        → In f (if nat_eq t u && nat_eq c d then without (Some r.xid) (flights t c past) else flights t c past) → f.object ≡ o
        → (if x then None else flight c h) ≡ Some f.request
    flying c f e false y i z = w.flying c f e (when (λ (fs : List Flight). In f fs → In f (flights t c past)) (nat_eq t u && nat_eq c d)
        (without (Some r.xid) (flights t c past)) (flights t c past) (λ b j. in_without f (Some r.xid) (flights t c past) j) (λ b j. j) i) z
    flying c f e true y i z =
        let is : c ≡ d = eqb-true c r.life y ∙ ok.0 in
        let j : In f (without (Some r.xid) (flights t c past)) =
        when (λ (fs : List Flight). In f fs → In f (without (Some r.xid) (flights t c past))) (nat_eq t u && nat_eq c d)
        (without (Some r.xid) (flights t c past)) (flights t c past) (λ b k. k)
        (λ b k. absurd (both_ways (nat_eq t u && nat_eq c d) b (mine c y))) i in
        let a1 = w.flying c f e (in_without f (Some r.xid) (flights t c past) j) z in
        let a2 = w.flying c (flies_at o ok.1.0 r) e (subst (λ (k : ℕ). In (flies_at o ok.1.0 r) (flights t k past)) (sym is) flown) refl in
        let same : f.request ≡ r = some_same f.request r (sym a1 ∙ a2) in
        absurd (in_not f r.xid (flights t c past) j (ap (λ (k : Request). k.xid) same))

    flies : (c : ℕ) (k : Request) → evicted t c past ≡ false → (x : Bool) → nat_eq c r.life ≡ x → (if x then None else flight c h) ≡ Some k
        → (b : ℕ) × In (flies_at o b k) (if nat_eq t u && nat_eq c d then without (Some r.xid) (flights t c past) else flights t c past)
    flies c k e true y i = absurd (cc)
    flies c k e false y i = let p = w.flies c k e i in (
      p.0,
      when (λ (fs : List Flight). In (flies_at o p.0 k) fs)
          (nat_eq t u && nat_eq c d) (without (Some r.xid) (flights t c past)) (flights t c past) (λ b. absurd (theirs c y b)) (λ b. p.1),
    )

-- an entry of a life that hears nothing
still_flying : (t u c d : ℕ) (past : List Line) (f : Flight) → In f
    (if nat_eq t u && nat_eq c d then flights t c past else flights t c past) → In f (flights t c past)
still_flying t u c d past f i = when (λ (fs : List Flight). In f fs → In f (flights t c past)) (nat_eq t u && nat_eq c d) (flights t c past)
    (flights t c past) (λ b j. j) (λ b j. j) i

flying_still : (t u c d : ℕ) (past : List Line) (f : Flight) → In f (flights t c past)
    → In f (if nat_eq t u && nat_eq c d then flights t c past else flights t c past)
flying_still t u c d past f i = when (λ (fs : List Flight). In f fs) (nat_eq t u && nat_eq c d) (flights t c past) (flights t c past)
    (λ b. i) (λ b. i)

pub held_own : (t o u q d : ℕ) (k : Lock) (s : ℕ) (sn : ℕ → Bool) (past : List Line) (h : List Entry) → Tied t o past h
    → Tied t o (Lives u q d (Hold k s sn) ∷ past) (Hold k s sn ∷ h)
held_own t o u q d k s sn past h w = record {
  boots = w.boots;
  outs = w.outs;
  asks = w.asks;
  tops = w.tops;
  answered = w.answered;
  dones = w.dones;
  cookies = w.cookies;
  waits = w.waits;
  awaited = λ c j e i. w.awaited c j e (less c j i);
  flying = λ c f e i z. w.flying c f e (still_flying t u c d past f i) z;
  flies = λ c r e i. let p = w.flies c r e i in (p.0, flying_still t u c d past (flies_at o p.0 r) p.1);
}
  where
    less : (c j : ℕ) → (if nat_eq c k.life && nat_eq j k.cookie then false else awaits c j h) ≡ true → awaits c j h ≡ true
    less c j e = grind arith

pub dropped_own : (t o u q d : ℕ) (k : Lock) (past : List Line) (h : List Entry) → Tied t o past h
    → Tied t o (Lives u q d (Drop k) ∷ past) (Drop k ∷ h)
dropped_own t o u q d k past h w = record {
  boots = w.boots;
  outs = w.outs;
  asks = w.asks;
  tops = w.tops;
  answered = w.answered;
  dones = w.dones;
  cookies = w.cookies;
  waits = w.waits;
  awaited = w.awaited;
  flying = λ c f e i z. w.flying c f e (still_flying t u c d past f i) z;
  flies = λ c r e i. let p = w.flies c r e i in (p.0, flying_still t u c d past (flies_at o p.0 r) p.1);
}

pub taken_own : (t o u q d : ℕ) (k : ℕ) (ch : Change) (past : List Line) (h : List Entry) → Tied t o past h
    → Tied t o (Lives u q d (Takes d k ch) ∷ past) (Takes d k ch ∷ h)
taken_own t o u q d k ch past h w = record {
  boots = w.boots;
  outs = w.outs;
  asks = w.asks;
  tops = w.tops;
  answered = w.answered;
  dones = w.dones;
  cookies = w.cookies;
  waits = w.waits;
  awaited = w.awaited;
  flying = λ c f e i z. w.flying c f e (still_flying t u c d past f i) z;
  flies = λ c r e i. let p = w.flies c r e i in (p.0, flying_still t u c d past (flies_at o p.0 r) p.1);
}

-- ---- a request is executed
txn_rises : (lost : ℕ → Bool) (r : Request) (e : Entry) (x : ℕ) → x ≤ txn_of lost r e x
txn_rises lost r (Txn n q) x = when (λ m. x ≤ m) (lost n) x (max r.xid x) (λ e. omega arith) (λ e. omega arith)
txn_rises lost r _ x = omega arith

slots_rise : (t u c g k : ℕ) (r : Request) (past : List Line) → slot t c g past ≤
    (if nat_eq t u && nat_eq c r.life && nat_eq g k then max r.xid (slot t c g past) else slot t c g past)
slots_rise t u c g k r past = when (λ n. slot t c g past ≤ n) (nat_eq t u && nat_eq c r.life && nat_eq g k) (max r.xid (slot t c g past))
    (slot t c g past) (λ e. omega arith) (λ e. omega arith)

stands_rise : (t u c g k : ℕ) (lost : ℕ → Bool) (r : Request) (e : Entry) (past : List Line)
    → stands t lost c g past ≤ (if nat_eq t u && nat_eq c r.life && nat_eq g k then txn_of lost r e (stands t lost c g past)
    else stands t lost c g past)
stands_rise t u c g k lost r e past = when (λ n. stands t lost c g past ≤ n) (nat_eq t u && nat_eq c r.life && nat_eq g k)
    (txn_of lost r e (stands t lost c g past)) (stands t lost c g past) (λ f. txn_rises lost r e (stands t lost c g past))
    (λ f. omega arith)

pub serve_more : (t o u q g : ℕ) (r : Request) (e : Entry) (past : List Line) → More t o past (Serve u q g r e)
serve_more t o u q g r e past = record {
  same_closed = refl;
  same_evicted = λ c. refl;
  lasts = λ c. omega arith;
  known = λ c e. refl;
  has_slot = λ c j. j;
  before = λ c f e i s. i;
  after = λ c g r e i. i;
  tops = when (λ n. top t past ≤ n) (nat_eq t u) (cookie_of e (top t past)) (top t past) (λ f. cookie_rises e (top t past))
      (λ f. omega arith);
  slots = λ c k. slots_rise t u c k g r past;
  standing = λ lost c k. stands_rise t u c k g lost r e past;
}

pub queue_more : (t o u q g : ℕ) (r : Request) (past : List Line) → More t o past (Queue u q g r)
queue_more t o u q g r past = record {
  same_closed = refl;
  same_evicted = λ c. refl;
  lasts = λ c. omega arith;
  tops = omega arith;
  standing = λ lost c g. omega arith;
  known = λ c e. refl;
  has_slot = λ c j. j;
  before = λ c f e i s. i;
  after = λ c g r e i. i;
  slots = λ c k. slots_rise t u c k g r past;
}

-- a request that is answered, with what it gives
pub record Served (t o u q g : ℕ) (r : Request) (e : Entry) (a : Answer) (past : List Line) (h : List Entry) : Type 0 where
  pub here : nat_eq t u ≡ true
  pub object : nat_eq o q ≡ true
  pub placed : place t r.life r.xid past ≡ Some (at o g)
  pub new : (c x : ℕ) (b : Answer) → Answered (e ∷ h) c x b → ((r.life ≡ c) × (r.xid ≡ x) × (a ≡ b)) ⊎ Answered h c x b
  pub done : (n : ℕ) (lost : ℕ → Bool) (x : ℕ) → a ≡ Done n → lost n ≡ false → r.xid ≤ txn_of lost r e x
  pub low : top_in (e ∷ h) ≤ cookie_of e (top t past)
  pub was : (l : Lock) → WasGranted (e ∷ h) l → WasGranted h l ⊎ (gave e l.cookie ≡ true)
  pub wait : (l : Lock) → IsWaiting (e ∷ h) l → IsWaiting h l ⊎ (gave e l.cookie ≡ true)
  pub boots : closed_in (e ∷ h) ≡ closed_in h
  pub outs : (c : ℕ) → evicted_in c (e ∷ h) ≡ evicted_in c h
  pub asks : (c : ℕ) → asked c (e ∷ h) ≡ asked c h
  pub flight : (c : ℕ) → flight c (e ∷ h) ≡ flight c h
  pub awaits : (c k : ℕ) → awaits c k (e ∷ h) ≡ awaits c k h

pub served_own : (t o u q g : ℕ) (r : Request) (e : Entry) (a : Answer) (past : List Line) (h : List Entry) → Base t past
    → LineOk past (Serve u q g r e) → Served t o u q g r e a past h → Tied t o past h → Tied t o (Serve u q g r e ∷ past) (e ∷ h)
served_own t o u q g r e a past h bs ok sv w = record {
  boots = sv.boots ∙ w.boots;
  outs = λ c. sv.outs c ∙ w.outs c;
  asks = λ c. let x = sv.asks c in let y = w.asks c in omega arith;
  tops = when (λ n. top_in (e ∷ h) ≤ n) (nat_eq t u) (cookie_of e (top t past)) (top t past) (λ f. sv.low)
      (λ f. absurd (both_ways (nat_eq t u) f sv.here));
  answered = λ c x b i. ⊎_elim
      (λ (p : (r.life ≡ c) × (r.xid ≡ x) × (a ≡ b)). (g, put_place c x p.0 p.1, slot_new c x p.0 p.1))
      (λ (p : Answered h c x b). let y = w.answered c x b p in let low = y.2 in let z = slots_rise t u c y.0 g r past
      in (y.0, place_at t o past (Serve u q g r e) c x y.0 bs ok y.1, (omega arith)))
      (sv.new c x b i);
  dones = λ c x n lost i v. ⊎_elim
      (λ (p : (r.life ≡ c) × (r.xid ≡ x) × (a ≡ Done n)). (g, put_place c x p.0 p.1, stands_new c x n lost p.0 p.1 p.2 v))
      (λ (p : Answered h c x (Done n)). let y = w.dones c x n lost p v in let low = y.2 in let z = stands_rise t u c y.0 g lost r e past
      in (y.0, place_at t o past (Serve u q g r e) c x y.0 bs ok y.1, (omega arith)))
      (sv.new c x (Done n) i);
  cookies = λ l i. ⊎_elim (λ (p : WasGranted h l). object_at t o past (Serve u q g r e) l.cookie bs ok (w.cookies l p))
      (λ (p : gave e l.cookie ≡ true). new_object l.cookie p) (sv.was l i);
  waits = λ l i. ⊎_elim (λ (p : IsWaiting h l). object_at t o past (Serve u q g r e) l.cookie bs ok (w.waits l p))
      (λ (p : gave e l.cookie ≡ true). new_object l.cookie p) (sv.wait l i);
  awaited = λ c k v i. w.awaited c k v (sym (sv.awaits c k) ∙ i);
  flying = λ c f v i z. sv.flight c ∙ w.flying c f v i z;
  flies = λ c k v i. w.flies c k v (sym (sv.flight c) ∙ i);
}
  where
    put_place : (c x : ℕ) → r.life ≡ c → r.xid ≡ x → place t c x past ≡ Some (at o g)
    put_place c x e f = subst (λ (y : ℕ × ℕ). place t y.0 y.1 past ≡ Some (at o g)) (λ j. (e j, f j)) sv.placed

    slot_new : (c x : ℕ) → r.life ≡ c → r.xid ≡ x → x ≤ (if nat_eq t u && nat_eq c r.life && nat_eq g g then max r.xid (slot t c g past)
        else slot t c g past)
    slot_new c x e f = when (λ n. x ≤ n) (nat_eq t u && nat_eq c r.life && nat_eq g g) (max r.xid (slot t c g past)) (slot t c g past)
        (λ b. omega arith) (λ b. absurd (both_ways (nat_eq t u && nat_eq c r.life && nat_eq g g) b
        (rw (sv.here, eq-eqb c r.life (sym e), eq-eqb g g refl))))

    stands_new : (c x n : ℕ) (lost : ℕ → Bool) → r.life ≡ c → r.xid ≡ x → a ≡ Done n → lost n ≡ false
        → x ≤ (if nat_eq t u && nat_eq c r.life && nat_eq g g then txn_of lost r e (stands t lost c g past) else stands t lost c g past)
    stands_new c x n lost y z d v = when (λ m. x ≤ m) (nat_eq t u && nat_eq c r.life && nat_eq g g)
        (txn_of lost r e (stands t lost c g past)) (stands t lost c g past)
        (λ b. let k = sv.done n lost (stands t lost c g past) d v in omega arith)
        (λ b. absurd (both_ways (nat_eq t u && nat_eq c r.life && nat_eq g g) b (rw (sv.here, eq-eqb c r.life (sym y), eq-eqb g g refl))))

    new_object : (k : ℕ) → gave e k ≡ true → (if nat_eq t u && gave e k then Some q else object_of t k past) ≡ Some o
    new_object k f = rw (sv.here, f, ← eqb-true o q sv.object)

-- ---- a waiting lock is granted, a lock released
pub promoted_own : (t o u q : ℕ) (l : Lock) (past : List Line) (h : List Entry) → PromoteOk h l → Tied t o past h
    → Tied t o (Works u q (Promote l) ∷ past) (Promote l ∷ h)
promoted_own t o u q l past h ok w = record {
  boots = w.boots;
  outs = w.outs;
  asks = w.asks;
  tops = w.tops;
  answered = w.answered;
  dones = w.dones;
  awaited = w.awaited;
  flying = w.flying;
  flies = w.flies;
  cookies = λ m i. ⊎_elim (λ (e : l ≡ m). ap (λ (k : ℕ). object_of t k past) (ap (λ (x : Lock). x.cookie) (sym e) ∙ sym ok.cookie)
      ∙ w.waits ok.ahead ok.waits) (λ (j : WasGranted h m). w.cookies m j) i;
  waits = λ m i. w.waits m i.1;
}

-- ---- what concerns the whole target
pub evict_more : (t o u d : ℕ) (past : List Line) → nat_eq t u ≡ false → More t o past (Evict u d)
evict_more t o u d past v = record {
  same_closed = refl;
  lasts = λ c. omega arith;
  tops = omega arith;
  slots = λ c g. omega arith;
  standing = λ lost c g. omega arith;
  known = λ c e. refl;
  has_slot = λ c j. j;
  before = λ c f e i s. i;
  after = λ c g r e i. i;
  same_evicted = λ c. rw v;
}

pub evicted_own : (t o u d : ℕ) (past : List Line) (h : List Entry) → nat_eq t u ≡ true → Tied t o past h
    → Tied t o (Evict u d ∷ past) (Evicted d ∷ h)
evicted_own t o u d past h v w = record {
  boots = w.boots;
  asks = w.asks;
  tops = w.tops;
  answered = w.answered;
  dones = w.dones;
  cookies = w.cookies;
  outs = λ c. rw (v, w.outs c);
  waits = λ m i. w.waits m i.1;
  awaited = λ c k e. w.awaited c k (or_false (nat_eq t u && nat_eq c d) (evicted t c past) e);
  flying = λ c f e. w.flying c f (or_false (nat_eq t u && nat_eq c d) (evicted t c past) e);
  flies = λ c r e. w.flies c r (or_false (nat_eq t u && nat_eq c d) (evicted t c past) e);
}

pub close_more : (t o u : ℕ) (lost gone : ℕ → Bool) (past : List Line) → nat_eq t u ≡ false → More t o past (Close u lost gone)
close_more t o u lost gone past v = record {
  lasts = λ c. omega arith;
  tops = omega arith;
  known = λ c e. refl;
  has_slot = λ c j. j;
  before = λ c f e i s. i;
  after = λ c g r e i. i;
  same_closed = rw v;
  same_evicted = λ c. rw v;
  slots = λ c g. subst (λ (b : Bool). slot t c g past ≤ (if b then stands t lost c g past else slot t c g past)) (sym v) (omega arith);
  standing = λ f c g. subst (λ (b : Bool). stands t f c g past ≤ (if b then stands t (also f lost) c g past else stands t f c g past))
      (sym v) (omega arith);
}

pub closed_own : (t o u : ℕ) (lost gone : ℕ → Bool) (past : List Line) (h : List Entry) → Base t past → nat_eq t u ≡ true → Tied t o past h
    → Tied t o (Close u lost gone ∷ past) (Closed (boot t past) lost gone ∷ h)
closed_own t o u lost gone past h bs v w = record {
  asks = w.asks;
  tops = w.tops;
  cookies = w.cookies;
  boots = rw v;
  outs = λ c. rw (v, w.outs c);
  answered = λ c x a i. let p = w.dones c x i.1.0 lost (subst (λ (b : Answer). Answered h c x b) i.1.1 i.0) i.1.2
      in (p.0, p.1, subst (λ (b : Bool). x ≤ (if b then stands t lost c p.0 past else slot t c p.0 past)) (sym v) p.2);
  dones = λ c x n f i e. let p = w.dones c x n (also f lost) i.0 (rw (e, kept n i.1))
      in (p.0, p.1, subst (λ (b : Bool). x ≤ (if b then stands t (also f lost) c p.0 past else stands t f c p.0 past)) (sym v) p.2);
  waits = λ m i. absurd i;
  awaited = λ c k e i. let p = w.awaited c k (or_false (nat_eq t u && gone c) (evicted t c past) e) i
      in (
        when (λ n. knows t c past ≤ n) (nat_eq t u) (boot t past) (closed t past) (λ f. let low = p.0 in let y = bs.order in omega arith)
            (λ f. p.0),
        p.1,
      );
  flying = λ c f e. w.flying c f (or_false (nat_eq t u && gone c) (evicted t c past) e);
  flies = λ c r e. w.flies c r (or_false (nat_eq t u && gone c) (evicted t c past) e);
}
  where
    kept : (n : ℕ) → (m : ℕ) × (Done n ≡ Done m) × (lost m ≡ false) → lost n ≡ false
    kept n p = let e : n ≡ p.0 = (let d = p.1 in cc) in ap lost e ∙ p.2
