-- What every allowed past says of one target and of the lives there: boots, slots, request numbers, cookies and messages.
use Rattle.std.proofs.Common.{◌≡◌, ℕ, ◌<◌, ◌≤◌, ◌⊎◌, inl, inr, ⊎_elim, List, [], ◌∷◌, Option, Some, None, Bool, true, false, refl, sym}
use Rattle.std.proofs.Common.{subst, arith}
use Rattle.std.specs.Prelude.{nat_eq, if◌then◌else◌, ◌&&◌, ◌||◌}
use Rattle.std.proofs.lemmas.Bool.{eqb-true, eq-eqb, both_ways, and_parts, or_right}
use Rattle.lu_proof_bytes.specs.Object.Words.{Lock, Request, Answer, Entry, Grant, Wait, Acts, Txn}
use Rattle.lu_proof_bytes.specs.Objects.Words.{Message, Ask, Reply, Give, Join, Ready, Line, Knows, Serves, Flies, Lives, Tells, Over}
use Rattle.lu_proof_bytes.specs.Objects.Words.{Joins, Queue, Serve, Works, Evict, Commit, Crash, Boot, Close, Send, Flight, Place}
use Rattle.lu_proof_bytes.specs.Objects.Folds.{boot, serving, closed, joined, evicted, cookie_of, top, gave, object_of, knows, serves, last}
use Rattle.lu_proof_bytes.specs.Objects.Folds.{place, heard_of, without, flights, In, Sent}
use Rattle.lu_proof_bytes.specs.Objects.Guards.{ServedOk, SentOk, LineOk}

-- of target t: its last close's boot is at most its present one, and the same while it serves; a life with a slot that
-- isn't evicted knows that boot or a later one, and one that may ask has a slot, and unless it was evicted knows exactly
-- that boot; no message of the target has a later boot, and each goes to a life with a slot; a request number goes to one
-- place, at most the life's last, and a cookie to one object, at most the greatest given; what was sent and what flies is
-- at its place
abbrev pub Base : ℕ → List Line → Type 0
Base t past = record {
  one : 1 ≤ closed t past;
  order : closed t past ≤ boot t past;
  now : serving t past ≡ true → boot t past ≡ closed t past;
  low : (c : ℕ) → 1 ≤ knows t c past;
  joins : (b c : ℕ) → Sent past t (Join b c) → b ≤ knows t c past;
  known : (c : ℕ) → joined t c past ≡ true → evicted t c past ≡ false → closed t past ≤ knows t c past;
  served : (c : ℕ) → serves t c past ≡ true → (joined t c past ≡ true) × (evicted t c past ≡ false → knows t c past ≡ closed t past);
  readies : (b c : ℕ) → Sent past t (Ready b c) → (b ≤ closed t past) × (joined t c past ≡ true);
  replies : (b c x : ℕ) (a : Answer) → Sent past t (Reply b c x a) → (b ≤ closed t past) × (joined t c past ≡ true);
  gives : (b : ℕ) (l : Lock) (s : ℕ) (sn : ℕ → Bool) → Sent past t (Give b l s sn) → (b ≤ closed t past) × (joined t l.life past ≡ true);
  place_low : (c x : ℕ) (v : Place) → place t c x past ≡ Some v → x ≤ last t c past;
  cookie_low : (k o : ℕ) → object_of t k past ≡ Some o → k ≤ top t past;
  placed : (b g o : ℕ) (r : Request) → Sent past t (Ask b g o r) → place t r.life r.xid past ≡ Some (record { object = o; tag = g });
  flown : (c : ℕ) (f : Flight) → In f (flights t c past) → (place t c f.request.xid past ≡ Some (record { object = f.object; tag = f.tag }))
      × (f.request.life ≡ c);
}

-- own line or another's
pub when : {A : Type 0} (P : A → Type 0) (v : Bool) (x y : A) → (v ≡ true → P x) → (v ≡ false → P y) → P (if v then x else y)
when P true x y a b = a refl
when P false x y a b = b refl

pub own : (t u c d : ℕ) → (nat_eq t u && nat_eq c d) ≡ true → (t ≡ u) × (c ≡ d)
own t u c d e = let p = and_parts (nat_eq t u) (nat_eq c d) e in (eqb-true t u p.0, eqb-true c d p.1)

pub at_two : (P : ℕ → ℕ → Type 0) (t u c d : ℕ) → (nat_eq t u && nat_eq c d) ≡ true → P u d → P t c
at_two P t u c d e x = let p = own t u c d e in subst (λ (y : ℕ × ℕ). P y.0 y.1) (λ i. (sym p.0 i, sym p.1 i)) x

knows_line : (t u d b : ℕ) (past : List Line) → LineOk past (Knows u d b) → Base t past → Base t (Knows u d b ∷ past)
knows_line t u d b past ok w = record {
  one = w.one;
  order = w.order;
  now = w.now;
  low = λ c. when (λ n. 1 ≤ n) (nat_eq t u && nat_eq c d) b (knows t c past)
      (λ e. let k = at_two (λ v x. knows v x past < b) t u c d e ok.1 in omega arith) (λ e. w.low c);
  joins = λ j c i. when (λ n. j ≤ n) (nat_eq t u && nat_eq c d) b (knows t c past)
      (λ e. let k = at_two (λ v x. knows v x past < b) t u c d e ok.1 in let o = w.joins j c i in omega arith) (λ e. w.joins j c i);
  known = λ c j v. when (λ n. closed t past ≤ n) (nat_eq t u && nat_eq c d) b (knows t c past)
      (λ e. let k = at_two (λ v x. knows v x past < b) t u c d e ok.1 in let o = w.known c j v in omega arith) (λ e. w.known c j v);
  served = λ c. by c (nat_eq t u && nat_eq c d);
  readies = w.readies;
  replies = w.replies;
  gives = w.gives;
  place_low = w.place_low;
  cookie_low = w.cookie_low;
  placed = w.placed;
  flown = w.flown;
}
  where
    by : (c : ℕ) (v : Bool) → (if v then false else serves t c past) ≡ true → (joined t c past ≡ true)
        × (evicted t c past ≡ false → (if v then b else knows t c past) ≡ closed t past)
    by c true e = absurd (cc)
    by c false e = w.served c e

serves_line : (t u d b : ℕ) (past : List Line) → LineOk past (Serves u d b) → Base t past → Base t (Serves u d b ∷ past)
serves_line t u d b past ok w = record {
  one = w.one;
  order = w.order;
  now = w.now;
  low = w.low;
  joins = w.joins;
  known = w.known;
  served = λ c. by c (nat_eq t u && nat_eq c d) refl;
  readies = w.readies;
  replies = w.replies;
  gives = w.gives;
  place_low = w.place_low;
  cookie_low = w.cookie_low;
  placed = w.placed;
  flown = w.flown;
}
  where
    by : (c : ℕ) (v : Bool) → (nat_eq t u && nat_eq c d) ≡ v → (if v then true else serves t c past) ≡ true → (joined t c past ≡ true)
        × (evicted t c past ≡ false → knows t c past ≡ closed t past)
    by c false e s = w.served c s
    by c true e s = ⊎_elim
        (λ (i : Sent past t (Ready b c)). let r = w.readies b c i in let low = r.0
        in (r.1, λ v. let k = w.known c r.1 v in let is = k'.0 in omega arith))
        (λ (i : (b ≡ 1) × (joined t c past ≡ true) × (boot t past ≡ 1)). let x = i.0 in let y = i.2 in let o = w.one in let z = w.order
        in (i.1, λ v. let is = k'.0 in omega arith))
        k'.1
      where
        k' : (b ≡ knows t c past) × (Sent past t (Ready b c) ⊎ ((b ≡ 1) × (joined t c past ≡ true) × (boot t past ≡ 1)))
        k' = at_two (λ v x. (b ≡ knows v x past) × (Sent past v (Ready b x) ⊎ ((b ≡ 1) × (joined v x past ≡ true) × (boot v past ≡ 1)))) t u
            c d e ok

pub in_without : (f : Flight) (x : Option ℕ) (fs : List Flight) → In f (without x fs) → In f fs
in_without f None fs i = i
in_without f (Some x) [] i = i
in_without f (Some x) (k ∷ fs) i = by (nat_eq k.request.xid x) i (in_without f (Some x) fs)
  where
    by : (v : Bool) → In f (if v then without (Some x) fs else k ∷ without (Some x) fs) → (In f (without (Some x) fs) → In f fs) → (k ≡ f)
        ⊎ In f fs
    by true j ih = inr (ih j)
    by false (inl e) ih = inl e
    by false (inr j) ih = inr (ih j)

-- a place stays
pub place_more : (t : ℕ) (past : List Line) (l : Line) (c x : ℕ) (v : Place) → LineOk past l
    → (place t c x past ≡ Some v → x ≤ last t c past) → place t c x past ≡ Some v → place t c x (l ∷ past) ≡ Some v
place_more t past (Flies u o g r) c x v ok low e = by (nat_eq t u && nat_eq c r.life && nat_eq x r.xid) refl
  where
    by : (b : Bool) → (nat_eq t u && nat_eq c r.life && nat_eq x r.xid) ≡ b
        → (if b then Some (record { object = o; tag = g }) else place t c x past) ≡ Some v
    by false f = e
    by true f =
        let p = and_parts (nat_eq t u && nat_eq c r.life) (nat_eq x r.xid) f in
        let k = at_two (λ a d. last a d past < r.xid) t u c r.life p.0 ok.next in
        let y = eqb-true x r.xid p.1 in
        let z = low e in
        absurd (omega arith)
place_more t past (Knows u d b) c x v ok low e = e
place_more t past (Serves u d b) c x v ok low e = e
place_more t past (Lives u o d k) c x v ok low e = e
place_more t past (Tells d does) c x v ok low e = e
place_more t past (Over d) c x v ok low e = e
place_more t past (Joins u d) c x v ok low e = e
place_more t past (Serve u o g r k) c x v ok low e = e
place_more t past (Queue u o g r) c x v ok low e = e
place_more t past (Works u o k) c x v ok low e = e
place_more t past (Evict u d) c x v ok low e = e
place_more t past (Commit u n) c x v ok low e = e
place_more t past (Crash u) c x v ok low e = e
place_more t past (Boot u b) c x v ok low e = e
place_more t past (Close u lost gone) c x v ok low e = e
place_more t past (Send u m) c x v ok low e = e

flies_line : (t u o g : ℕ) (r : Request) (past : List Line) → LineOk past (Flies u o g r) → Base t past → Base t (Flies u o g r ∷ past)
flies_line t u o g r past ok w = record {
  one = w.one;
  order = w.order;
  now = w.now;
  low = w.low;
  joins = w.joins;
  known = w.known;
  served = w.served;
  readies = w.readies;
  replies = w.replies;
  gives = w.gives;
  place_low = λ c x v. low c x v (nat_eq t u && nat_eq c r.life) refl (nat_eq x r.xid) refl;
  cookie_low = w.cookie_low;
  placed = λ b h q k i. place_more t past (Flies u o g r) k.life k.xid (record { object = q; tag = h }) ok
      (w.place_low k.life k.xid (record { object = q; tag = h })) (w.placed b h q k i);
  flown = λ c f. fl c f (nat_eq t u && nat_eq c r.life) refl;
}
  where
    low : (c x : ℕ) (v : Place) (a : Bool) → (nat_eq t u && nat_eq c r.life) ≡ a → (b : Bool) → nat_eq x r.xid ≡ b
        → (if a && b then Some (record { object = o; tag = g }) else place t c x past) ≡ Some v → x ≤ (if a then r.xid else last t c past)
    low c x v true e true f i = let y = eqb-true x r.xid f in omega arith
    low c x v true e false f i = let k = at_two (λ a d. last a d past < r.xid) t u c r.life e ok.next in let y = w.place_low c x v i
        in omega arith
    low c x v false e b f i = w.place_low c x v i

    more : (c : ℕ) (f : Flight) → In f (flights t c past) → (place t c f.request.xid (Flies u o g r ∷ past)
        ≡ Some (record { object = f.object; tag = f.tag })) × (f.request.life ≡ c)
    more c f i = let p = w.flown c f i in (
      place_more t past (Flies u o g r) c f.request.xid (record { object = f.object; tag = f.tag }) ok
          (w.place_low c f.request.xid (record { object = f.object; tag = f.tag })) p.0,
      p.1,
    )

    fl : (c : ℕ) (f : Flight) (a : Bool) → (nat_eq t u && nat_eq c r.life) ≡ a
        → In f (if a then record { object = o; tag = g; request = r } ∷ flights t c past else flights t c past)
        → (place t c f.request.xid (Flies u o g r ∷ past) ≡ Some (record { object = f.object; tag = f.tag })) × (f.request.life ≡ c)
    fl c f false e i = more c f i
    fl c f true e (inr i) = more c f i
    fl c f true e (inl q) = subst (λ (k : Flight). (place t c k.request.xid (Flies u o g r ∷ past)
        ≡ Some (record { object = k.object; tag = k.tag })) × (k.request.life ≡ c)) q
        (rw (e, eq-eqb r.xid r.xid refl), sym (own t u c r.life e).1)

lives_line : (t u o d : ℕ) (k : Entry) (past : List Line) → Base t past → Base t (Lives u o d k ∷ past)
lives_line t u o d k past w = record {
  one = w.one;
  order = w.order;
  now = w.now;
  low = w.low;
  joins = w.joins;
  known = w.known;
  served = w.served;
  readies = w.readies;
  replies = w.replies;
  gives = w.gives;
  place_low = w.place_low;
  cookie_low = w.cookie_low;
  placed = w.placed;
  flown = λ c f. by c f (nat_eq t u && nat_eq c d);
}
  where
    by : (c : ℕ) (f : Flight) (v : Bool) → In f (if v then without (heard_of k) (flights t c past) else flights t c past)
        → (place t c f.request.xid past ≡ Some (record { object = f.object; tag = f.tag })) × (f.request.life ≡ c)
    by c f true i = w.flown c f (in_without f (heard_of k) (flights t c past) i)
    by c f false i = w.flown c f i

joins_line : (t u d : ℕ) (past : List Line) → LineOk past (Joins u d) → Base t past → Base t (Joins u d ∷ past)
joins_line t u d past ok w = record {
  one = w.one;
  order = w.order;
  now = w.now;
  low = w.low;
  joins = w.joins;
  known = λ c j v. by c (nat_eq t u && nat_eq c d) refl j v;
  served = λ c s. let p = w.served c s in (or_right (nat_eq t u && nat_eq c d) (joined t c past) p.0, p.1);
  readies = λ b c i. let p = w.readies b c i in (p.0, or_right (nat_eq t u && nat_eq c d) (joined t c past) p.1);
  replies = λ b c x a i. let p = w.replies b c x a i in (p.0, or_right (nat_eq t u && nat_eq c d) (joined t c past) p.1);
  gives = λ b l s sn i. let p = w.gives b l s sn i in (p.0, or_right (nat_eq t u && nat_eq l.life d) (joined t l.life past) p.1);
  place_low = w.place_low;
  cookie_low = w.cookie_low;
  placed = w.placed;
  flown = w.flown;
}
  where
    by : (c : ℕ) (v : Bool) → (nat_eq t u && nat_eq c d) ≡ v → (v || joined t c past) ≡ true → evicted t c past ≡ false
        → closed t past ≤ knows t c past
    by c false e j v = w.known c j v
    by c true e j v = ⊎_elim
        (λ (i : Sent past t (Join (boot t past) c)). let x = w.joins (boot t past) c i in let y = w.order in omega arith)
        (λ (i : boot t past ≡ 1). let y = w.order in let z = w.low c in omega arith)
        (at_two (λ a x. Sent past a (Join (boot a past) x) ⊎ (boot a past ≡ 1)) t u c d e ok)

-- the object of a cookie stays
gave_new : (past : List Line) (u o : ℕ) (r : Request) (e : Entry) (k : ℕ) → ServedOk past u o r e → gave e k ≡ true → top u past < k
gave_new past u o r (Grant q l s sn) k ok g = let a = ok.2 in let b = eqb-true l.cookie k g in omega arith
gave_new past u o r (Wait q l) k ok g = let a = ok.2 in let b = eqb-true l.cookie k g in omega arith
gave_new past u o r (Acts q a) k ok g = absurd (cc)
gave_new past u o r (Txn n q) k ok g = absurd (cc)
gave_new past u o r _ k ok g = absurd ok

gave_low : (e : Entry) (k n : ℕ) → gave e k ≡ true → k ≤ cookie_of e n
gave_low (Grant q l s sn) k n g = let b = eqb-true l.cookie k g in omega arith
gave_low (Wait q l) k n g = let b = eqb-true l.cookie k g in omega arith
gave_low _ k n g = absurd (cc)

pub cookie_rises : (e : Entry) (n : ℕ) → n ≤ cookie_of e n
cookie_rises (Grant q l s sn) n = omega arith
cookie_rises (Wait q l) n = omega arith
cookie_rises _ n = omega arith

pub object_more : (t : ℕ) (past : List Line) (l : Line) (k o : ℕ) → LineOk past l → (object_of t k past ≡ Some o → k ≤ top t past)
    → object_of t k past ≡ Some o → object_of t k (l ∷ past) ≡ Some o
object_more t past (Serve u q g r x) k o ok low e = by (nat_eq t u && gave x k) refl
  where
    by : (b : Bool) → (nat_eq t u && gave x k) ≡ b → (if b then Some q else object_of t k past) ≡ Some o
    by false f = e
    by true f =
        let p = and_parts (nat_eq t u) (gave x k) f in
        let a = subst (λ (v : ℕ). top v past < k) (sym (eqb-true t u p.0)) (gave_new past u q r x k ok.1 p.1) in
        let z = low e in
        absurd (omega arith)
object_more t past (Knows u d b) k o ok low e = e
object_more t past (Serves u d b) k o ok low e = e
object_more t past (Flies u q g r) k o ok low e = e
object_more t past (Lives u q d x) k o ok low e = e
object_more t past (Tells d does) k o ok low e = e
object_more t past (Over d) k o ok low e = e
object_more t past (Joins u d) k o ok low e = e
object_more t past (Works u q x) k o ok low e = e
object_more t past (Queue u q g r) k o ok low e = e
object_more t past (Evict u d) k o ok low e = e
object_more t past (Commit u n) k o ok low e = e
object_more t past (Crash u) k o ok low e = e
object_more t past (Boot u b) k o ok low e = e
object_more t past (Close u lost gone) k o ok low e = e
object_more t past (Send u m) k o ok low e = e

serve_line : (t u q g : ℕ) (r : Request) (x : Entry) (past : List Line) → Base t past → Base t (Serve u q g r x ∷ past)
serve_line t u q g r x past w = record {
  one = w.one;
  order = w.order;
  now = w.now;
  low = w.low;
  joins = w.joins;
  known = w.known;
  served = w.served;
  readies = w.readies;
  replies = w.replies;
  gives = w.gives;
  place_low = w.place_low;
  cookie_low = λ k o. by k o (nat_eq t u) (gave x k) refl;
  placed = w.placed;
  flown = w.flown;
}
  where
    by : (k o : ℕ) (a b : Bool) → gave x k ≡ b → (if a && b then Some q else object_of t k past) ≡ Some o
        → k ≤ (if a then cookie_of x (top t past) else top t past)
    by k o true true f i = gave_low x k (top t past) f
    by k o true false f i = let y = w.cookie_low k o i in let z = cookie_rises x (top t past) in omega arith
    by k o false b f i = w.cookie_low k o i

pub or_false : (a b : Bool) → (a || b) ≡ false → b ≡ false
or_false true b e = absurd (cc)
or_false false b e = e

evict_line : (t u d : ℕ) (past : List Line) → Base t past → Base t (Evict u d ∷ past)
evict_line t u d past w = record {
  one = w.one;
  order = w.order;
  now = w.now;
  low = w.low;
  joins = w.joins;
  known = λ c j v. w.known c j (or_false (nat_eq t u && nat_eq c d) (evicted t c past) v);
  served = λ c s. let p = w.served c s in (p.0, λ v. p.1 (or_false (nat_eq t u && nat_eq c d) (evicted t c past) v));
  readies = w.readies;
  replies = w.replies;
  gives = w.gives;
  place_low = w.place_low;
  cookie_low = w.cookie_low;
  placed = w.placed;
  flown = w.flown;
}

crash_line : (t u : ℕ) (past : List Line) → Base t past → Base t (Crash u ∷ past)
crash_line t u past w = record {
  one = w.one;
  order = w.order;
  now = by (nat_eq t u);
  low = w.low;
  joins = w.joins;
  known = w.known;
  served = w.served;
  readies = w.readies;
  replies = w.replies;
  gives = w.gives;
  place_low = w.place_low;
  cookie_low = w.cookie_low;
  placed = w.placed;
  flown = w.flown;
}
  where
    by : (v : Bool) → (if v then false else serving t past) ≡ true → boot t past ≡ closed t past
    by true e = absurd (cc)
    by false e = w.now e

boot_line : (t u b : ℕ) (past : List Line) → LineOk past (Boot u b) → Base t past → Base t (Boot u b ∷ past)
boot_line t u b past ok w = record {
  one = w.one;
  order = when (λ n. closed t past ≤ n) (nat_eq t u) b (boot t past) (λ e. let k = mine e in let x = k.1 in let y = w.order in omega arith)
      (λ e. w.order);
  now = λ s. when (λ n. n ≡ closed t past) (nat_eq t u) b (boot t past) (λ e. absurd (both_ways (serving t past) (mine e).0 s))
      (λ e. w.now s);
  low = w.low;
  joins = w.joins;
  known = w.known;
  served = w.served;
  readies = w.readies;
  replies = w.replies;
  gives = w.gives;
  place_low = w.place_low;
  cookie_low = w.cookie_low;
  placed = w.placed;
  flown = w.flown;
}
  where
    mine : nat_eq t u ≡ true → (serving t past ≡ false) × (boot t past < b)
    mine e = subst (λ (v : ℕ). (serving v past ≡ false) × (boot v past < b)) (sym (eqb-true t u e)) ok

close_line : (t u : ℕ) (lost gone : ℕ → Bool) (past : List Line) → LineOk past (Close u lost gone) → Base t past
    → Base t (Close u lost gone ∷ past)
close_line t u lost gone past ok w = record {
  one = rises 1 w.one;
  order = when (λ n. n ≤ boot t past) (nat_eq t u) (boot t past) (closed t past) (λ e. omega arith) (λ e. w.order);
  now = by_now (nat_eq t u);
  low = w.low;
  joins = w.joins;
  known = λ c j v. by_known c j (nat_eq t u) refl v;
  served = λ c s. (let p = w.served c s in (p.0, λ v. by_served c p.0 p.1 (nat_eq t u) refl v));
  readies = λ b c i. let p = w.readies b c i in (rises b p.0, p.1);
  replies = λ b c x a i. let p = w.replies b c x a i in (rises b p.0, p.1);
  gives = λ b l s sn i. let p = w.gives b l s sn i in (rises b p.0, p.1);
  place_low = w.place_low;
  cookie_low = w.cookie_low;
  placed = w.placed;
  flown = w.flown;
}
  where
    rises : (b : ℕ) → b ≤ closed t past → b ≤ (if nat_eq t u then boot t past else closed t past)
    rises b low = when (λ n. b ≤ n) (nat_eq t u) (boot t past) (closed t past) (λ e. let o = w.order in omega arith) (λ e. low)

    by_now : (v : Bool) → (if v then true else serving t past) ≡ true → boot t past ≡ (if v then boot t past else closed t past)
    by_now true e = refl
    by_now false e = w.now e

    mine : nat_eq t u ≡ true → (c : ℕ) → joined t c past ≡ true → (gone c || evicted t c past) ≡ false → knows t c past ≡ boot t past
    mine e = subst (λ (v : ℕ). (c : ℕ) → joined v c past ≡ true → (gone c || evicted v c past) ≡ false → knows v c past ≡ boot v past)
        (sym (eqb-true t u e)) ok.known

    by_known : (c : ℕ) → joined t c past ≡ true → (v : Bool) → nat_eq t u ≡ v → ((v && gone c) || evicted t c past) ≡ false
        → (if v then boot t past else closed t past) ≤ knows t c past
    by_known c j true e v = let k = mine e c j v in omega arith
    by_known c j false e v = w.known c j v

    by_served : (c : ℕ) → joined t c past ≡ true → (evicted t c past ≡ false → knows t c past ≡ closed t past) → (v : Bool) → nat_eq t u ≡ v
        → ((v && gone c) || evicted t c past) ≡ false → knows t c past ≡ (if v then boot t past else closed t past)
    by_served c j old true e v = mine e c j v
    by_served c j old false e v = old v

send_line : (t u : ℕ) (m : Message) (past : List Line) → LineOk past (Send u m) → Base t past → Base t (Send u m ∷ past)
send_line t u m past ok w = record {
  one = w.one;
  order = w.order;
  now = w.now;
  low = w.low;
  joins = λ b c i. ⊎_elim (λ (p : (t ≡ u) × (m ≡ Join b c)). let k = mine p.0 (Join b c) p.1 in omega arith) (w.joins b c) i;
  known = w.known;
  served = w.served;
  readies = λ b c i. ⊎_elim (λ (p : (t ≡ u) × (m ≡ Ready b c)). let k = mine p.0 (Ready b c) p.1 in (up b k.0 k.1, k.2)) (w.readies b c) i;
  replies = λ b c x a i. ⊎_elim (λ (p : (t ≡ u) × (m ≡ Reply b c x a)). let k = mine p.0 (Reply b c x a) p.1 in (up b k.0 k.1, k.2))
      (w.replies b c x a) i;
  gives = λ b l s sn i. ⊎_elim (λ (p : (t ≡ u) × (m ≡ Give b l s sn)). let k = mine p.0 (Give b l s sn) p.1 in (up b k.0 k.1, k.2))
      (w.gives b l s sn) i;
  place_low = w.place_low;
  cookie_low = w.cookie_low;
  placed = λ b g o r i. ⊎_elim (λ (p : (t ≡ u) × (m ≡ Ask b g o r)). let k = mine p.0 (Ask b g o r) p.1
      in (w.flown r.life (record { object = o; tag = g; request = r }) k.3).0) (w.placed b g o r) i;
  flown = w.flown;
}
  where
    mine : t ≡ u → (k : Message) → m ≡ k → SentOk past t k
    mine e k f = subst (λ (y : ℕ × Message). SentOk past y.0 y.1) (λ i. (sym e i, f i)) ok

    up : (b : ℕ) → serving t past ≡ true → b ≡ boot t past → b ≤ closed t past
    up b s e = let n = w.now s in omega arith

pub base_line : (t : ℕ) (past : List Line) (l : Line) → LineOk past l → Base t past → Base t (l ∷ past)
base_line t past (Knows u d b) ok w = knows_line t u d b past ok w
base_line t past (Serves u d b) ok w = serves_line t u d b past ok w
base_line t past (Flies u o g r) ok w = flies_line t u o g r past ok w
base_line t past (Lives u o d k) ok w = lives_line t u o d k past w
base_line t past (Tells d does) ok w = w
base_line t past (Over d) ok w = w
base_line t past (Joins u d) ok w = joins_line t u d past ok w
base_line t past (Serve u o g r k) ok w = serve_line t u o g r k past w
base_line t past (Works u o k) ok w = w
base_line t past (Queue u o g r) ok w = w
base_line t past (Evict u d) ok w = evict_line t u d past w
base_line t past (Commit u n) ok w = w
base_line t past (Crash u) ok w = crash_line t u past w
base_line t past (Boot u b) ok w = boot_line t u b past ok w
base_line t past (Close u lost gone) ok w = close_line t u lost gone past ok w
base_line t past (Send u m) ok w = send_line t u m past ok w

pub no_base : (t : ℕ) → Base t []
no_base t = record {
  one = omega arith;
  order = omega arith;
  now = λ s. refl;
  low = λ c. omega arith;
  joins = λ b c i. absurd i;
  known = λ c j v. absurd (cc);
  served = λ c s. absurd (cc);
  readies = λ b c i. absurd i;
  replies = λ b c x a i. absurd i;
  gives = λ b l s sn i. absurd i;
  place_low = λ c x v e. absurd (cc);
  cookie_low = λ k o e. absurd (cc);
  placed = λ b g o r i. absurd i;
  flown = λ c f i. absurd i;
}
