-- What the laws call in flight is what the rows call so: at most eight requests, each with its own tag, and at an object storage target
-- each on
-- an object of its own.
use Rattle.std.proofs.Common.{◌≡◌, ℕ, ◌+◌, ◌<◌, ◌≤◌, Bool, true, false, List, [], ◌∷◌, ◌++◌, Option, Some, None, ◌⊎◌, inl, inr, ⊎_elim}
use Rattle.std.proofs.Common.{refl, sym, subst, ap, ◌∙◌, arith}
use Rattle.std.specs.Prelude.{nat_eq, nat_lt, not, ◌&&◌, ◌||◌, if◌then◌else◌, length, filter}
use Rattle.std.specs.List.{list_any}
use Rattle.std.proofs.lemmas.Bool.{and_parts, cond_both, eqb-true, lt-ltb, not-true}
use Rattle.std.proofs.lemmas.Bool.Decides.{nat_tests}
use Rattle.std.proofs.Math.Bool.{and-false, and-true}
use Rattle.lu_base.specs.declared.ids.Stamp.{Stamp}
use Rattle.lu_base.specs.declared.ids.Node.{Node}
use Rattle.lu_base.specs.declared.ids.Node.TheVariants.{Client, Target}
use Rattle.lu_base.specs.declared.ids.Who.{Who}
use Rattle.lu_base.specs.declared.locks.Resource.{Resource}
use Rattle.lu_msg.specs.declared.messages.Message.TheVariants as message
use Rattle.lu_msg.specs.declared.messages.Reply.{Reply as ReplyTo}
use Rattle.lu_msg.specs.declared.messages.Request.{Request as RequestOf}
use Rattle.lu_msg.specs.declared.operations.Op.{Op}
use Rattle.lu_msg.specs.declared.operations.Op.TheVariants as op
use Rattle.lu_spec_entries.specs.Carried.{Flight}
use Rattle.lu_spec_entries.specs.Words.{Entry, Flies, Send, Heard, Line, line}
use Rattle.lu_spec_entries.specs.Concerns.{concerns, only}
use Rattle.lu_spec_entries.specs.Printed.{printed}
use Rattle.lu_spec_client.specs.Sending.{object_of, front_waits}
use Rattle.lu_spec_client.specs.Sending.{same_object as rows_same}
use Rattle.lu_proof_lawful.specs.Covered.Imports.{without_flight}
use Rattle.lu_proof_lawful.specs.Covered.ClientStates.{flights_of, life_of, is_own}
use Rattle.lu_proof_lawful.specs.Covered.Heads.{Head}
use Rattle.lu_spec_laws.specs.Words.Pasts as pasts
use Rattle.lu_spec_laws.specs.Words.Lives.{is_by}
use Rattle.lu_spec_laws.specs.Words.Requests.{is_of, has_number, without_number, has_heard, in_flight, object, same_resource}
use Rattle.lu_proof_lawful.proofs.Preconditions.Guards.{In}
use Rattle.lu_proof_lawful.proofs.Preconditions.StoryGuards.{FliesOk, AskOk}
use Rattle.lu_proof_lawful.proofs.Preconditions.Grown.{Allowed, Grown}
use Rattle.lu_proof_lawful.proofs.Preconditions.Lists.{self, in_append, in_left, in_filter, life_is, own_is, in_filtered}
use Rattle.lu_proof_lawful.proofs.Invariants.Groups.{turn}
use Rattle.lu_proof_lawful.proofs.Invariants.TargetGroups.{life_request}
use Rattle.lu_proof_lawful.proofs.Laws.Printed.{flip, own_by, own_story}

-- the requests in flight by the laws, of a life at a target
abbrev pub flying : ℕ → Who → List Line → List RequestOf
flying t who past = in_flight t who (printed past)

-- a request in flight by the laws is one by the rows
abbrev pub Flown : ℕ → List Line → Who → RequestOf → Type 0
Flown t past who r = (f : Flight) × In f (flights_of who (only t past)) × (r ≡ life_request who r.boot f)

abbrev pub Distinct : List RequestOf → Type 0
Distinct [] = Unit {0}
Distinct (r ∷ rs) = ((q : RequestOf) → In q rs → q.xid.0 ≡ r.xid.0 → ⊥) × Distinct rs

abbrev pub Flyers : ℕ → List Line → Type 0
Flyers t past = (who : Who) → ((r : RequestOf) → In r (flying t who past) → Flown t past who r) × Distinct (flying t who past)

has_in : (x : ℕ) (rs : List RequestOf) (q : RequestOf) → In q rs → q.xid.0 ≡ x → has_number x rs ≡ false → ⊥
has_in x [] q i e n = absurd i
has_in x (r ∷ rs) q (inl p) e n = let y : r.xid.0 ≡ q.xid.0 = ap (λ (v : RequestOf). v.xid.0) p in grind (arith, nat_tests)
has_in x (r ∷ rs) q (inr i) e n = has_in x rs q i e (grind (arith, nat_tests))

distinct_filter : (g : RequestOf → Bool) (rs : List RequestOf) → Distinct rs → Distinct (filter g rs)
distinct_filter g [] d = tt
distinct_filter g (r ∷ rs) d =
    cond_both (g r) (r ∷ filter g rs) (filter g rs) Distinct
    (λ t. (λ q i. d.0 q (in_filter g q rs i).0, distinct_filter g rs d.1))
    (λ t. distinct_filter g rs d.1)

-- what a client sends is of its present life, and in flight by the rows
pub ask_flown : (t : ℕ) (past : List Line) (c : ℕ) (r : RequestOf) → AskOk (only t past) c r → Flown t past (life_of c (only t past)) r
ask_flown t past c r ok = (
  ok.flight,
  ok.flying,
  ok.is ∙ ap (λ (b : ℕ). life_request (life_of c (only t past)) b ok.flight)
      (ap (λ (v : RequestOf). v.boot) (sym ok.is)),
)

-- it stays in flight over a line that leaves the rows' requests, whether or not that line concerns the target
flown_on : (t : ℕ) (l : Line) (past : List Line) (who : Who) (r : RequestOf) → flights_of who (l ∷ only t past)
    ≡ flights_of who (only t past) → Flown t past who r → Flown t (l ∷ past) who r
flown_on t l past who r same k = (
  k.0,
  cond_both (concerns t l.at.node l.entry) (l ∷ only t past) (only t past) (λ (p : List Line). In k.0 (flights_of who p))
      (λ o. subst (λ (fs : List Flight). In k.0 fs) (sym same) k.1) (λ o. k.1),
  k.2,
)

-- one more
flyers_asks : (t : ℕ) (past : List Line) (stamp : Stamp) (d u : ℕ) (r : RequestOf) (mine : Who) → (t ≡ u → Flown t past mine r)
    → Flyers t past → Flyers t (line (turn stamp (Client d)) (Send (Target u) (message.Request r)) ∷ past)
flyers_asks t past stamp d u r mine ok h who = (
  λ q i. flown_on t (line (turn stamp (Client d)) (Send (Target u) (message.Request r))) past who q refl
      (cond_both (is_of t who (Target u) r && not (has_number r.xid.0 (flying t who past)) && not (has_heard t who r.xid.0 (printed past)))
      (r ∷ flying t who past) (flying t who past)
      (λ (rs : List RequestOf). In q rs → Flown t past who q)
      (λ v i. ⊎_elim
      (λ (e : r ≡ q). subst (Flown t past who) e (own v))
      (λ (j : In q (flying t who past)). (h who).0 q j)
      i)
      (λ v i. (h who).0 q i)
      i),
  cond_both (is_of t who (Target u) r && not (has_number r.xid.0 (flying t who past)) && not (has_heard t who r.xid.0 (printed past)))
      (r ∷ flying t who past) (flying t who past) Distinct
      (λ v. (λ q i e. has_in r.xid.0 (flying t who past) q i e (fresh v), (h who).1))
      (λ v. (h who).1),
)
  where
    fresh : is_of t who (Target u) r && not (has_number r.xid.0 (flying t who past)) && not (has_heard t who r.xid.0 (printed past)) ≡ true
        → has_number r.xid.0 (flying t who past) ≡ false
    fresh v =
        let a = and_parts (is_of t who (Target u) r && not (has_number r.xid.0 (flying t who past))) _ v in
        let b = and_parts (is_of t who (Target u) r) _ a.0 in
        not-true (has_number r.xid.0 (flying t who past)) b.1

    own : is_of t who (Target u) r && not (has_number r.xid.0 (flying t who past)) && not (has_heard t who r.xid.0 (printed past)) ≡ true
        → Flown t past who r
    own v =
        let a = and_parts (is_of t who (Target u) r && not (has_number r.xid.0 (flying t who past))) _ v in
        let b = and_parts (is_of t who (Target u) r) _ a.0 in
        let e = and_parts (pasts.is_target t (Target u)) _ b.0 in
        let w = life_is r.who who e.1 in
        let flown = ok (sym (eqb-true u t e.0)) in
        subst (λ (x : Who). Flown t past x r) (sym (ap (λ (x : RequestOf). x.who) flown.2) ∙ w) flown

-- one more in the rows
flyers_flies : (t : ℕ) (past : List Line) (stamp : Stamp) (d u : ℕ) (f : Flight) → Flyers t past
    → Flyers t (line (turn stamp (Client d)) (Flies u f) ∷ past)
flyers_flies t past stamp d u f h who = (
  λ r i.
      let k = (h who).0 r i in (
        k.0,
        cond_both (nat_eq t u) (line (turn stamp (Client d)) (Flies u f) ∷ only t past) (only t past)
            (λ (p : List Line). In k.0 (flights_of who p))
            (λ o. cond_both (is_own who (only t past) (Client d)) (flights_of who (only t past) ++ f ∷ []) (flights_of who (only t past))
            (λ (fs : List Flight). In k.0 fs)
            (λ v. in_left k.0 (flights_of who (only t past)) (f ∷ []) k.1) (λ v. k.1))
            (λ o. k.1),
        k.2,
      ),
  (h who).1,
)

-- one less in both
flyers_heard : (head : Head) (t : ℕ) (past : List Line) (stamp : Stamp) (d u : ℕ) (f : Flight) (r : ReplyTo) → Grown head past
    → (t ≡ u → f.xid ≡ r.xid.0) → Flyers t past
    → Flyers t (line (turn stamp (Client d)) (Heard u f r) ∷ past)
flyers_heard head t past stamp d u f r g x h who = subst (λ (a : Bool). Stay a (nat_eq t u)) (flip t u) (of (nat_eq t u) refl)
  where
    P : List Line
    P = only t past

    new : Line
    new = line (turn stamp (Client d)) (Heard u f r)

    Stay : (a b : Bool) → Type 0
    Stay a b =
        ((q : RequestOf) → In q (if is_by who (printed past) (Client d) && a then without_number r.xid.0 (flying t who past)
        else flying t who past)
        → (k : Flight) × In k (flights_of who (if b then new ∷ P else P)) × (q ≡ life_request who q.boot k))
        × Distinct (if is_by who (printed past) (Client d) && a then without_number r.xid.0 (flying t who past) else flying t who past)

    test : (is_by who (printed past) (Client d) && true) ≡ is_own who P (Client d)
    test = and-true (is_by who (printed past) (Client d)) ∙ own_by head who past (Client d) g ∙ own_story t who past (Client d)

    by : f.xid ≡ r.xid.0 → (q : RequestOf) (v : Bool) → is_own who P (Client d) ≡ v
        → In q (if v then without_number r.xid.0 (flying t who past) else flying t who past)
        → (k : Flight) × In k (if v then without_flight f.xid (flights_of who P) else flights_of who P) × (q ≡ life_request who q.boot k)
    by same q true v i =
        let j = in_filter (λ (v : RequestOf). not (nat_eq v.xid.0 r.xid.0)) q (flying t who past) i in
        let k = (h who).0 q j.0 in
        let w : q.xid.0 ≡ k.0.xid = ap (λ (v : RequestOf). v.xid.0) k.2 in
        let n = not-true (nat_eq q.xid.0 r.xid.0) j.1 in
        (k.0, in_filtered (λ (v : Flight). not (nat_eq v.xid f.xid)) k.0 (flights_of who P) k.1 (rw (sym w, same, n) refl), k.2)
    by same q false v i = (h who).0 q i

    of : (b : Bool) → nat_eq t u ≡ b → Stay b b
    of true e =
        let same = x (eqb-true t u e) in (
          λ q. rw test (by same q (is_own who P (Client d)) refl),
          rw test (cond_both (is_own who P (Client d)) (without_number r.xid.0 (flying t who past)) (flying t who past) Distinct
              (λ v. distinct_filter (λ (k : RequestOf). not (nat_eq k.xid.0 r.xid.0)) (flying t who past) (h who).1) (λ v. (h who).1)),
        )
    of false e = rw (and-false (is_by who (printed past) (Client d))) ((h who).0, (h who).1)

-- a line that leaves both
flyers_on : (t : ℕ) (l : Line) (past : List Line) → ((who : Who) → flights_of who (l ∷ only t past) ≡ flights_of who (only t past))
    → ((who : Who) → flying t who (l ∷ past) ≡ flying t who past) → Flyers t past
    → Flyers t (l ∷ past)
flyers_on t l past rows laws h who = (
  λ r i. flown_on t l past who r (rows who) ((h who).0 r (subst (λ (rs : List RequestOf). In r rs) (laws who) i)),
  subst Distinct (sym (laws who)) (h who).1,
)

pub keeps_flyers : (head : Head) (t : ℕ) (past : List Line) (stamp : Stamp) (node : Node) (e : Entry)
    → Allowed head past (turn stamp node) e → Grown head past → Flyers t past → Flyers t (line (turn stamp node) e ∷ past)
keeps_flyers head t past stamp (Client c) (Send (Target u) (message.Request r)) k g h =
    flyers_asks t past stamp c u r (life_of c (only t past)) (λ e. ask_flown t past c r
    (k.of t (subst (λ (v : ℕ). nat_eq t v ≡ true) e (self t)))) h
keeps_flyers head t past stamp (Client c) (Send (Target u) (message.Cancel other boot cookie)) k g h =
    flyers_on t (line (turn stamp (Client c)) (Send (Target u) (message.Cancel other boot cookie))) past
    (λ who. refl) (λ who. refl) h
keeps_flyers head t past stamp (Client c) (Send (Target u) (message.Where other boot cookie)) k g h =
    flyers_on t (line (turn stamp (Client c)) (Send (Target u) (message.Where other boot cookie))) past
    (λ who. refl) (λ who. refl) h
keeps_flyers head t past stamp (Client c) (Send (Target u) (message.Size m)) k g h =
    flyers_on t (line (turn stamp (Client c)) (Send (Target u) (message.Size m))) past (λ who. refl) (λ who. refl) h
keeps_flyers head t past stamp (Client c) (Send (Target u) (message.Join other boot)) k g h =
    flyers_on t (line (turn stamp (Client c)) (Send (Target u) (message.Join other boot))) past (λ who. refl) (λ who. refl) h
keeps_flyers head t past stamp (Client c) (Send (Target u) (message.Replay r)) k g h =
    flyers_on t (line (turn stamp (Client c)) (Send (Target u) (message.Replay r))) past (λ who. refl) (λ who. refl) h
keeps_flyers head t past stamp (Client c) (Send (Target u) (message.Lock r)) k g h =
    flyers_on t (line (turn stamp (Client c)) (Send (Target u) (message.Lock r))) past (λ who. refl) (λ who. refl) h
keeps_flyers head t past stamp (Client c) (Send (Target u) (message.Word other boot replays locks seen)) k g h = flyers_on t
    (line (turn stamp (Client c)) (Send (Target u) (message.Word other boot replays locks seen))) past (λ who. refl) (λ who. refl) h
keeps_flyers head t past stamp (Client c) (Send (Client d) m) k g h = absurd k.ok
keeps_flyers head t past stamp (Client c) (Send (Target u) m) k g h = absurd k.ok
keeps_flyers head t past stamp (Target u) (Send (Client c) (message.Reply r)) k g h =
    flyers_on t (line (turn stamp (Target u)) (Send (Client c) (message.Reply r))) past (λ who. refl) (λ who. refl) h
keeps_flyers head t past stamp (Target u) (Send (Client c) (message.Block other boot cookie)) k g h =
    flyers_on t (line (turn stamp (Target u)) (Send (Client c) (message.Block other boot cookie))) past
    (λ who. refl) (λ who. refl) h
keeps_flyers head t past stamp (Target u) (Send (Client c) (message.Grant n)) k g h =
    flyers_on t (line (turn stamp (Target u)) (Send (Client c) (message.Grant n))) past (λ who. refl) (λ who. refl) h
keeps_flyers head t past stamp (Target u) (Send (Client c) (message.Ask other boot cookie for_who xid)) k g h = flyers_on t
    (line (turn stamp (Target u)) (Send (Client c) (message.Ask other boot cookie for_who xid))) past (λ who. refl) (λ who. refl) h
keeps_flyers head t past stamp (Target u) (Send (Client c) (message.Ready other boot committed)) k g h =
    flyers_on t (line (turn stamp (Target u)) (Send (Client c) (message.Ready other boot committed)))
    past (λ who. refl) (λ who. refl) h
keeps_flyers head t past stamp (Target u) (Send (Client c) (message.Evicted other boot)) k g h =
    flyers_on t (line (turn stamp (Target u)) (Send (Client c) (message.Evicted other boot))) past (λ who. refl) (λ who. refl) h
keeps_flyers head t past stamp (Target u) (Send (Client c) (message.Up boot)) k g h =
    flyers_on t (line (turn stamp (Target u)) (Send (Client c) (message.Up boot))) past (λ who. refl) (λ who. refl) h
keeps_flyers head t past stamp (Target u) (Send (Client c) m) k g h = absurd k.ok
keeps_flyers head t past stamp (Target u) (Send (Target v) m) k g h = absurd k.ok
keeps_flyers head t past stamp (Client c) (Flies u f) k g h = flyers_flies t past stamp c u f h
keeps_flyers head t past stamp (Client c) (Heard u f r) k g h =
    flyers_heard head t past stamp c u f r g (λ e. (k.of t (subst (λ (v : ℕ). nat_eq t v ≡ true) e (self t))).xid) h
keeps_flyers head t past stamp (Target u) (Flies v f) k g h = absurd k.ok
keeps_flyers head t past stamp (Target u) (Heard v f r) k g h = absurd k.ok
keeps_flyers head t past stamp node e k g h = flyers_on t (line (turn stamp node) e) past (λ who. refl) (λ who. refl) h

pub flyers : (head : Head) (t : ℕ) (past : List Line) → Grown head past → Flyers t past
flyers head t [] g = λ who. (λ r i. absurd i, tt)
flyers head t (l ∷ past) g = keeps_flyers head t past l.at.stamp l.at.node l.entry g.0 g.1 (flyers head t past g.1)

-- ---- at an object storage target each is on an object of its own

-- both name the object of an operation alike
object_same : (o : Op) → object_of o ≡ object o
object_same (op.Enqueue resource mode extent) = refl
object_same (op.Get resource cookie page) = refl
object_same (op.Put resource cookie offset bytes) = refl
object_same (op.Cut resource cookie size) = refl
object_same (op.Size resource) = refl
object_same o = refl

resource_same : (a b : Option Resource) → rows_same a b ≡ same_resource a b
resource_same (Some a) (Some b) = refl
resource_same (Some a) None = refl
resource_same None b = refl

flip_resource : (a b : Option Resource) → same_resource a b ≡ same_resource b a
flip_resource (Some a) (Some b) = rw (flip a.fid.0 b.fid.0, flip a.stripe b.stripe) refl
flip_resource (Some a) None = refl
flip_resource None (Some b) = refl
flip_resource None None = refl

abbrev pub ObjectsApart : List Flight → Type 0
ObjectsApart fs = (f g : Flight) → In f fs → In g fs → (f.xid ≡ g.xid → ⊥) → same_resource (object f.op) (object g.op) ≡ false

-- none of these is on the object of a new one
none_on : (o : Op) (fs : List Flight) (f : Flight) → list_any (λ (g : Flight). rows_same (object_of g.op) (object_of o)) fs ≡ false
    → In f fs → same_resource (object f.op) (object o) ≡ false
none_on o [] f e i = absurd i
none_on o (g ∷ fs) f e (inl p) = by (rows_same (object_of g.op) (object_of o)) refl e
  where
    by : (b : Bool) → rows_same (object_of g.op) (object_of o) ≡ b
        → (b || list_any (λ (g : Flight). rows_same (object_of g.op) (object_of o)) fs) ≡ false → same_resource (object f.op) (object o)
        ≡ false
    by true q e = absurd (cc)
    by false q e = ap (λ (v : Flight). same_resource (object v.op) (object o)) (sym p) ∙ sym (resource_same (object g.op) (object o))
        ∙ sym (ap (λ (v : Option Resource). rows_same v (object o)) (object_same g.op))
        ∙ sym (ap (λ (v : Option Resource). rows_same (object_of g.op) v) (object_same o)) ∙ q
none_on o (g ∷ fs) f e (inr i) = none_on o fs f (by (rows_same (object_of g.op) (object_of o)) e) i
  where
    by : (b : Bool) → (b || list_any (λ (g : Flight). rows_same (object_of g.op) (object_of o)) fs) ≡ false
        → list_any (λ (g : Flight). rows_same (object_of g.op) (object_of o)) fs ≡ false
    by true e = absurd (cc)
    by false e = e

apart_more : (fs : List Flight) (x : Flight) → ((f : Flight) → In f fs → same_resource (object f.op) (object x.op) ≡ false)
    → ObjectsApart fs → ObjectsApart (fs ++ x ∷ [])
apart_more fs x new h f g i j differ = by (in_append f fs (x ∷ []) i) (in_append g fs (x ∷ []) j)
  where
    by : In f fs ⊎ In f (x ∷ []) → In g fs ⊎ In g (x ∷ []) → same_resource (object f.op) (object g.op) ≡ false
    by (inl a) (inl b) = h f g a b differ
    by (inl a) (inr (inl b)) = ap (λ (v : Flight). same_resource (object f.op) (object v.op)) (sym b) ∙ new f a
    by (inr (inl a)) (inl b) = ap (λ (v : Flight). same_resource (object v.op) (object g.op)) (sym a)
        ∙ flip_resource (object x.op) (object g.op) ∙ new g b
    by (inr (inl a)) (inr (inl b)) = absurd (differ (ap (λ (v : Flight). v.xid) (sym a ∙ b)))
    by (inl a) (inr (inr b)) = absurd b
    by (inr (inr a)) b = absurd a
    by (inr (inl a)) (inr (inr b)) = absurd b

-- so it is at each of them
pub objects_apart : (head : Head) (t : ℕ) (past : List Line) (who : Who) → 0 < t → Grown head past
    → ObjectsApart (flights_of who (only t past))
objects_apart head t [] who high g = λ f k i. absurd i
objects_apart head t (l ∷ past) who high g = by l.at.node l.entry g.0 (objects_apart head t past who high g.1)
  where
    P : List Line
    P = only t past

    F : List Flight
    F = flights_of who P

    either : (node : Node) (e : Entry) → (concerns t node e ≡ true → ObjectsApart F
        → ObjectsApart (flights_of who (line (turn l.at.stamp node) e ∷ P))) → ObjectsApart F
        → ObjectsApart (flights_of who (only t (line (turn l.at.stamp node) e ∷ past)))
    either node e step h = cond_both (concerns t node e) (line (turn l.at.stamp node) e ∷ P) P
        (λ (p : List Line). ObjectsApart (flights_of who p)) (λ o. step o h) (λ o. h)

    fewer : (x : ℕ) → ObjectsApart F → ObjectsApart (without_flight x F)
    fewer x h f k i j differ = h f k (in_filter (λ (v : Flight). not (nat_eq v.xid x)) f F i).0
        (in_filter (λ (v : Flight). not (nat_eq v.xid x)) k F j).0 differ

    -- one that begins to fly
    new : (d u : ℕ) (x : Flight) → FliesOk head P d u x → t ≡ u → who ≡ life_of d P → ObjectsApart F → ObjectsApart (F ++ x ∷ [])
    new d u x ok here mine h = apart_more F x (λ f i. ap (λ (o : Op). same_resource (object f.op) (object o))
        (ap (λ (v : Flight). v.op) ok.is)
        ∙ none_on ok.front.op F f (free (nat_lt 0 u) (lt-ltb 0 u (subst (λ (v : ℕ). 0 < v) here high)) unmet) i) h
      where
        unmet : (nat_lt 0 u && list_any (λ (g : Flight). rows_same (object_of g.op) (object_of ok.front.op)) F) ≡ false
        unmet = ap (λ (w : Who). front_waits u ok.front.op (flights_of w P)) mine ∙ ok.object

        free : (b : Bool) → b ≡ true → (b && list_any (λ (g : Flight). rows_same (object_of g.op) (object_of ok.front.op)) F) ≡ false
            → list_any (λ (g : Flight). rows_same (object_of g.op) (object_of ok.front.op)) F ≡ false
        free true e q = q
        free false e q = absurd (cc)

    by : (node : Node) (e : Entry) → Allowed head past (turn l.at.stamp node) e → ObjectsApart F
        → ObjectsApart (flights_of who (only t (line (turn l.at.stamp node) e ∷ past)))
    by (Client d) (Flies u x) k h = either (Client d) (Flies u x)
        (λ o h. cond_both (is_own who P (Client d)) (F ++ x ∷ []) F ObjectsApart
        (λ own. new d u x (k.of t o) (eqb-true t u o) (own_is who P d own) h) (λ own. h)) h
    by (Client d) (Heard u x r) k h = either (Client d) (Heard u x r)
        (λ o h. cond_both (is_own who P (Client d)) (without_flight x.xid F) F ObjectsApart (λ own. fewer x.xid h) (λ own. h)) h
    by (Target u) (Flies v x) k h = absurd k.ok
    by (Target u) (Heard v x r) k h = absurd k.ok
    by node e k h = either node e (λ o h. h) h

-- ---- no more than the rows have

shorter : (x : ℕ) (fs : List Flight) → length (without_flight x fs) ≤ length fs
shorter x [] = omega arith
shorter x (g ∷ fs) = let h = shorter x fs in cond_both (not (nat_eq g.xid x)) (g ∷ without_flight x fs) (without_flight x fs)
    (λ (v : List Flight). length v ≤ length (g ∷ fs)) (λ t. omega arith) (λ t. omega arith)

length_out : (x : ℕ) (fs : List Flight) (f : Flight) → In f fs → f.xid ≡ x → length (without_flight x fs) + 1 ≤ length fs
length_out x [] f i e = absurd i
length_out x (g ∷ fs) f i e =
    cond_both (not (nat_eq g.xid x)) (g ∷ without_flight x fs) (without_flight x fs) (λ (v : List Flight). length v + 1 ≤ length (g ∷ fs))
    (λ t. ⊎_elim
    (λ (q : g ≡ f). let n = not-true (nat_eq g.xid x) t in let y : g.xid ≡ f.xid = ap (λ (v : Flight). v.xid) q
    in absurd (grind (arith, nat_tests)))
    (λ (j : In f fs). let h = length_out x fs f j e in omega arith)
    i)
    (λ t. let l = shorter x fs in omega arith)

-- requests of different numbers, each among those, are no more
pub no_more : (rs : List RequestOf) (fs : List Flight) → Distinct rs
    → ((r : RequestOf) → In r rs → (f : Flight) × In f fs × (f.xid ≡ r.xid.0)) → length rs ≤ length fs
no_more [] fs d h = omega arith
no_more (r ∷ rs) fs d h =
    let k = h r (inl refl) in
    let l = length_out r.xid.0 fs k.0 k.1 k.2 in
    let m = no_more rs (without_flight r.xid.0 fs) d.1
    (λ q i. let j = h q (inr i) in let n : nat_eq j.0.xid r.xid.0 ≡ false = off j.0 q i j.2
    in (j.0, in_filtered (λ (v : Flight). not (nat_eq v.xid r.xid.0)) j.0 fs j.1 (rw n refl), j.2)) in
    omega arith
  where
    off : (f : Flight) (q : RequestOf) → In q rs → f.xid ≡ q.xid.0 → nat_eq f.xid r.xid.0 ≡ false
    off f q i e = let n = d.0 q i in cond_false (nat_eq f.xid r.xid.0) (λ t. n (sym e ∙ eqb-true f.xid r.xid.0 t))
      where
        cond_false : (v : Bool) → (v ≡ true → ⊥) → v ≡ false
        cond_false true n = absurd (n refl)
        cond_false false n = refl
