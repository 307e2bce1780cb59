-- What a line makes of a story: it leaves it, or adds an entry, which is of the life that its client is in, or none of any life's. And a
-- life is
-- live after a line only if it was before.
use Rattle.std.proofs.Common.{◌≡◌, ℕ, Bool, true, false, List, ◌∷◌, Option, Some, None, ◌⊎◌, inl, inr, refl, sym, subst, ap, ◌∙◌, arith}
use Rattle.std.specs.Prelude.{nat_eq, not, ◌&&◌, ◌||◌, ◌==◌, if◌then◌else◌, option_map}
use Rattle.std.specs.Option.{unwrap_or}
use Rattle.std.proofs.lemmas.Bool.{eqb-true, or_right}
use Rattle.lu_base.specs.declared.ids.Node.{Node}
use Rattle.lu_base.specs.declared.ids.Node.TheVariants.{Client, Target}
use Rattle.lu_base.specs.declared.ids.Who.{Who}
use Rattle.lu_base.specs.declared.locks.Lock.{Lock as TableLock}
use Rattle.lu_base.specs.declared.locks.Resource.{Resource}
use Rattle.lu_held.specs.Locks.{same_resource}
use Rattle.lu_spec_entries.specs.Words as word
use Rattle.lu_spec_entries.specs.Words.{Line, is_client, is_target}
use Rattle.lu_spec_client.specs.Calls.{life_at}
use Rattle.lu_spec_entries.specs.Carried.{Deed}
use Rattle.lu_proof_bytes.specs.Object.Words.{Change, Did, Entry, Takes, Flies, Heard, Hold, Drop, Forgets, Tells, Grant, Wait, Promote}
use Rattle.lu_proof_bytes.specs.Object.Words.{Acts, Txn, Release, Evict, Commit, Close, Send}
use Rattle.lu_proof_bytes.specs.Object.Folds.{evicted}
use Rattle.lu_proof_bytes.specs.Object.Guards.{Allowed}
use Rattle.lu_proof_bytes.proofs.Object.Numbers.{Numbers}
use Rattle.lu_proof_bytes.proofs.Object.Locks.{Lockings, promote_apart}
use Rattle.lu_proof_bytes.proofs.Object.World.{World}
use Rattle.lu_proof_objects.specs.Points.{change_of}
use Rattle.lu_proof_lawful.specs.Projection.Lives.{number_of, ends_life, is_over, is_live}
use Rattle.lu_proof_lawful.specs.Projection.Locks.{lock_of, given, held, lock_over}
use Rattle.lu_proof_lawful.specs.Projection.Requests.{op_of, among, answer_of}
use Rattle.lu_proof_lawful.specs.Projection.Calls.{did_under, takes_under}
use Rattle.lu_proof_lawful.specs.Projection.Messages.{request_as, by_client, by_target}
use Rattle.lu_proof_lawful.specs.Projection.Closes.{closes}
use Rattle.lu_proof_lawful.specs.Projection.Stories.{with_entry, of_life, of_target, of_life_at, if_on, flies, hears, served, acts, grants}
use Rattle.lu_proof_lawful.specs.Projection.Stories.{size_in, step}
use Rattle.lu_proof_lawful.proofs.Projection.Lookups.{given_was}
use Rattle.lu_proof_lawful.proofs.Refinement.Tied.{Grows}
use Rattle.lu_proof_lawful.proofs.Refinement.TiedStore.{life_number}
use Rattle.lu_proof_lawful.proofs.Refinement.AskedFolds.{Elsewhere, StaysFor, stays_same, stays_entry}
use Rattle.lu_proof_lawful.proofs.Refinement.AskedKept.{GivenStays}

-- ---- what was granted under a cookie

given_entry : (h : List Entry) (x : Entry) → Numbers h → Lockings h → Allowed h x → GivenStays h (x ∷ h)
given_entry h (Grant q m s seen) nu lk ok j l e = by (nat_eq m.cookie j) refl
  where
    by : (v : Bool) → nat_eq m.cookie j ≡ v → (if v then Some m else given j h) ≡ Some l
    by false t = e
    by true t =
        let was = given_was j h l e in
        let low = nu.tops l was.0 in
        let new = ok.new in
        let same : m.cookie ≡ j = eqb-true m.cookie j t in
        let cookie : l.cookie ≡ j = was.1 in
        absurd (omega (arith, low, new, same, cookie))
given_entry h (Promote m) nu lk ok j l e = by (nat_eq m.cookie j) refl
  where
    by : (v : Bool) → nat_eq m.cookie j ≡ v → (if v then Some m else given j h) ≡ Some l
    by false t = e
    by true t = let was = given_was j h l e in absurd (promote_apart h m lk ok l was.0 (eqb-true m.cookie j t ∙ sym was.1))
given_entry h _ nu lk ok j l e = e

pub given_grows : (h k : List Entry) → World h → Grows h k → GivenStays h k
given_grows h k w (inl e) = λ j l g. ap (given j) e ∙ g
given_grows h k w (inr g) = λ j l x. ap (given j) g.1 ∙ given_entry h g.0 w.numbers w.locks g.2 j l x

-- ---- whose an entry is

abbrev pub StepBy : ℕ → List Entry → List Entry → Type 0
StepBy w h k = (k ≡ h) ⊎ ((x : Entry) × (k ≡ x ∷ h) × Elsewhere w x)

with_by : (w : ℕ) (h : List Entry) (o : Option Entry) → ((x : Entry) → o ≡ Some x → Elsewhere w x) → StepBy w h (with_entry o h)
with_by w h None f = inl refl
with_by w h (Some x) f = inr (x, refl, f x refl)

if_by : (w : ℕ) (h k : List Entry) (b : Bool) → StepBy w h k → StepBy w h (if b then k else h)
if_by w h k true s = s
if_by w h k false s = inl refl

map_by : {A : Type 0} (w : ℕ) (f : A → Entry) (o : Option A) → ((a : A) → Elsewhere w (f a)) → (x : Entry) → option_map f o ≡ Some x
    → Elsewhere w x
map_by w f None g x e = absurd (cc)
map_by w f (Some a) g x e = let same : f a ≡ x = cc in subst (λ (y : Entry). Elsewhere w y) same (g a)

on_by : (w : ℕ) (b : Bool) (y : Entry) → Elsewhere w y → (x : Entry) → ◌≡◌ {A = Option Entry} (if b then Some y else None) (Some x)
    → Elsewhere w x
on_by w true y g x e = let same : y ≡ x = cc in subst (λ (y : Entry). Elsewhere w y) same g
on_by w false y g x e = absurd (cc)

some_by : (w : ℕ) (y : Entry) → Elsewhere w y → (x : Entry) → ◌≡◌ {A = Option Entry} (Some y) (Some x) → Elsewhere w x
some_by w y g x e = let same : y ≡ x = cc in subst (λ (y : Entry). Elsewhere w y) same g

-- the line isn't of that life
abbrev pub NotOf : ℕ → List Line → Node → Type 0
NotOf w past (Client d) = nat_eq w (life_number d past) ≡ false
NotOf w past (Target u) = Unit {0}

-- the locks that a line shows are its client's
abbrev pub ShowsLock : word.Entry → TableLock → Type 0
ShowsLock (word.Hold u l marked size seen) m = l ≡ m
ShowsLock (word.Drop u l) m = l ≡ m
ShowsLock _ m = ⊥

module _ (w t : ℕ) (r : Resource) (past : List Line) (h : List Entry) where
  target_by : (node : Node) (o : Option Entry) → ((x : Entry) → o ≡ Some x → Elsewhere w x) → StepBy w h (of_target t node o h)
  target_by node o f = if_by w h (with_entry o h) (is_target t node) (with_by w h o f)

  life_by : (d : ℕ) (gives : ℕ → Option Entry) → ((x : Entry) → gives (life_number d past) ≡ Some x → Elsewhere w x)
      → StepBy w h (of_life (Client d) past gives h)
  life_by d gives f = if_by w h (with_entry (gives (life_number d past)) h) (is_live d past h) (with_by w h (gives (life_number d past)) f)

  at_by : (d u : ℕ) (gives : ℕ → Option Entry) → ((x : Entry) → gives (life_number d past) ≡ Some x → Elsewhere w x)
      → StepBy w h (of_life_at t u (Client d) past gives h)
  at_by d u gives f = if_by w h (of_life (Client d) past gives h) (u == t) (life_by d gives f)

  none_by : (u v : ℕ) (gives : ℕ → Option Entry) → StepBy w h (of_life_at t u (Target v) past gives h)
  none_by u v gives = if_by w h h (u == t) (inl refl)

  by_cookie : (d : ℕ) (ch : Change) (k : Option ℕ) → nat_eq w d ≡ false → (x : Entry) → takes_under d ch k ≡ Some x → Elsewhere w x
  by_cookie d ch k o = map_by w (λ j. Takes d j ch) k (λ j. o)

  grants_by : (l : TableLock) (asked : Option Deed) → (x : Entry) → grants r l asked h ≡ Some x → Elsewhere w x
  grants_by l None = on_by w (same_resource l.resource r) (Promote (lock_of l)) tt
  grants_by l (Some d) = map_by w (λ o. Grant (request_as (number_of d.reply.who) d.reply.xid.0 o) (lock_of l) (size_in d.reply.answer)
      (among d.reply.seen)) (op_of r h d.op) (λ o. tt)

  pub step_by : (node : Node) (e : word.Entry) → NotOf w past node
      → ((d : ℕ) (l : TableLock) → node ≡ Client d → ShowsLock e l → number_of l.ask.who ≡ life_number d past)
      → StepBy w h (step t r node past e h)
  step_by (Client d) (word.Send (Target u) m) n own = at_by d u (λ c. option_map Send (by_client r h m))
      (map_by w Send (by_client r h m) (λ a. tt))
  step_by (Client d) (word.Send (Client v) m) n own = inl refl
  step_by (Target v) (word.Send (Target u) m) n own = none_by u v (λ c. option_map Send (by_client r h m))
  step_by (Target v) (word.Send (Client u) m) n own = target_by (Target v) (option_map Send (by_target h m))
      (map_by w Send (by_target h m) (λ a. tt))
  step_by (Client d) (word.Flies u f) n own = at_by d u (flies r f h)
      (map_by w (λ o. Flies (request_as (life_number d past) f.xid o)) (op_of r h f.op) (λ o. n))
  step_by (Target v) (word.Flies u f) n own = none_by u v (flies r f h)
  step_by (Client d) (word.Heard u f p) n own =
      at_by d u (hears r f p h) (map_by w (λ o. Heard (request_as (life_number d past) f.xid o)
      (answer_of (request_as (life_number d past) f.xid o) p)) (op_of r h f.op) (λ o. n))
  step_by (Target v) (word.Heard u f p) n own = none_by u v (hears r f p h)
  step_by (Client d) (word.Hold u l marked size seen) n own =
      at_by d u (λ c. if_on r l.resource (Hold (lock_of l) (unwrap_or size 0) (among seen)))
      (on_by w (same_resource l.resource r) (Hold (lock_of l) (unwrap_or size 0) (among seen)) (ap (nat_eq w) (own d l refl refl) ∙ n))
  step_by (Target v) (word.Hold u l marked size seen) n own = none_by u v
      (λ c. if_on r l.resource (Hold (lock_of l) (unwrap_or size 0) (among seen)))
  step_by (Client d) (word.Drop u l) n own =
      at_by d u (λ c. if_on r l.resource (Drop (lock_of l))) (on_by w (same_resource l.resource r) (Drop (lock_of l))
      (ap (nat_eq w) (own d l refl refl) ∙ n))
  step_by (Target v) (word.Drop u l) n own = none_by u v (λ c. if_on r l.resource (Drop (lock_of l)))
  step_by (Client d) (word.Knows u boot) n own = at_by d u (λ c. Some (Forgets c)) (some_by w (Forgets (life_number d past)) n)
  step_by (Target v) (word.Knows u boot) n own = none_by u v (λ c. Some (Forgets c))
  step_by (Client d) (word.Changes q change) n own =
      if_by w h (of_life (Client d) past (λ c. did_under c (change_of change) (lock_over c (change_of change) (held h))) h)
      (same_resource q r)
      (life_by d (λ c. did_under c (change_of change) (lock_over c (change_of change) (held h)))
      (map_by w (λ k. Tells (life_number d past) (Did k (change_of change))) (lock_over (life_number d past) (change_of change) (held h))
      (λ k. tt)))
  step_by (Target v) (word.Changes q change) n own = if_by w h h (same_resource q r) (inl refl)
  step_by (Client d) (word.WritesBack q change) n own =
      if_by w h (of_life (Client d) past (λ c. takes_under c (change_of change) (lock_over c (change_of change) (held h))) h)
      (same_resource q r)
      (life_by d (λ c. takes_under c (change_of change) (lock_over c (change_of change) (held h)))
      (by_cookie (life_number d past) (change_of change) (lock_over (life_number d past) (change_of change) (held h)) n))
  step_by (Target v) (word.WritesBack q change) n own = if_by w h h (same_resource q r) (inl refl)
  step_by node (word.Grant l asked) n own = target_by node (grants r l asked h) (grants_by l asked)
  step_by node (word.Wait l d) n own =
      target_by node (served r d h (λ q. Wait q (lock_of l))) (map_by w
      (λ o. Wait (request_as (number_of d.reply.who) d.reply.xid.0 o) (lock_of l)) (op_of r h d.op) (λ o. tt))
  step_by node (word.Act d) n own = target_by node (acts r d h) (acts_by d)
    where
      acts_by : (d : Deed) → (x : Entry) → acts r d h ≡ Some x → Elsewhere w x
      acts_by d = map_by w (λ o. Acts (request_as (number_of d.reply.who) d.reply.xid.0 o)
          (answer_of (request_as (number_of d.reply.who) d.reply.xid.0 o) d.reply)) (op_of r h d.op) (λ o. tt)
  step_by node (word.Answers d) n own =
      target_by node (acts r d h)
      (map_by w (λ o. Acts (request_as (number_of d.reply.who) d.reply.xid.0 o)
      (answer_of (request_as (number_of d.reply.who) d.reply.xid.0 o) d.reply)) (op_of r h d.op) (λ o. tt))
  step_by node (word.Txn d) n own =
      target_by node (served r d h (Txn d.reply.txn.0)) (map_by w
      (λ o. Txn d.reply.txn.0 (request_as (number_of d.reply.who) d.reply.xid.0 o)) (op_of r h d.op) (λ o. tt))
  step_by node (word.Release l) n own = target_by node (if_on r l.resource (Release l.cookie.0))
      (on_by w (same_resource l.resource r) (Release l.cookie.0) tt)
  step_by node (word.Commit to batch) n own = target_by node (Some (Commit to)) (some_by w (Commit to) tt)
  step_by node (word.Close o) n own = target_by node (Some (closes h o)) (some_by w (closes h o) tt)
  step_by node (word.Evict who cause) n own = target_by node (Some (Evict (number_of who))) (some_by w (Evict (number_of who)) tt)
  step_by node _ n own = inl refl

-- so of another life the story says the same after the line
pub stays_grown : (w : ℕ) (h k : List Entry) → World h → Grows h k → StepBy w h k → StaysFor w h k
stays_grown w h k world (inl e) s = stays_same w h k e
stays_grown w h k world (inr g) (inl e) = stays_same w h k e
stays_grown w h k world (inr g) (inr s) =
    let same : g.0 ≡ s.0 = first g.0 s.0 h h (sym g.1 ∙ s.1) in
    subst (λ (x : List Entry). StaysFor w h x) (sym g.1) (stays_entry w h g.0 world.numbers world.locks g.2
    (subst (λ (x : Entry). Elsewhere w x) (sym same) s.2))
  where
    first : (a b : Entry) (x y : List Entry) → (a ∷ x) ≡ (b ∷ y) → a ≡ b
    first a b x y e = cc

-- ---- who is live

-- who was evicted stays so
evicted_entry : (w : ℕ) (h : List Entry) (x : Entry) → evicted w h ≡ true → evicted w (x ∷ h) ≡ true
evicted_entry w h (Evict d) e = or_right (nat_eq w d) (evicted w h) e
evicted_entry w h (Close b lost gone) e = or_right (gone w) (evicted w h) e
evicted_entry w h _ e = e

pub evicted_grows : (w : ℕ) (h k : List Entry) → Grows h k → evicted w h ≡ true → evicted w k ≡ true
evicted_grows w h k (inl s) e = ap (evicted w) s ∙ e
evicted_grows w h k (inr g) e = ap (evicted w) g.1 ∙ evicted_entry w h g.0 e

pub over_more : (c : ℕ) (who : Who) (l : Line) (past : List Line) → is_over c who past ≡ true → is_over c who (l ∷ past) ≡ true
over_more c who l past e = by l.entry
  where
    by : (x : word.Entry) → is_over c who (record l { entry = x } ∷ past) ≡ true
    by (word.Take n from m) = or_right (is_client c l.at.node && ends_life who from m) (is_over c who past) e
    by x = e

pub live_before : (c : ℕ) (l : Line) (past : List Line) (h k : List Entry) → life_at c (l ∷ past) ≡ life_at c past → Grows h k
    → is_live c (l ∷ past) k ≡ true → is_live c past h ≡ true
live_before c l past h k same g live = by (evicted (life_number c past) h) refl (is_over c (life_at c past) past) refl
  where
    now : not (evicted (life_number c past) k || is_over c (life_at c past) (l ∷ past)) ≡ true
    now = subst (λ (who : Who). not (evicted (number_of who) k || is_over c who (l ∷ past)) ≡ true) same live

    by : (a : Bool) → evicted (life_number c past) h ≡ a → (b : Bool) → is_over c (life_at c past) past ≡ b → not (a || b) ≡ true
    by true e b f = absurd (let x = evicted_grows (life_number c past) h k g e in let y : false ≡ true =
        sym (ap (λ (v : Bool). not (v || is_over c (life_at c past) (l ∷ past))) x) ∙ now in cc)
    by false e true f =
        absurd (let x = over_more c (life_at c past) l past f in
        let y : not (evicted (life_number c past) k || true) ≡ true =
        subst (λ (v : Bool). not (evicted (life_number c past) k || v) ≡ true) x now in no (evicted (life_number c past) k) y)
      where
        no : (v : Bool) → not (v || true) ≡ true → ⊥
        no true y = absurd (cc)
        no false y = absurd (cc)
    by false e false f = refl
