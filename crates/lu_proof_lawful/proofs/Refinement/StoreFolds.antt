-- Which entries leave what a story says of a life's changes, of the bytes that it knows, of ends and of what was shown; and which lines
-- give such
-- entries alone.
use Rattle.std.proofs.Common.{◌≡◌, ℕ, Bool, true, false, List, ◌∷◌, length, Option, Some, None, ◌⊎◌, inl, inr, ⊎_elim, refl, sym, subst, ap}
use Rattle.std.proofs.Common.{arith}
use Rattle.std.specs.Prelude.{nat_eq, if◌then◌else◌, option_map, ◌==◌}
use Rattle.lu_base.specs.declared.ids.Node.{Node}
use Rattle.lu_base.specs.declared.ids.Node.TheVariants.{Client, Target}
use Rattle.lu_base.specs.declared.locks.Lock.{Lock as TableLock}
use Rattle.lu_base.specs.declared.locks.Resource.{Resource}
use Rattle.lu_held.specs.Locks.{same_resource}
use Rattle.lu_spec_entries.specs.declared.changes.Flush.{Flush}
use Rattle.lu_spec_entries.specs.Carried.{Deed}
use Rattle.lu_spec_entries.specs.Words as word
use Rattle.lu_spec_entries.specs.Words.{Line, is_target}
use Rattle.lu_spec_client.specs.Calls.{life_at}
use Rattle.lu_proof_bytes.specs.Object.Words.{Lock, Request, Entry, Takes, Heard, Hold, Drop, Forgets, Tells, Did, Saw, Acts, Grant, Wait}
use Rattle.lu_proof_bytes.specs.Object.Words.{Txn, Evict, Commit, Send}
use Rattle.lu_proof_bytes.specs.Object.Folds.{HeldBy, pending, dirty, flying, known, ends, shown}
use Rattle.lu_proof_bytes.specs.Object.Guards.{Allowed}
use Rattle.lu_proof_bytes.proofs.Object.Numbers.{Numbers}
use Rattle.lu_proof_bytes.proofs.Object.Locks.{Lockings}
use Rattle.lu_proof_objects.specs.Points.{change_of}
use Rattle.lu_proof_lawful.specs.Projection.Calls.{did, takes}
use Rattle.lu_proof_lawful.specs.Projection.Closes.{closes}
use Rattle.lu_proof_lawful.specs.Projection.Lives.{number_of, is_live}
use Rattle.lu_proof_lawful.specs.Projection.Locks.{lock_of, held, lock_over}
use Rattle.lu_proof_lawful.specs.Projection.Messages.{by_client, by_target}
use Rattle.lu_proof_lawful.specs.Projection.Requests.{op_of, among, answer_of}
use Rattle.lu_proof_lawful.specs.Projection.Stories.{with_entry, of_life, of_target, of_life_at, if_on, sends, flies, hears, served}
use Rattle.lu_proof_lawful.specs.Projection.Stories.{size_in, grants, step}
use Rattle.lu_proof_lawful.proofs.Refinement.AskedFolds.{apart_life}

-- ---- entries

-- the entry is none of that life, or none that changes what it keeps of the object
abbrev pub Leaves : ℕ → Entry → Type 0
Leaves w (Takes d k ch) = nat_eq w d ≡ false
Leaves w (Heard q a) = nat_eq w q.life ≡ false
Leaves w (Hold l s seen) = nat_eq w l.life ≡ false
Leaves w (Drop l) = nat_eq w l.life ≡ false
Leaves w (Tells d call) = nat_eq w d ≡ false
Leaves w _ = Unit {0}

-- of that life the newer story says what the older one does
pub record StoreStays (w : ℕ) (h k : List Entry) : Type 0 where
  pub pending : pending w k ≡ pending w h
  pub dirty : (p : ℕ) → dirty w k p ≡ dirty w h p
  pub flying : (p : ℕ) → flying w k p ≡ flying w h p
  pub known : (p : ℕ) → known w k p ≡ known w h p
  pub ends : (j : ℕ) → ends w j k ≡ ends w j h
  pub shown : (j : ℕ) → shown w j k ≡ shown w j h
  pub back : (m : Lock) → HeldBy k m → m.life ≡ w → HeldBy h m
  pub kept : (m : Lock) → HeldBy h m → m.life ≡ w → HeldBy k m

pub store_same : (w : ℕ) (h k : List Entry) → k ≡ h → StoreStays w h k
store_same w h k e = subst (λ (x : List Entry). StoreStays w h x) (sym e) (record {
  pending = refl;
  dirty = λ p. refl;
  flying = λ p. refl;
  known = λ p. refl;
  ends = λ j. refl;
  shown = λ j. refl;
  back = λ m i v. i;
  kept = λ m i v. i;
})

pub store_entry : (w : ℕ) (h : List Entry) (x : Entry) → Numbers h → Lockings h → Allowed h x → Leaves w x → StoreStays w h (x ∷ h)
store_entry w h (Takes d k ch) nu lk ok o = record {
  pending = refl;
  dirty = λ p. refl;
  flying = λ p. rw o refl;
  known = λ p. refl;
  ends =
      λ j. refl;
  shown = λ j. refl;
  back = λ m i v. i;
  kept = λ m i v. i;
}
store_entry w h (Heard q a) nu lk ok o = record {
  pending = rw o refl;
  dirty = λ p. rw o refl;
  flying = λ p. rw o refl;
  known = λ p. rw o refl;
  ends = λ j. rw o refl;
  shown = λ j. rw o refl;
  back = λ m i v. i;
  kept = λ m i v. i;
}
store_entry w h (Hold l s seen) nu lk ok o = record {
  pending = refl;
  dirty = λ p. refl;
  flying = λ p. refl;
  known = λ p. refl;
  ends = λ j. rw o refl;
  shown = λ j. rw o refl;
  back = λ m i v. ⊎_elim (λ (e : l ≡ m). absurd (apart_life w l m o v e)) (λ (j : HeldBy h m). j) i;
  kept = λ m i v. inr i;
}
store_entry w h (Drop l) nu lk ok o = record {
  pending = refl;
  dirty = λ p. refl;
  flying = λ p. refl;
  known = λ p. rw o refl;
  ends = λ j. refl;
  shown = λ j. refl;
  back = λ m i v. i.1;
  kept = λ m i v. (λ e. absurd (apart_life w l m o v (lk.unique l m (nu.held l ok.held) (nu.held m i) e)), i);
}
store_entry w h (Tells d (Did k ch)) nu lk ok o = record {
  pending = rw o refl;
  dirty = λ p. rw o refl;
  flying = λ p. rw o refl;
  known =
      λ p. refl;
  ends = λ j. refl;
  shown = λ j. rw o refl;
  back = λ m i v. i;
  kept = λ m i v. i;
}
store_entry w h (Tells d (Saw at n vs)) nu lk ok o = record {
  pending = refl;
  dirty = λ p. refl;
  flying = λ p. refl;
  known = λ p. refl;
  ends = λ j. refl;
  shown = λ j. refl;
  back = λ m i v. i;
  kept = λ m i v. i;
}
store_entry w h _ nu lk ok o = record {
  pending = refl;
  dirty = λ p. refl;
  flying = λ p. refl;
  known = λ p. refl;
  ends = λ j. refl;
  shown =
      λ j. refl;
  back = λ m i v. i;
  kept = λ m i v. i;
}

-- ---- lines

-- a line of a client that may give an entry of its life
abbrev pub IsQuiet : word.Entry → Type 0
IsQuiet (word.Heard u f p) = ⊥
IsQuiet (word.Hold u l marked size seen) = ⊥
IsQuiet (word.Drop u l) = ⊥
IsQuiet (word.Changes q change) = ⊥
IsQuiet (word.WritesBack q change) = ⊥
IsQuiet _ = Unit {0}

-- the line isn't of that life, by the life that its client has then, nor about a lock of that life; or its entry is none of these
abbrev pub OfOther : ℕ → Node → List Line → word.Entry → Type 0
OfOther w node past (word.Hold u l marked size seen) = nat_eq w (number_of l.ask.who) ≡ false
OfOther w node past (word.Drop u l) = nat_eq w (number_of l.ask.who) ≡ false
OfOther w node past e = ((d : ℕ) → node ≡ Client d → nat_eq w (number_of (life_at d past)) ≡ false) ⊎ IsQuiet e

longer : {A : Type 0} (x : A) (h : List A) → h ≡ x ∷ h → ⊥
longer x h e = absurd (let n = ap length e in omega (arith, n))

first_is : {A : Type 0} (x y : A) (h k : List A) → x ∷ h ≡ y ∷ k → x ≡ y
first_is x y h k e = cc

module _ (w : ℕ) (h : List Entry) (x : Entry) where
  -- if such a story is that entry's, this leaves the life
  abbrev Comes : List Entry → Type 0
  Comes k = k ≡ x ∷ h → Leaves w x

  comes_none : Comes h
  comes_none e = absurd (longer x h e)

  comes_with : (o : Option Entry) → ((y : Entry) → o ≡ Some y → Leaves w y) → Comes (with_entry o h)
  comes_with None all e = absurd (longer x h e)
  comes_with (Some y) all e = subst (Leaves w) (first_is y x h h e) (all y refl)

  comes_if : (b : Bool) (k : List Entry) → Comes k → Comes (if b then k else h)
  comes_if true k c = c
  comes_if false k c = comes_none

  comes_life : (node : Node) (past : List Line) (gives : ℕ → Option Entry)
      → ((d : ℕ) → node ≡ Client d → (y : Entry) → gives (number_of (life_at d past)) ≡ Some y → Leaves w y)
      → Comes (of_life node past gives h)
  comes_life (Target u) past gives all = comes_none
  comes_life (Client d) past gives all = comes_if (is_live d past h) (with_entry (gives (number_of (life_at d past))) h)
      (comes_with (gives (number_of (life_at d past))) (all d refl))

  comes_at : (t u : ℕ) (node : Node) (past : List Line) (gives : ℕ → Option Entry)
      → ((d : ℕ) → node ≡ Client d → (y : Entry) → gives (number_of (life_at d past)) ≡ Some y → Leaves w y)
      → Comes (of_life_at t u node past gives h)
  comes_at t u node past gives all = comes_if (u == t) (of_life node past gives h) (comes_life node past gives all)

  comes_target : (t : ℕ) (node : Node) (o : Option Entry) → ((y : Entry) → o ≡ Some y → Leaves w y) → Comes (of_target t node o h)
  comes_target t node o all = comes_if (is_target t node) (with_entry o h) (comes_with o all)

  -- an entry made of something that may be there
  made_of : {A : Type 0} (f : A → Entry) (o : Option A) → ((a : A) → Leaves w (f a)) → (y : Entry) → option_map f o ≡ Some y → Leaves w y
  made_of f None all y e = absurd (cc)
  made_of f (Some a) all y e = subst (Leaves w) (let s : f a ≡ y = cc in s) (all a)

  on_it : (q r : Resource) (z : Entry) → Leaves w z → (y : Entry) → if_on r q z ≡ Some y → Leaves w y
  on_it q r z all y e = by (same_resource q r) e
    where
      by : (b : Bool) → (if b then Some z else None) ≡ Some y → Leaves w y
      by true e = subst (Leaves w) (let s : z ≡ y = cc in s) all
      by false e = absurd (cc)

  sends_leave : (t : ℕ) (r : Resource) (node : Node) (past : List Line) (to : Node) (m : _) → Comes (sends t r node past to m h)
  sends_leave t r node past (Target u) m = comes_at t u node past (λ c. option_map Send (by_client r h m))
      (λ d s. made_of Send (by_client r h m) (λ a. tt))
  sends_leave t r node past (Client c) m = comes_target t node (option_map Send (by_target h m)) (made_of Send (by_target h m) (λ a. tt))

  served_leaves : (r : Resource) (d : Deed) (gives : Request → Entry) → ((q : Request) → Leaves w (gives q)) → (y : Entry)
      → served r d h gives ≡ Some y → Leaves w y
  served_leaves r d gives all = made_of (λ o. gives (record { life = number_of d.reply.who; xid = d.reply.xid.0; op = o })) (op_of r h d.op)
      (λ o. all _)

  did_leaves : (d : ℕ) (change : Flush) → nat_eq w d ≡ false → (y : Entry) → did d change h ≡ Some y → Leaves w y
  did_leaves d change other = made_of (λ k. Tells d (Did k (change_of change))) (lock_over d (change_of change) (held h)) (λ k. other)

  takes_leave : (d : ℕ) (change : Flush) → nat_eq w d ≡ false → (y : Entry) → takes d change h ≡ Some y → Leaves w y
  takes_leave d change other = made_of (λ k. Takes d k (change_of change)) (lock_over d (change_of change) (held h)) (λ k. other)

  grants_leave : (r : Resource) (l : TableLock) (asked : Option Deed) (y : Entry) → grants r l asked h ≡ Some y → Leaves w y
  grants_leave r l None = on_it l.resource r _ tt
  grants_leave r l (Some d) = served_leaves r d (λ q. Grant q (lock_of l) (size_in d.reply.answer) (among d.reply.seen)) (λ q. tt)

  some_leaves : (z : Entry) → Leaves w z → (y : Entry) → Some z ≡ Some y → Leaves w y
  some_leaves z all y e = subst (Leaves w) (let q : z ≡ y = cc in q) all

  not_quiet : {A : Type 0} → A ⊎ ⊥ → A
  not_quiet (inl a) = a
  not_quiet (inr n) = absurd n

  pub step_leaves : (t : ℕ) (r : Resource) (node : Node) (past : List Line) (e : word.Entry) → OfOther w node past e
      → step t r node past e h ≡ x ∷ h → Leaves w x
  step_leaves t r node past (word.Send to m) o = sends_leave t r node past to m
  step_leaves t r node past (word.Flies u f) o = comes_at t u node past (flies r f h) (λ d s. made_of _ (op_of r h f.op) (λ a. tt))
  step_leaves t r node past (word.Heard u f p) o = comes_at t u node past (hears r f p h)
      (λ d s. made_of _ (op_of r h f.op) (λ a. not_quiet o d s))
  step_leaves t r node past (word.Hold u l marked size seen) o = comes_at t u node past _ (λ d s. on_it l.resource r _ o)
  step_leaves t r node past (word.Drop u l) o = comes_at t u node past _ (λ d s. on_it l.resource r _ o)
  step_leaves t r node past (word.Knows u boot) o = comes_at t u node past _ (λ d s. some_leaves (Forgets (number_of (life_at d past))) tt)
  step_leaves t r node past (word.Changes q change) o = comes_if (same_resource q r) _
      (comes_life node past _ (λ d s. did_leaves (number_of (life_at d past)) change (not_quiet o d s)))
  step_leaves t r node past (word.WritesBack q change) o = comes_if (same_resource q r) _
      (comes_life node past _ (λ d s. takes_leave (number_of (life_at d past)) change (not_quiet o d s)))
  step_leaves t r node past (word.Grant l asked) o = comes_target t node (grants r l asked h) (grants_leave r l asked)
  step_leaves t r node past (word.Wait l asked) o = comes_target t node _ (served_leaves r asked (λ q. Wait q (lock_of l)) (λ q. tt))
  step_leaves t r node past (word.Act d) o = comes_target t node _ (served_leaves r d (λ q. Acts q (answer_of q d.reply)) (λ q. tt))
  step_leaves t r node past (word.Answers d) o = comes_target t node _ (served_leaves r d (λ q. Acts q (answer_of q d.reply)) (λ q. tt))
  step_leaves t r node past (word.Txn d) o = comes_target t node _ (served_leaves r d (Txn d.reply.txn.0) (λ q. tt))
  step_leaves t r node past (word.Release l) o = comes_target t node _ (on_it l.resource r _ tt)
  step_leaves t r node past (word.Commit to batch) o = comes_target t node _ (some_leaves (Commit to) tt)
  step_leaves t r node past (word.Close c) o = comes_target t node _ (some_leaves (closes h c) tt)
  step_leaves t r node past (word.Evict who cause) o = comes_target t node _ (some_leaves (Evict (number_of who)) tt)
  step_leaves t r node past _ o = comes_none
