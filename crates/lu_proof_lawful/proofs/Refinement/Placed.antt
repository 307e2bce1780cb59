-- What is asked of an object is asked of the target where it lies, and so of that target alone; a lock that is held on a range of it is of
-- that target.
use Rattle.std.proofs.Common.{◌≡◌, ℕ, zero, suc, ◌+◌, ◌-◌, ◌%◌, ◌<◌, true, false, List, [], ◌∷◌, ◌++◌, Some, None, ◌⊎◌, inl, inr, ⊎_elim}
use Rattle.std.proofs.Common.{refl, sym, subst, ap, ◌∙◌, arith}
use Rattle.std.specs.Prelude.{length, map, nat_lt, slice_index}
use Rattle.std.specs.List.{range_with_len}
use Rattle.std.proofs.lemmas.Bool.{cond_both, eqb-true}
use Rattle.lu_base.specs.declared.ids.At.{At}
use Rattle.lu_base.specs.declared.ids.Cookie.{Cookie}
use Rattle.lu_base.specs.declared.ids.Fid.{Fid}
use Rattle.lu_base.specs.declared.ids.Node.{Node}
use Rattle.lu_base.specs.declared.ids.Node.TheVariants.{Client, Target}
use Rattle.lu_base.specs.declared.ids.Stamp.{Stamp}
use Rattle.lu_base.specs.declared.ids.Who.{Who}
use Rattle.lu_base.specs.declared.locks.Extent.{Extent}
use Rattle.lu_base.specs.declared.locks.Lock.{Lock}
use Rattle.lu_base.specs.declared.locks.Mode.{Mode}
use Rattle.lu_base.specs.declared.locks.Mode.TheVariants.{PR, PW}
use Rattle.lu_base.specs.declared.locks.Resource.{Resource}
use Rattle.lu_layout.specs.Raid0.{Raid0}
use Rattle.lu_msg.specs.declared.answers.Answer.{Answer}
use Rattle.lu_msg.specs.declared.answers.Answer.TheVariants as answer
use Rattle.lu_msg.specs.declared.messages.Reply.{Reply as ReplyTo}
use Rattle.lu_msg.specs.declared.operations.Op.{Op}
use Rattle.lu_msg.specs.declared.operations.Op.TheVariants as op
use Rattle.lu_held.specs.declared.locks.HeldLock.{HeldLock}
use Rattle.lu_held.specs.declared.locks.Use.{Use}
use Rattle.lu_spec_entries.specs.Carried.{Deed, Queued, Flight, Kind, Narrow, Wide, Writes, Cuts, Stats, Glimpses, Work, Stage, Plain, Bad}
use Rattle.lu_spec_entries.specs.Carried.{Looks, Enqueued, Waits, Came, Forgotten, Gets, Flushing, Sizes, Running}
use Rattle.lu_spec_entries.specs.declared.changes.Flush.{Flush}
use Rattle.lu_spec_entries.specs.declared.changes.Flush.TheVariants.{Put, Cut}
use Rattle.lu_spec_entries.specs.declared.uses.Using.{Using}
use Rattle.lu_spec_entries.specs.Words.{Entry, Queues, Flies, Line, line}
use Rattle.lu_spec_entries.specs.Concerns.{concerns, only}
use Rattle.lu_spec_client.specs.Caches.{brought, granted_lock, held_at}
use Rattle.lu_spec_client.specs.Sending.{object_of}
use Rattle.lu_spec_client.specs.Stripes.{below_on, stripes, object}
use Rattle.lu_spec_client.specs.Wants.{want, wants_run, wants_rest, wants_cut, wants_on, wants_of}
use Rattle.lu_spec_client.specs.WriteBack.{operation}
use Rattle.lu_spec_machine.proofs.Layouts.{new_layouts}
use Rattle.lu_spec_client.specs.Messages.{waiting_lock}
use Rattle.lu_proof_lawful.specs.Covered.Calls.{call_at, life_at}
use Rattle.lu_proof_lawful.specs.Covered.ClientStates.{queue_of, life_of, is_own}
use Rattle.lu_proof_lawful.specs.Covered.Imports.{queue_after}
use Rattle.lu_proof_lawful.specs.Covered.Heads.{Head}
use Rattle.lu_proof_lawful.proofs.Preconditions.Guards.{In, HasRange, EntryOk, Begins, work_in, used_in, wanted_by, NamesAskOk, SizeAskOk}
use Rattle.lu_proof_lawful.proofs.Preconditions.Guards.{LockAskOk, GetAskOk, QueuesOk, HeldFor, SizesStand, LockStand, StatStand, GetStand}
use Rattle.lu_proof_lawful.proofs.Preconditions.Guards.{FlushStand, MovedStand, StandsOk}
use Rattle.lu_proof_lawful.proofs.Preconditions.StoryGuards.{FliesOk, EntryOf}
use Rattle.lu_proof_lawful.proofs.Preconditions.Calls.{Began, Touched, Stood as StoodAt, call_cases}
use Rattle.lu_proof_lawful.proofs.Preconditions.Grown.{Grown}
use Rattle.lu_proof_lawful.proofs.Preconditions.Lists.{in_append, in_right}
use Rattle.lu_proof_lawful.proofs.Preconditions.PinsFit.{PinsFit}
use Rattle.lu_proof_lawful.proofs.Invariants.Groups.{turn}
use Rattle.lu_proof_lawful.proofs.Invariants.TargetGroups.{Acted, Flew, Gave}
use Rattle.lu_proof_lawful.proofs.Invariants.All.{holds}
use Rattle.lu_proof_lawful.proofs.Invariants.ObjectAnswers.{acted_object}
use Rattle.lu_proof_lawful.proofs.Invariants.OnNames.{IsOnNames, becomes_on_names}
use Rattle.lu_proof_lawful.proofs.Invariants.Ranges.{in_rest}
use Rattle.lu_proof_lawful.proofs.Refinement.Place.{place}
use Rattle.lu_proof_lawful.proofs.Refinement.Laying.{LaidIn, file_laid, works_laid, stat_laid}
use Rattle.lu_proof_lawful.proofs.Refinement.Uses.{held_gave, held_high}

-- ---- the stripes of a layout

-- what is wanted is of the target where its object lies
abbrev pub UsePlaced : ℕ → Use → Type 0
UsePlaced osts u = u.target.0 ≡ place osts u.resource

-- so is each of these
abbrev pub AllPlaced : ℕ → List Use → Type 0
AllPlaced osts us = (u : Use) → In u us → UsePlaced osts u

abbrev StripesPlaced : ℕ → Fid → Raid0 → Type 0
StripesPlaced osts fid l = (i : ℕ) → i < length l.targets → slice_index l.targets i ≡ place osts (object fid i)

stripes_placed : (osts : ℕ) (fid : Fid) (l : Raid0) → LaidIn osts fid l → StripesPlaced osts fid l
stripes_placed osts fid l (inl none) i low = let n = ap (λ (k : Raid0). length k.targets) none in absurd (omega (arith, low, n))
stripes_placed osts fid l (inr k) i low =
    (new_layouts osts k.0 k.1 k.2 l k.4).places i low ∙ ap (λ (n : ℕ). 1 + (n % 4294967296 + i) % osts) (ap (λ (f : Fid). f.0) k.3)

range_below : (from n i : ℕ) → In i (range_with_len from n) → i < from + n
range_below from zero i k = absurd k
range_below from (suc n) i (inl e) = omega (arith, e)
range_below from (suc n) i (inr k) = let less = range_below (from + 1) n i k in omega (arith, less)

module _ (osts : ℕ) (fid : Fid) (l : Raid0) (placed : StripesPlaced osts fid l) where
  abbrev Below : List ℕ → Type 0
  Below is = (i : ℕ) → In i is → i < length l.targets

  one : (mode : Mode) (i : ℕ) (extent : Extent) → i < length l.targets → (u : Use) → want l fid mode i extent ≡ u → UsePlaced osts u
  one mode i extent low u e = subst (UsePlaced osts) e (placed i low)

  run_placed : (mode : Mode) (p end : ℕ) (is : List ℕ) → Below is → AllPlaced osts (wants_run l fid mode p end is)
  run_placed mode p end [] low u = λ k. absurd k
  run_placed mode p end (i ∷ is) low u =
      cond_both (nat_lt (below_on l i p) (below_on l i end)) (want l fid mode i
      (record { first = below_on l i p; last = below_on l i end - 1 }) ∷ wants_run l fid mode p end is) (wants_run l fid mode p end is)
      (λ (v : List Use). In u v → UsePlaced osts u)
      (λ t. ⊎_elim (λ e. one mode i (record { first = below_on l i p; last = below_on l i end - 1 }) (low i (inl refl)) u e)
      (λ k. run_placed mode p end is (λ j q. low j (inr q)) u k))
      (λ t k. run_placed mode p end is (λ j q. low j (inr q)) u k)

  rest_placed : (p : ℕ) (is : List ℕ) → Below is → AllPlaced osts (wants_rest l fid p is)
  rest_placed p [] low u k = absurd k
  rest_placed p (i ∷ is) low u (inl e) = one PR i _ (low i (inl refl)) u e
  rest_placed p (i ∷ is) low u (inr k) = rest_placed p is (λ j q. low j (inr q)) u k

  cut_placed : (n : ℕ) (is : List ℕ) → Below is → AllPlaced osts (wants_cut l fid n is)
  cut_placed n [] low u k = absurd k
  cut_placed n (i ∷ is) low u (inl e) = one PW i _ (low i (inl refl)) u e
  cut_placed n (i ∷ is) low u (inr k) = cut_placed n is (λ j q. low j (inr q)) u k

  on_placed : (kind : Kind) (is : List ℕ) → Below is → AllPlaced osts (wants_on l fid kind is)
  on_placed (Narrow p n) is low = run_placed PR p (p + n) is low
  on_placed (Wide p n) is low = rest_placed p is low
  on_placed (Writes p bs) is low = run_placed PW p (p + length bs) is low
  on_placed (Cuts n) is low = cut_placed n is low
  on_placed (Stats mode links) is low = rest_placed 0 is low
  on_placed (Glimpses sizes) is low = rest_placed 0 is low

-- all that a call wants of a file's objects
pub wants_placed : (osts : ℕ) (fid : Fid) (l : Raid0) (kind : Kind) → LaidIn osts fid l → AllPlaced osts (wants_of l fid kind)
wants_placed osts fid l kind laid = on_placed osts fid l (stripes_placed osts fid l laid) kind (stripes l)
    (λ i k. let low = range_below 0 (length l.targets) i k in omega (arith, low))

-- ---- what is asked at one target

-- an operation on an object is asked of the target where that lies
abbrev pub OpPlaced : ℕ → ℕ → Op → Type 0
OpPlaced osts t o = (r : Resource) → object_of o ≡ Some r → t ≡ place osts r

abbrev AsksPlaced : ℕ → ℕ → List Line → Type 0
AsksPlaced osts t past =
    record {
      queues : (who : Who) (q : Queued) → In q (queue_of who past) → OpPlaced osts t q.op;
      flew : (who : Who) (f : Flight) → Flew past who f → OpPlaced osts t f.op;
    }

module _ (head : Head) (t : ℕ) (past : List Line) (stamp : Stamp) (h : AsksPlaced head.osts t past) where
  asks_queues : (c u : ℕ) (q : Queued) → OpPlaced head.osts t q.op
      → AsksPlaced head.osts t (line (turn stamp (Client c)) (Queues u q) ∷ past)
  asks_queues c u q ok =
      record {
        queues = λ who k. cond_both (is_own who past (Client c)) (queue_after (queue_of who past) (Queues u q)) (queue_of who past)
            (λ (qs : List Queued). In k qs → OpPlaced head.osts t k.op)
            (λ own i. ⊎_elim
            (λ (j : In k (queue_of who past)). h.queues who k j)
            (λ (j : In k (q ∷ [])). ⊎_elim (λ (e : q ≡ k). subst (λ (x : Queued). OpPlaced head.osts t x.op) e ok) (λ (n : ⊥). absurd n) j)
            (in_append k (queue_of who past) (q ∷ []) i))
            (λ other i. h.queues who k i);
        flew = h.flew;
      }

  asks_flies : (c u : ℕ) (f : Flight) → FliesOk head past c u f → AsksPlaced head.osts t (line (turn stamp (Client c)) (Flies u f) ∷ past)
  asks_flies c u f ok =
      record {
        queues = λ who k. cond_both (is_own who past (Client c)) (queue_after (queue_of who past) (Flies u f)) (queue_of who past)
            (λ (qs : List Queued). In k qs → OpPlaced head.osts t k.op)
            (λ own i. h.queues who k (in_rest k (queue_of who past) i))
            (λ other i. h.queues who k i);
        flew = λ who g. ⊎_elim
            (λ (n : (is_own who past (Client c) ≡ true) × (f ≡ g)). subst (λ (x : Flight). OpPlaced head.osts t x.op) n.1 front)
            (λ (o : Flew past who g). h.flew who g o);
      }
    where
      front : OpPlaced head.osts t f.op
      front =
          subst (λ (o : Op). OpPlaced head.osts t o) (ap (λ (x : Flight). x.op) (sym ok.is))
          (h.queues (life_of c past) ok.front (subst (λ (qs : List Queued). In ok.front qs) (sym ok.queue) (inl refl)))

  -- one line more; what it queues is so
  asks_line : (node : Node) (e : Entry) → EntryOf head past (turn stamp node) node e
      → ((u : ℕ) (q : Queued) → e ≡ Queues u q → OpPlaced head.osts t q.op) → AsksPlaced head.osts t (line (turn stamp node) e ∷ past)
  asks_line (Client c) (Queues u q) ok new = asks_queues c u q (new u q refl)
  asks_line (Client c) (Flies u f) ok new = asks_flies c u f ok
  asks_line (Target v) (Queues u q) ok new = absurd ok
  asks_line (Target v) (Flies u f) ok new = absurd ok
  asks_line node e ok new = h

-- ---- all of it

-- the locks that are left to ask for, or whose sizes are
abbrev LeftPlaced : ℕ → Stage → Type 0
LeftPlaced osts stage = (work : Work) → (stage ≡ Sizes work) ⊎ (stage ≡ Enqueued work) → AllPlaced osts work.left

abbrev UsedPlaced : ℕ → Stage → Type 0
UsedPlaced osts stage = (u : Using) → In u (used_in stage) → UsePlaced osts u.want

abbrev Placed : Head → List Line → Type 0
Placed head past =
    record {
      asks : (t : ℕ) → AsksPlaced head.osts t (only t past);
      left : (c slot : ℕ) (r : Running) → call_at c slot past ≡ Some r → LeftPlaced head.osts r.stage;
      used : (c slot : ℕ) (r : Running) → call_at c slot past ≡ Some r → UsedPlaced head.osts r.stage;
    }

-- a lock that a deed brings is on the object of its operation
granted_on : (o : Op) (r : ReplyTo) (a : Answer) (l : Lock) → In l (granted_lock o r a) → object_of o ≡ Some l.resource
granted_on (op.Enqueue resource mode extent) r (answer.Granted cookie got size) l (inl e) = ap (λ (k : Lock). Some k.resource) e
granted_on (op.Enqueue resource mode extent) r (answer.Granted cookie got size) l (inr i) = absurd i
granted_on o r a l i = absurd i

module _ (head : Head) (past : List Line) (g : Grown head past) (asks : (t : ℕ) → AsksPlaced head.osts t (only t past)) where
  -- what was done on an object was asked
  acted_placed : (t : ℕ) (d : Deed) → Acted (only t past) d → OpPlaced head.osts t d.op
  acted_placed t d a =
      let f = ((holds head past g).at t).done.flew d a in
      subst (OpPlaced head.osts t) f.3 ((asks t).flew d.reply.who f.0 f.1)

  gave_placed : (t : ℕ) → 0 < t → (d : Deed) (l : Lock) → Gave (only t past) d l → t ≡ place head.osts l.resource
  gave_placed t high d l gave = ⊎_elim
      (λ (i : In l (brought d.op d.reply)).
      let bare = (acted_object head past t d high g gave.0).bare in
      acted_placed t d gave.0 l.resource (granted_on d.op d.reply d.reply.answer l
      (subst (λ (ls : List Lock). In l (ls ++ granted_lock d.op d.reply d.reply.answer)) bare i)))
      (λ p. let k = ((holds head past g).at t).locks.promoted l p.0 in acted_placed t k.0 k.1.0 l.resource (ap object_of k.3.1))
      gave.1

  held_at_place : (c : ℕ) (k : HeldLock) → In k (held_at c past) → 0 < k.target.0 → k.target.0 ≡ place head.osts k.lock.resource
  held_at_place c k i high = let given = held_gave head past g c k k.target.0 refl i in gave_placed k.target.0 high given.0 k.lock given.1

  held_place_of : (c : ℕ) (k : HeldLock) → In k (held_at c past) → HasRange k.lock.ask.policy → k.target.0 ≡ place head.osts k.lock.resource
  held_place_of c k i range = held_at_place c k i (held_high head past g c k i range)

-- a call on names asks for none
names_none : (o : Op) → IsOnNames o → object_of o ≡ None
names_none (op.Enqueue r mode extent) on = absurd on
names_none (op.Get r cookie page) on = absurd on
names_none (op.Put r cookie offset bytes) on = absurd on
names_none (op.Cut r cookie size) on = absurd on
names_none (op.Size r) on = absurd on
names_none o on = refl

operation_on : (r : Resource) (cookie : Cookie) (change : Flush) → object_of (operation r cookie change) ≡ Some r
operation_on r cookie (Put offset bytes) = refl
operation_on r cookie (Cut size) = refl

same_some : (a b : Resource) → Some a ≡ Some b → a ≡ b
same_some a b e = cc

-- of a target where the object of this operation lies
on_place : (osts t : ℕ) (o : Op) (q : Resource) → object_of o ≡ Some q → t ≡ place osts q → OpPlaced osts t o
on_place osts t o q is at r e = at ∙ ap (place osts) (same_some q r (sym is ∙ e))

-- ---- one line more

module _ (head : Head) (past : List Line) (g : Grown head past) (placed : Placed head past) where
  queue_placed : (c t : ℕ) (q : Queued) → QueuesOk past c t q → OpPlaced head.osts t q.op
  queue_placed c t q (inl k) = by k.asks
    where
      first : (work : Work) (wanted : Use) (left : List Use) → (k.running.stage ≡ Sizes work) ⊎ (k.running.stage ≡ Enqueued work)
          → work.left ≡ wanted ∷ left → UsePlaced head.osts wanted
      first work wanted left stage is = placed.left c k.slot k.running k.call work stage wanted
          (subst (λ (us : List Use). In wanted us) (sym is) (inl refl))

      by : NamesAskOk past c t k.running q.op ⊎ SizeAskOk t k.running q.op ⊎ LockAskOk t k.running q.op ⊎ GetAskOk past c t k.running q.op
          → OpPlaced head.osts t q.op
      by (inl n) = λ r e. let none : None ≡ Some r = sym (names_none q.op (becomes_on_names k.running.file k.running.call q.op n.becomes))
          ∙ e in absurd (cc)
      by (inr (inl s)) = on_place head.osts t q.op s.wanted.resource (ap object_of s.of_op)
          (s.of_target ∙ first s.work s.wanted s.left (inl s.stage) s.first)
      by (inr (inr (inl s))) = on_place head.osts t q.op s.wanted.resource (ap object_of s.of_op)
          (s.of_target ∙ first s.work s.wanted s.left (inr s.stage) s.first)
      by (inr (inr (inr s))) =
          on_place head.osts t q.op s.page.under.want.resource (ap object_of s.of_op)
          (s.of_target ∙ placed.used c k.slot k.running k.call s.page.under
          (subst (λ (v : Stage). In s.page.under (used_in v)) (sym s.stage) s.used))
  queue_placed c t q (inr b) =
      on_place head.osts t q.op b.holding.lock.resource (ap object_of b.of_op
      ∙ operation_on b.holding.lock.resource b.holding.lock.cookie b.change)
      (sym b.of_target ∙ held_at_place head past g placed.asks c b.holding b.held (subst (λ (n : ℕ). 0 < n) (sym b.of_target) b.object))

  -- a lock that is taken into use
  use_placed : (c slot : ℕ) (r : Running) → call_at c slot past ≡ Some r → (u : Using) → In u (used_in r.stage) ⊎ HeldFor c past r u
      → UsePlaced head.osts u.want
  use_placed c slot r is u (inl i) = placed.used c slot r is u i
  use_placed c slot r is u (inr k) =
      sym k.locked.of_target ∙ held_place_of head past g placed.asks c k.locked.holding k.locked.held k.locked.ranged
      ∙ ap (place head.osts) k.locked.of_object

  -- what is left of a file's objects
  part_left : (all before left : List Use) → AllPlaced head.osts all → all ≡ before ++ left → AllPlaced head.osts left
  part_left all before left placed is u i = placed u (subst (λ (us : List Use). In u us) (sym is) (in_right u before left i))

-- a stage where something is left to ask for has that work
same_sizes : (a b : Work) → Sizes a ≡ Sizes b → a ≡ b
same_sizes a b e = cc

same_enqueued : (a b : Work) → Enqueued a ≡ Enqueued b → a ≡ b
same_enqueued a b e = cc

-- it asks for the objects of that work
abbrev IsLeft : Stage → Work → Type 0
IsLeft stage work = (stage ≡ Sizes work) ⊎ (stage ≡ Enqueued work)

left_enqueued : (stage : Stage) (a work : Work) → stage ≡ Enqueued a → IsLeft stage work → a ≡ work
left_enqueued stage a work is (inl e) = let x : Enqueued a ≡ Sizes work = sym is ∙ e in absurd (cc)
left_enqueued stage a work is (inr e) = same_enqueued a work (sym is ∙ e)

left_sizes : (stage : Stage) (a work : Work) → (stage ≡ Sizes a) ⊎ (stage ≡ Enqueued a) → IsLeft stage work → a ≡ work
left_sizes stage a work (inl is) (inl e) = same_sizes a work (sym is ∙ e)
left_sizes stage a work (inl is) (inr e) = let x : Sizes a ≡ Enqueued work = sym is ∙ e in absurd (cc)
left_sizes stage a work (inr is) (inl e) = let x : Enqueued a ≡ Sizes work = sym is ∙ e in absurd (cc)
left_sizes stage a work (inr is) (inr e) = same_enqueued a work (sym is ∙ e)

left_none : (stage : Stage) (work : Work) → IsLeft stage work → (stage ≡ Plain) ⊎ (stage ≡ Bad) → ⊥
left_none stage work (inl e) (inl b) = let x : Sizes work ≡ Plain = sym e ∙ b in cc
left_none stage work (inl e) (inr b) = let x : Sizes work ≡ Bad = sym e ∙ b in cc
left_none stage work (inr e) (inl b) = let x : Enqueued work ≡ Plain = sym e ∙ b in cc
left_none stage work (inr e) (inr b) = let x : Enqueued work ≡ Bad = sym e ∙ b in cc

begun_stage : (c : ℕ) (past : List Line) (r : Running) → Begins c past r → (r.stage ≡ Plain) ⊎ (r.stage ≡ Bad)
begun_stage c past r (inl b) = inl b.1
begun_stage c past r (inr b) = inr b.1

used_none : (stage : Stage) (u : Using) → (stage ≡ Plain) ⊎ (stage ≡ Bad) → In u (used_in stage) → ⊥
used_none stage u (inl b) i = subst (λ (v : Stage). In u (used_in v)) b i
used_none stage u (inr b) i = subst (λ (v : Stage). In u (used_in v)) b i

-- where a message moved it nothing is left to ask for
moved_left : (past : List Line) (at : At) (c : ℕ) (running : Running) (stage : Stage) (work : Work) → MovedStand past at c running stage
    → IsLeft stage work → ⊥
moved_left past at c running stage work (inl h) (inl e) = let x : Came h.work h.lock ≡ Sizes work = sym h.is ∙ e in cc
moved_left past at c running stage work (inl h) (inr e) = let x : Came h.work h.lock ≡ Enqueued work = sym h.is ∙ e in cc
moved_left past at c running stage work (inr (inl h)) (inl e) =
    let x : Waits h.work h.wanted.target (waiting_lock (life_at c past) h.cookie h.wanted) false ≡ Sizes work = sym h.is ∙ e in cc
moved_left past at c running stage work (inr (inl h)) (inr e) =
    let x : Waits h.work h.wanted.target (waiting_lock (life_at c past) h.cookie h.wanted) false ≡ Enqueued work = sym h.is ∙ e in cc
moved_left past at c running stage work (inr (inr (inl h))) (inl e) = let x : Waits h.work h.target h.lock true ≡ Sizes work = sym h.is ∙ e
    in cc
moved_left past at c running stage work (inr (inr (inl h))) (inr e) = let x : Waits h.work h.target h.lock true ≡ Enqueued work = sym h.is
    ∙ e in cc
moved_left past at c running stage work (inr (inr (inr (inl h)))) (inl e) = let x : Forgotten h.work ≡ Sizes work = sym h.is ∙ e in cc
moved_left past at c running stage work (inr (inr (inr (inl h)))) (inr e) = let x : Forgotten h.work ≡ Enqueued work = sym h.is ∙ e in cc
moved_left past at c running stage work (inr (inr (inr (inr h)))) (inl e) = let x : Looks h.work ≡ Sizes work = sym h.is ∙ e in cc
moved_left past at c running stage work (inr (inr (inr (inr h)))) (inr e) = let x : Looks h.work ≡ Enqueued work = sym h.is ∙ e in cc

module _ (head : Head) (l : Line) (past : List Line) (g : Grown head (l ∷ past)) (fit : PinsFit (l ∷ past)) (placed : Placed head past)
    (c slot : ℕ) (r : Running) (is : call_at c slot (l ∷ past) ≡ Some r) where
  -- a call that goes on
  stood_left : StoodAt past l.at c slot r → LeftPlaced head.osts r.stage
  stood_left q work left = by ok.how
    where
      ok : StandsOk past l.at c slot r
      ok = q.stands

      stage_is : r.stage ≡ ok.stage
      stage_is = ap (λ (v : Running). v.stage) ok.is

      left_is : IsLeft ok.stage work
      left_is = subst (λ (v : Stage). IsLeft v work) stage_is left

      So : Work → Type 0
      So w = AllPlaced head.osts w.left

      by : SizesStand past l.at ok.running ok.stage ok.pins ⊎ LockStand past c ok.running ok.stage
          ⊎ StatStand past l.at c ok.running ok.stage ok.pins ⊎ GetStand past c ok.running ok.stage ok.pins
          ⊎ FlushStand past c ok.running ok.stage ok.pins ⊎ ((ok.pins ≡ ok.running.pins) × MovedStand past l.at c ok.running ok.stage)
          → So work
      by (inl h) =
          let file = h.has.file in
          subst So (left_sizes ok.stage h.work work (⊎_elim (λ e. inl e) (λ e. inr e.0) h.is) left_is)
          (part_left head past g.1 placed (wants_of file.layout file.fid (Glimpses [])) h.before h.work.left
          (wants_placed head.osts file.fid file.layout (Glimpses []) (file_laid head past g.1 c slot ok.running file ok.call h.has.of_file))
          h.has.all)
      by (inr (inl h)) =
          subst So (left_enqueued ok.stage h.work work h.is left_is)
          (part_left head past g.1 placed (wanted_by h.work) (map (λ (u : Using). u.want) h.work.used) h.work.left
          (wants_placed head.osts h.work.fid h.work.layout h.work.kind (works_laid head past g.1 c slot ok.running ok.call h.work h.does))
          h.lacks.order)
      by (inr (inr (inl h))) =
          subst So (left_enqueued ok.stage h.work work h.is left_is)
          (part_left head past g.1 placed (wanted_by h.work) (map (λ (u : Using). u.want) h.work.used) h.work.left
          (wants_placed head.osts h.work.fid h.work.layout h.work.kind
          (stat_laid head (l ∷ past) g fit c slot r is h.stat.path h.work h.stat.mode h.stat.links
          (ap (λ (v : Running). v.call) ok.is ∙ h.stat.stats) (ap work_in (stage_is ∙ h.is)) h.kind)) h.lacks.order)
      by (inr (inr (inr (inl h)))) = absurd (⊎_elim
          (λ (e : ok.stage ≡ Sizes work). let x : Gets h.work ≡ Sizes work = sym h.is ∙ e in cc)
          (λ (e : ok.stage ≡ Enqueued work). let x : Gets h.work ≡ Enqueued work = sym h.is ∙ e in cc) left_is)
      by (inr (inr (inr (inr (inl h))))) = absurd (⊎_elim
          (λ (e : ok.stage ≡ Sizes work). let x : Flushing h.stripe ≡ Sizes work = sym h.is ∙ e in cc)
          (λ (e : ok.stage ≡ Enqueued work). let x : Flushing h.stripe ≡ Enqueued work = sym h.is ∙ e in cc) left_is)
      by (inr (inr (inr (inr (inr h))))) = absurd (moved_left past l.at c ok.running ok.stage work h.1 left_is)

  stood_used : StoodAt past l.at c slot r → UsedPlaced head.osts r.stage
  stood_used q u i =
      let ok = q.stands in
      use_placed head past g.1 placed c slot ok.running ok.call u
      (ok.uses u (subst (λ (v : Stage). In u (used_in v)) (ap (λ (v : Running). v.stage) ok.is) i))

  left_line : LeftPlaced head.osts r.stage
  left_line work left = ⊎_elim
      (λ (same : call_at c slot past ≡ Some r). placed.left c slot r same work left)
      (λ k. ⊎_elim
      (λ (q : Began past l.at l.entry c slot r). absurd (left_none r.stage work left (begun_stage c past r q.begins)))
      (⊎_elim
      (λ (q : Touched past l.at.node l.entry c slot r). subst (λ (v : Stage). LeftPlaced head.osts v) q.stage
      (placed.left c slot q.before q.call) work left)
      (λ (q : StoodAt past l.at c slot r). stood_left q work left))
      k)
      (call_cases past l.at.stamp l.at.node l.entry g.0.ok c slot r is)

  used_line : UsedPlaced head.osts r.stage
  used_line u i = ⊎_elim
      (λ (same : call_at c slot past ≡ Some r). placed.used c slot r same u i)
      (λ k. ⊎_elim
      (λ (q : Began past l.at l.entry c slot r). absurd (used_none r.stage u (begun_stage c past r q.begins) i))
      (⊎_elim
      (λ (q : Touched past l.at.node l.entry c slot r). subst (λ (v : Stage). UsedPlaced head.osts v) q.stage
      (placed.used c slot q.before q.call) u i)
      (λ (q : StoodAt past l.at c slot r). stood_used q u i))
      k)
      (call_cases past l.at.stamp l.at.node l.entry g.0.ok c slot r is)

-- ---- every line

placed_line : (head : Head) (l : Line) (past : List Line) → Grown head (l ∷ past) → PinsFit (l ∷ past) → Placed head past
    → Placed head (l ∷ past)
placed_line head l past g fit before =
    record {
      asks = λ t. cond_both (concerns t l.at.node l.entry) (l ∷ only t past) (only t past) (AsksPlaced head.osts t)
          (λ here. asks_line head t (only t past) l.at.stamp (before.asks t) l.at.node l.entry (g.0.of t here) (queued t here))
          (λ other. before.asks t);
      left = λ c slot r is. left_line head l past g fit before c slot r is;
      used = λ c slot r is. used_line head l past g fit before c slot r is;
    }
  where
    queued : (t : ℕ) → concerns t l.at.node l.entry ≡ true → (u : ℕ) (q : Queued) → l.entry ≡ Queues u q → OpPlaced head.osts t q.op
    queued t here u q is = by l.at.node (subst (λ (e : Entry). EntryOk past l.at l.at.node e) is g.0.ok)
        (subst (λ (e : Entry). concerns t l.at.node e ≡ true) is here)
      where
        by : (node : Node) → EntryOk past l.at node (Queues u q) → concerns t node (Queues u q) ≡ true → OpPlaced head.osts t q.op
        by (Client c) ok there = subst (λ (v : ℕ). OpPlaced head.osts v q.op) (sym (eqb-true t u there))
            (queue_placed head past g.1 before c u q ok)
        by (Target v) ok there = absurd ok

place_all : (head : Head) (past : List Line) → Grown head past → PinsFit past → Placed head past
place_all head [] g fit =
    record {
      asks = λ t. record { queues = λ who q i. absurd i; flew = λ who f a. absurd a };
      left = λ c slot r e. absurd (cc);
      used =
          λ c slot r e. absurd (cc);
    }
place_all head (l ∷ past) g fit = placed_line head l past g fit (place_all head past g.1 fit.1)

-- what was asked of an object was asked of the target where it lies
pub flew_place : (head : Head) (past : List Line) (t : ℕ) (who : Who) (f : Flight) (r : Resource) → Grown head past → PinsFit past
    → Flew (only t past) who f → object_of f.op ≡ Some r → t ≡ place head.osts r
flew_place head past t who f r g fit a on = ((place_all head past g fit).asks t).flew who f a r on

-- so was what was done there
pub acted_place : (head : Head) (past : List Line) (t : ℕ) (d : Deed) (r : Resource) → Grown head past → PinsFit past
    → Acted (only t past) d → object_of d.op ≡ Some r → t ≡ place head.osts r
acted_place head past t d r g fit a on = acted_placed head past g (place_all head past g fit).asks t d a r on

-- a lock that is held on a range of an object is of that target
pub held_place : (head : Head) (past : List Line) → Grown head past → PinsFit past → (c : ℕ) (k : HeldLock) (r : Resource)
    → In k (held_at c past) → k.lock.resource ≡ r → HasRange k.lock.ask.policy → k.target.0 ≡ place head.osts r
held_place head past g fit c k r i on range = held_place_of head past g (place_all head past g fit).asks c k i range
    ∙ ap (place head.osts) on
