-- A client hears an answer: what it keeps of the object once all of it is marked is what the story says, whether it is of the object or of
-- another.
use Rattle.std.proofs.Common.{◌≡◌, ℕ, ◌<◌, Bool, true, false, List, [], ◌∷◌, ◌++◌, length, Option, Some, None, ◌⊎◌, inl, inr, ⊎_elim, refl}
use Rattle.std.proofs.Common.{sym, subst, ap, ◌∙◌, arith}
use Rattle.std.specs.Prelude.{nat_eq, ◌==◌, if◌then◌else◌, option_map}
use Rattle.std.proofs.lemmas.Bool.Decides.{nat_tests}
use Rattle.lu_base.specs.declared.ids.Cookie.{Cookie}
use Rattle.lu_base.specs.declared.ids.Node.TheVariants.{Client, Target}
use Rattle.lu_base.specs.declared.ids.Stamp.{Stamp}
use Rattle.lu_base.specs.declared.ids.Who.{Who}
use Rattle.lu_base.specs.declared.locks.Extent.{Extent}
use Rattle.lu_base.specs.declared.locks.Lock.{Lock as TableLock}
use Rattle.lu_base.specs.declared.locks.Mode.{Mode}
use Rattle.lu_base.specs.declared.locks.Policy.{Policy}
use Rattle.lu_base.specs.declared.locks.Policy.TheVariants.{Bits, Range}
use Rattle.lu_base.specs.declared.locks.Resource.{Resource}
use Rattle.lu_held.specs.declared.locks.HeldLock.{HeldLock}
use Rattle.lu_held.specs.declared.names.LockName.{LockName}
use Rattle.lu_held.specs.Locks.{named, is_named, same_resource, reaches_end}
use Rattle.lu_msg.specs.declared.answers.Answer.{Answer as TableAnswer}
use Rattle.lu_msg.specs.declared.answers.Answer.TheVariants as told
use Rattle.lu_msg.specs.declared.messages.Reply.{Reply as ReplyTo}
use Rattle.lu_msg.specs.declared.operations.Op.{Op as TableOp}
use Rattle.lu_msg.specs.declared.operations.Op.TheVariants as op
use Rattle.lu_spec_entries.specs.declared.changes.Flush.TheVariants as flush
use Rattle.lu_spec_entries.specs.Carried.{Flight}
use Rattle.lu_spec_entries.specs.Words as word
use Rattle.lu_spec_entries.specs.Words.{Line, line}
use Rattle.lu_spec_entries.specs.Concerns.{only}
use Rattle.lu_spec_client.specs.Bytes.{Bytes}
use Rattle.lu_spec_client.specs.Caches.{patch_at, bytes_at, noted, held_at, brought, granted_lock}
use Rattle.lu_spec_client.specs.Calls.{life_at}
use Rattle.lu_spec_client.specs.Messages.{size_with, holds, learns, held_as, part_first, part_count}
use Rattle.lu_spec_client.specs.Patches.{Patch, Flying, CutFlies, BytesFly}
use Rattle.lu_spec_client.specs.Sending.{object_of}
use Rattle.lu_spec_client.specs.States.{Store, store_after, store_turn, store_at}
use Rattle.lu_spec_client.specs.WriteBack.{operation}
use Rattle.lu_proof_lawful.specs.Covered.ClientStates.{life_of, queue_of, flights_of}
use Rattle.lu_proof_lawful.specs.Covered.Heads.{Head}
use Rattle.lu_proof_lawful.proofs.Preconditions.Acts.{IsBits, kind_ranges}
use Rattle.lu_proof_lawful.proofs.Preconditions.ClientLines.{held_once, once_same}
use Rattle.lu_proof_lawful.proofs.Preconditions.ClientLocks.{Once}
use Rattle.lu_proof_lawful.proofs.Preconditions.Heard.{In, HasRange}
use Rattle.lu_proof_lawful.proofs.Preconditions.Held.{held_back}
use Rattle.lu_proof_lawful.proofs.Preconditions.HeedMarks.{heeds_marks, owes, owed_of}
use Rattle.lu_proof_lawful.proofs.Preconditions.Heeds.{none_owed, owed_heard, store_line}
use Rattle.lu_proof_lawful.proofs.Preconditions.Lists.{self, turn}
use Rattle.lu_proof_lawful.proofs.Preconditions.LockKinds.{given_of, held_kind, reply_bare}
use Rattle.lu_proof_lawful.proofs.Preconditions.Parts.{life_is_of}
use Rattle.lu_proof_lawful.proofs.Preconditions.StoryGuards.{HeardOk}
use Rattle.lu_proof_lawful.proofs.Invariants.TargetGroups.{Flew}
use Rattle.lu_spec_target.specs.Queues.{extent_in}
use Rattle.lu_proof_objects.proofs.Tables.{object_is, object_self}
use Rattle.lu_proof_bytes.specs.Object.Words as words
use Rattle.lu_proof_bytes.specs.Object.Words.{Lock, Write, Cut, Op, Get, Flush, Entry, Heard}
use Rattle.lu_proof_bytes.specs.Object.Folds as says
use Rattle.lu_proof_bytes.specs.Object.Folds.{WriteBack}
use Rattle.lu_proof_bytes.specs.Object.Guards.{Allowed}
use Rattle.lu_proof_bytes.proofs.Object.Spot.{Flown}
use Rattle.lu_proof_objects.specs.Points.{is_write, last_of}
use Rattle.lu_proof_lawful.specs.Projection.Lives.{number_of, is_live}
use Rattle.lu_proof_lawful.specs.Projection.Locks.{lock_of, range_of, given}
use Rattle.lu_proof_lawful.specs.Projection.Messages.{request_as}
use Rattle.lu_proof_lawful.specs.Projection.Requests.{op_of, get_under, answer_by}
use Rattle.lu_proof_lawful.specs.Projection.Stories.{with_entry, story}
use Rattle.lu_proof_lawful.proofs.Projection.Lookups.{given_was}
use Rattle.lu_proof_lawful.proofs.Refinement.Tied.{Here, Grows}
use Rattle.lu_proof_lawful.proofs.Refinement.TiedStore.{StoreFits, StoreBy, store_owed, life_number, shown_story}
use Rattle.lu_proof_lawful.proofs.Refinement.TiedAsked.{IsOn, HasLock, is_back, flying_backs, queued_backs, backs_of, TakenAs, BacksTaken}
use Rattle.lu_proof_lawful.proofs.Refinement.TiedAsked.{HasBytes, AskedBy}
use Rattle.lu_proof_lawful.proofs.Refinement.AskedSteps.{live_before}
use Rattle.lu_proof_lawful.proofs.Refinement.NeverRefused.{put_done}
use Rattle.lu_proof_lawful.proofs.Refinement.Placed.{flew_place}
use Rattle.lu_proof_lawful.proofs.Refinement.PointsKnown.{range_is}
use Rattle.lu_proof_lawful.proofs.Refinement.StoreHears.{Comes, Under, hear_lock, hear_size, hear_put, hear_cut, hear_page, hear_nothing}
use Rattle.lu_proof_lawful.proofs.Refinement.StoreHolds.{hold_ok}
use Rattle.lu_proof_lawful.proofs.Refinement.StoreKept.{fits_sizes}
use Rattle.lu_proof_lawful.proofs.Refinement.StoreMarks.{Away, away_both, Elsewhere, turn_both, holds_held, holds_sizes, learns_same}
use Rattle.lu_proof_lawful.proofs.Refinement.StoreMarks.{holds_in, in_either, learns_none, marks_none, marks_away, granted_on}
use Rattle.lu_proof_lawful.proofs.Refinement.StoreOwn.{fits_notes, grown_by, own_told}
use Rattle.lu_proof_lawful.proofs.Refinement.StoreTakes.{patch_rises}

-- ---- the lock of a name

held_is : (name : LockName) (hs : List HeldLock) (k : HeldLock) → Once hs → In k hs → is_named name k ≡ true → held_as name hs ≡ Some k.lock
held_is name [] k once i e = absurd i
held_is name (y ∷ hs) k once i e = by (is_named name y) refl (held_is name hs k once.1)
  where
    by : (b : Bool) → is_named name y ≡ b → (In k hs → is_named name k ≡ true → held_as name hs ≡ Some k.lock)
        → (if b then Some y.lock else held_as name hs) ≡ Some k.lock
    by true q more = ap (λ (x : HeldLock). Some x.lock) (sym (once_same (y ∷ hs) k y once i (inl refl) (grind (arith, nat_tests, e, q))))
    by false q more = ⊎_elim (λ (s : y ≡ k). absurd (let z : true ≡ false = sym e ∙ ap (is_named name) (sym s) ∙ q in cc))
        (λ (j : In k hs). more j e) i

-- ---- what is written back has a byte

in_backs : (r : Resource) (fs : List Flight) (f : Flight) → In f fs → is_back r f.op ≡ true → In f.op (flying_backs r fs)
in_backs r [] f i back = absurd i
in_backs r (g ∷ fs) f (inl e) back = let here : is_back r g.op ≡ true = ap (λ (x : Flight). is_back r x.op) e ∙ back
    in rw here (inl (ap (λ (x : Flight). x.op) e))
in_backs r (g ∷ fs) f (inr i) back = by (is_back r g.op) (in_backs r fs f i back)
  where
    by : (b : Bool) → In f.op (flying_backs r fs) → In f.op (if b then g.op ∷ flying_backs r fs else flying_backs r fs)
    by true j = inr j
    by false j = j

in_second : {A : Type 0} (x : A) (xs ys : List A) → In x ys → In x (xs ++ ys)
in_second x [] ys i = i
in_second x (y ∷ xs) ys i = inr (in_second x xs ys i)

put_some : (r : Resource) (cookie k : Cookie) (at : ℕ) (bs : List ℕ) (change : _) → op.Put r cookie at bs ≡ operation r k change
    → HasBytes change → 0 < length bs
put_some r cookie k at bs (flush.Put a cs) e some = let same : bs ≡ cs = cc in let n = ap length same in omega (arith, n, some)
put_some r cookie k at bs (flush.Cut n) e some = absurd (cc)

taken_bytes : (k at : ℕ) (bs : List ℕ) (f : Option Flying) → TakenAs (Some (record { lock = k; change = Write at bs })) f → f
    ≡ Some BytesFly
taken_bytes k at bs None tie = absurd tie
taken_bytes k at bs (Some BytesFly) tie = refl
taken_bytes k at bs (Some (CutFlies n)) tie = absurd (cc)

taken_cut : (k n : ℕ) (f : Option Flying) → TakenAs (Some (record { lock = k; change = Cut n })) f → f ≡ Some (CutFlies n)
taken_cut k n None tie = absurd tie
taken_cut k n (Some BytesFly) tie = absurd (let e = tie.2 in cc)
taken_cut k n (Some (CutFlies m)) tie = let same : n ≡ m = cc in ap (λ (x : ℕ). Some (CutFlies x)) (sym same)

module _ (head : Head) (t : ℕ) (r : Resource) (stamp : Stamp) (c : ℕ) (past : List Line) (u : ℕ) (f : Flight) (p : ReplyTo)
    (here : Here head t r (line (turn stamp (Client c)) (word.Heard u f p)) past)
    (g : Grows (story t r past) (story t r (grown_by head t r stamp c past (word.Heard u f p))))
    (live : is_live c (grown_by head t r stamp c past (word.Heard u f p))
    (story t r (grown_by head t r stamp c past (word.Heard u f p))) ≡ true) where
  abbrev e : word.Entry
  e = word.Heard u f p

  abbrev now : List Line
  now = grown_by head t r stamp c past e

  abbrev h : List Entry
  h = story t r past

  abbrev w : ℕ
  w = life_number c past

  before : is_live c past h ≡ true
  before = live_before c (line (turn stamp (Client c)) e) past h (story t r now) refl g live

  none : owed_of c past ≡ []
  none = none_owed c past (line (turn stamp (Client c)) e) (here.stood.heeds.0 c) (λ x. x)

  asked : AskedBy t r past c
  asked = here.tied.asked.of c before

  ok : HeardOk (only u past) c f p
  ok = here.stood.ok.of u (self u)

  -- the store as the answer finds it
  abbrev z : Store
  z = store_after (store_at c past) e

  store_was : store_owed c past ≡ store_at c past
  store_was = ap (store_turn (store_at c past)) none

  fits : StoreFits t r (patch_at r z.patches) (bytes_at r z.bytes) z.sizes z.shown w [] h h
  fits =
      subst (λ (x : List Entry). StoreFits t r (patch_at r (store_at c past).patches) (bytes_at r (store_at c past).bytes)
      (store_at c past).sizes (store_at c past).shown w [] h x) (own_told head t r stamp c past e here (λ x. x))
      (subst (λ (es : List word.Entry). StoreFits t r (patch_at r (store_at c past).patches) (bytes_at r (store_at c past).bytes)
      (store_at c past).sizes (store_at c past).shown w es h (shown_story c r past h)) none
      (subst (λ (s : Store). StoreFits t r (patch_at r s.patches) (bytes_at r s.bytes) s.sizes s.shown w (owed_of c past) h
      (shown_story c r past h)) store_was (here.tied.store.of c before)))

  abbrev owing_now : List word.Entry
  owing_now = owes u f p (held_at c past)

  -- so all of it, from what is owed now and what the story is
  whole : (k : List Entry) → story t r now ≡ k → StoreFits t r (patch_at r (store_turn z owing_now).patches)
      (bytes_at r (store_turn z owing_now).bytes) (store_turn z owing_now).sizes (store_turn z owing_now).shown w owing_now k k
      → StoreBy t r now (story t r now) c
  whole k is s =
      let owed = owed_heard c stamp past u f p in
      let store : store_owed c now ≡ store_turn z owing_now = ap (store_turn (store_at c now)) owed
      ∙ ap (λ (x : Store). store_turn x owing_now) (store_line c stamp past e) in
      subst (λ (x : Store). StoreFits t r (patch_at r x.patches) (bytes_at r x.bytes) x.sizes x.shown w (owed_of c now) (story t r now)
      (story t r now)) (sym store)
      (subst (λ (es : List word.Entry). StoreFits t r (patch_at r (store_turn z owing_now).patches)
      (bytes_at r (store_turn z owing_now).bytes) (store_turn z owing_now).sizes (store_turn z owing_now).shown w es (story t r now)
      (story t r now)) (sym owed)
      (subst (λ (x : List Entry). StoreFits t r (patch_at r (store_turn z owing_now).patches) (bytes_at r (store_turn z owing_now).bytes)
      (store_turn z owing_now).sizes (store_turn z owing_now).shown w owing_now x x) (sym is) s))

  -- ---- of another object

  -- its locks on names have no end
  names_end : (l : TableLock) → In l p.locks → (reaches_end l.ask.policy ≡ false) × ((lock_of l).last ≡ None → ⊥)
  names_end l i = by l.ask.policy refl (((given_of head u past here.stood.grown).has.sent (Target ok.from) (Client c) p ok.was).locks l i).2
    where
      by : (q : Policy) → l.ask.policy ≡ q → IsBits q → (reaches_end l.ask.policy ≡ false) × ((lock_of l).last ≡ None → ⊥)
      by (Bits b) is k = (rw is refl, λ last. let x : Some 0 ≡ None = sym (ap (λ (q : Policy). last_of (extent_in q).last) is) ∙ last in cc)
      by (Range x) is k = absurd k

  flew : Flew (only u past) (life_of c (only u past)) f
  flew = ((here.stood.before).at u).numbers.flying (life_of c (only u past)) f ok.flying

  bare : u ≡ t → p.locks ≡ []
  bare there = let high = here.some in reply_bare head u past here.stood.grown (omega (arith, there, high)) (Target ok.from) (Client c) p
      ok.was

  away_by : ((q : Resource) → object_of f.op ≡ Some q → same_resource q r ≡ false) → story t r now ≡ h → StoreBy t r now (story t r now) c
  away_by away is =
      whole h is
      (subst (λ (x : Patch). StoreFits t r x (bytes_at r (store_turn z owing_now).bytes) (store_turn z owing_now).sizes
      (store_turn z owing_now).shown w owing_now h h) (sym all.patch)
      (subst (λ (x : Bytes). StoreFits t r (patch_at r z.patches) x (store_turn z owing_now).sizes (store_turn z owing_now).shown w
      owing_now h h) (sym all.bytes)
      (fits_notes t r (patch_at r z.patches) (bytes_at r z.bytes) z.sizes z.shown (store_turn z owing_now).sizes
      (store_turn z owing_now).shown w owing_now h h all.sizes all.shown
      (fits_sizes t r (patch_at r z.patches) (bytes_at r z.bytes) z.sizes z.shown w [] h h fits z.sizes owing_now (λ l i v. refl)
      (λ lock m n y i on last. absurd (free lock m n y i on last))))))
    where
      first : List word.Entry
      first = holds u (size_with p.answer) p.seen (brought f.op p) ++ learns u f.op p.answer p.locks

      begun : Store
      begun = store_turn z first

      other_lock : (l : TableLock) → In l (brought f.op p) → (k : Cookie) → Elsewhere r k l
      other_lock l i k = ⊎_elim
          (λ (j : In l p.locks). inr (names_end l j).0)
          (λ (j : In l (granted_lock f.op p p.answer)). inl (let o = away l.resource (granted_on f.op p p.answer l j) in rw o refl))
          (in_either l p.locks (granted_lock f.op p p.answer) i)

      begins : begun ≡ store_turn z (holds u (size_with p.answer) p.seen (brought f.op p))
      begins = turn_both (holds u (size_with p.answer) p.seen (brought f.op p)) (learns u f.op p.answer p.locks) z
          ∙ learns_same u f.op p.answer p.locks (store_turn z (holds u (size_with p.answer) p.seen (brought f.op p)))

      locks : Away r z begun
      locks =
          let held = holds_held u (size_with p.answer) p.seen (brought f.op p) z in
          subst (λ (x : Store). Away r z x) (sym begins)
          (record {
            patch = ap (patch_at r) held.patches;
            bytes = ap (bytes_at r) held.bytes;
            sizes = λ k. holds_sizes r k u (size_with p.answer) p.seen (brought f.op p) z (λ l i. other_lock l i k);
            shown = λ k. ap (noted r k) held.shown;
          })

      all : Away r z (store_turn z owing_now)
      all = subst (λ (x : Store). Away r z x) (sym (turn_both first (heeds_marks u f.op p.answer (held_at c past)) z))
          (away_both r z begun (store_turn begun (heeds_marks u f.op p.answer (held_at c past))) locks
          (marks_away r u f.op p.answer (held_at c past) begun away))

      free : (lock : TableLock) (m : Bool) (n : Option ℕ) (y : List ℕ) → In (word.Hold t lock m n y) owing_now → lock.resource ≡ r
          → (lock_of lock).last ≡ None → ⊥
      free lock m n y i on last = ⊎_elim
          (λ (j : In (word.Hold t lock m n y) first). ⊎_elim
          (λ (k : In (word.Hold t lock m n y) (holds u (size_with p.answer) p.seen (brought f.op p))). found
          (holds_in t u (size_with p.answer) n p.seen y m (brought f.op p) lock k))
          (λ (k : In (word.Hold t lock m n y) (learns u f.op p.answer p.locks)). learns_none u f.op p.answer p.locks t lock m n y k)
          (in_either (word.Hold t lock m n y) (holds u (size_with p.answer) p.seen (brought f.op p)) (learns u f.op p.answer p.locks) j))
          (λ (j : In (word.Hold t lock m n y) (heeds_marks u f.op p.answer (held_at c past))). marks_none u f.op p.answer (held_at c past) t
          lock m n y j)
          (in_either (word.Hold t lock m n y) first (heeds_marks u f.op p.answer (held_at c past)) i)
        where
          found : (u ≡ t) × In lock (brought f.op p) × (n ≡ size_with p.answer) → ⊥
          found k = ⊎_elim
              (λ (j : In lock p.locks). (names_end lock j).1 last)
              (λ (j : In lock (granted_lock f.op p p.answer)). let o = away lock.resource (granted_on f.op p p.answer lock j)
              in let x : true ≡ false = sym (object_self r) ∙ ap (λ (q : Resource). same_resource q r) (sym on) ∙ o in cc)
              (in_either lock p.locks (granted_lock f.op p p.answer) k.1)

  -- ---- of the object

  -- what is owed, by the target, the locks that came, the operation and the answer; and what the story is then
  abbrev owing_by : ℕ → List TableLock → TableOp → TableAnswer → List word.Entry
  owing_by v ls o a = (holds v (size_with a) p.seen (ls ++ granted_lock o p a) ++ learns v o a ls) ++ heeds_marks v o a (held_at c past)

  abbrev said : TableOp → TableAnswer → List Entry
  said o a = with_entry (option_map (λ x. Heard (request_as w f.xid x) (answer_by w p x a)) (op_of r h o)) h

  abbrev Goal : ℕ → List TableLock → TableOp → TableAnswer → List Entry → Type 0
  Goal v ls o a k =
      StoreFits t r (patch_at r (store_turn z (owing_by v ls o a)).patches) (bytes_at r (store_turn z (owing_by v ls o a)).bytes)
      (store_turn z (owing_by v ls o a)).sizes (store_turn z (owing_by v ls o a)).shown w (owing_by v ls o a) k k

  abbrev ComesAs : TableOp → Op → TableAnswer → Type 0
  ComesAs o x a = Comes t r w f.xid h here.world here.all p (held_at c past) z z fits x (answer_by w p x a)

  abbrev AllCome : TableOp → TableAnswer → Type 0
  AllCome o a = (x : Op) → op_of r h o ≡ Some x → ComesAs o x a

  here_story : u ≡ t → story t r now ≡ said f.op p.answer
  here_story there = let at : nat_eq u t ≡ true = ap (λ (v : ℕ). nat_eq v t) there ∙ self t in rw (at, before) refl

  all_come : u ≡ t → AllCome f.op p.answer
  all_come there x is =
      let b = answer_by w p x p.answer in
      let q = request_as w f.xid x in
      let grown : story t r now ≡ Heard q b ∷ h = here_story there
      ∙ ap (λ (o : Option Op). with_entry (option_map (λ y. Heard (request_as w f.xid y) (answer_by w p y p.answer)) o) h) is in
      let k : Allowed h (Heard q b) = hold_ok head t r stamp c past (story t r now) h (Heard q b) grown g in
      record { flies = k.0; answered = here.world.numbers.replies w f.xid b k.1 }

  -- it is in flight
  in_flight_here : u ≡ t → In f (flights_of (life_at c past) (only t past))
  in_flight_here there = subst (λ (v : ℕ). In f (flights_of (life_at c past) (only v past))) there
      (subst (λ (v : Who). In f (flights_of v (only u past))) (sym (life_is_of c u past)) ok.flying)

  -- a lock
  lock_by : (mode : Mode) (extent : Extent) → AllCome (op.Enqueue r mode extent) p.answer
      → Goal t [] (op.Enqueue r mode extent) p.answer (said (op.Enqueue r mode extent) p.answer)
  lock_by mode extent come =
      let x = words.Enqueue (is_write mode) extent.first (last_of extent.last) in
      let is : op_of r h (op.Enqueue r mode extent) ≡ Some x = rw (object_self r) refl in
      subst (λ (k : List Entry). Goal t [] (op.Enqueue r mode extent) p.answer k)
      (sym (ap (λ (o : Option Op). with_entry (option_map (λ y. Heard (request_as w f.xid y) (answer_by w p y p.answer)) o) h) is))
      (hear_lock t r w f.xid h here.world here.all p (held_at c past) z z fits mode extent p.answer (come x is))

  -- a size
  size_by : Goal t [] (op.Size r) p.answer (said (op.Size r) p.answer)
  size_by =
      let is : op_of r h (op.Size r) ≡ Some words.Size = rw (object_self r) refl in
      subst (λ (k : List Entry). Goal t [] (op.Size r) p.answer k)
      (sym (ap (λ (o : Option Op). with_entry (option_map (λ y. Heard (request_as w f.xid y) (answer_by w p y p.answer)) o) h) is))
      (hear_size t r w f.xid h here.world here.all p (held_at c past) z z fits p.answer)

  -- a write-back
  put_by : (cookie : Cookie) (at : ℕ) (bs : List ℕ) → AllCome (op.Put r cookie at bs) told.Done → 0 < length bs
      → Goal t [] (op.Put r cookie at bs) told.Done (said (op.Put r cookie at bs) told.Done)
  put_by cookie at bs come some =
      let x = Flush cookie.0 (Write at bs) in
      let is : op_of r h (op.Put r cookie at bs) ≡ Some x = rw (object_self r) refl in
      let taken = here.world.patches.flush w cookie.0 (Write at bs) (request_as w f.xid x) (come x is).flies refl in
      let flies = taken_bytes cookie.0 at bs (patch_at r (store_at c past).patches).flight
      (subst (λ (s : Store). TakenAs (Some (record { lock = cookie.0; change = Write at bs })) (patch_at r s.patches).flight) store_was
      (subst (λ (v : Option WriteBack). TakenAs v (patch_at r (store_owed c past).patches).flight) taken asked.taken)) in
      subst (λ (k : List Entry). Goal t [] (op.Put r cookie at bs) told.Done k)
      (sym (ap (λ (o : Option Op). with_entry (option_map (λ y. Heard (request_as w f.xid y) (answer_by w p y told.Done)) o) h) is))
      (hear_put t r w f.xid h here.world here.all p (held_at c past) z z fits cookie at bs some (patch_rises c past r) flies)

  cut_by : (cookie : Cookie) (n : ℕ) → AllCome (op.Cut r cookie n) told.Done
      → Goal t [] (op.Cut r cookie n) told.Done (said (op.Cut r cookie n) told.Done)
  cut_by cookie n come =
      let x = Flush cookie.0 (Cut n) in
      let is : op_of r h (op.Cut r cookie n) ≡ Some x = rw (object_self r) refl in
      let taken = here.world.patches.flush w cookie.0 (Cut n) (request_as w f.xid x) (come x is).flies refl in
      let flies = taken_cut cookie.0 n (patch_at r (store_at c past).patches).flight
      (subst (λ (s : Store). TakenAs (Some (record { lock = cookie.0; change = Cut n })) (patch_at r s.patches).flight) store_was
      (subst (λ (v : Option WriteBack). TakenAs v (patch_at r (store_owed c past).patches).flight) taken asked.taken)) in
      subst (λ (k : List Entry). Goal t [] (op.Cut r cookie n) told.Done k)
      (sym (ap (λ (o : Option Op). with_entry (option_map (λ y. Heard (request_as w f.xid y) (answer_by w p y told.Done)) o) h) is))
      (hear_cut t r w f.xid h here.world here.all p (held_at c past) z z fits cookie n flies (idle taken))
    where
      flown_as : Option WriteBack → ℕ → Type 0
      flown_as None q = ⊥
      flown_as (Some b) q = Flown b.change (says.pending w h) (says.dirty w h q) q

      idle : says.taken w h ≡ Some (record { lock = cookie.0; change = Cut n }) → (q : ℕ) → says.flying w h q ≡ false
      idle taken q = by (says.flying w h q) refl
        where
          by : (v : Bool) → says.flying w h q ≡ v → v ≡ false
          by false e = refl
          by true e =
              let k = here.world.patches.flown w q e in
              let same : Some k.back ≡ Some (record { lock = cookie.0; change = Cut n }) = sym k.taken ∙ taken in
              absurd (subst (λ (b : Option WriteBack). flown_as b q) same k.flown)

  -- a page
  page_under_lock : (cookie : Cookie) (page : ℕ) (l : Lock) → given cookie.0 h ≡ Some l → (x : Op) → x ≡ get_under cookie.0 page (Some l)
      → says.flight w h ≡ Some (request_as w f.xid x)
      → (y : Extent) × (range_of l ≡ y) × Under t r w f.xid h here.world here.all p (held_at c past) z z fits cookie y
  page_under_lock cookie page l given_is x is flies =
      let v = here.world.patches.gets w cookie.0 (part_first page (range_of l)) (part_count page (range_of l)) (request_as w f.xid x) flies
      is in
      let was = given_was cookie.0 h l given_is in
      let same : v.lock ≡ l = here.world.locks.unique v.lock l (here.world.numbers.held v.lock v.held) was.0 (v.cookie ∙ sym was.1) in
      let k = asked.locks.held v.lock v.held v.life in
      let back = held_back c t past k.0 k.1 in
      let kind = kind_ranges t k.0.lock here.some (held_kind head t past here.stood.grown c k.0 k.1) in
      let range = ranged k.0.lock kind in
      let shape : l ≡ lock_of k.0.lock = sym same ∙ sym k.3 in
      let extent : range_of l ≡ range.0 = ap range_of shape ∙ ranges k.0.lock range.0 range.1 in
      let its : k.0.lock.cookie.0 ≡ cookie.0 = ap (λ (m : Lock). m.cookie) k.3 ∙ v.cookie in (
        range.0,
        extent,
        record {
          lock = k.0.lock;
          is = held_is (named (record { 0 = t }) cookie) (held_at c past) k.0 (held_once head c past here.stood.grown) back.0
              (let a = back.1 in grind (arith, nat_tests, a, its));
          range = range.1;
          holds = (v.lock, v.held, v.life, v.cookie);
        },
      )
    where
      ranged : (m : TableLock) → HasRange m.ask.policy → (y : Extent) × (m.ask.policy ≡ Range y)
      ranged m k = by m.ask.policy k
        where
          by : (q : Policy) → HasRange q → (y : Extent) × (q ≡ Range y)
          by (Range y) k = (y, refl)
          by (Bits b) k = absurd k

      ranges : (m : TableLock) (y : Extent) → m.ask.policy ≡ Range y → range_of (lock_of m) ≡ y
      ranges m y e = range_is m.cookie.0 (number_of m.ask.who) m.ask.mode (extent_in m.ask.policy) ∙ ap extent_in e

  get_by : (cookie : Cookie) (page : ℕ) → AllCome (op.Get r cookie page) p.answer → (l : Lock) → given cookie.0 h ≡ Some l
      → Goal t [] (op.Get r cookie page) p.answer (said (op.Get r cookie page) p.answer)
  get_by cookie page come l given_is = by p.answer come
    where
      x : Op
      x = Get cookie.0 (part_first page (range_of l)) (part_count page (range_of l))

      is : op_of r h (op.Get r cookie page) ≡ Some x
      is = rw (object_self r, given_is) refl

      saying : (a : TableAnswer) → said (op.Get r cookie page) a ≡ Heard (request_as w f.xid x) (answer_by w p x a) ∷ h
      saying a = ap (λ (o : Option Op). with_entry (option_map (λ y. Heard (request_as w f.xid y) (answer_by w p y a)) o) h) is

      by : (a : TableAnswer) → AllCome (op.Get r cookie page) a → Goal t [] (op.Get r cookie page) a (said (op.Get r cookie page) a)
      by (told.Content bs) come =
          let u = page_under_lock cookie page l given_is x refl (come x is).flies in
          let comes = subst (λ (y : Extent). ComesAs (op.Get r cookie page) (Get cookie.0 (part_first page y) (part_count page y))
          (told.Content bs)) u.1 (come x is) in
          subst (λ (k : List Entry). Goal t [] (op.Get r cookie page) (told.Content bs) k) (sym (saying (told.Content bs)))
          (subst (λ (y : Extent). Goal t [] (op.Get r cookie page) (told.Content bs)
          (Heard (request_as w f.xid (Get cookie.0 (part_first page y) (part_count page y)))
          (answer_by w p (Get cookie.0 (part_first page y) (part_count page y)) (told.Content bs)) ∷ h)) (sym u.1)
          (hear_page t r w f.xid h here.world here.all p (held_at c past) z z fits cookie page u.0 bs u.2 comes))
      by a come =
          subst (λ (k : List Entry). Goal t [] (op.Get r cookie page) a k) (sym (saying a))
          (hear_nothing t r w f.xid h here.world here.all p (held_at c past) z z fits cookie page (part_first page (range_of l))
          (part_count page (range_of l)) a (λ bs q. absurd (cc)))

  -- any of them
  on_by : (o : TableOp) → IsOn r o → AllCome o p.answer → HasLock h o → (is_back r o ≡ true → p.answer ≡ told.Done)
      → (is_back r o ≡ true → BacksTaken r h w o) → Goal t [] o p.answer (said o p.answer)
  on_by (op.Enqueue q mode extent) on come has done back = let same : q ≡ r = cc
      in subst (λ (s : Resource). AllCome (op.Enqueue s mode extent) p.answer
      → Goal t [] (op.Enqueue s mode extent) p.answer (said (op.Enqueue s mode extent) p.answer)) (sym same) (lock_by mode extent) come
  on_by (op.Size q) on come has done back = let same : q ≡ r = cc
      in subst (λ (s : Resource). Goal t [] (op.Size s) p.answer (said (op.Size s) p.answer)) (sym same) size_by
  on_by (op.Get q cookie page) on come has done back = let same : q ≡ r = cc
      in subst (λ (s : Resource). AllCome (op.Get s cookie page) p.answer
      → Goal t [] (op.Get s cookie page) p.answer (said (op.Get s cookie page) p.answer)) (sym same) (λ k. get_by cookie page k has.0 has.1)
      come
  on_by (op.Put q cookie at bs) on come has done back =
      let same : q ≡ r = cc in
      let mine : same_resource q r ≡ true = ap (λ (s : Resource). same_resource s r) same ∙ object_self r in
      let taken = back mine in
      let some = put_some r cookie taken.cookie at bs taken.change (ap (λ (s : Resource). op.Put s cookie at bs) (sym same) ∙ taken.is)
      taken.bytes in
      subst (λ (s : Resource). AllCome (op.Put s cookie at bs) p.answer
      → Goal t [] (op.Put s cookie at bs) p.answer (said (op.Put s cookie at bs) p.answer)) (sym same)
      (subst (λ (a : TableAnswer). AllCome (op.Put r cookie at bs) a → Goal t [] (op.Put r cookie at bs) a (said (op.Put r cookie at bs) a))
      (sym (done mine)) (λ k. put_by cookie at bs k some))
      come
  on_by (op.Cut q cookie n) on come has done back =
      let same : q ≡ r = cc in
      let mine : same_resource q r ≡ true = ap (λ (s : Resource). same_resource s r) same ∙ object_self r in
      subst (λ (s : Resource). AllCome (op.Cut s cookie n) p.answer
      → Goal t [] (op.Cut s cookie n) p.answer (said (op.Cut s cookie n) p.answer)) (sym same)
      (subst (λ (a : TableAnswer). AllCome (op.Cut r cookie n) a → Goal t [] (op.Cut r cookie n) a (said (op.Cut r cookie n) a))
      (sym (done mine)) (λ k. cut_by cookie n k))
      come
  on_by o on come has done back = absurd (cc)

  here_by : u ≡ t → IsOn r f.op → StoreBy t r now (story t r now) c
  here_by there on =
      let flown = asked.flights.flies f (in_flight_here there) on in
      whole (said f.op p.answer) (here_story there)
      (subst (λ (v : ℕ). Goal v p.locks f.op p.answer (said f.op p.answer)) (sym there)
      (subst (λ (ls : List TableLock). Goal t ls f.op p.answer (said f.op p.answer)) (sym (bare there))
      (on_by f.op on (all_come there) flown.lock done back)))
    where
      done : is_back r f.op ≡ true → p.answer ≡ told.Done
      done b = subst (λ (v : ℕ). Here head t r (line (turn stamp (Client c)) (word.Heard v f p)) past → p.answer ≡ told.Done) (sym there)
          (λ k. put_done head t r stamp c f p past k before b) here

      back : is_back r f.op ≡ true → BacksTaken r h w f.op
      back b = ⊎_elim
          (λ (n : backs_of r (life_at c past) (only t past) ≡ []). absurd (subst (λ (os : List TableOp). In f.op os) n among))
          (λ (k : (o : TableOp) × (backs_of r (life_at c past) (only t past) ≡ o ∷ []) × BacksTaken r h w o × _). ⊎_elim
          (λ (s : k.0 ≡ f.op). subst (BacksTaken r h w) s k.2) (λ (n : ⊥). absurd n)
          (subst (λ (os : List TableOp). In f.op os) k.1 among))
          asked.backs.backs
        where
          among : In f.op (backs_of r (life_at c past) (only t past))
          among = in_second f.op (queued_backs r (queue_of (life_at c past) (only t past)))
              (flying_backs r (flights_of (life_at c past) (only t past)))
              (in_backs r (flights_of (life_at c past) (only t past)) f (in_flight_here there) b)

  -- where it isn't of the object
  off_story : (u == t) ≡ false ⊎ (op_of r h f.op ≡ None) → story t r now ≡ h
  off_story (inl o) = rw o refl
  off_story (inr o) = by (u == t) (is_live c past h)
    where
      by : (a b : Bool) → (if a then (if b then with_entry (option_map (λ x. Heard (request_as w f.xid x) (answer_by w p x p.answer))
          (op_of r h f.op)) h else h) else h) ≡ h
      by true true = rw o refl
      by true false = refl
      by false b = refl

  none_on : (o : TableOp) → ((q : Resource) → object_of o ≡ Some q → same_resource q r ≡ false) → op_of r h o ≡ None
  none_on (op.Enqueue q mode extent) away = let n = away q refl in rw n refl
  none_on (op.Get q cookie page) away = let n = away q refl in rw n refl
  none_on (op.Put q cookie at bs) away = let n = away q refl in rw n refl
  none_on (op.Cut q cookie n) away = let m = away q refl in rw m refl
  none_on (op.Size q) away = let n = away q refl in rw n refl
  none_on o away = refl

  -- it is of the object, or of another
  on_or : (o : TableOp) → IsOn r o ⊎ ((q : Resource) → object_of o ≡ Some q → same_resource q r ≡ false)
  on_or o = by (object_of o) refl
    where
      by : (x : Option Resource) → object_of o ≡ x → IsOn r o ⊎ ((q : Resource) → object_of o ≡ Some q → same_resource q r ≡ false)
      by None is = inr (λ q e. absurd (let y : None ≡ Some q = sym is ∙ e in cc))
      by (Some s) is = at (same_resource s r) refl
        where
          at : (b : Bool) → same_resource s r ≡ b → IsOn r o ⊎ ((q : Resource) → object_of o ≡ Some q → same_resource q r ≡ false)
          at true m = inl (is ∙ ap Some (object_is s r m))
          at false m = inr (λ q e. let y : Some s ≡ Some q = sym is ∙ e in let same : s ≡ q = cc
              in ap (λ (v : Resource). same_resource v r) (sym same) ∙ m)

  pub heard_by : StoreBy t r now (story t r now) c
  heard_by = ⊎_elim
      (λ (on : IsOn r f.op). here_by (flew_place head past u (life_of c (only u past)) f r here.stood.grown here.stood.pins.1 flew on
      ∙ sym here.place) on)
      (λ (away : (q : Resource) → object_of f.op ≡ Some q → same_resource q r ≡ false). away_by away (off_story (inr (none_on f.op away))))
      (on_or f.op)
