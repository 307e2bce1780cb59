-- A client takes a change to be written back: that is under way now, by its patch and in the story, under the lock that is held over it.
use Rattle.std.proofs.Common.{◌≡◌, ℕ, suc, Bool, true, false, List, [], ◌∷◌, ◌++◌, Option, Some, None, ◌⊎◌, inl, inr, ⊎_elim, refl, sym}
use Rattle.std.proofs.Common.{subst, ap, ◌∙◌, arith}
use Rattle.std.specs.Prelude.{option_map, if◌then◌else◌}
use Rattle.lu_base.specs.declared.ids.Node.TheVariants.{Client}
use Rattle.lu_base.specs.declared.ids.Stamp.{Stamp}
use Rattle.lu_base.specs.declared.ids.Who.{Who}
use Rattle.lu_base.specs.declared.locks.Extent.{Extent}
use Rattle.lu_base.specs.declared.locks.Resource.{Resource}
use Rattle.lu_held.specs.Locks.{same_resource}
use Rattle.lu_spec_entries.specs.declared.changes.Flush.{Flush}
use Rattle.lu_spec_entries.specs.declared.changes.Flush.TheVariants as flush
use Rattle.lu_spec_entries.specs.Carried.{Queued, Flight}
use Rattle.lu_spec_entries.specs.Words as word
use Rattle.lu_spec_entries.specs.Words.{Line, line}
use Rattle.lu_spec_entries.specs.Concerns.{only}
use Rattle.lu_spec_client.specs.Caches.{patch_at, patches_at, on_object}
use Rattle.lu_spec_client.specs.Calls.{life_at}
use Rattle.lu_spec_client.specs.Patches.{Patch, Flying, clean, flown}
use Rattle.lu_spec_client.specs.States.{Store, store_at, store_turn}
use Rattle.lu_proof_objects.proofs.Tables.{patch_on, patch_on_there}
use Rattle.lu_proof_lawful.specs.Covered.ClientStates.{queue_of, flights_of, awaits_of}
use Rattle.lu_proof_lawful.specs.Covered.Heads.{Head}
use Rattle.lu_proof_lawful.proofs.Preconditions.HeedMarks.{owed_of}
use Rattle.lu_proof_lawful.proofs.Preconditions.Heeds.{none_owed, store_line}
use Rattle.lu_proof_lawful.proofs.Preconditions.Lists.{self, turn}
use Rattle.lu_proof_lawful.proofs.Preconditions.QueueLists.{resource_itself}
use Rattle.lu_proof_lawful.proofs.Invariants.Lines.{only_more}
use Rattle.lu_proof_bytes.specs.Object.Words.{Cut, Entry, Takes, overlay}
use Rattle.lu_proof_bytes.specs.Object.Folds.{WriteBack}
use Rattle.lu_proof_bytes.specs.Object.Folds as says
use Rattle.lu_proof_objects.specs.Points.{change_of}
use Rattle.lu_proof_objects.specs.Alike.{IsNext}
use Rattle.lu_proof_lawful.specs.Projection.Lives.{number_of, is_live}
use Rattle.lu_proof_lawful.specs.Projection.Locks.{given, held, lock_over}
use Rattle.lu_proof_lawful.specs.Projection.Calls.{takes}
use Rattle.lu_proof_lawful.specs.Projection.Stories.{with_entry, of_life, story}
use Rattle.lu_proof_lawful.proofs.Refinement.StoreTakes.{Taking}
use Rattle.lu_proof_lawful.proofs.Refinement.Tied.{Here}
use Rattle.lu_proof_lawful.proofs.Refinement.TiedStore.{store_owed}
use Rattle.lu_proof_lawful.proofs.Refinement.TiedAsked.{TakenAs, queued_backs, flying_backs, backs_of, HasBytes, JustTaken, TookUnder}
use Rattle.lu_proof_lawful.proofs.Refinement.TiedAsked.{BacksAs, AskedOf, AskedBy}
use Rattle.lu_proof_lawful.proofs.Refinement.AskedFolds.{only_stays, flights_stay, queue_stays, awaits_stays, stays_same}
use Rattle.lu_proof_lawful.proofs.Refinement.AskedKept.{GivenStays, LocksStay, stays_locks, flights_kept, awaits_kept, backs_kept}
use Rattle.lu_proof_lawful.proofs.Refinement.AskedOther.{brought_before}
use Rattle.lu_proof_lawful.proofs.Refinement.AskedOwn.{locks_own, owed_nothing}
use Rattle.lu_proof_lawful.proofs.Refinement.AskedQueues.{next_bytes}
use Rattle.lu_proof_lawful.proofs.Refinement.MayBase.{tie}
use Rattle.lu_proof_lawful.proofs.Refinement.MayTake.{taking, none_taken, owed}

-- nothing is next of an empty patch
next_clean : (x : Extent) (change : Flush) → IsNext x clean change → ⊥
next_clean x (flush.Cut n) next = absurd (let z : None ≡ Some n = next.0 in cc)
next_clean x (flush.Put at []) next = absurd (let z = next.some in omega (arith, z))
next_clean x (flush.Put at (b ∷ bytes)) next = absurd (let z : None ≡ Some b =
    next.carries at b (ap (λ (v : Bool). if v then Some b else overlay (suc at) bytes at None) (self at)) in cc)

-- by the patch the change is under way
taken_as : (k : ℕ) (change : Flush) (p : Patch) → HasBytes change
    → TakenAs (Some (record { lock = k; change = change_of change })) (flown change p).flight
taken_as k (flush.Cut n) p some = refl
taken_as k (flush.Put at bytes) p some = (at, bytes, refl, some)

both_if : (a b : Bool) (o : Option ℕ) (f : ℕ → Entry) (h : List Entry) (k : ℕ) → a ≡ true → b ≡ true → o ≡ Some k
    → (if a then (if b then with_entry (option_map f o) h else h) else h) ≡ f k ∷ h
both_if a b o f h k x y z = rw (x, y, z) refl

module _ (head : Head) (t : ℕ) (r : Resource) (stamp : Stamp) (c : ℕ) (past : List Line) where
  abbrev P : List Line
  P = only t past

  abbrev who : Who
  who = life_at c past

  abbrev h : List Entry
  h = story t r past

  abbrev w : ℕ
  w = number_of who

  module _ (q : Resource) (change : Flush) (here : Here head t r (line (turn stamp (Client c)) (word.WritesBack q change)) past)
      (a : AskedBy t r past c) where
    abbrev e : word.Entry
    e = word.WritesBack q change

    abbrev l : Line
    l = line (turn stamp (Client c)) e

    abbrev Q : List Line
    Q = only t (l ∷ past)

    abbrev k : List Entry
    k = story t r (l ∷ past)

    nothing_owed : owed_of c past ≡ []
    nothing_owed = none_owed c past l (here.stood.heeds.0 c) (λ x. x)

    -- the patches after the line
    patches_now : (store_owed c (l ∷ past)).patches ≡ on_object q (flown change) (store_owed c past).patches
    patches_now =
        ap (λ (es : List word.Entry). (store_turn (store_at c (l ∷ past)) es).patches)
        (owed_nothing head t r stamp c past e tt nothing_owed)
        ∙ ap (λ (s : Store). s.patches) (store_line c stamp past e)
        ∙ ap (λ (es : List word.Entry). on_object q (flown change) (store_turn (store_at c past) es).patches) (sym nothing_owed)

    -- all but what is taken
    built : LocksStay w h k → GivenStays h k → says.flight w k ≡ says.flight w h → ((j : ℕ) → says.awaits w j k ≡ says.awaits w j h)
        → TakenAs (says.taken w k) (patch_at r (store_owed c (l ∷ past)).patches).flight
        → BacksAs r k w (backs_of r who Q) (JustTaken (l ∷ past) c r) → AskedOf t r (l ∷ past) c who
    built s g flies waits taken backs =
        record {
          flights = flights_kept r h k w (flights_of who P) (flights_of who Q)
              (only_stays (flights_of who) t l past (λ m. flights_stay who P (turn stamp (Client c)) e (inr refl))) g flies a.flights;
          locks = locks_own head t r stamp c past e here s tt a.locks;
          awaits = awaits_kept r h k who P Q waits (λ j. only_stays (awaits_of who j) t l past
              (λ m. awaits_stays who P (turn stamp (Client c)) j e (inr refl))) (λ d i. only_more t l past d i)
              (λ j low b. brought_before head t r l past here.stood who j low b) a.awaits;
          taken = taken;
          backs = backs;
        }

    backs_same : backs_of r who Q ≡ backs_of r who P
    backs_same =
        ap (λ (qs : List Queued). queued_backs r qs ++ flying_backs r (flights_of who Q))
        (only_stays (queue_of who) t l past (λ m. queue_stays who P (turn stamp (Client c)) e (inr refl)))
        ∙ ap (λ (fs : List Flight). queued_backs r (queue_of who P) ++ flying_backs r fs)
        (only_stays (flights_of who) t l past (λ m. flights_stay who P (turn stamp (Client c)) e (inr refl)))

    -- of another object
    pub takes_else : same_resource q r ≡ false → AskedOf t r (l ∷ past) c who
    takes_else other =
        let same : k ≡ h = ap (λ (b : Bool). if b then of_life (Client c) past (λ d. takes d change h) h else h) other in
        let s = stays_same w h k same in
        built (stays_locks w h k s) (λ j m g. ap (given j) same ∙ g) s.flight s.awaits
        (subst (λ (f : Option Flying). TakenAs (says.taken w k) f) (sym flight)
        (subst (λ (x : Option WriteBack). TakenAs x (patch_at r (store_owed c past).patches).flight) (sym s.taken) a.taken))
        (backs_kept r h k w (backs_of r who P) (backs_of r who Q) (JustTaken past c r) (JustTaken (l ∷ past) c r) backs_same s.taken
        (λ ch j. not_it ch j.1) a.backs)
      where
        apart : q ≡ r → ⊥
        apart z = absurd (let x : true ≡ false = sym (resource_itself r) ∙ ap (λ (y : Resource). same_resource y r) (sym z) ∙ other in cc)

        not_it : (ch : Flush) → word.WritesBack q change ≡ word.WritesBack r ch → ⊥
        not_it ch z = apart (cc)

        flight : (patch_at r (store_owed c (l ∷ past)).patches).flight ≡ (patch_at r (store_owed c past).patches).flight
        flight = ap (λ (ps : List (Resource × Patch)). (patch_at r ps).flight) patches_now
            ∙ ap (λ (p : Patch). p.flight) (⊎_elim (λ x. x) (λ x. absurd (apart x.0))
            (patch_on q r (flown change) (store_owed c past).patches))

  module _ (change : Flush) (here : Here head t r (line (turn stamp (Client c)) (word.WritesBack r change)) past)
      (live : is_live c past (story t r past) ≡ true) where
    abbrev e2 : word.Entry
    e2 = word.WritesBack r change

    abbrev l2 : Line
    l2 = line (turn stamp (Client c)) e2

    a : AskedBy t r past c
    a = tie head t r l2 past here c live

    taking_now : Taking h w (patch_at r (patches_at c past)) change
    taking_now = taking head t r stamp c past change here live

    taken_now : story t r (l2 ∷ past) ≡ Takes w taking_now.lock.cookie.0 (change_of change) ∷ h
    taken_now = both_if (same_resource r r) (is_live c past h) (lock_over w (change_of change) (held h)) (λ j. Takes w j (change_of change))
        h taking_now.lock.cookie.0 (resource_itself r) live taking_now.over

    -- of the object
    pub takes_here : AskedOf t r (l2 ∷ past) c who
    takes_here =
        built r change here a
        (subst (λ (z : List Entry). LocksStay w h z) (sym taken_now) (record { back = λ m i v. i; kept = λ m i v. i; dropped = λ m d. d }))
        (λ j m g. ap (given j) taken_now ∙ g) (ap (says.flight w) taken_now) (λ j. ap (says.awaits w j) taken_now)
        (subst (λ (b : Option WriteBack). TakenAs b (patch_at r (store_owed c (l2 ∷ past)).patches).flight) (sym says_taken)
        (subst (λ (p : Patch). TakenAs (Some back) p.flight) (sym patch_now)
        (taken_as taking_now.lock.cookie.0 change (patch_at r (store_owed c past).patches)
        (next_bytes taking_now.extent (patch_at r (patches_at c past)) change taking_now.next))))
        (record { backs = inl (backs_same r change here a ∙ empty); took = λ ch j. took ch j.1 })
      where
        back : WriteBack
        back = record { lock = taking_now.lock.cookie.0; change = change_of change }

        says_taken : says.taken w (story t r (l2 ∷ past)) ≡ Some (record { lock = taking_now.lock.cookie.0; change = change_of change })
        says_taken = ap (says.taken w) taken_now ∙ ap (λ (b : Bool). if b
            then Some (record { lock = taking_now.lock.cookie.0; change = change_of change }) else says.taken w h) (self w)

        store_is : store_owed c past ≡ store_at c past
        store_is = ap (λ (es : List word.Entry). store_turn (store_at c past) es) (owed head t r stamp c past change here live)

        patch_now : patch_at r (store_owed c (l2 ∷ past)).patches ≡ flown change (patch_at r (store_owed c past).patches)
        patch_now =
            ap (patch_at r) (patches_now r change here a)
            ∙ ⊎_elim (λ z. absurd (next_clean taking_now.extent change
            (subst (λ (p : Patch). IsNext taking_now.extent p change) (ap (λ (s : Store). patch_at r s.patches) (sym store_is) ∙ z)
            taking_now.next))) (λ z. z) (patch_on_there r (flown change) (store_owed c past).patches)

        -- nothing was queued
        empty : backs_of r who P ≡ []
        empty = ⊎_elim (λ z. z) (λ z. absurd (let b = z.2 in let y : None
            ≡ Some (record { lock = b.cookie.0; change = change_of b.change }) = sym (none_taken head t r stamp c past change here live)
            ∙ b.taken in cc)) a.backs.backs

        took : (ch : Flush) → word.WritesBack r change ≡ word.WritesBack r ch → TookUnder (story t r (l2 ∷ past)) w ch
        took ch z = let same : change ≡ ch = cc in subst (λ (y : Flush). TookUnder (story t r (l2 ∷ past)) w y) same (record {
          cookie = taking_now.lock.cookie.0;
          over = ap (λ (x : List Entry). lock_over w (change_of change) (held x)) taken_now ∙ taking_now.over;
          taken = says_taken;
          bytes = next_bytes taking_now.extent (patch_at r (patches_at c past)) change taking_now.next;
        })
