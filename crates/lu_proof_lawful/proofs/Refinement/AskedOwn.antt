-- A client's own line that brings it no lock and gives none up, sends and hears nothing, and takes nothing to be written back, leaves what
-- it has
-- asked, holds and awaits as it was.
use Rattle.std.proofs.Common.{◌≡◌, ℕ, Bool, true, false, List, [], ◌∷◌, ◌++◌, Option, Some, None, ◌⊎◌, inl, inr, ⊎_elim, refl, sym, subst}
use Rattle.std.proofs.Common.{ap, ◌∙◌}
use Rattle.std.specs.Prelude.{◌==◌, if◌then◌else◌, option_map}
use Rattle.lu_base.specs.declared.ids.At.{At}
use Rattle.lu_base.specs.declared.ids.Cookie.{Cookie}
use Rattle.lu_base.specs.declared.ids.Node.TheVariants.{Client, Target}
use Rattle.lu_base.specs.declared.ids.Stamp.{Stamp}
use Rattle.lu_base.specs.declared.ids.Who.{Who}
use Rattle.lu_base.specs.declared.locks.Resource.{Resource}
use Rattle.lu_held.specs.declared.locks.HeldLock.{HeldLock}
use Rattle.lu_held.specs.Locks.{same_resource}
use Rattle.lu_spec_entries.specs.declared.changes.Flush.{Flush}
use Rattle.lu_spec_entries.specs.Carried.{Queued, Flight}
use Rattle.lu_spec_entries.specs.Words as word
use Rattle.lu_spec_entries.specs.Words.{Line, line}
use Rattle.lu_spec_entries.specs.Concerns.{concerns, only}
use Rattle.lu_spec_client.specs.Caches.{held_after, held_at, patch_at, patches_after}
use Rattle.lu_spec_client.specs.Calls.{life_at}
use Rattle.lu_spec_client.specs.Patches.{Patch, Flying}
use Rattle.lu_spec_client.specs.States.{Store, store_at, store_turn}
use Rattle.lu_proof_lawful.specs.Covered.Imports.{reads_queue, reads_flights}
use Rattle.lu_proof_lawful.specs.Covered.ClientStates.{queue_of, flights_of, awaits_of}
use Rattle.lu_proof_lawful.specs.Covered.Heads.{Head}
use Rattle.lu_proof_lawful.proofs.Preconditions.Guards.{EntryOk}
use Rattle.lu_proof_lawful.proofs.Preconditions.HeedMarks.{marks_left, owed_of}
use Rattle.lu_proof_lawful.proofs.Preconditions.Heeds.{owed_rest, store_line, store_heeded}
use Rattle.lu_proof_lawful.proofs.Preconditions.Lists.{turn}
use Rattle.lu_proof_lawful.proofs.Invariants.TargetGroups.{Gone}
use Rattle.lu_proof_lawful.proofs.Invariants.Lines.{only_more}
use Rattle.lu_proof_bytes.specs.Object.Words.{Did, Entry, Tells, Send}
use Rattle.lu_proof_bytes.specs.Object.Folds.{WriteBack}
use Rattle.lu_proof_bytes.specs.Object.Folds as says
use Rattle.lu_proof_objects.specs.Points.{change_of}
use Rattle.lu_proof_lawful.specs.Projection.Lives.{number_of, is_live}
use Rattle.lu_proof_lawful.specs.Projection.Locks.{held, lock_over}
use Rattle.lu_proof_lawful.specs.Projection.Calls.{did}
use Rattle.lu_proof_lawful.specs.Projection.Messages.{by_client}
use Rattle.lu_proof_lawful.specs.Projection.Stories.{with_entry, of_life, step, story}
use Rattle.lu_proof_lawful.proofs.Refinement.Tied.{Here, Grows}
use Rattle.lu_proof_lawful.proofs.Refinement.TiedStore.{store_owed}
use Rattle.lu_proof_lawful.proofs.Refinement.TiedAsked.{TakenAs, LocksAs, BacksAs, queued_backs, flying_backs, backs_of, JustTaken, AskedOf}
use Rattle.lu_proof_lawful.proofs.Refinement.AskedFolds.{only_stays, queue_stays, flights_stay, reads_awaits, awaits_stays, StaysFor}
use Rattle.lu_proof_lawful.proofs.Refinement.AskedFolds.{stays_same}
use Rattle.lu_proof_lawful.proofs.Refinement.AskedKept.{ShowsNone, SameLocks, flights_kept, LocksStay, stays_locks, locks_kept, awaits_kept}
use Rattle.lu_proof_lawful.proofs.Refinement.AskedKept.{backs_kept}
use Rattle.lu_proof_lawful.proofs.Refinement.AskedSteps.{given_grows}
use Rattle.lu_proof_lawful.proofs.Refinement.AskedOther.{brought_before, gave_before, gone_only, own_life}
use Rattle.lu_proof_lawful.proofs.Refinement.AskedOwed.{left_none}
use Rattle.lu_proof_lawful.proofs.Refinement.MarksOwed.{marks_owed}
use Rattle.lu_proof_lawful.proofs.Refinement.AskedPatch.{changed_flight}
use Rattle.lu_proof_lawful.proofs.Refinement.AskedLocks.{KeepsLocks, locks_there, locks_back}

-- ---- the story

-- an entry that changes nothing of what its life asks, holds or awaits
abbrev Plainly : Entry → Type 0
Plainly (Tells d call) = Unit {0}
Plainly (Send m) = Unit {0}
Plainly _ = ⊥

plain_stays : (w : ℕ) (h : List Entry) (x : Entry) → Plainly x → StaysFor w h (x ∷ h)
plain_stays w h (Tells d call) p = record {
  asked = refl;
  flight = refl;
  awaits = λ j. refl;
  taken = refl;
  back = λ m i v. i;
  kept =
      λ m i v. i;
  dropped = λ m d. d;
}
plain_stays w h (Send m) p = record {
  asked = refl;
  flight = refl;
  awaits = λ j. refl;
  taken = refl;
  back = λ m i v. i;
  kept = λ m i v. i;
  dropped = λ m d. d;
}
plain_stays w h _ p = absurd p

with_stays : (w : ℕ) (h : List Entry) (o : Option Entry) → ((x : Entry) → o ≡ Some x → Plainly x) → StaysFor w h (with_entry o h)
with_stays w h None f = stays_same w h h refl
with_stays w h (Some x) f = plain_stays w h x (f x refl)

if_stays : (w : ℕ) (h k : List Entry) (b : Bool) → StaysFor w h k → StaysFor w h (if b then k else h)
if_stays w h k true s = s
if_stays w h k false s = stays_same w h h refl

map_plain : {A : Type 0} (f : A → Entry) (o : Option A) → ((a : A) → Plainly (f a)) → (x : Entry) → option_map f o ≡ Some x → Plainly x
map_plain f None g x e = absurd (cc)
map_plain f (Some a) g x e = let same : f a ≡ x = cc in subst Plainly same (g a)

-- the line changes nothing of that in the story
abbrev pub IsPlain : word.Entry → Type 0
IsPlain (word.Flies u f) = ⊥
IsPlain (word.Heard u f p) = ⊥
IsPlain (word.Hold u l marked size seen) = ⊥
IsPlain (word.Drop u l) = ⊥
IsPlain (word.Knows u boot) = ⊥
IsPlain (word.WritesBack q change) = ⊥
IsPlain _ = Unit {0}

pub stays_plain : (w t : ℕ) (r : Resource) (past : List Line) (h : List Entry) (c : ℕ) (e : word.Entry) → IsPlain e
    → StaysFor w h (step t r (Client c) past e h)
stays_plain w t r past h c (word.Send (Target u) m) p =
    if_stays w h (of_life (Client c) past (λ d. option_map Send (by_client r h m)) h) (u == t)
    (if_stays w h (with_entry (option_map Send (by_client r h m)) h) (is_live c past h)
    (with_stays w h (option_map Send (by_client r h m)) (map_plain Send (by_client r h m) (λ a. tt))))
stays_plain w t r past h c (word.Send (Client d) m) p = stays_same w h h refl
stays_plain w t r past h c (word.Changes q change) p =
    if_stays w h (of_life (Client c) past (λ d. did d change h) h) (same_resource q r)
    (if_stays w h (with_entry (did (number_of (life_at c past)) change h) h) (is_live c past h)
    (with_stays w h (did (number_of (life_at c past)) change h)
    (map_plain (λ j. Tells (number_of (life_at c past)) (Did j (change_of change)))
    (lock_over (number_of (life_at c past)) (change_of change) (held h)) (λ j. tt))))
stays_plain w t r past h c (word.Flies u f) p = absurd p
stays_plain w t r past h c (word.Heard u f q) p = absurd p
stays_plain w t r past h c (word.Hold u l marked size seen) p = absurd p
stays_plain w t r past h c (word.Drop u l) p = absurd p
stays_plain w t r past h c (word.Knows u boot) p = absurd p
stays_plain w t r past h c (word.WritesBack q change) p = absurd p
stays_plain w t r past h c (word.Grant l asked) p = stays_same w h h refl
stays_plain w t r past h c _ p = stays_same w h h refl

-- ---- the table

-- an entry that isn't heard
abbrev pub NotHeard : word.Entry → Type 0
NotHeard (word.Heard u f p) = ⊥
NotHeard _ = Unit {0}

abbrev pub NotHold : word.Entry → Type 0
NotHold (word.Hold u l marked size seen) = ⊥
NotHold _ = Unit {0}

-- it leaves what is under way of the client's changes
abbrev pub LeavesPatch : word.Entry → Type 0
LeavesPatch (word.Heard u f p) = ⊥
LeavesPatch (word.WritesBack q change) = ⊥
LeavesPatch (word.Life who) = ⊥
LeavesPatch _ = Unit {0}

-- it gives up no lock
abbrev pub NotDrop : word.Entry → Type 0
NotDrop (word.Drop u l) = ⊥
NotDrop _ = Unit {0}

module _ (head : Head) (t : ℕ) (r : Resource) (stamp : Stamp) (c : ℕ) (past : List Line) where
  abbrev at : At
  at = turn stamp (Client c)

  abbrev P : List Line
  P = only t past

  abbrev who : Who
  who = life_at c past

  abbrev h : List Entry
  h = story t r past

  -- what is owed after the line: what was, or all but the first of it
  owed_now : (e : word.Entry) → NotHeard e → (owed_of c (line at e ∷ past) ≡ owed_of c past)
      ⊎ (owed_of c (line at e ∷ past) ≡ marks_left (owed_of c past))
  owed_now (word.Heard u f p) n = absurd n
  owed_now (word.Hold u l marked size seen) n = inr (owed_rest c stamp past (word.Hold u l marked size seen) tt)
  owed_now (word.Learns u o a ls) n = inr (owed_rest c stamp past (word.Learns u o a ls) tt)
  owed_now (word.Acks q) n = inr (owed_rest c stamp past (word.Acks q) tt)
  owed_now (word.Fills q offset bytes) n = inr (owed_rest c stamp past (word.Fills q offset bytes) tt)
  owed_now (word.Zeroes q size) n = inr (owed_rest c stamp past (word.Zeroes q size) tt)
  owed_now (word.Grown q change) n = inr (owed_rest c stamp past (word.Grown q change) tt)
  owed_now (word.Shows q cookie last) n = inr (owed_rest c stamp past (word.Shows q cookie last) tt)
  owed_now _ n = inl refl

  pub owed_nothing : (e : word.Entry) → NotHeard e → owed_of c past ≡ [] → owed_of c (line at e ∷ past) ≡ []
  owed_nothing e n none = ⊎_elim (λ x. x ∙ none) (λ x. x ∙ ap marks_left none) (owed_now e n)

  module _ (e : word.Entry) (here : Here head t r (line at e) past) where
    abbrev l : Line
    l = line at e

    abbrev Q : List Line
    Q = only t (l ∷ past)

    abbrev k : List Entry
    k = story t r (l ∷ past)

    -- no lock of the target is shown next, unless it is in this line
    pub shows_none : NotHold e → ShowsNone t (owed_of c past)
    shows_none n lock marked size seen more q = let same = (here.stood.heeds.0 c (word.Hold t lock marked size seen) more q).1
        in subst NotHold same n

    -- nor after it
    pub shown_none : NotHeard e → NotHold e → ShowsNone t (owed_of c (l ∷ past))
    shown_none n m =
        ⊎_elim (λ x. subst (ShowsNone t) (sym x) (shows_none m))
        (λ x. subst (ShowsNone t) (sym x) (left_none head t here.some c past here.stood.grown)) (owed_now e n)

    -- what is under way of the patch stays
    pub flight_same : LeavesPatch e → (patch_at r (store_owed c (l ∷ past)).patches).flight
        ≡ (patch_at r (store_owed c past).patches).flight
    flight_same leaves = by (owed_of c past) refl
      where
        plain : (x : word.Entry) → LeavesPatch x → ((q : Resource) → x ≡ word.Acks q → ⊥) → (ps : List (Resource × Patch))
            → (patch_at r (patches_after ps x)).flight ≡ (patch_at r ps).flight
        plain (word.Changes q change) n none ps = changed_flight r ps q change
        plain (word.WritesBack q change) n none ps = absurd n
        plain (word.Life v) n none ps = absurd n
        plain (word.Acks q) n none ps = absurd (none q refl)
        plain _ n none ps = refl

        not_heard : (x : word.Entry) → LeavesPatch x → NotHeard x
        not_heard (word.Heard u f p) n = n
        not_heard _ n = tt

        by : (es : List word.Entry) → owed_of c past ≡ es → (patch_at r (store_owed c (l ∷ past)).patches).flight
            ≡ (patch_at r (store_owed c past).patches).flight
        by [] none =
            let now = owed_nothing e (not_heard e leaves) none in
            let acks : (q : Resource) → e ≡ word.Acks q → ⊥ = λ q same. not_acks q same none in
            ap (λ (xs : List word.Entry). (patch_at r (store_turn (store_at c (l ∷ past)) xs).patches).flight) now
            ∙ ap (λ (s : Store). (patch_at r s.patches).flight) (store_line c stamp past e)
            ∙ plain e leaves acks (store_at c past).patches
            ∙ sym (ap (λ (xs : List word.Entry). (patch_at r (store_turn (store_at c past) xs).patches).flight) none)
          where
            not_acks : (q : Resource) → e ≡ word.Acks q → owed_of c past ≡ [] → ⊥
            not_acks q same none = let ok = subst (λ (x : word.Entry). EntryOk past at (Client c) x) same here.stood.ok.ok
                in marks_owed c past here.stood.heeds.1 (word.Acks q) ok.0 ok.1 none
        by (x ∷ more) owes = ap (λ (s : Store). (patch_at r s.patches).flight)
            (store_heeded c stamp past e x more owes (here.stood.heeds.0 c)).1

    -- the locks stay the same, of this target
    pub locks_stay : KeepsLocks e → SameLocks (held_at c P) (held_at c Q) × SameLocks (held_at c Q) (held_at c P)
    locks_stay keeps = by (concerns t (Client c) e)
      where
        now : held_at c (l ∷ P) ≡ held_after (held_at c P) e
        now = ap (λ (s : Store). s.held) (store_line c stamp P e)

        by : (b : Bool) → SameLocks (held_at c P) (held_at c (if b then l ∷ P else P))
            × SameLocks (held_at c (if b then l ∷ P else P)) (held_at c P)
        by true = (
          subst (λ (hs : List HeldLock). SameLocks (held_at c P) hs) (sym now) (locks_there (held_at c P) e keeps),
          subst (λ (hs : List HeldLock). SameLocks hs (held_at c P)) (sym now) (locks_back (held_at c P) e keeps),
        )
        by false = ((λ x i. (x, i, refl)), (λ x i. (x, i, refl)))

    gone_now : NotDrop e → (cookie : Cookie) → Gone Q who cookie → Gone P who cookie
    gone_now n cookie = gone_only t who l past cookie (by e n)
      where
        by : (x : word.Entry) → NotDrop x → Gone (line at x ∷ P) who cookie → Gone P who cookie
        by (word.Drop u m) n g = absurd n
        by _ n g = g

    -- the groups of ties
    pub locks_own : LocksStay (number_of who) h k → KeepsLocks e → LocksAs t r h c who P (owed_of c past)
        → LocksAs t r k c who Q (owed_of c (l ∷ past))
    locks_own s keeps a =
        let same = locks_stay keeps in
        locks_kept t r h k c who P Q (owed_of c past) (owed_of c (l ∷ past)) s same.0 same.1 (own_life head t l past here.stood c)
        (shows_none (no_hold e keeps)) (shown_none (no_heard e keeps) (no_hold e keeps))
        (λ d m gave on gone.
        let was = gone_now (no_drop e keeps) m.cookie gone in
        (gave_before head t l past here.stood who d m gave was, was)) a
      where
        no_hold : (x : word.Entry) → KeepsLocks x → NotHold x
        no_hold (word.Hold u m marked size seen) n = n
        no_hold _ n = tt

        no_heard : (x : word.Entry) → KeepsLocks x → NotHeard x
        no_heard (word.Heard u f p) n = n
        no_heard _ n = tt

        no_drop : (x : word.Entry) → KeepsLocks x → NotDrop x
        no_drop (word.Drop u m) n = n
        no_drop _ n = tt

    -- an entry that asks for nothing either, after which the client's life is the same
    pub asked_plain : Grows h k → life_at c (l ∷ past) ≡ who → StaysFor (number_of who) h k → reads_flights e ≡ false
        → reads_awaits who P at e ≡ false → KeepsLocks e → LeavesPatch e
        → BacksAs r k (number_of who) (backs_of r who Q) (JustTaken (l ∷ past) c r) → AskedOf t r past c who
        → AskedOf t r (l ∷ past) c (life_at c (l ∷ past))
    asked_plain g life s flies awaited keeps patch backs a =
        subst (λ (v : Who). AskedOf t r (l ∷ past) c v) (sym life) (record {
          flights = flights_kept r h k (number_of who) (flights_of who P) (flights_of who Q)
              (only_stays (flights_of who) t l past (λ m. flights_stay who P at e (inr flies))) (given_grows h k here.world g) s.flight
              a.flights;
          locks = locks_own (stays_locks (number_of who) h k s) keeps a.locks;
          awaits =
              awaits_kept r h k who P Q s.awaits (λ j. only_stays (awaits_of who j) t l past (λ m. awaits_stays who P at j e (inr awaited)))
              (λ d i. only_more t l past d i)
              (λ j low b. brought_before head t r l past here.stood who j low b) a.awaits;
          taken = subst (λ (f : Option Flying). TakenAs (says.taken (number_of who) k) f) (sym (flight_same patch))
              (subst (λ (x : Option WriteBack). TakenAs x (patch_at r (store_owed c past).patches).flight) (sym s.taken) a.taken);
          backs = backs;
        })

    -- of write-backs, where none is queued nor taken
    pub backs_plain : StaysFor (number_of who) h k → reads_flights e ≡ false → reads_queue e ≡ false
        → ((q : Resource) (change : Flush) → e ≡ word.WritesBack q change → ⊥)
        → BacksAs r h (number_of who) (backs_of r who P) (JustTaken past c r)
        → BacksAs r k (number_of who) (backs_of r who Q) (JustTaken (l ∷ past) c r)
    backs_plain s flies queues none a =
        backs_kept r h k (number_of who) (backs_of r who P) (backs_of r who Q) (JustTaken past c r) (JustTaken (l ∷ past) c r)
        (ap (λ (qs : List Queued). queued_backs r qs ++ flying_backs r (flights_of who Q))
        (only_stays (queue_of who) t l past (λ m. queue_stays who P at e (inr queues)))
        ∙ ap (λ (fs : List Flight). queued_backs r (queue_of who P) ++ flying_backs r fs)
        (only_stays (flights_of who) t l past (λ m. flights_stay who P at e (inr flies)))) s.taken (λ change j. none r change j.1) a
