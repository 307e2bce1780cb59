-- A client comes to hold a lock, and awaits it no more; or gives one up.
use Rattle.std.proofs.Common.{◌≡◌, ℕ, Bool, ◌-◌, ◌<◌, true, false, List, ◌∷◌, ◌++◌, Option, Some, None, ◌⊎◌, inl, inr, ⊎_elim, refl, sym}
use Rattle.std.proofs.Common.{subst, ap, ◌∙◌, arith}
use Rattle.std.specs.Prelude.{nat_eq, ◌&&◌, if◌then◌else◌}
use Rattle.std.specs.Option.{unwrap_or}
use Rattle.std.proofs.lemmas.Bool.{eqb-true, eqb-false}
use Rattle.std.proofs.lemmas.Bool.Decides.{nat_tests}
use Rattle.lu_base.specs.declared.ids.Cookie.{Cookie}
use Rattle.lu_base.specs.declared.ids.Node.TheVariants.{Client}
use Rattle.lu_base.specs.declared.ids.Stamp.{Stamp}
use Rattle.lu_base.specs.declared.ids.Who.{Who}
use Rattle.lu_base.specs.declared.locks.Extent.{Extent}
use Rattle.lu_base.specs.declared.locks.Lock.{Lock as TableLock}
use Rattle.lu_base.specs.declared.locks.Mode.{Mode}
use Rattle.lu_base.specs.declared.locks.Resource.{Resource}
use Rattle.lu_held.specs.declared.locks.HeldLock.{HeldLock}
use Rattle.lu_held.specs.Locks.{name_of, named, is_named, same_resource}
use Rattle.lu_msg.specs.declared.answers.Answer.{Answer}
use Rattle.lu_msg.specs.declared.operations.Op.{Op}
use Rattle.lu_msg.specs.declared.operations.Op.TheVariants as op
use Rattle.lu_spec_entries.specs.declared.changes.Flush.{Flush}
use Rattle.lu_spec_entries.specs.Carried.{Deed, Queued, Flight}
use Rattle.lu_spec_entries.specs.Words as word
use Rattle.lu_spec_entries.specs.Words.{Line, line}
use Rattle.lu_spec_entries.specs.Concerns.{only}
use Rattle.lu_spec_client.specs.Caches.{held_as, held_at, patch_at, with_held}
use Rattle.lu_spec_client.specs.Calls.{life_at}
use Rattle.lu_spec_client.specs.Patches.{Flying}
use Rattle.lu_proof_lawful.specs.Covered.ClientStates.{is_own, queue_of, flights_of, brings_cookie, awaits_of}
use Rattle.lu_proof_lawful.specs.Covered.Heads.{Head}
use Rattle.lu_proof_lawful.proofs.Preconditions.ClientLocks.{with_only, with_self, with_other}
use Rattle.lu_proof_lawful.proofs.Preconditions.Heard.{In}
use Rattle.lu_proof_lawful.proofs.Preconditions.HeedMarks.{marks_left, owed_of}
use Rattle.lu_proof_lawful.proofs.Preconditions.Heeds.{owed_rest}
use Rattle.lu_proof_lawful.proofs.Preconditions.Lists.{self, turn, own_self}
use Rattle.lu_proof_lawful.proofs.Preconditions.QueueLists.{resource_of, resource_itself}
use Rattle.lu_proof_lawful.proofs.Invariants.TargetGroups.{Gave, Gone, Names}
use Rattle.lu_proof_lawful.proofs.Invariants.Hopes.{gave_names}
use Rattle.lu_proof_lawful.proofs.Invariants.Lines.{only_more}
use Rattle.lu_proof_bytes.specs.Object.Words.{Lock, Entry, Hold}
use Rattle.lu_proof_bytes.specs.Object.Folds.{HeldBy, WasDropped, WriteBack}
use Rattle.lu_proof_bytes.specs.Object.Folds as says
use Rattle.lu_proof_lawful.specs.Projection.Lives.{number_of, is_live}
use Rattle.lu_proof_lawful.specs.Projection.Locks.{lock_of}
use Rattle.lu_proof_lawful.specs.Projection.Requests.{among}
use Rattle.lu_proof_lawful.specs.Projection.Stories.{if_on, with_entry, of_life, story}
use Rattle.lu_proof_lawful.proofs.Refinement.Covering.{covers_asked, given_line}
use Rattle.lu_proof_lawful.proofs.Refinement.Tied.{Here}
use Rattle.lu_proof_lawful.proofs.Refinement.TiedStore.{store_owed}
use Rattle.lu_proof_lawful.proofs.Refinement.TiedAsked.{IsOn, IsOwed, BroughtOn, TakenAs, queued_backs, flying_backs, backs_of, JustTaken}
use Rattle.lu_proof_lawful.proofs.Refinement.TiedAsked.{FlightsAs, LocksAs, AwaitsAs, BacksAs, AskedOf, AskedBy}
use Rattle.lu_proof_lawful.proofs.Refinement.AskedFolds.{only_stays, queue_stays, flights_stay}
use Rattle.lu_proof_lawful.proofs.Refinement.AskedKept.{ShowsNone, GivenStays, flights_kept, backs_kept}
use Rattle.lu_proof_lawful.proofs.Refinement.AskedElse.{asked_else}
use Rattle.lu_proof_lawful.proofs.Refinement.AskedLocks.{name_parts}
use Rattle.lu_proof_lawful.proofs.Refinement.AskedOther.{shown_life, brought_before, gave_before, gone_only}
use Rattle.lu_proof_lawful.proofs.Refinement.AskedOwed.{left_none}
use Rattle.lu_proof_lawful.proofs.Refinement.AskedOwn.{flight_same}
use Rattle.lu_proof_lawful.proofs.Refinement.AskedSends.{turned}
use Rattle.lu_proof_lawful.proofs.Refinement.MayBase.{tie, life_eq, at_live}
use Rattle.lu_proof_lawful.proofs.Refinement.MayHold.{only_here, held_now, gave_now}

pub same_cookie : (j k : Cookie) → j.0 ≡ k.0 → j ≡ k
same_cookie j k e = λ i. record { 0 = e i }

-- what brings a lock is for who asked for one
brings_asks : (o : Op) (y : Answer) (k : ℕ) → brings_cookie o y k ≡ true → (r : Resource) → IsOn r o → (mode : Mode) × (x : Extent)
    × (o ≡ op.Enqueue r mode x)
brings_asks (op.Enqueue q mode extent) y k b r on = let same : q ≡ r = cc
    in (mode, extent, ap (λ (z : Resource). op.Enqueue z mode extent) same)
brings_asks o y k b r on = absurd (cc)

module _ (head : Head) (t : ℕ) (r : Resource) (stamp : Stamp) (c : ℕ) (past : List Line) where
  abbrev P : List Line
  P = only t past

  abbrev who : Who
  who = life_at c past

  abbrev h : List Entry
  h = story t r past

  abbrev w : ℕ
  w = number_of who

  module _ (lock : TableLock) (marked : Bool) (size : Option ℕ) (seen : List ℕ)
      (here : Here head t r (line (turn stamp (Client c)) (word.Hold t lock marked size seen)) past)
      (live : is_live c past (story t r past) ≡ true) where
    abbrev e : word.Entry
    e = word.Hold t lock marked size seen

    abbrev l : Line
    l = line (turn stamp (Client c)) e

    abbrev Q : List Line
    Q = only t (l ∷ past)

    a : AskedBy t r past c
    a = tie head t r l past here c live

    life : (lock_of lock).life ≡ w
    life = shown_life head l past here.stood c lock refl refl

    own : is_own who P (Client c) ≡ true
    own = subst (λ (v : Who). is_own v P (Client c) ≡ true) (sym (life_eq head t r l past here c live)) (own_self P c)

    held_is : held_at c Q ≡ with_held (held_as t lock marked) (held_at c P)
    held_is = held_now head t r stamp c past lock marked size seen here

    in_now : In (held_as t lock marked) (held_at c Q)
    in_now = subst (λ (hs : List HeldLock). In (held_as t lock marked) hs) (sym held_is) (with_self (held_as t lock marked) (held_at c P))

    -- what was held is held
    stays : (y : HeldLock) → In y (held_at c P) → (z : HeldLock) × In z (held_at c Q) × (z.lock ≡ y.lock)
    stays y i = by (is_named (name_of (held_as t lock marked)) y) refl
      where
        by : (b : Bool) → is_named (name_of (held_as t lock marked)) y ≡ b → (z : HeldLock) × In z (held_at c Q) × (z.lock ≡ y.lock)
        by false n = (
          y,
          subst (λ (hs : List HeldLock). In y hs) (sym held_is) (with_other (held_as t lock marked) y (held_at c P) n i),
          refl,
        )
        by true n =
            let now = gave_now head t r stamp c past lock marked size seen here in
            let was = (here.stood.before.at t).locks.held c y i in
            let its = (here.stood.after.at t).locks.once now.0 was.deed lock y.lock now.1 (given_line t l past was.deed y.lock was.gave)
            (same_cookie lock.cookie y.lock.cookie (sym (name_parts t lock y n).1)) in
            (held_as t lock marked, in_now, its.1)

    -- and the lock is
    was_or : (y : HeldLock) → In y (held_at c Q) → (held_as t lock marked ≡ y) ⊎ In y (held_at c P)
    was_or y i = with_only (held_as t lock marked) y (held_at c P) (subst (λ (hs : List HeldLock). In y hs) held_is i)

    owed_left : owed_of c (l ∷ past) ≡ marks_left (owed_of c past)
    owed_left = owed_rest c stamp past e tt

    none_left : ShowsNone t (owed_of c (l ∷ past))
    none_left = subst (ShowsNone t) (sym owed_left) (left_none head t here.some c past here.stood.grown)

    dropped_now : (x : List Entry) → ((m : Lock) → WasDropped h m → WasDropped x m) → (d : Deed) (m : TableLock) → Gave Q d m → m.resource
        ≡ r → Gone Q who m.cookie → WasDropped x (lock_of m)
    dropped_now x up d m gave on gone =
        let was = gone_only t who l past m.cookie (λ g. g) gone in
        up (lock_of m) (a.locks.dropped d m (gave_before head t l past here.stood who d m gave was) on was)

    -- what is held on the object was held in the story, but the lock
    held_old : (y : HeldLock) → In y (held_at c P) → y.lock.resource ≡ r → HeldBy h (lock_of y.lock) ⊎ (y.lock ≡ lock)
    held_old y i on = ⊎_elim (λ j. inl j) (λ o. inr (owed_is o)) (a.locks.holds y i on)
      where
        owed_is : IsOwed t y.lock (owed_of c past) → y.lock ≡ lock
        owed_is o = let same : word.Hold t lock marked size seen ≡ word.Hold t y.lock false o.0 o.1 =
            (here.stood.heeds.0 c (word.Hold t y.lock false o.0 o.1) o.2 o.3).1 in cc

    built : (x : List Entry) → story t r (l ∷ past) ≡ x → GivenStays h x → says.flight w x ≡ says.flight w h → says.taken w x
        ≡ says.taken w h → LocksAs t r x c who Q (owed_of c (l ∷ past)) → AwaitsAs r x who Q → AskedOf t r (l ∷ past) c who
    built x is g flies taken locks waits =
        record {
          flights = subst (λ (z : List Entry). FlightsAs r z w (flights_of who Q)) (sym is)
              (flights_kept r h x w (flights_of who P) (flights_of who Q)
              (only_stays (flights_of who) t l past (λ m. flights_stay who P (turn stamp (Client c)) e (inr refl))) g flies a.flights);
          locks = subst (λ (z : List Entry). LocksAs t r z c who Q (owed_of c (l ∷ past))) (sym is) locks;
          awaits = subst (λ (z : List Entry). AwaitsAs r z who Q) (sym is) waits;
          taken = subst (λ (z : Option Flying). TakenAs (says.taken w (story t r (l ∷ past))) z)
              (sym (flight_same head t r stamp c past e here tt))
              (subst (λ (b : Option WriteBack). TakenAs b (patch_at r (store_owed c past).patches).flight)
              (sym (ap (says.taken w) is ∙ taken)) a.taken);
          backs = subst (λ (z : List Entry). BacksAs r z w (backs_of r who Q) (JustTaken (l ∷ past) c r)) (sym is)
              (backs_kept r h x w (backs_of r who P) (backs_of r who Q) (JustTaken past c r) (JustTaken (l ∷ past) c r)
              (ap (λ (qs : List Queued). queued_backs r qs ++ flying_backs r (flights_of who Q))
              (only_stays (queue_of who) t l past (λ m. queue_stays who P (turn stamp (Client c)) e (inr refl)))
              ∙ ap (λ (fs : List Flight). queued_backs r (queue_of who P) ++ flying_backs r fs)
              (only_stays (flights_of who) t l past (λ m. flights_stay who P (turn stamp (Client c)) e (inr refl)))) taken
              (λ change j. none change j.1) a.backs);
        }
      where
        none : (change : Flush) → word.Hold t lock marked size seen ≡ word.WritesBack r change → ⊥
        none change z = absurd (cc)

    -- how often a lock is to come
    awaits_now : (j : ℕ) → awaits_of who j Q ≡ (if nat_eq lock.cookie.0 j then awaits_of who j P - 1 else awaits_of who j P)
    awaits_now j = ap (awaits_of who j) (only_here head t r stamp c past lock marked size seen here)
        ∙ ap (λ (b : Bool). if b && nat_eq lock.cookie.0 j then awaits_of who j P - 1 else awaits_of who j P) own

    -- not that one again
    none_again : (j : ℕ) → nat_eq lock.cookie.0 j ≡ true → 0 < awaits_of who j Q → ⊥
    none_again j same low =
        let one = (here.stood.before.at t).locks.single who j in
        let now : awaits_of who j Q ≡ awaits_of who j P - 1 = awaits_now j
        ∙ ap (λ (b : Bool). if b then awaits_of who j P - 1 else awaits_of who j P) same in
        omega (arith, one, now, low)

    others : (j : ℕ) → nat_eq lock.cookie.0 j ≡ false → awaits_of who j Q ≡ awaits_of who j P
    others j other = awaits_now j ∙ ap (λ (b : Bool). if b then awaits_of who j P - 1 else awaits_of who j P) other

    low_now : (j : ℕ) → nat_eq lock.cookie.0 j ≡ false → 0 < awaits_of who j P → 0 < awaits_of who j Q
    low_now j other low = subst (λ (n : ℕ). 0 < n) (sym (others j other)) low

    low_was : (j : ℕ) → nat_eq lock.cookie.0 j ≡ false → 0 < awaits_of who j Q → 0 < awaits_of who j P
    low_was j other low = subst (λ (n : ℕ). 0 < n) (others j other) low

    more_brought : (j : ℕ) → BroughtOn r P j → BroughtOn r Q j
    more_brought j b = (b.0, only_more t l past b.0 b.1, b.2, b.3)

    -- on the object
    module _ (on : lock.resource ≡ r) where
      abbrev x : List Entry
      x = Hold (lock_of lock) (unwrap_or size 0) (among seen) ∷ h

      is : story t r (l ∷ past) ≡ x
      is =
          at_live t c past h (λ d. if_on r lock.resource (Hold (lock_of lock) (unwrap_or size 0) (among seen))) live
          ∙ ap (λ (b : Bool). with_entry (if b then Some (Hold (lock_of lock) (unwrap_or size 0) (among seen)) else None) h)
          (ap (λ (z : Resource). same_resource z r) on ∙ resource_itself r)

      locks : LocksAs t r x c who Q (owed_of c (l ∷ past))
      locks = record {
        held = λ m i v. ⊎_elim (λ (z : lock_of lock ≡ m). (held_as t lock marked, in_now, on, z))
            (λ (j : HeldBy h m). let y = a.locks.held m j v in let z = stays y.0 y.1
            in (z.0, z.1, ap (λ (n : TableLock). n.resource) z.2 ∙ y.2, ap lock_of z.2 ∙ y.3)) i;
        holds = λ y i at. inl (⊎_elim (λ (z : held_as t lock marked ≡ y). inl (ap (λ (g : HeldLock). lock_of g.lock) z))
            (λ (j : In y (held_at c P)). ⊎_elim (λ (b : HeldBy h (lock_of y.lock)). inr b) (λ (s : y.lock ≡ lock). inl (ap lock_of (sym s)))
            (held_old y j at)) (was_or y i));
        owed = λ other m s z more q at. absurd (none_left other m s z more q);
        dropped = dropped_now x (λ m d. d);
      }

      waits : AwaitsAs r x who Q
      waits = record {
        awaits = λ j z. by j (nat_eq lock.cookie.0 j) refl (sym (says_now j) ∙ z);
        awaited = λ j low b. says_now j
            ∙ back j (nat_eq lock.cookie.0 j) refl low b;
      }
        where
          says_now : (j : ℕ) → says.awaits w j x ≡ (if nat_eq lock.cookie.0 j then false else says.awaits w j h)
          says_now j =
              ap (λ (n : ℕ). if nat_eq w n && nat_eq j lock.cookie.0 then false else says.awaits w j h) life
              ∙ ap (λ (b : Bool). if b && nat_eq j lock.cookie.0 then false else says.awaits w j h) (self w)
              ∙ ap (λ (b : Bool). if b then false else says.awaits w j h) (swapped j lock.cookie.0)
            where
              swapped : (m n : ℕ) → nat_eq m n ≡ nat_eq n m
              swapped m n = grind (arith, nat_tests)

          by : (j : ℕ) (v : Bool) → nat_eq lock.cookie.0 j ≡ v → (if v then false else says.awaits w j h) ≡ true → (0 < awaits_of who j Q)
              × BroughtOn r Q j
          by j true z y = absurd (cc)
          by j false z y = let b = a.awaits.awaits j y in (low_now j z b.0, more_brought j b.1)

          back : (j : ℕ) (v : Bool) → nat_eq lock.cookie.0 j ≡ v → 0 < awaits_of who j Q → BroughtOn r Q j
              → (if v then false else says.awaits w j h) ≡ true
          back j true z low b = absurd (none_again j z low)
          back j false z low b = let was = low_was j z low in a.awaits.awaited j was (brought_before head t r l past here.stood who j was b)

      pub hold_on : AskedOf t r (l ∷ past) c who
      hold_on = built x is (λ j m g. g) refl refl locks waits

    -- on another one
    module _ (other : same_resource lock.resource r ≡ false) where
      off : lock.resource ≡ r → ⊥
      off z = absurd (let q : true ≡ false = sym (resource_itself r) ∙ ap (λ (y : Resource). same_resource y r) (sym z) ∙ other in cc)

      is_off : story t r (l ∷ past) ≡ h
      is_off =
          at_live t c past h (λ d. if_on r lock.resource (Hold (lock_of lock) (unwrap_or size 0) (among seen))) live
          ∙ ap (λ (b : Bool). with_entry (if b then Some (Hold (lock_of lock) (unwrap_or size 0) (among seen)) else None) h) other

      locks_off : LocksAs t r h c who Q (owed_of c (l ∷ past))
      locks_off = record {
        held = λ m i v. let y = a.locks.held m i v in let z = stays y.0 y.1
            in (z.0, z.1, ap (λ (n : TableLock). n.resource) z.2 ∙ y.2, ap lock_of z.2 ∙ y.3);
        holds = λ y i at. inl (⊎_elim (λ (z : held_as t lock marked ≡ y). absurd (off (ap (λ (g : HeldLock). g.lock.resource) z ∙ at)))
            (λ (j : In y (held_at c P)). ⊎_elim (λ (b : HeldBy h (lock_of y.lock)). b)
            (λ (s : y.lock ≡ lock). absurd (off (ap (λ (g : TableLock). g.resource) (sym s) ∙ at))) (held_old y j at)) (was_or y i));
        owed = λ lock2 m s z more q at. absurd (none_left lock2 m s z more q);
        dropped = dropped_now h (λ m d. d);
      }

      -- the lock isn't awaited in the story
      not_it : (j : ℕ) → nat_eq lock.cookie.0 j ≡ true → BroughtOn r Q j → ⊥
      not_it j z b =
          let now = gave_now head t r stamp c past lock marked size seen here in
          let same : now.0 ≡ b.0 = (here.stood.after.at t).locks.named now.0 b.0 j now.1.0 b.1 (its_name z) (inr b.2) in
          let asked = brings_asks b.0.op b.0.reply.answer j b.2 r b.3 in
          off (covers_asked head (l ∷ past) t here.some (here.stood.ok, here.stood.grown) now.0 lock now.1 r asked.0 asked.1
          (ap (λ (d : Deed). d.op) same ∙ asked.2)).0
        where
          its_name : nat_eq lock.cookie.0 j ≡ true → Names (gave_now head t r stamp c past lock marked size seen here).0 j
          its_name z = subst (λ (n : ℕ). Names (gave_now head t r stamp c past lock marked size seen here).0 n) (eqb-true lock.cookie.0 j z)
              (gave_names Q (gave_now head t r stamp c past lock marked size seen here).0 lock
              (gave_now head t r stamp c past lock marked size seen here).1)

      waits_off : AwaitsAs r h who Q
      waits_off = record {
        awaits = λ j z. by j (nat_eq lock.cookie.0 j) refl z;
        awaited =
            λ j low b. back j (nat_eq lock.cookie.0 j) refl low b;
      }
        where
          by : (j : ℕ) (v : Bool) → nat_eq lock.cookie.0 j ≡ v → says.awaits w j h ≡ true → (0 < awaits_of who j Q) × BroughtOn r Q j
          by j true z y = absurd (not_it j z (more_brought j (a.awaits.awaits j y).1))
          by j false z y = let b = a.awaits.awaits j y in (low_now j z b.0, more_brought j b.1)

          back : (j : ℕ) (v : Bool) → nat_eq lock.cookie.0 j ≡ v → 0 < awaits_of who j Q → BroughtOn r Q j → says.awaits w j h ≡ true
          back j true z low b = absurd (none_again j z low)
          back j false z low b = let was = low_was j z low in a.awaits.awaited j was (brought_before head t r l past here.stood who j was b)

      pub hold_off : AskedOf t r (l ∷ past) c who
      hold_off = built h is_off (λ j m g. g) refl refl locks_off waits_off

  -- of any target
  pub own_hold : (u : ℕ) (lock : TableLock) (marked : Bool) (size : Option ℕ) (seen : List ℕ)
      → Here head t r (line (turn stamp (Client c)) (word.Hold u lock marked size seen)) past → is_live c past (story t r past) ≡ true
      → AskedOf t r (line (turn stamp (Client c)) (word.Hold u lock marked size seen) ∷ past) c who
  own_hold u lock marked size seen here live = by (nat_eq u t) refl
    where
      none : (change : Flush) → word.Hold u lock marked size seen ≡ word.WritesBack r change → ⊥
      none change z = absurd (cc)

      there : Here head t r (line (turn stamp (Client c)) (word.Hold t lock marked size seen)) past
          → AskedOf t r (line (turn stamp (Client c)) (word.Hold t lock marked size seen) ∷ past) c who
      there now = on (same_resource lock.resource r) refl
        where
          on : (b : Bool) → same_resource lock.resource r ≡ b → AskedOf t r
              (line (turn stamp (Client c)) (word.Hold t lock marked size seen) ∷ past) c who
          on true z = hold_on lock marked size seen now live (resource_of lock.resource r z)
          on false z = hold_off lock marked size seen now live z

      by : (b : Bool) → nat_eq u t ≡ b → AskedOf t r (line (turn stamp (Client c)) (word.Hold u lock marked size seen) ∷ past) c who
      by true same = let s = eqb-true u t same in subst (λ (v : ℕ). AskedOf t r
          (line (turn stamp (Client c)) (word.Hold v lock marked size seen) ∷ past) c who) (sym s)
          (there (subst (λ (v : ℕ). Here head t r (line (turn stamp (Client c)) (word.Hold v lock marked size seen)) past) s here))
      by false other =
          asked_else head t r stamp c past (word.Hold u lock marked size seen) here (turned u t other)
          (ap (λ (b : Bool). if b then of_life (Client c) past (λ d. if_on r lock.resource
          (Hold (lock_of lock) (unwrap_or size 0) (among seen))) h else h) other) refl before
          (subst (ShowsNone t) (sym (owed_rest c stamp past (word.Hold u lock marked size seen) tt))
          (left_none head t here.some c past here.stood.grown))
          (flight_same head t r stamp c past (word.Hold u lock marked size seen) here tt) (λ change j. none change j.1)
          (here.tied.asked.of c live)
        where
          before : ShowsNone t (owed_of c past)
          before lock2 m s z more q = let same : word.Hold u lock marked size seen ≡ word.Hold t lock2 m s z =
              (here.stood.heeds.0 c (word.Hold t lock2 m s z) more q).1 in eqb-false u t other (cc)
