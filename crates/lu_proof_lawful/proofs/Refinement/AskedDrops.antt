-- A client gives up a lock, hears of a new boot, or begins its next life.
use Rattle.std.proofs.Common.{◌≡◌, ℕ, Bool, ◌+◌, true, false, List, ◌∷◌, ◌++◌, Option, Some, None, ◌⊎◌, inl, inr, ⊎_elim, refl, sym, subst}
use Rattle.std.proofs.Common.{ap, ◌∙◌, arith}
use Rattle.std.specs.Prelude.{nat_eq, if◌then◌else◌}
use Rattle.std.proofs.lemmas.Bool.{eqb-true, both_ways}
use Rattle.std.proofs.lemmas.Bool.Decides.{nat_tests}
use Rattle.lu_base.specs.declared.ids.Cookie.{Cookie}
use Rattle.lu_base.specs.declared.ids.Node.TheVariants.{Client}
use Rattle.lu_base.specs.declared.ids.Stamp.{Stamp}
use Rattle.lu_base.specs.declared.ids.Who.{Who}
use Rattle.lu_base.specs.declared.locks.Lock.{Lock as TableLock}
use Rattle.lu_base.specs.declared.locks.Resource.{Resource}
use Rattle.lu_held.specs.declared.locks.HeldLock.{HeldLock}
use Rattle.lu_held.specs.Held.{without}
use Rattle.lu_held.specs.Locks.{named, is_named, same_resource}
use Rattle.lu_spec_entries.specs.declared.changes.Flush.{Flush}
use Rattle.lu_spec_entries.specs.Carried.{Deed, Queued, Flight}
use Rattle.lu_spec_entries.specs.Words as word
use Rattle.lu_spec_entries.specs.Words.{Line, line}
use Rattle.lu_spec_entries.specs.Concerns.{only}
use Rattle.lu_spec_client.specs.Caches.{held_at, patch_at}
use Rattle.lu_spec_client.specs.Calls.{life_at}
use Rattle.lu_spec_client.specs.Patches.{Flying}
use Rattle.lu_spec_client.specs.States.{Store}
use Rattle.lu_proof_lawful.specs.Covered.Imports.{reads_queue, reads_flights}
use Rattle.lu_proof_lawful.specs.Covered.ClientStates.{is_own, queue_of, flights_of, awaits_of}
use Rattle.lu_proof_lawful.specs.Covered.Heads.{Head}
use Rattle.lu_proof_lawful.proofs.Preconditions.ClientLocks.{without_only, without_other}
use Rattle.lu_proof_lawful.proofs.Preconditions.Heard.{In}
use Rattle.lu_proof_lawful.proofs.Preconditions.HeedMarks.{owed_of}
use Rattle.lu_proof_lawful.proofs.Preconditions.Held.{held_target}
use Rattle.lu_proof_lawful.proofs.Preconditions.Heeds.{store_line}
use Rattle.lu_proof_lawful.proofs.Preconditions.Lists.{self, turn, own_self}
use Rattle.lu_proof_lawful.proofs.Preconditions.QueueLists.{resource_of, resource_itself}
use Rattle.lu_proof_lawful.proofs.Preconditions.StoryGuards.{DropOk}
use Rattle.lu_proof_lawful.proofs.Invariants.TargetGroups.{Gave, Gone}
use Rattle.lu_proof_lawful.proofs.Invariants.Lines.{only_more}
use Rattle.lu_proof_bytes.specs.Object.Words.{Lock, Entry, Drop, Forgets}
use Rattle.lu_proof_bytes.specs.Object.Folds.{HeldBy, WriteBack}
use Rattle.lu_proof_bytes.specs.Object.Folds as says
use Rattle.lu_proof_lawful.specs.Projection.Lives.{number_of, is_live}
use Rattle.lu_proof_lawful.specs.Projection.Locks.{lock_of}
use Rattle.lu_proof_lawful.specs.Projection.Stories.{if_on, with_entry, of_life, story}
use Rattle.lu_proof_lawful.proofs.Refinement.Covering.{given_line}
use Rattle.lu_proof_lawful.proofs.Refinement.Tied.{Here}
use Rattle.lu_proof_lawful.proofs.Refinement.TiedStore.{store_owed}
use Rattle.lu_proof_lawful.proofs.Refinement.TiedAsked.{TakenAs, queued_backs, flying_backs, backs_of, JustTaken, FlightsAs, LocksAs}
use Rattle.lu_proof_lawful.proofs.Refinement.TiedAsked.{AwaitsAs, BacksAs, AskedOf, AskedBy}
use Rattle.lu_proof_lawful.proofs.Refinement.AskedFolds.{only_stays, queue_stays, flights_stay, awaits_stays}
use Rattle.lu_proof_lawful.proofs.Refinement.AskedKept.{LocksStay, GivenStays, flights_kept, awaits_kept, backs_kept}
use Rattle.lu_proof_lawful.proofs.Refinement.AskedElse.{asked_else}
use Rattle.lu_proof_lawful.proofs.Refinement.AskedHolds.{same_cookie}
use Rattle.lu_proof_lawful.proofs.Refinement.AskedLocks.{name_apart}
use Rattle.lu_proof_lawful.proofs.Refinement.AskedOther.{brought_before, gave_before}
use Rattle.lu_proof_lawful.proofs.Refinement.AskedOwn.{LeavesPatch, locks_own, flight_same, shows_none, shown_none}
use Rattle.lu_proof_lawful.proofs.Refinement.AskedSends.{turned}
use Rattle.lu_proof_lawful.proofs.Refinement.MayBase.{tie, life_eq, at_live, held_there}

module _ (head : Head) (t : ℕ) (r : Resource) (stamp : Stamp) (c : ℕ) (past : List Line) where
  abbrev P : List Line
  P = only t past

  abbrev who : Who
  who = life_at c past

  abbrev h : List Entry
  h = story t r past

  abbrev w : ℕ
  w = number_of who

  -- ---- what these lines leave

  module _ (e : word.Entry) (here : Here head t r (line (turn stamp (Client c)) e) past) (a : AskedBy t r past c)
      (flies : reads_flights e ≡ false) (queues : reads_queue e ≡ false) (leaves : LeavesPatch e)
      (none : (change : Flush) → e ≡ word.WritesBack r change → ⊥) where
    abbrev l : Line
    l = line (turn stamp (Client c)) e

    abbrev Q : List Line
    Q = only t (l ∷ past)

    built : (x : List Entry) → story t r (l ∷ past) ≡ x → GivenStays h x → says.flight w x ≡ says.flight w h → says.taken w x
        ≡ says.taken w h → LocksAs t r x c who Q (owed_of c (l ∷ past)) → AwaitsAs r x who Q → AskedOf t r (l ∷ past) c who
    built x is g flown taken locks waits =
        record {
          flights = subst (λ (z : List Entry). FlightsAs r z w (flights_of who Q)) (sym is)
              (flights_kept r h x w (flights_of who P) (flights_of who Q)
              (only_stays (flights_of who) t l past (λ m. flights_stay who P (turn stamp (Client c)) e (inr flies))) g flown a.flights);
          locks = subst (λ (z : List Entry). LocksAs t r z c who Q (owed_of c (l ∷ past))) (sym is) locks;
          awaits = subst (λ (z : List Entry). AwaitsAs r z who Q) (sym is) waits;
          taken = subst (λ (z : Option Flying). TakenAs (says.taken w (story t r (l ∷ past))) z)
              (sym (flight_same head t r stamp c past e here leaves))
              (subst (λ (b : Option WriteBack). TakenAs b (patch_at r (store_owed c past).patches).flight)
              (sym (ap (says.taken w) is ∙ taken)) a.taken);
          backs = subst (λ (z : List Entry). BacksAs r z w (backs_of r who Q) (JustTaken (l ∷ past) c r)) (sym is)
              (backs_kept r h x w (backs_of r who P) (backs_of r who Q) (JustTaken past c r) (JustTaken (l ∷ past) c r)
              (ap (λ (qs : List Queued). queued_backs r qs ++ flying_backs r (flights_of who Q))
              (only_stays (queue_of who) t l past (λ m. queue_stays who P (turn stamp (Client c)) e (inr queues)))
              ∙ ap (λ (fs : List Flight). queued_backs r (queue_of who P) ++ flying_backs r fs)
              (only_stays (flights_of who) t l past (λ m. flights_stay who P (turn stamp (Client c)) e (inr flies)))) taken
              (λ change j. none change j.1) a.backs);
        }

  -- ---- a lock is given up

  module _ (lock : TableLock) (here : Here head t r (line (turn stamp (Client c)) (word.Drop t lock)) past)
      (live : is_live c past (story t r past) ≡ true) where
    abbrev e2 : word.Entry
    e2 = word.Drop t lock

    abbrev l2 : Line
    l2 = line (turn stamp (Client c)) e2

    abbrev Q2 : List Line
    Q2 = only t (l2 ∷ past)

    a : AskedBy t r past c
    a = tie head t r l2 past here c live

    ok : DropOk P c t lock
    ok = here.stood.ok.of t (self t)

    gave : (d : Deed) × Gave P d lock
    gave = let holding = (here.stood.before.at t).locks.held c ok.holding ok.held
        in (holding.deed, subst (λ (m : TableLock). Gave P holding.deed m) ok.is holding.gave)

    only_here : Q2 ≡ l2 ∷ P
    only_here = ap (λ (b : Bool). if b then l2 ∷ P else P) (self t)

    held_now : held_at c Q2 ≡ without (named (record { 0 = t }) lock.cookie) (held_at c P)
    held_now = ap (held_at c) only_here ∙ ap (λ (s : Store). s.held) (store_line c stamp P e2)

    left : (y : HeldLock) → In y (held_at c Q2) → In y (held_at c P) × (is_named (named (record { 0 = t }) lock.cookie) y ≡ false)
    left y i = without_only (named (record { 0 = t }) lock.cookie) y (held_at c P) (subst (λ (hs : List HeldLock). In y hs) held_now i)

    stays : (y : HeldLock) → In y (held_at c P) → (y.lock.cookie.0 ≡ lock.cookie.0 → ⊥) → In y (held_at c Q2)
    stays y i apart = subst (λ (hs : List HeldLock). In y hs) (sym held_now)
        (without_other (named (record { 0 = t }) lock.cookie) y (held_at c P) i (name_apart t lock y apart))

    -- of one cookie is the lock alone
    same_lock : (y : HeldLock) → In y (held_at c P) → y.lock.cookie.0 ≡ lock.cookie.0 → y.lock ≡ lock
    same_lock y i z = let was = (here.stood.before.at t).locks.held c y i
        in ((here.stood.before.at t).locks.once was.deed gave.0 y.lock lock was.gave gave.1 (same_cookie y.lock.cookie lock.cookie z)).1

    gone_was : (cookie : Cookie) → Gone Q2 who cookie → (lock.cookie ≡ cookie) ⊎ Gone P who cookie
    gone_was cookie g = ⊎_elim (λ z. inl z.1) (λ z. inr z) (subst (λ (q : List Line). Gone q who cookie) only_here g)

    waits_same : (j : ℕ) → awaits_of who j Q2 ≡ awaits_of who j P
    waits_same j = only_stays (awaits_of who j) t l2 past (λ m. awaits_stays who P (turn stamp (Client c)) j e2 (inr refl))

    waits : (x : List Entry) → ((j : ℕ) → says.awaits w j x ≡ says.awaits w j h) → AwaitsAs r x who Q2
    waits x same = awaits_kept r h x who P Q2 same waits_same (λ d i. only_more t l2 past d i)
        (λ j low b. brought_before head t r l2 past here.stood who j low b) a.awaits

    held_y : (y : HeldLock) → In y (held_at c P) → y.lock.resource ≡ r → HeldBy h (lock_of y.lock)
    held_y y i on = held_there head t r stamp c past e2 here live tt y i on

    apart_left : (y : HeldLock) → is_named (named (record { 0 = t }) lock.cookie) y ≡ false → In y (held_at c P) → lock.cookie.0
        ≡ y.lock.cookie.0 → ⊥
    apart_left y n i z = let at = held_target c t past y i in let q : is_named (named (record { 0 = t }) lock.cookie) y ≡ true =
        grind (arith, nat_tests, at, z) in both_ways (is_named (named (record { 0 = t }) lock.cookie) y) n q

    drop_on : lock.resource ≡ r → AskedOf t r (l2 ∷ past) c who
    drop_on on =
        built e2 here a refl refl tt (λ change z. absurd (cc)) (Drop (lock_of lock) ∷ h)
        (at_live t c past h (λ d. if_on r lock.resource (Drop (lock_of lock))) live
        ∙ ap (λ (b : Bool). with_entry (if b then Some (Drop (lock_of lock)) else None) h)
        (ap (λ (z : Resource). same_resource z r) on ∙ resource_itself r))
        (λ j m g. g) refl refl
        (record {
          held = λ m i v. let y = a.locks.held m i.1 v in (
            y.0,
            stays y.0 y.1 (λ z. i.0 (sym z ∙ ap (λ (n : Lock). n.cookie) y.3)),
            y.2,
            y.3,
          );
          holds = λ y i at. let p = left y i in inl ((λ z. apart_left y p.1 p.0 z), held_y y p.0 at);
          owed = λ lock2 m s z more q at. absurd (shown_none head t r stamp c past e2 here tt tt lock2 m s z more q);
          dropped = λ d m g at gone. ⊎_elim (λ (z : lock.cookie ≡ m.cookie). inl (ap lock_of (its d m g z)))
              (λ (z : Gone P who m.cookie). inr (a.locks.dropped d m (gave_before head t l2 past here.stood who d m g z) at z))
              (gone_was m.cookie gone);
        })
        (waits (Drop (lock_of lock) ∷ h) (λ j. refl))
      where
        its : (d : Deed) (m : TableLock) → Gave Q2 d m → lock.cookie ≡ m.cookie → lock ≡ m
        its d m g z = ((here.stood.after.at t).locks.once gave.0 d lock m (given_line t l2 past gave.0 lock gave.1) g z).1

    drop_off : same_resource lock.resource r ≡ false → AskedOf t r (l2 ∷ past) c who
    drop_off other =
        built e2 here a refl refl tt (λ change z. absurd (cc)) h
        (at_live t c past h (λ d. if_on r lock.resource (Drop (lock_of lock))) live
        ∙ ap (λ (b : Bool). with_entry (if b then Some (Drop (lock_of lock)) else None) h) other)
        (λ j m g. g) refl refl
        (record {
          held = λ m i v. let y = a.locks.held m i v in (
            y.0,
            stays y.0 y.1
                (λ z. off (ap (λ (n : TableLock). n.resource) (sym (same_lock y.0 y.1 z)) ∙ y.2)),
            y.2,
            y.3,
          );
          holds = λ y i at. let p = left y i in inl (held_y y p.0 at);
          owed = λ lock2 m s z more q at. absurd (shown_none head t r stamp c past e2 here tt tt lock2 m s z more q);
          dropped = λ d m g at gone.
              ⊎_elim (λ (z : lock.cookie ≡ m.cookie). absurd (off (ap (λ (n : TableLock). n.resource) (its d m g z) ∙ at)))
              (λ (z : Gone P who m.cookie). a.locks.dropped d m (gave_before head t l2 past here.stood who d m g z) at z)
              (gone_was m.cookie gone);
        })
        (waits h (λ j. refl))
      where
        off : lock.resource ≡ r → ⊥
        off z = absurd (let q : true ≡ false = sym (resource_itself r) ∙ ap (λ (y : Resource). same_resource y r) (sym z) ∙ other in cc)

        its : (d : Deed) (m : TableLock) → Gave Q2 d m → lock.cookie ≡ m.cookie → lock ≡ m
        its d m g z = ((here.stood.after.at t).locks.once gave.0 d lock m (given_line t l2 past gave.0 lock gave.1) g z).1

    drop_here : AskedOf t r (l2 ∷ past) c who
    drop_here = by (same_resource lock.resource r) refl
      where
        by : (b : Bool) → same_resource lock.resource r ≡ b → AskedOf t r (l2 ∷ past) c who
        by true z = drop_on (resource_of lock.resource r z)
        by false z = drop_off z

  pub own_drop : (u : ℕ) (lock : TableLock) → Here head t r (line (turn stamp (Client c)) (word.Drop u lock)) past
      → is_live c past (story t r past) ≡ true → AskedOf t r (line (turn stamp (Client c)) (word.Drop u lock) ∷ past) c who
  own_drop u lock here live = by (nat_eq u t) refl
    where
      none : (change : Flush) → word.Drop u lock ≡ word.WritesBack r change → ⊥
      none change z = absurd (cc)

      by : (b : Bool) → nat_eq u t ≡ b → AskedOf t r (line (turn stamp (Client c)) (word.Drop u lock) ∷ past) c who
      by true same = let s = eqb-true u t same in subst (λ (v : ℕ). AskedOf t r (line (turn stamp (Client c)) (word.Drop v lock) ∷ past) c
          who) (sym s) (drop_here lock (subst (λ (v : ℕ). Here head t r (line (turn stamp (Client c)) (word.Drop v lock)) past) s here)
          live)
      by false other =
          asked_else head t r stamp c past (word.Drop u lock) here (turned u t other)
          (ap (λ (b : Bool). if b then of_life (Client c) past (λ d. if_on r lock.resource (Drop (lock_of lock))) h else h) other) refl
          (shows_none head t r stamp c past (word.Drop u lock) here tt) (shown_none head t r stamp c past (word.Drop u lock) here tt tt)
          (flight_same head t r stamp c past (word.Drop u lock) here tt) (λ change j. none change j.1) (here.tied.asked.of c live)

  -- ---- a new boot is heard of

  pub own_knows : (u boot : ℕ) → Here head t r (line (turn stamp (Client c)) (word.Knows u boot)) past → is_live c past (story t r past)
      ≡ true → AskedOf t r (line (turn stamp (Client c)) (word.Knows u boot) ∷ past) c who
  own_knows u boot here live = by (nat_eq u t) refl
    where
      none : (change : Flush) → word.Knows u boot ≡ word.WritesBack r change → ⊥
      none change z = absurd (cc)

      knows : Here head t r (line (turn stamp (Client c)) (word.Knows t boot)) past
          → AskedOf t r (line (turn stamp (Client c)) (word.Knows t boot) ∷ past) c who
      knows now =
          built (word.Knows t boot) now a refl refl tt (λ change z. absurd (cc)) (Forgets w ∷ h) is (λ j m g. g) refl refl
          (subst (λ (z : List Entry). LocksAs t r z c who (only t (line (turn stamp (Client c)) (word.Knows t boot) ∷ past))
          (owed_of c (line (turn stamp (Client c)) (word.Knows t boot) ∷ past))) is
          (locks_own head t r stamp c past (word.Knows t boot) now
          (subst (λ (z : List Entry). LocksStay w h z) (sym is) (record { back = λ m i v. i; kept = λ m i v. i; dropped = λ m d. d }))
          tt a.locks))
          (record {
            awaits = λ j z. absurd (let q : false ≡ true = sym (ap (λ (b : Bool). if b then false else says.awaits w j h) (self w)) ∙ z
                in cc);
            awaited = λ j low b. absurd (let q : awaits_of who j (only t (line (turn stamp (Client c)) (word.Knows t boot) ∷ past)) ≡ 0 =
                nothing j in omega (arith, q, low));
          })
        where
          a : AskedBy t r past c
          a = tie head t r (line (turn stamp (Client c)) (word.Knows t boot)) past now c live

          is : story t r (line (turn stamp (Client c)) (word.Knows t boot) ∷ past) ≡ Forgets w ∷ h
          is = at_live t c past h (λ d. Some (Forgets d)) live

          own : is_own who P (Client c) ≡ true
          own = subst (λ (v : Who). is_own v P (Client c) ≡ true)
              (sym (life_eq head t r (line (turn stamp (Client c)) (word.Knows t boot)) past now c live)) (own_self P c)

          nothing : (j : ℕ) → awaits_of who j (only t (line (turn stamp (Client c)) (word.Knows t boot) ∷ past)) ≡ 0
          nothing j = ap (λ (b : Bool). awaits_of who j (if b then line (turn stamp (Client c)) (word.Knows t boot) ∷ P else P)) (self t)
              ∙ ap (λ (b : Bool). if b then 0 else awaits_of who j P) own

      by : (b : Bool) → nat_eq u t ≡ b → AskedOf t r (line (turn stamp (Client c)) (word.Knows u boot) ∷ past) c who
      by true same = let s = eqb-true u t same in subst (λ (v : ℕ). AskedOf t r (line (turn stamp (Client c)) (word.Knows v boot) ∷ past) c
          who) (sym s) (knows (subst (λ (v : ℕ). Here head t r (line (turn stamp (Client c)) (word.Knows v boot)) past) s here))
      by false other =
          asked_else head t r stamp c past (word.Knows u boot) here (turned u t other)
          (ap (λ (b : Bool). if b then of_life (Client c) past (λ d. Some (Forgets d)) h else h) other) refl
          (shows_none head t r stamp c past (word.Knows u boot) here tt)
          (shown_none head t r stamp c past (word.Knows u boot) here tt tt) (flight_same head t r stamp c past (word.Knows u boot) here tt)
          (λ change j. none change j.1) (here.tied.asked.of c live)
