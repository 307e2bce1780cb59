-- How a server of objects makes its rows: from what its calls tell, and from what it shows then.
use Rattle.std.proofs.Common.{◌≡◌, ℕ, ◌==◌, ◌&&◌, Bool, true, false, not, Option, Some, None, List, [], ◌∷◌, refl, sym, ap, subst, ◌∙◌}
use Rattle.std.specs.Prelude.{if◌then◌else◌}
use Rattle.lu_base.specs.declared.ids.At.{At}
use Rattle.lu_base.specs.declared.ids.Cookie.{Cookie}
use Rattle.lu_base.specs.declared.ids.Who.{Who}
use Rattle.lu_base.specs.declared.locks.Ask.{Ask}
use Rattle.lu_base.specs.declared.locks.Extent.{Extent}
use Rattle.lu_base.specs.declared.locks.Lock.{Lock}
use Rattle.lu_base.specs.declared.locks.Mode.{Mode}
use Rattle.lu_base.specs.declared.locks.Policy.TheVariants.{Range}
use Rattle.lu_base.specs.declared.locks.Resource.{Resource}
use Rattle.lu_held.specs.Locks.{same_resource}
use Rattle.lu_spec_machine.specs.Objects.{object_touches, content}
use Rattle.lu_msg.specs.declared.answers.Answer.{Answer}
use Rattle.lu_msg.specs.declared.answers.Answer.TheVariants as told
use Rattle.lu_msg.specs.declared.messages.Request.{Request}
use Rattle.lu_msg.specs.declared.operations.Op.{Op}
use Rattle.lu_msg.specs.declared.operations.Op.TheVariants as op
use Rattle.lu_service.specs.declared.services.Kind.TheVariants.{Ost}
use Rattle.lu_service.specs.Covered.{covered, is_named as is_lock_named}
use Rattle.lu_service.specs.Objects.{alters}
use Rattle.lu_trace.specs.Turns.{Making}
use Rattle.lu_spec_entries.specs.Carried.{Deed}
use Rattle.lu_spec_entries.specs.Words.{Entry, Grant, Wait, same_life}
use Rattle.lu_spec_target.specs.Glimpses.{answered, row_answers, row_sizes}
use Rattle.lu_spec_target.specs.Lives.{is_life}
use Rattle.lu_spec_target.specs.Objects.{lock_for, lock_of, objects_go, row_enqueue, row_granted, row_waiting, row_get, row_uncovered}
use Rattle.lu_spec_target.specs.Objects.{row_write, row_written, written, put_extent, cut_extent}
use Rattle.lu_spec_target.specs.Queues.{object, size_of, extent_of, has_to_wait, grown, blocks_go}
use Rattle.lu_spec_target.specs.Replies.{replies, seen_in, locks_on}
use Rattle.lu_spec_target.specs.States.{Target, after, turn, follow}
use Rattle.lu_target_refines.proofs.Finding.{on_resource, found_on_resource}
use Rattle.lu_target_refines.proofs.Slots.{both}
use Rattle.lu_target_refines.proofs.Objects.{get_is, put_is, cut_is}
use Rattle.lu_target_locks.specs.declared.server.Enqueued.TheVariants as enqueued
use Rattle.lu_target_locks.specs.Servers as locking
use Rattle.lu_target_locks.specs.Servers.{ServerState as LockState, IsEnqueued, AreCalledBack, new_lock, as_grown, blocks_told}
use Rattle.lu_target_invariant.specs.Requests.{request_of}
use Rattle.lu_target_server.specs.Answering.{Tells, TellsSizes, IsAnswered}
use Rattle.lu_spec_entries.specs.Given.{giving}
use Rattle.lu_target_server.specs.Objects.{IsWrite}
use Rattle.lu_target_server.specs.Servers.{ServerState, Shows, Makes, IsUnasked}
use Rattle.lu_target_server.proofs.Composing.{makes_as, makes_then, tells, objects_shown}
use Rattle.lu_target_server.proofs.AnsweredObjects.{is_taken, shows_answers, shows_acts, shows_grants, shows_waits, shows_called}

-- ---- operations

by_write : (cookie : Cookie) (o : Op) (P : Op → Type 0) → IsWrite cookie o
    → ((resource : Resource) (offset : ℕ) (bytes : List ℕ) → P (op.Put resource cookie offset bytes))
    → ((resource : Resource) (size : ℕ) → P (op.Cut resource cookie size)) → P o
by_write cookie (op.Lookup path) P is put cut = absurd is
by_write cookie (op.Stat path) P is put cut = absurd is
by_write cookie (op.List path) P is put cut = absurd is
by_write cookie (op.Layout path) P is put cut = absurd is
by_write cookie (op.Mkdir path) P is put cut = absurd is
by_write cookie (op.Create path size count) P is put cut = absurd is
by_write cookie (op.Link one new) P is put cut = absurd is
by_write cookie (op.Unlink path) P is put cut = absurd is
by_write cookie (op.Rmdir path) P is put cut = absurd is
by_write cookie (op.Rename one new) P is put cut = absurd is
by_write cookie (op.Chmod path mode) P is put cut = absurd is
by_write cookie (op.Open path) P is put cut = absurd is
by_write cookie (op.Close opened fid) P is put cut = absurd is
by_write cookie (op.Enqueue resource mode extent) P is put cut = absurd is
by_write cookie (op.Get resource named page) P is put cut = absurd is
by_write cookie (op.Put resource named offset bytes) P is put cut =
    subst (λ (c : Cookie). P (op.Put resource c offset bytes)) (sym is) (put resource offset bytes)
by_write cookie (op.Cut resource named size) P is put cut = subst (λ (c : Cookie). P (op.Cut resource c size)) (sym is) (cut resource size)
by_write cookie (op.Size resource) P is put cut = absurd is

pub write_alters : (cookie : Cookie) (o : Op) → IsWrite cookie o → alters o ≡ true
write_alters cookie o is = by_write cookie o (λ o. alters o ≡ true) is (λ resource offset bytes. refl) (λ resource size. refl)

-- an asker that is sent to a lock has seen nothing
pub lock_unseen : (o : Op) → object_touches o told.Lock ≡ []
lock_unseen (op.Lookup path) = refl
lock_unseen (op.Stat path) = refl
lock_unseen (op.List path) = refl
lock_unseen (op.Layout path) = refl
lock_unseen (op.Mkdir path) = refl
lock_unseen (op.Create path size count) = refl
lock_unseen (op.Link one new) = refl
lock_unseen (op.Unlink path) = refl
lock_unseen (op.Rmdir path) = refl
lock_unseen (op.Rename one new) = refl
lock_unseen (op.Chmod path mode) = refl
lock_unseen (op.Open path) = refl
lock_unseen (op.Close opened fid) = refl
lock_unseen (op.Enqueue resource mode extent) = refl
lock_unseen (op.Get resource cookie page) = refl
lock_unseen (op.Put resource cookie offset bytes) = refl
lock_unseen (op.Cut resource cookie size) = refl
lock_unseen (op.Size resource) = refl

-- nor has a put or a cut
pub write_unseen : (cookie : Cookie) (o : Op) (answer : Answer) → IsWrite cookie o → object_touches o answer ≡ []
write_unseen cookie o answer is = by_write cookie o (λ o. object_touches o answer ≡ []) is (λ resource offset bytes. refl)
    (λ resource size. refl)

-- ---- what nothing touched was not seen

pub sees_nothing : (log : List Deed) → seen_in [] log ≡ []
sees_nothing [] = refl
sees_nothing (d ∷ log) = sees_nothing log

-- ---- a request that was answered, and nothing else

pub makes_answers : (old new : ServerState) (begun done : Making) (r : Request) (at : At) (answer : Target → Answer) → IsUnasked r old
    → old.kind ≡ Ost
    → ((v : Target) → Shows old v → done ≡ giving begun (row_answers (answered v at r (answer v))))
    → ((v : Target) → Shows old v → IsAnswered r.tag (answered v at r (answer v)).reply old new)
    → Makes (λ v. row_answers (answered v at r (answer v))) old new begun done
makes_answers old new begun done r at answer unasked objects sent is = record {
  gives = sent;
  shows = λ v shows. shows_answers old new v r (answered v at r (answer v)) objects unasked refl refl refl shows (is v shows);
}

pub makes_sizes : (old new : ServerState) (begun done : Making) (r : Request) (at : At) (answer : Target → Answer) → IsUnasked r old
    → old.kind ≡ Ost
    → ((v : Target) → Shows old v → done ≡ giving begun (row_sizes (answered v at r (answer v))))
    → ((v : Target) → Shows old v → IsAnswered r.tag (answered v at r (answer v)).reply old new)
    → Makes (λ v. row_sizes (answered v at r (answer v))) old new begun done
makes_sizes old new begun done r at answer unasked objects sent is = record {
  gives = sent;
  shows = λ v shows. shows_acts old new v r (answered v at r (answer v)) objects unasked refl refl refl refl shows (is v shows);
}

-- ---- bytes under a lock

-- the lock that a request names, on the object that it names
lock_named : (s : LockState) (v : Target) (who : Who) (cookie : Cookie) (resource : Resource) (l : Lock) → locking.Shows s v → Some l
    ≡ lock_of who cookie v.granted
    → is_lock_named who resource cookie l ≡ true → lock_of who cookie (locks_on resource v.granted) ≡ Some l
lock_named s v who cookie resource l shows found named =
    let on : same_resource l.resource resource ≡ true = (both (same_resource l.resource resource)
    (l.cookie.0 == cookie.0 && same_life l.ask.who who) named).0 in
    found_on_resource s.space v who cookie resource shows.locks ∙ ap (on_resource resource) (sym found)
    ∙ ap (λ b. if b then Some l else None) on

-- what else was found
lock_other : (s : LockState) (v : Target) (who : Who) (cookie : Cookie) (resource : Resource) (l : Lock) → locking.Shows s v → Some l
    ≡ lock_of who cookie v.granted
    → same_resource l.resource resource ≡ false → lock_of who cookie (locks_on resource v.granted) ≡ None
lock_other s v who cookie resource l shows found other =
    found_on_resource s.space v who cookie resource shows.locks ∙ ap (on_resource resource) (sym found)
    ∙ ap (λ b. if b then Some l else None) other

lock_none : (s : LockState) (v : Target) (who : Who) (cookie : Cookie) (resource : Resource) → locking.Shows s v → None
    ≡ lock_of who cookie v.granted
    → lock_of who cookie (locks_on resource v.granted) ≡ None
lock_none s v who cookie resource shows found = found_on_resource s.space v who cookie resource shows.locks
    ∙ ap (on_resource resource) (sym found)

pub get_covered : (s : LockState) (v : Target) (at : At) (r : Request) (resource : Resource) (cookie : Cookie) (page : ℕ) (l : Lock)
    → locking.Shows s v
    → Some l ≡ lock_of r.who cookie v.granted → covered (op.Get resource cookie page) (Some l) r.who ≡ true
    → row_get v at r resource page (lock_of r.who cookie (locks_on resource v.granted))
    ≡ row_answers (answered v at r (told.Content (content page (extent_of l) (object v resource))))
get_covered s v at r resource cookie page l shows found covers =
    let named : is_lock_named r.who resource cookie l ≡ true = (both (is_lock_named r.who resource cookie l) _ covers).0 in
    let is : lock_of r.who cookie (locks_on resource v.granted) ≡ Some l = lock_named s v r.who cookie resource l shows found named in
    ap (row_get v at r resource page) is ∙ get_is v at r resource cookie page v.granted l is
    ∙ ap (λ b. if b then row_answers (answered v at r (told.Content (content page (extent_of l) (object v resource))))
    else row_uncovered v at r) covers

pub get_uncovered : (s : LockState) (v : Target) (at : At) (r : Request) (resource : Resource) (cookie : Cookie) (page : ℕ)
    (found : Option Lock) → locking.Shows s v
    → found ≡ lock_of r.who cookie v.granted → covered (op.Get resource cookie page) found r.who ≡ false
    → row_get v at r resource page (lock_of r.who cookie (locks_on resource v.granted)) ≡ row_uncovered v at r
get_uncovered s v at r resource cookie page None shows found covers =
    ap (row_get v at r resource page) (lock_none s v r.who cookie resource shows found)
get_uncovered s v at r resource cookie page (Some l) shows found covers = by (same_resource l.resource resource) refl where
  by : (on : Bool) → same_resource l.resource resource ≡ on → row_get v at r resource page
      (lock_of r.who cookie (locks_on resource v.granted)) ≡ row_uncovered v at r
  by true e =
      let is : lock_of r.who cookie (locks_on resource v.granted) ≡ Some l =
      found_on_resource s.space v r.who cookie resource shows.locks ∙ ap (on_resource resource) (sym found)
      ∙ ap (λ b. if b then Some l else None) e in
      ap (row_get v at r resource page) is ∙ get_is v at r resource cookie page v.granted l is
      ∙ ap (λ b. if b then row_answers (answered v at r (told.Content (content page (extent_of l) (object v resource))))
      else row_uncovered v at r) covers
  by false e = ap (row_get v at r resource page) (lock_other s v r.who cookie resource l shows found e)

pub write_covered : (s : LockState) (v : Target) (at : At) (r : Request) (cookie : Cookie) (o : Op) (l : Lock) → IsWrite cookie o
    → locking.Shows s v
    → Some l ≡ lock_of r.who cookie v.granted → covered o (Some l) r.who ≡ true → objects_go v at r o ≡ row_written (written v at r)
write_covered s v at r cookie o l is shows found covers =
    by_write cookie o (λ x. covered x (Some l) r.who ≡ true → objects_go v at r x ≡ row_written (written v at r)) is put cut covers
  where
    put : (resource : Resource) (offset : ℕ) (bytes : List ℕ) → covered (op.Put resource cookie offset bytes) (Some l) r.who ≡ true
        → objects_go v at r (op.Put resource cookie offset bytes) ≡ row_written (written v at r)
    put resource offset bytes covers =
        let it : lock_of r.who cookie (locks_on resource v.granted) ≡ Some l =
        lock_named s v r.who cookie resource l shows found (both (is_lock_named r.who resource cookie l) _ covers).0 in
        ap (row_write v at r (put_extent offset bytes)) it ∙ put_is v at r resource cookie offset bytes v.granted l it
        ∙ ap (λ b. if b then row_written (written v at r) else row_uncovered v at r) covers

    cut : (resource : Resource) (size : ℕ) → covered (op.Cut resource cookie size) (Some l) r.who ≡ true
        → objects_go v at r (op.Cut resource cookie size) ≡ row_written (written v at r)
    cut resource size covers =
        let it : lock_of r.who cookie (locks_on resource v.granted) ≡ Some l =
        lock_named s v r.who cookie resource l shows found (both (is_lock_named r.who resource cookie l) _ covers).0 in
        ap (row_write v at r (cut_extent size)) it ∙ cut_is v at r resource cookie size v.granted l it
        ∙ ap (λ b. if b then row_written (written v at r) else row_uncovered v at r) covers

pub write_found : (s : LockState) (v : Target) (at : At) (r : Request) (cookie : Cookie) (o : Op) (found : Option Lock) → IsWrite cookie o
    → locking.Shows s v
    → found ≡ lock_of r.who cookie v.granted → covered o found r.who ≡ true → objects_go v at r o ≡ row_written (written v at r)
write_found s v at r cookie o None is shows found covers = absurd (cc)
write_found s v at r cookie o (Some l) is shows found covers = write_covered s v at r cookie o l is shows found covers

pub write_uncovered : (s : LockState) (v : Target) (at : At) (r : Request) (cookie : Cookie) (o : Op) (found : Option Lock)
    → IsWrite cookie o → locking.Shows s v
    → found ≡ lock_of r.who cookie v.granted → covered o found r.who ≡ false → objects_go v at r o ≡ row_uncovered v at r
write_uncovered s v at r cookie o None is shows found covers =
    by_write cookie o (λ x. objects_go v at r x ≡ row_uncovered v at r) is
    (λ resource offset bytes. ap (row_write v at r (put_extent offset bytes)) (lock_none s v r.who cookie resource shows found))
    (λ resource size. ap (row_write v at r (cut_extent size)) (lock_none s v r.who cookie resource shows found))
write_uncovered s v at r cookie o (Some l) is shows found covers =
    by_write cookie o (λ x. covered x (Some l) r.who ≡ false → objects_go v at r x ≡ row_uncovered v at r) is put cut covers
  where
    named : (resource : Resource) → same_resource l.resource resource ≡ true → lock_of r.who cookie (locks_on resource v.granted) ≡ Some l
    named resource e = found_on_resource s.space v r.who cookie resource shows.locks ∙ ap (on_resource resource) (sym found)
        ∙ ap (λ b. if b then Some l else None) e

    put : (resource : Resource) (offset : ℕ) (bytes : List ℕ) → covered (op.Put resource cookie offset bytes) (Some l) r.who ≡ false
        → objects_go v at r (op.Put resource cookie offset bytes) ≡ row_uncovered v at r
    put resource offset bytes covers = by (same_resource l.resource resource) refl where
      by : (on : Bool) → same_resource l.resource resource ≡ on → objects_go v at r (op.Put resource cookie offset bytes)
          ≡ row_uncovered v at r
      by true e =
          ap (row_write v at r (put_extent offset bytes)) (named resource e)
          ∙ put_is v at r resource cookie offset bytes v.granted l (named resource e)
          ∙ ap (λ b. if b then row_written (written v at r) else row_uncovered v at r) covers
      by false e = ap (row_write v at r (put_extent offset bytes)) (lock_other s v r.who cookie resource l shows found e)

    cut : (resource : Resource) (size : ℕ) → covered (op.Cut resource cookie size) (Some l) r.who ≡ false
        → objects_go v at r (op.Cut resource cookie size) ≡ row_uncovered v at r
    cut resource size covers = by (same_resource l.resource resource) refl where
      by : (on : Bool) → same_resource l.resource resource ≡ on → objects_go v at r (op.Cut resource cookie size) ≡ row_uncovered v at r
      by true e =
          ap (row_write v at r (cut_extent size)) (named resource e) ∙ cut_is v at r resource cookie size v.granted l (named resource e)
          ∙ ap (λ b. if b then row_written (written v at r) else row_uncovered v at r) covers
      by false e = ap (row_write v at r (cut_extent size)) (lock_other s v r.who cookie resource l shows found e)

-- ---- a lock is asked for

-- it was granted, or it waits
was_granted : (waits : Bool) (l grown lock : Lock) → enqueued.Granted lock ≡ (if waits then enqueued.Waiting l else enqueued.Granted grown)
    → (waits ≡ false) × (lock ≡ grown)
was_granted true l grown lock e = absurd (cc)
was_granted false l grown lock e = (refl, cc)

was_waiting : (waits : Bool) (l grown lock : Lock) → enqueued.Waiting lock ≡ (if waits then enqueued.Waiting l else enqueued.Granted grown)
    → (waits ≡ true) × (lock ≡ l)
was_waiting true l grown lock e = (refl, cc)
was_waiting false l grown lock e = absurd (cc)

-- the lock is on the object that was named
pub granted_on : (old new : LockState) (v : Target) (resource : Resource) (ask : Ask) (lock : Lock)
    → IsEnqueued resource ask (enqueued.Granted lock) old new → locking.Shows old v → lock.resource ≡ resource
granted_on old new v resource ask lock is shows =
    let l : Lock = new_lock v resource ask in
    ap (λ (k : Lock). k.resource) (was_granted (has_to_wait v (locks_on resource v.waiting) l) l (as_grown v l) lock (is.placed v shows)).1

pub waiting_on : (old new : LockState) (v : Target) (resource : Resource) (ask : Ask) (lock : Lock)
    → IsEnqueued resource ask (enqueued.Waiting lock) old new → locking.Shows old v → lock.resource ≡ resource
waiting_on old new v resource ask lock is shows =
    let l : Lock = new_lock v resource ask in
    ap (λ (k : Lock). k.resource) (was_waiting (has_to_wait v (locks_on resource v.waiting) l) l (as_grown v l) lock (is.placed v shows)).1

-- locks alone have changed
pub tells_middle : (old middle : ServerState) (v : Target) → middle ≡ record old { locks = middle.locks } → Shows old v → Tells middle v
tells_middle old middle v mid shows = subst (λ (s : ServerState). Tells s v) (sym mid) (record { boot = shows.boot; store = shows.store })

pub sizes_middle : (old middle : ServerState) (v : Target) → middle ≡ record old { locks = middle.locks } → old.kind ≡ Ost → Shows old v
    → TellsSizes middle v
sizes_middle old middle v mid objects shows =
    subst (λ (s : ServerState). TellsSizes s v) (sym mid) (record
    { tells = record { boot = shows.boot; store = shows.store }; objects = (objects_shown old v objects shows).1 })

module _ (old middle new : ServerState) (r : Request) (at : At) (resource : Resource) (mode : Mode) (extent : Extent) (lock : Lock)
    (objects : old.kind ≡ Ost) (unasked : IsUnasked r old)
    (waits : request_of r.who r.xid old.requests ≡ Some r) (mid : middle ≡ record old { locks = middle.locks }) where
  abbrev pub ask : Ask
  ask = record { who = r.who; mode = mode; policy = Range extent }

  abbrev pub asked : Target → Lock
  asked v = lock_for v r resource mode extent

  pub makes_granted : (begun done : Making) → IsEnqueued resource ask (enqueued.Granted lock) old.locks middle.locks
      → ((v : Target) → TellsSizes middle v → done ≡ giving begun (row_granted v at r lock))
      → ((v : Target) → TellsSizes middle v → IsAnswered r.tag (answered v at r
      (told.Granted lock.cookie (extent_of lock) (size_of v lock.resource))).reply middle new)
      → Makes (λ v. row_enqueue v at r (lock_for v r resource mode extent)) old new begun done
  makes_granted begun done is sent answers =
      makes_as (λ v. row_granted v at r lock) (λ v. row_enqueue v at r (asked v)) old new begun done same (record {
        gives = λ v shows. sent v (sizes_middle old middle v mid objects shows);
        shows = shown;
      })
    where
      placed : (v : Target) → Shows old v → (has_to_wait v (locks_on resource v.waiting) (asked v) ≡ false) × (lock ≡ as_grown v (asked v))
      placed v shows = was_granted (has_to_wait v (locks_on resource v.waiting) (asked v)) (asked v) (as_grown v (asked v)) lock
          (is.placed v shows.locks)

      same : (v : Target) → Shows old v → row_granted v at r lock ≡ row_enqueue v at r (asked v)
      same v shows =
          ap (row_granted v at r) (placed v shows).1
          ∙ sym (ap (λ b. if b then row_waiting v at r (asked v) else row_granted v at r (grown v (locks_on resource v.waiting) (asked v)))
          (placed v shows).0)

      shown : (v : Target) → Shows old v → Shows new (turn v (row_granted v at r lock))
      shown v shows =
          let d : Deed = answered v at r (told.Granted lock.cookie (extent_of lock) (size_of v lock.resource)) in
          shows_grants old new v r d objects unasked refl refl refl lock
          (ap (λ (l : Lock). is_life l.ask.who v.lives) (placed v shows).1 ∙ (is_taken old v r shows waits).life) middle mid
          (subst (λ (l : Lock). locking.Shows middle.locks (after v (Grant l (Some d)))) (sym (placed v shows).1)
          (is.grants v (Some d) shows.locks (placed v shows).0))
          shows (answers v (sizes_middle old middle v mid objects shows))

  pub makes_waits : (begun done : Making) → IsEnqueued resource ask (enqueued.Waiting lock) old.locks middle.locks
      → ((v : Target) → Tells middle v → done ≡ (let d = answered v at r (told.Waiting lock.cookie)
      in giving begun (Wait lock d ∷ replies d ∷ [])))
      → ((v : Target) → Tells middle v → IsAnswered r.tag (answered v at r (told.Waiting lock.cookie)).reply middle new)
      → Makes (λ v. let d = answered v at r (told.Waiting lock.cookie) in Wait lock d ∷ replies d ∷ []) old new begun done
  makes_waits begun done is sent answers = record {
    gives = λ v shows. sent v (tells_middle old middle v mid shows);
    shows = shown;
  } where
    shown : (v : Target) → Shows old v → Shows new (turn v (let d = answered v at r (told.Waiting lock.cookie) in Wait lock d ∷ replies d
        ∷ []))
    shown v shows =
        let d : Deed = answered v at r (told.Waiting lock.cookie) in
        let placed : (has_to_wait v (locks_on resource v.waiting) (asked v) ≡ true) × (lock ≡ asked v) =
        was_waiting (has_to_wait v (locks_on resource v.waiting) (asked v)) (asked v) (as_grown v (asked v)) lock (is.placed v shows.locks)
        in
        shows_waits old new v r d objects unasked refl refl refl lock
        (ap (λ (l : Lock). is_life l.ask.who v.lives) placed.1 ∙ (is_taken old v r shows waits).life) middle mid
        (subst (λ (l : Lock). locking.Shows middle.locks (after v (Wait l d))) (sym placed.1) (is.waits v d shows.locks placed.0))
        shows (answers v (tells_middle old middle v mid shows))

  -- and then what is in its way is called back
  pub makes_waiting : (last : ServerState) (begun between done : Making)
      → IsEnqueued resource ask (enqueued.Waiting lock) old.locks middle.locks
      → Makes (λ v. let d = answered v at r (told.Waiting lock.cookie) in Wait lock d ∷ replies d ∷ []) old new begun between
      → Makes (λ w. blocks_go (locks_on resource w.waiting) w) new last between done
      → Makes (λ v. row_enqueue v at r (lock_for v r resource mode extent)) old last begun done
  makes_waiting last begun between done is first next =
      makes_as (λ v. follow v (lines v lock) goes) (λ v. row_enqueue v at r (asked v)) old last begun done same
      (makes_then (λ v. lines v lock) goes old new last begun between done first next)
    where
      lines : Target → Lock → List Entry
      lines v l = let d = answered v at r (told.Waiting l.cookie) in Wait l d ∷ replies d ∷ []

      goes : Target → List Entry
      goes w = blocks_go (locks_on resource w.waiting) w

      same : (v : Target) → Shows old v → follow v (lines v lock) goes ≡ row_enqueue v at r (asked v)
      same v shows =
          let placed : (has_to_wait v (locks_on resource v.waiting) (asked v) ≡ true) × (lock ≡ asked v) =
          was_waiting (has_to_wait v (locks_on resource v.waiting) (asked v)) (asked v) (as_grown v (asked v)) lock
          (is.placed v shows.locks) in
          ap (λ (l : Lock). follow v (lines v l) goes) placed.1
          ∙ sym (ap (λ b. if b then row_waiting v at r (asked v) else row_granted v at r (grown v (locks_on resource v.waiting) (asked v)))
          placed.0)

pub makes_called : (resource : Resource) (locks : List Lock) (old new : ServerState) (begun done : Making) → new
    ≡ record old { locks = new.locks }
    → AreCalledBack resource locks old.locks new.locks
    → ((v : Target) → v.boot ≡ old.boot → done ≡ giving begun (blocks_told v locks))
    → Makes (λ w. blocks_go (locks_on resource w.waiting) w) old new begun done
makes_called resource locks old new begun done mid called sent = record {
  gives = λ v shows. sent v shows.boot ∙ ap (giving begun) (sym (called.told v shows.locks));
  shows = λ v shows. shows_called resource locks old new v mid called shows;
}
