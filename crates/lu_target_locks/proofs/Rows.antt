-- The calls together are the rows of an object target: a request for a lock, and a cancel.
use Rattle.std.proofs.Common.{◌≡◌, false, Some, List, [], ◌∷◌, ◌++◌, refl, sym, ◌∙◌, ap, subst}
use Rattle.std.specs.Prelude.{if◌then◌else◌}
use Rattle.lu_base.specs.declared.ids.At.{At}
use Rattle.lu_base.specs.declared.ids.Cookie.{Cookie}
use Rattle.lu_base.specs.declared.ids.Who.{Who}
use Rattle.lu_base.specs.declared.locks.Ask.{Ask}
use Rattle.lu_base.specs.declared.locks.Lock.{Lock}
use Rattle.lu_base.specs.declared.locks.Resource.{Resource}
use Rattle.lu_msg.specs.declared.answers.Answer.TheVariants as told
use Rattle.lu_msg.specs.declared.messages.Request.{Request}
use Rattle.lu_spec_entries.specs.Carried.{Deed}
use Rattle.lu_spec_entries.specs.Words.{Entry, Grant, Wait}
use Rattle.lu_spec_target.specs.Glimpses.{answered}
use Rattle.lu_spec_target.specs.Names.{names_go}
use Rattle.lu_spec_target.specs.Objects.{row_enqueue, row_granted, row_waiting}
use Rattle.lu_spec_target.specs.Queues.{size_of, extent_of, blocks_go, queue_goes}
use Rattle.lu_spec_target.specs.Replies.{locks_on, replies}
use Rattle.lu_spec_target.specs.Requests.{releases, row_cancel, row_cancels}
use Rattle.lu_spec_target.specs.States.{Target, after, turn, is_names}
use Rattle.lu_target_refines.specs.Locks.{grants_told}
use Rattle.lu_target_refines.proofs.Locks.{turn-append, locks_same}
use Rattle.lu_target_locks.specs.declared.server.Enqueued.{Enqueued}
use Rattle.lu_target_locks.specs.declared.server.Enqueued.TheVariants as enqueued
use Rattle.lu_target_locks.specs.declared.server.Released.{Released}
use Rattle.lu_target_locks.specs.Servers.{ServerState, Shows, new_lock, as_grown, waits_on, is_free, blocks_told, IsEnqueued, IsReleased}
use Rattle.lu_target_locks.specs.Servers.{AreCalledBack}

-- ---- a lock is asked for

abbrev pub deed_waits : Target → At → Request → Lock → Deed
deed_waits v at r l = answered v at r (told.Waiting l.cookie)

abbrev pub deed_granted : Target → At → Request → Lock → Deed
deed_granted v at r l = answered v at r (told.Granted l.cookie (extent_of l) (size_of v l.resource))

-- a message changes nothing
replied : (s : ServerState) (v : Target) (d : Deed) → Shows s v → Shows s (after v (replies d))
replied s v d shows = record {
  locks = locks_same s.space v (after v (replies d)) refl refl refl shows.locks;
  calls = shows.calls;
  boot =
      shows.boot;
  counted = shows.counted;
  cookie = shows.cookie;
  ticks = shows.ticks;
}

-- it waits, and calls back what is in its way
abbrev pub waits_told : Target → At → Request → Lock → List Lock → List Entry
waits_told v at r l called =
    let d = deed_waits v at r l in
    Wait l d ∷ replies d ∷ blocks_told (turn v (Wait l d ∷ replies d ∷ [])) called

pub enqueue_waits : (resource : Resource) (ask : Ask) (answer : Enqueued) (called : List Lock) (old mid new : ServerState)
    → IsEnqueued resource ask answer old mid → AreCalledBack resource called mid new
    → (v : Target) (at : At) (r : Request) → Shows old v → waits_on v (new_lock v resource ask)
    → (answer ≡ enqueued.Waiting (new_lock v resource ask)) × (row_enqueue v at r (new_lock v resource ask)
    ≡ waits_told v at r (new_lock v resource ask) called)
    × Shows new (turn v (row_enqueue v at r (new_lock v resource ask)))
enqueue_waits resource ask answer called old mid new is calls v at r s waits = (
  is.placed v s ∙ ap (λ b. if b then enqueued.Waiting l else enqueued.Granted (as_grown v l)) waits,
  row ∙ ap (λ (es : List Entry). Wait l d ∷ replies d ∷ es) (calls.told w there),
  subst (λ (es : List Entry). Shows new (turn v es)) (sym row) (calls.shows w there),
)
  where
    l : Lock
    l = new_lock v resource ask

    d : Deed
    d = deed_waits v at r l

    w : Target
    w = turn v (Wait l d ∷ replies d ∷ [])

    row : row_enqueue v at r l ≡ Wait l d ∷ replies d ∷ blocks_go (locks_on resource w.waiting) w
    row = ap (λ b. if b then row_waiting v at r l else row_granted v at r (as_grown v l)) waits

    there : Shows mid w
    there = replied mid (after v (Wait l d)) d (is.waits v d s waits)

-- it is granted at once
abbrev pub granted_told : Target → At → Request → Lock → List Entry
granted_told v at r l = let d = deed_granted v at r l in Grant l (Some d) ∷ replies d ∷ []

pub enqueue_granted : (resource : Resource) (ask : Ask) (answer : Enqueued) (old new : ServerState) → IsEnqueued resource ask answer old new
    → (v : Target) (at : At) (r : Request) → Shows old v → is_free v (new_lock v resource ask)
    → (answer ≡ enqueued.Granted (as_grown v (new_lock v resource ask)))
    × (row_enqueue v at r (new_lock v resource ask) ≡ granted_told v at r (as_grown v (new_lock v resource ask)))
    × Shows new (turn v (row_enqueue v at r (new_lock v resource ask)))
enqueue_granted resource ask answer old new is v at r s free = (
  is.placed v s ∙ ap (λ b. if b then enqueued.Waiting l else enqueued.Granted g) free,
  row,
  subst (λ (es : List Entry). Shows new (turn v es)) (sym row) (replied new (after v (Grant g (Some d))) d (is.grants v (Some d) s free)),
)
  where
    l : Lock
    l = new_lock v resource ask

    g : Lock
    g = as_grown v l

    d : Deed
    d = deed_granted v at r g

    row : row_enqueue v at r l ≡ granted_told v at r g
    row = ap (λ b. if b then row_waiting v at r l else row_granted v at r g) free

-- ---- a cancel

abbrev pub cancel_told : Target → At → Released → List Lock → List Entry
cancel_told v at released called =
    let w = turn v (releases at released.lock v) in
    let es = grants_told released.lock.resource w released.granted in
    releases at released.lock v ++ (es ++ blocks_told (turn w es) called)

still_objects : (es : List Entry) (v : Target) → is_names (turn v es) ≡ is_names v
still_objects [] v = refl
still_objects (e ∷ es) v = still_objects es (after v e)

pub cancel_goes : (who : Who) (cookie : Cookie) (released : Released) (called : List Lock) (old mid new : ServerState)
    → IsReleased who cookie released old mid → AreCalledBack released.lock.resource called mid new
    → (v : Target) (at : At) → Shows old v → is_names v ≡ false → (row_cancel v at who cookie ≡ cancel_told v at released called)
    × Shows new (turn v (row_cancel v at who cookie))
cancel_goes who cookie released called old mid new is calls v at s objects = (
  row ∙ ap (λ (es : List Entry). releases at l v ++ (told_grants ++ es)) (calls.told x there),
  subst (λ (es : List Entry). Shows new (turn v es)) (sym row)
      (subst (Shows new) (sym (turn-append v (releases at l v) (told_grants ++ blocks_go (locks_on r x.waiting) x)
      ∙ turn-append w told_grants (blocks_go (locks_on r x.waiting) x))) (calls.shows x there)),
)
  where
    l : Lock
    l = released.lock

    r : Resource
    r = l.resource

    w : Target
    w = turn v (releases at l v)

    told_grants : List Entry
    told_grants = grants_told r w released.granted

    x : Target
    x = turn w told_grants

    there : Shows mid x
    there = is.shows v at s

    row : row_cancel v at who cookie ≡ releases at l v ++ (told_grants ++ blocks_go (locks_on r x.waiting) x)
    row =
        ap (row_cancels v at) (is.was v s)
        ∙ ap (λ b. releases at l v ++ (if b then names_go at w else queue_goes r w)) (still_objects (releases at l v) v ∙ objects)
        ∙ ap (λ (es : List Entry). releases at l v ++ (es ++ (let y = turn w es in blocks_go (locks_on r y.waiting) y))) (is.granted v at s)
