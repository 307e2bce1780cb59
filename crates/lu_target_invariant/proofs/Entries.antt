-- Entry by entry: what the state keeps stays so.
use Rattle.std.proofs.Common.{◌≡◌, ◌≤◌, ◌<◌, ◌==◌, ◌&&◌, Bool, true, false, List, [], ◌∷◌, ◌++◌, filter, Some, None, refl, sym, ap, subst}
use Rattle.std.proofs.Common.{◌∙◌, arith, nat_lt}
use Rattle.std.specs.Prelude.{if◌then◌else◌, not, ⊤, slice_index_or, All, AllPairs}
use Rattle.std.proofs.lemmas.List.Elements.{All-weaker, All-filter, All-push, All-cons, All-head, All-tail, All-nil}
use Rattle.std.proofs.lemmas.List.Kept.{AllPairs-filter}
use Rattle.std.proofs.lemmas.List.Quantifiers.{all_pairs_push}
use Rattle.lu_base.specs.declared.ids.Xid.{Xid}
use Rattle.lu_base.specs.declared.locks.Lock.{Lock}
use Rattle.lu_msg.specs.Limits.{tag_count}
use Rattle.lu_msg.specs.declared.messages.Request.{Request}
use Rattle.lu_service.specs.declared.services.Kind.{Kind}
use Rattle.lu_service.specs.declared.services.Kind.TheVariants.{Mdt, Ost}
use Rattle.lu_service.specs.Takes.{Takes}
use Rattle.lu_spec_entries.specs.Carried.{Deed, Glimpse}
use Rattle.lu_spec_entries.specs.Words.{Entry, Send, Take, Tick, Skip, Act, Txn, Grant, Wait, Block, Release, Commit, Boot, Back, Close}
use Rattle.lu_spec_entries.specs.Words.{Kept, Restore, Evict, Joined, Fail, Enters, Answers, Asks, Ends, same_life}
use Rattle.lu_spec_target.specs.Lives.{is_life, slot_in, slots_entered}
use Rattle.lu_spec_target.specs.Locks.{with_lock, with_locks, without_lock, is_request_of, same_request, same_glimpse}
use Rattle.lu_spec_target.specs.States.{Target, after, turn, follow}
use Rattle.lu_target_refines.specs.Lives.{InOrder, OfClients}
use Rattle.lu_target_refines.proofs.Slots.{never, both, one_place}
use Rattle.lu_target_refines.proofs.Blocking.{turned_more}
use Rattle.lu_target_invariant.specs.Requests.{request_of}
use Rattle.lu_target_invariant.specs.Sound.{IsTaken, AreApart, IsAsked, AskApart, IsForReading, IsOfLife, HasLocksOf, IsSound}
use Rattle.lu_target_invariant.proofs.Requests.{found_more, found_last, found_holds, all_none, same_turned}
use Rattle.lu_target_invariant.proofs.Taken.{newest_entered, newest_itself, taken_same, queue_answered, NoneAsks, glimpses_answered}

-- ---- what holds of all locks

pub all_with : (P : Lock → Type 0) (l : Lock) (locks : List Lock) → P l → All P locks → All P (with_lock l locks)
all_with P l [] one all = All-cons P l [] one all
all_with P l (k ∷ locks) one all = by (l.cookie.0 == k.cookie.0) (nat_lt l.cookie.0 k.cookie.0)
    (all_with P l locks one (All-tail P k locks all)) where
      by : (own first : Bool) → All P (with_lock l locks) → All P (if own then l ∷ locks
          else (if first then l ∷ k ∷ locks else k ∷ with_lock l locks))
      by true first rest = All-cons P l locks one (All-tail P k locks all)
      by false true rest = All-cons P l (k ∷ locks) one all
      by false false rest = All-cons P k (with_lock l locks) (All-head P k locks all) rest

pub all_with_all : (P : Lock → Type 0) (more locks : List Lock) → All P more → All P locks → All P (with_locks more locks)
all_with_all P [] locks ones all = all
all_with_all P (l ∷ more) locks ones all = all_with_all P more (with_lock l locks) (All-tail P l more ones)
    (all_with P l locks (All-head P l more ones) all)

-- what is granted on names is for reading
abbrev pub ReadsOnly : Kind → List Lock → Type 0
ReadsOnly Mdt locks = All IsForReading locks
ReadsOnly Ost locks = ⊤

pub reads_none : (kind : Kind) → ReadsOnly kind []
reads_none Mdt = All-nil IsForReading
reads_none Ost = tt

-- ---- where nothing is read of it

-- what is kept is read of other entries
abbrev pub is_quiet : Entry → Bool
is_quiet (Send to m) = true
is_quiet (Take n from m) = true
is_quiet Tick = true
is_quiet Skip = true
is_quiet (Block called) = true
is_quiet (Back who) = true
is_quiet (Kept number) = true
is_quiet (Evict who cause) = true
is_quiet (Joined who) = true
is_quiet Fail = true
is_quiet _ = false

-- the same is read of both
abbrev pub AreAlike : (v w : Target) → Type 0
AreAlike v w =
    record {
      up : w.up ≡ v.up;
      closed : w.closed ≡ v.closed;
      boot : w.boot ≡ v.boot;
      lives : w.lives ≡ v.lives;
      slots : w.slots ≡ v.slots;
      granted : w.granted ≡ v.granted;
      waiting : w.waiting ≡ v.waiting;
      queue : w.queue ≡ v.queue;
      glimpses : w.glimpses ≡ v.glimpses;
    }

locks_alike : (kind : Kind) (v w : Target) → AreAlike v w → HasLocksOf kind v → HasLocksOf kind w
locks_alike Mdt v w same locks = (subst (All IsForReading) (sym same.granted) locks.0, same.waiting ∙ locks.1, same.glimpses ∙ locks.2)
locks_alike Ost v w same locks = (
  subst (All (IsAsked w.queue)) (sym same.glimpses) (subst (λ queue. All (IsAsked queue) v.glimpses) (sym same.queue) locks.0),
  subst (AllPairs AskApart) (sym same.glimpses) locks.1,
)

pub sound_alike : (kind : Kind) (v w : Target) → AreAlike v w → IsSound kind v → IsSound kind w
sound_alike kind v w same sound = record {
  up = same.up ∙ sound.up;
  serving = same.closed ∙ sound.serving ∙ sym same.boot;
  lives = subst InOrder (sym same.lives) sound.lives;
  clients = subst OfClients (sym same.lives) sound.clients;
  queue = subst (All (IsTaken kind w)) (sym same.queue) (All-weaker (IsTaken kind v) (IsTaken kind w)
      (taken_same kind v w same.lives same.slots) v.queue sound.queue);
  apart = subst (AllPairs AreApart) (sym same.queue) sound.apart;
  holders = subst (λ lives. All (IsOfLife lives) w.granted) (sym same.lives)
      (subst (All (IsOfLife v.lives)) (sym same.granted) sound.holders);
  waiters = subst (λ lives. All (IsOfLife lives) w.waiting) (sym same.lives)
      (subst (All (IsOfLife v.lives)) (sym same.waiting) sound.waiters);
  locks = locks_alike kind v w same sound.locks;
}

alike_itself : (v : Target) → AreAlike v v
alike_itself v = record {
  up = refl;
  closed = refl;
  boot = refl;
  lives = refl;
  slots = refl;
  granted = refl;
  waiting = refl;
  queue = refl;
  glimpses = refl;
}

pub sound_quiet : (kind : Kind) (v : Target) (e : Entry) → is_quiet e ≡ true → IsSound kind v → IsSound kind (after v e)
sound_quiet kind v (Send to m) quiet sound = sound_alike kind v (after v (Send to m)) (alike_itself v) sound
sound_quiet kind v (Take n from m) quiet sound = sound_alike kind v (after v (Take n from m)) (alike_itself v) sound
sound_quiet kind v Tick quiet sound = sound_alike kind v (after v Tick) (alike_itself v) sound
sound_quiet kind v Skip quiet sound = sound_alike kind v (after v Skip) (alike_itself v) sound
sound_quiet kind v (Block called) quiet sound = sound_alike kind v (after v (Block called)) (alike_itself v) sound
sound_quiet kind v (Back who) quiet sound = sound_alike kind v (after v (Back who)) (alike_itself v) sound
sound_quiet kind v (Kept number) quiet sound = sound_alike kind v (after v (Kept number)) (alike_itself v) sound
sound_quiet kind v (Evict who cause) quiet sound = sound_alike kind v (after v (Evict who cause)) (alike_itself v) sound
sound_quiet kind v (Joined who) quiet sound = sound_alike kind v (after v (Joined who)) (alike_itself v) sound
sound_quiet kind v Fail quiet sound = sound_alike kind v (after v Fail) (alike_itself v) sound
sound_quiet kind v _ quiet sound = absurd (never (sym quiet))

abbrev pub all_quiet : List Entry → Bool
all_quiet [] = true
all_quiet (e ∷ es) = is_quiet e && all_quiet es

pub sound_all_quiet : (kind : Kind) (v : Target) (es : List Entry) → all_quiet es ≡ true → IsSound kind v → IsSound kind (turn v es)
sound_all_quiet kind v [] quiet sound = sound
sound_all_quiet kind v (e ∷ es) quiet sound =
    let parts = both (is_quiet e) (all_quiet es) quiet in
    sound_all_quiet kind (after v e) es parts.1 (sound_quiet kind v e parts.0 sound)

-- the lives with slots stay
lives_quiet : (v : Target) (e : Entry) → is_quiet e ≡ true → (after v e).lives ≡ v.lives
lives_quiet v (Commit to batch) quiet = absurd (never (sym quiet))
lives_quiet v (Boot boot disk) quiet = absurd (never (sym quiet))
lives_quiet v (Close o) quiet = absurd (never (sym quiet))
lives_quiet v _ quiet = refl

pub lives_all_quiet : (v : Target) (es : List Entry) → all_quiet es ≡ true → (turn v es).lives ≡ v.lives
lives_all_quiet v [] quiet = refl
lives_all_quiet v (e ∷ es) quiet =
    let parts = both (is_quiet e) (all_quiet es) quiet in
    lives_all_quiet (after v e) es parts.1 ∙ lives_quiet v e parts.0

-- one list after the other
pub sound_then : (kind : Kind) (v : Target) (es more : List Entry) → IsSound kind (turn (turn v es) more)
    → IsSound kind (turn v (es ++ more))
sound_then kind v es more sound = subst (IsSound kind) (sym (turned_more v es more)) sound

pub sound_follow : (kind : Kind) (v : Target) (es : List Entry) (next : Target → List Entry)
    → IsSound kind (turn (turn v es) (next (turn v es)))
    → IsSound kind (turn v (follow v es next))
sound_follow kind v es next sound = sound_then kind v es (next (turn v es)) sound

pub quiet_append : (es more : List Entry) → all_quiet es ≡ true → all_quiet more ≡ true → all_quiet (es ++ more) ≡ true
quiet_append [] more one two = two
quiet_append (e ∷ es) more one two =
    let parts = both (is_quiet e) (all_quiet es) one in
    rw parts.0 (quiet_append es more parts.1 two)

-- ---- a request is taken

-- its life has a slot, its tag is one that there is, its operation one of the service's, its number is above that of the newest one
-- of its life and tag, and what waits of its life and number has its tag
pub record MayEnter (kind : Kind) (v : Target) (r : Request) : Type 0 where
  pub life : is_life r.who v.lives ≡ true
  pub tag : r.tag < tag_count
  pub takes : Takes kind r.op
  pub above : (slot_in v.slots r.who r.tag).taken < r.xid.0
  pub tags : All (λ q. same_request q r ≡ true → q.tag ≡ r.tag) v.queue

-- so it is apart from all that wait
apart_from : (kind : Kind) (v : Target) (r : Request) → (slot_in v.slots r.who r.tag).taken < r.xid.0 → (q : Request)
    → (same_request q r ≡ true → q.tag ≡ r.tag)
    → IsTaken kind v q → AreApart q r
apart_from kind v r above q tags taken = by (same_request q r) refl where
  by : (same : Bool) → same_request q r ≡ same → same_request q r ≡ false
  by true e =
      let one = one_place q.who r.who q.xid.0 r.xid.0 e in
      let tag : q.tag ≡ r.tag = tags e in
      let slot : (slot_in v.slots q.who q.tag).taken ≡ (slot_in v.slots r.who r.tag).taken =
      ap (λ who. (slot_in v.slots who q.tag).taken) one.0 ∙ ap (λ t. (slot_in v.slots r.who t).taken) tag in
      let number : q.xid.0 ≡ r.xid.0 = one.1 in
      let newest : q.xid.0 ≤ (slot_in v.slots q.who q.tag).taken = taken.newest in
      absurd (omega (arith, slot, number, newest, above))
  by false e = e

pub apart_from_all : (kind : Kind) (v : Target) (r : Request) → MayEnter kind v r → IsSound kind v → All (λ q. AreApart q r) v.queue
apart_from_all kind v r may sound = λ k q within. apart_from kind v r may.above (slice_index_or v.queue k q) (may.tags k q within)
    (sound.queue k q within)

taken_entered : (kind : Kind) (v : Target) (r : Request) → (slot_in v.slots r.who r.tag).taken < r.xid.0 → (q : Request) → IsTaken kind v q
    → IsTaken kind (after v (Enters r)) q
taken_entered kind v r above q taken =
    let low : q.xid.0 ≤ (slot_in v.slots q.who q.tag).taken = taken.newest in
    let more : (slot_in v.slots q.who q.tag).taken ≤ (slot_in (slots_entered r v.slots) q.who q.tag).taken =
    newest_entered r v.slots above q.who q.tag in
    record { life = taken.life; tag = taken.tag; takes = taken.takes; newest = omega (arith, low, more) }

locks_entered : (kind : Kind) (v : Target) (r : Request) → HasLocksOf kind v → HasLocksOf kind (after v (Enters r))
locks_entered Mdt v r locks = locks
locks_entered Ost v r locks = (
  λ k g within. record { waits = found_more _ _ v.queue (r ∷ []) _ (locks.0 k g within).waits; sizes = (locks.0 k g within).sizes },
  locks.1,
)

pub sound_enters : (kind : Kind) (v : Target) (r : Request) → MayEnter kind v r → IsSound kind v → IsSound kind (after v (Enters r))
sound_enters kind v r may sound = record {
  up = sound.up;
  serving = sound.serving;
  lives = sound.lives;
  clients = sound.clients;
  queue = All-push (IsTaken kind (after v (Enters r))) v.queue r
      (All-weaker (IsTaken kind v) (IsTaken kind (after v (Enters r))) (taken_entered kind v r may.above) v.queue sound.queue)
      (record { life = may.life; tag = may.tag; takes = may.takes; newest = let same = newest_itself r v.slots in omega (arith, same) });
  apart = all_pairs_push AreApart v.queue r sound.apart (apart_from_all kind v r may sound);
  holders = sound.holders;
  waiters = sound.waiters;
  locks = locks_entered kind v r sound.locks;
}

-- it is then found, and no glimpse is for it
pub enters_waits : (kind : Kind) (v : Target) (r : Request) → MayEnter kind v r → IsSound kind v
    → request_of r.who r.xid (after v (Enters r)).queue ≡ Some r
enters_waits kind v r may sound = found_last v.queue r (apart_from_all kind v r may sound)

-- no glimpse is for this request
abbrev pub IsUnasked : Request → List Glimpse → Type 0
IsUnasked r gs = All (λ g. same_request g.request r ≡ false) gs

pub enters_unasked : (kind : Kind) (v : Target) (r : Request) → MayEnter kind v r → IsSound kind v
    → IsUnasked r (after v (Enters r)).glimpses
enters_unasked Mdt v r may sound = all_none (λ (g : Glimpse). same_request g.request r ≡ false) v.glimpses sound.locks.2
enters_unasked Ost v r may sound = λ k g within.
    found_holds (λ q. AreApart q r) _ _ v.queue _ (apart_from_all Ost v r may sound) (sound.locks.0 k g within).waits

-- ---- a request is answered

-- an answer to a request for which there is no glimpse
pub none_asks : (d : Deed) (r : Request) (gs : List Glimpse) → d.reply.who ≡ r.who → d.reply.xid ≡ r.xid → IsUnasked r gs → NoneAsks d gs
none_asks d r gs who xid unasked = λ k g within. other (slice_index_or gs k g) (unasked k g within) where
  other : (g : Glimpse) → same_request g.request r ≡ false → is_request_of d g.request ≡ false
  other g apart = ap (λ w. same_life w g.request.who && d.reply.xid.0 == g.request.xid.0) who
      ∙ ap (λ (x : Xid). same_life r.who g.request.who && x.0 == g.request.xid.0) xid ∙ same_turned r g.request ∙ apart

pub none_asks_names : (d : Deed) (v : Target) → IsSound Mdt v → NoneAsks d v.glimpses
none_asks_names d v sound = all_none (λ (g : Glimpse). is_request_of d g.request ≡ false) v.glimpses sound.locks.2

locks_act : (kind : Kind) (v : Target) (d : Deed) → ReadsOnly kind d.reply.locks → NoneAsks d v.glimpses → HasLocksOf kind v
    → HasLocksOf kind (after v (Act d))
locks_act Mdt v d reads none locks = (all_with_all IsForReading d.reply.locks v.granted reads locks.0, locks.1, locks.2)
locks_act Ost v d reads none locks = (glimpses_answered d v.queue v.glimpses none locks.0, locks.1)

pub sound_act : (kind : Kind) (v : Target) (d : Deed) → ReadsOnly kind d.reply.locks → All (IsOfLife v.lives) d.reply.locks
    → NoneAsks d v.glimpses → IsSound kind v → IsSound kind (after v (Act d))
sound_act kind v d reads lives none sound = record {
  up = sound.up;
  serving = sound.serving;
  lives = sound.lives;
  clients = sound.clients;
  queue = queue_answered kind v (after v (Act d)) d v.queue refl refl sound.queue;
  apart = AllPairs-filter AreApart (λ r. not (is_request_of d r)) v.queue sound.apart;
  holders = all_with_all (IsOfLife v.lives) d.reply.locks v.granted lives sound.holders;
  waiters = sound.waiters;
  locks = locks_act kind v d reads none sound.locks;
}

locks_txn : (kind : Kind) (v : Target) (d : Deed) → NoneAsks d v.glimpses → HasLocksOf kind v → HasLocksOf kind (after v (Txn d))
locks_txn Mdt v d none locks = locks
locks_txn Ost v d none locks = (glimpses_answered d v.queue v.glimpses none locks.0, locks.1)

pub sound_txn : (kind : Kind) (v : Target) (d : Deed) → NoneAsks d v.glimpses → IsSound kind v → IsSound kind (after v (Txn d))
sound_txn kind v d none sound = record {
  up = sound.up;
  serving = sound.serving;
  lives = sound.lives;
  clients = sound.clients;
  queue = queue_answered kind v (after v (Txn d)) d v.queue refl refl sound.queue;
  apart = AllPairs-filter AreApart (λ r. not (is_request_of d r)) v.queue sound.apart;
  holders = sound.holders;
  waiters = sound.waiters;
  locks = locks_txn kind v d none sound.locks;
}

locks_answers : (kind : Kind) (v : Target) (d : Deed) → NoneAsks d v.glimpses → HasLocksOf kind v → HasLocksOf kind (after v (Answers d))
locks_answers Mdt v d none locks = locks
locks_answers Ost v d none locks = (glimpses_answered d v.queue v.glimpses none locks.0, locks.1)

pub sound_answers : (kind : Kind) (v : Target) (d : Deed) → NoneAsks d v.glimpses → IsSound kind v → IsSound kind (after v (Answers d))
sound_answers kind v d none sound = record {
  up = sound.up;
  serving = sound.serving;
  lives = sound.lives;
  clients = sound.clients;
  queue = queue_answered kind v (after v (Answers d)) d v.queue refl refl sound.queue;
  apart = AllPairs-filter AreApart (λ r. not (is_request_of d r)) v.queue sound.apart;
  holders = sound.holders;
  waiters = sound.waiters;
  locks = locks_answers kind v d none sound.locks;
}

-- with a lock that is granted at once
locks_granted : (kind : Kind) (v : Target) (l : Lock) (d : Deed) → ReadsOnly kind (l ∷ []) → NoneAsks d v.glimpses → HasLocksOf kind v
    → HasLocksOf kind (after v (Grant l (Some d)))
locks_granted Mdt v l d reads none locks =
    (all_with IsForReading l v.granted (All-head IsForReading l [] reads) locks.0, ap (without_lock l) locks.1, locks.2)
locks_granted Ost v l d reads none locks = (glimpses_answered d v.queue v.glimpses none locks.0, locks.1)

pub sound_granted : (kind : Kind) (v : Target) (l : Lock) (d : Deed) → ReadsOnly kind (l ∷ []) → IsOfLife v.lives l → NoneAsks d v.glimpses
    → IsSound kind v → IsSound kind (after v (Grant l (Some d)))
sound_granted kind v l d reads life none sound = record {
  up = sound.up;
  serving = sound.serving;
  lives = sound.lives;
  clients = sound.clients;
  queue = queue_answered kind v (after v (Grant l (Some d))) d v.queue refl refl sound.queue;
  apart = AllPairs-filter AreApart (λ r. not (is_request_of d r)) v.queue sound.apart;
  holders = all_with (IsOfLife v.lives) l v.granted life sound.holders;
  waiters = All-filter (λ k. not (k.cookie.0 == l.cookie.0)) (IsOfLife v.lives) v.waiting sound.waiters;
  locks = locks_granted kind v l d reads none sound.locks;
}

-- with one that waits, on an object
pub sound_waits : (v : Target) (l : Lock) (d : Deed) → IsOfLife v.lives l → NoneAsks d v.glimpses → IsSound Ost v
    → IsSound Ost (after v (Wait l d))
sound_waits v l d life none sound = record {
  up = sound.up;
  serving = sound.serving;
  lives = sound.lives;
  clients = sound.clients;
  queue = queue_answered Ost v (after v (Wait l d)) d v.queue refl refl sound.queue;
  apart = AllPairs-filter AreApart (λ r. not (is_request_of d r)) v.queue sound.apart;
  holders = sound.holders;
  waiters = All-push (IsOfLife v.lives) v.waiting l sound.waiters life;
  locks = (glimpses_answered d v.queue v.glimpses none sound.locks.0, sound.locks.1);
}

-- ---- locks

-- a lock that had waited is granted
locks_grant : (kind : Kind) (v : Target) (l : Lock) → ReadsOnly kind (l ∷ []) → HasLocksOf kind v → HasLocksOf kind (after v (Grant l None))
locks_grant Mdt v l reads locks = (
  all_with IsForReading l v.granted (All-head IsForReading l [] reads) locks.0,
  ap (without_lock l) locks.1,
  locks.2,
)
locks_grant Ost v l reads locks = locks

pub sound_grant : (kind : Kind) (v : Target) (l : Lock) → ReadsOnly kind (l ∷ []) → IsOfLife v.lives l → IsSound kind v
    → IsSound kind (after v (Grant l None))
sound_grant kind v l reads life sound = record {
  up = sound.up;
  serving = sound.serving;
  lives = sound.lives;
  clients = sound.clients;
  queue = All-weaker (IsTaken kind v) (IsTaken kind (after v (Grant l None))) (taken_same kind v (after v (Grant l None)) refl refl) v.queue
      sound.queue;
  apart = sound.apart;
  holders = all_with (IsOfLife v.lives) l v.granted life sound.holders;
  waiters = All-filter (λ k. not (k.cookie.0 == l.cookie.0)) (IsOfLife v.lives) v.waiting sound.waiters;
  locks = locks_grant kind v l reads sound.locks;
}

-- a lock stands again
locks_restore : (kind : Kind) (v : Target) (l : Lock) → ReadsOnly kind (l ∷ []) → HasLocksOf kind v → HasLocksOf kind (after v (Restore l))
locks_restore Mdt v l reads locks = (all_with IsForReading l v.granted (All-head IsForReading l [] reads) locks.0, locks.1, locks.2)
locks_restore Ost v l reads locks = locks

pub sound_restore : (kind : Kind) (v : Target) (l : Lock) → ReadsOnly kind (l ∷ []) → IsOfLife v.lives l → IsSound kind v
    → IsSound kind (after v (Restore l))
sound_restore kind v l reads life sound = record {
  up = sound.up;
  serving = sound.serving;
  lives = sound.lives;
  clients = sound.clients;
  queue = All-weaker (IsTaken kind v) (IsTaken kind (after v (Restore l))) (taken_same kind v (after v (Restore l)) refl refl) v.queue
      sound.queue;
  apart = sound.apart;
  holders = all_with (IsOfLife v.lives) l v.granted life sound.holders;
  waiters = sound.waiters;
  locks = locks_restore kind v l reads sound.locks;
}

-- a lock is taken away
locks_release : (kind : Kind) (v : Target) (l : Lock) → HasLocksOf kind v → HasLocksOf kind (after v (Release l))
locks_release Mdt v l locks = (All-filter (λ k. not (k.cookie.0 == l.cookie.0)) IsForReading v.granted locks.0, locks.1, locks.2)
locks_release Ost v l locks = locks

pub sound_release : (kind : Kind) (v : Target) (l : Lock) → IsSound kind v → IsSound kind (after v (Release l))
sound_release kind v l sound = record {
  up = sound.up;
  serving = sound.serving;
  lives = sound.lives;
  clients = sound.clients;
  queue = All-weaker (IsTaken kind v) (IsTaken kind (after v (Release l))) (taken_same kind v (after v (Release l)) refl refl) v.queue
      sound.queue;
  apart = sound.apart;
  holders = All-filter (λ k. not (k.cookie.0 == l.cookie.0)) (IsOfLife v.lives) v.granted sound.holders;
  waiters = sound.waiters;
  locks = locks_release kind v l sound.locks;
}

-- ---- glimpses

-- it is for a request that waits and for which there is none yet
pub sound_asks : (v : Target) (g : Glimpse) → IsAsked v.queue g → IsUnasked g.request v.glimpses → IsSound Ost v
    → IsSound Ost (after v (Asks g))
sound_asks v g asked unasked sound = record {
  up = sound.up;
  serving = sound.serving;
  lives = sound.lives;
  clients = sound.clients;
  queue = All-weaker (IsTaken Ost v) (IsTaken Ost (after v (Asks g))) (taken_same Ost v (after v (Asks g)) refl refl) v.queue sound.queue;
  apart = sound.apart;
  holders = sound.holders;
  waiters = sound.waiters;
  locks = (All-push (IsAsked v.queue) v.glimpses g sound.locks.0 asked, all_pairs_push AskApart v.glimpses g sound.locks.1 unasked);
}

locks_ends : (kind : Kind) (v : Target) (g : Glimpse) → HasLocksOf kind v → HasLocksOf kind (after v (Ends g))
locks_ends Mdt v g locks = (locks.0, locks.1, ap (filter (λ x. not (same_glimpse g x))) locks.2)
locks_ends Ost v g locks = (
  All-filter (λ x. not (same_glimpse g x)) (IsAsked v.queue) v.glimpses locks.0,
  AllPairs-filter AskApart (λ x. not (same_glimpse g x)) v.glimpses locks.1,
)

pub sound_ends : (kind : Kind) (v : Target) (g : Glimpse) → IsSound kind v → IsSound kind (after v (Ends g))
sound_ends kind v g sound = record {
  up = sound.up;
  serving = sound.serving;
  lives = sound.lives;
  clients = sound.clients;
  queue = All-weaker (IsTaken kind v) (IsTaken kind (after v (Ends g))) (taken_same kind v (after v (Ends g)) refl refl) v.queue
      sound.queue;
  apart = sound.apart;
  holders = sound.holders;
  waiters = sound.waiters;
  locks = locks_ends kind v g sound.locks;
}
