-- What a server of names shows once locks were called back, and once a request acted or made a transaction: from what each part
-- shows then.
use Rattle.std.proofs.Common.{◌≡◌, ℕ, ◌+◌, ◌==◌, ◌&&◌, Bool, true, false, cond, List, [], ◌∷◌, ◌++◌, filter, Some, refl, sym, ap, subst}
use Rattle.std.proofs.Common.{◌∙◌, arith}
use Rattle.std.specs.Prelude.{if◌then◌else◌, not, All}
use Rattle.std.proofs.lemmas.Bool.Decides.{nat_tests}
use Rattle.std.proofs.lemmas.List.Elements.{All-weaker, All-filter}
use Rattle.lu_base.specs.declared.ids.Who.{Who}
use Rattle.lu_base.specs.declared.locks.Lock.{Lock}
use Rattle.lu_msg.specs.declared.messages.Request.{Request}
use Rattle.lu_msg.specs.declared.messages.Reply.{Reply}
use Rattle.lu_service.specs.Contents.{Contents}
use Rattle.lu_spec_entries.specs.Carried.{Deed, Slot, LifeSlot, Called}
use Rattle.lu_spec_entries.specs.Words.{Entry, Act, Txn, Grant, Block, same_life}
use Rattle.lu_spec_target.specs.Lives.{slot_in, slots_answered}
use Rattle.lu_spec_target.specs.Locks.{is_request_of, without_request}
use Rattle.lu_spec_target.specs.Names.{grant_lines, row_acts, row_transacts}
use Rattle.lu_spec_target.specs.Replies.{is_called, called, block_of, blocks, replies, next_number}
use Rattle.lu_spec_target.specs.States.{Setting, Target, after, turn}
use Rattle.lu_target_refines.specs.Callbacks as callbacks
use Rattle.lu_target_refines.specs.Unread.{AreTheSame}
use Rattle.lu_target_refines.proofs.Unread.{journal_stays, disk_stays}
use Rattle.lu_target_refines.proofs.Slots.{slot_put, one_place}
use Rattle.lu_target_refines.proofs.Locks.{locks_same}
use Rattle.lu_target_redo.specs.Shown as redo
use Rattle.lu_target_store.specs.Taken.{taken_of}
use Rattle.lu_target_store.specs.Stores.{StoreState, Serves, HasTaken, KeepsTaken, IsAnsweredBy}
use Rattle.lu_target_locks.specs.Servers as locking
use Rattle.lu_target_locks.specs.Servers.{ServerState as LockState}
use Rattle.lu_target_server.specs.Servers.{ServerState, Shows, IsSound}
use Rattle.lu_target_server.specs.Answering.{others, IsAnswered, IsAppended}
use Rattle.lu_target_server.proofs.Composing.{turn_more}

-- ---- parts

-- the store reads none of what changed
pub serves_same : (s : StoreState) (v w : Target) → AreTheSame v w → Serves s v → Serves s w
serves_same s v w same serves =
    record {
      journal = journal_stays (taken_of s.taken) s.journal v w same serves.journal;
      disk = disk_stays s.batches v w same serves.disk;
      sound = serves.sound;
    }

-- and neither do the locks
pub locks_still :
    (s : LockState) (v w : Target) → w.granted ≡ v.granted → w.waiting ≡ v.waiting → w.called ≡ v.called → w.glimpses ≡ v.glimpses
    → w.cookie ≡ v.cookie → w.ticks ≡ v.ticks → w.boot ≡ v.boot
    → locking.Shows s v → locking.Shows s w
locks_still s v w granted waiting called_same glimpses cookie ticks boot shows =
    record {
      locks = locks_same s.space v w granted waiting cookie shows.locks;
      calls = calls_same;
      boot = boot ∙ shows.boot;
      counted = shows.counted;
      cookie = cookie ∙ shows.cookie;
      ticks = ticks ∙ shows.ticks;
    } where
      calls_same : callbacks.ShowsCalls s.asked w
      calls_same =
          subst (λ cs. callbacks.Shows s.asked cs w.glimpses w.granted) (sym called_same)
          (subst (λ gs. callbacks.Shows s.asked v.called gs w.granted) (sym glimpses)
          (subst (callbacks.Shows s.asked v.called v.glimpses) (sym granted) shows.calls))

-- what was taken of those that wait still is
pub taken_still : (reply : Reply) (old new : StoreState) (requests : List Request) → KeepsTaken old new
    → All (λ r. HasTaken r.who r.tag old) requests
    → All (λ r. HasTaken r.who r.tag new) (others reply requests)
taken_still reply old new requests keeps taken =
    All-weaker (λ (r : Request). HasTaken r.who r.tag old) (λ (r : Request). HasTaken r.who r.tag new) (λ r has. keeps r.who r.tag has)
    (others reply requests)
    (All-filter _ (λ (r : Request). HasTaken r.who r.tag old) requests taken)

-- ---- locks are called back

-- blocks change what is called back alone
pub blocks_change : (v w : Target) (locks : List Lock) → turn w (blocks v locks) ≡ record w { called = (turn w (blocks v locks)).called }
blocks_change v w [] = refl
blocks_change v w (l ∷ locks) = by (is_called l.cookie v.called) (blocks_change v w locks)
    (blocks_change v (after w (Block (called v l))) locks) where
      by : (before : Bool) → turn w (blocks v locks) ≡ record w { called = (turn w (blocks v locks)).called }
          → turn (after w (Block (called v l))) (blocks v locks)
          ≡ record (after w (Block (called v l))) { called = (turn (after w (Block (called v l))) (blocks v locks)).called }
          → turn w (if before then blocks v locks else Block (called v l) ∷ block_of v l ∷ blocks v locks)
          ≡ record w { called = (turn w (if before then blocks v locks else Block (called v l) ∷ block_of v l ∷ blocks v locks)).called }
      by true one two = one
      by false one two = two

pub shows_blocks :
    (old : ServerState) (locks : LockState) (v : Target) (these : List Lock) → Shows old v
    → locking.Shows locks (turn v (blocks v these)) → IsSound old.kind (turn v (blocks v these))
    → Shows (record old { locks = locks }) (turn v (blocks v these))
shows_blocks old locks v these shows shows_locks sound =
    subst (Shows (record old { locks = locks })) (sym is)
    (record {
      id = shows.id;
      kind = shows.kind;
      expire = shows.expire;
      boot = shows.boot;
      store = serves_same old.store v w
          (record {
            setting = refl;
            boot = refl;
            number = refl;
            lives = refl;
            removed = refl;
            slots = refl;
            log = refl;
            committed = refl;
            disk = refl;
          }) shows.store;
      locks = subst (locking.Shows locks) is shows_locks;
      contents = shows.contents;
      requests = shows.requests;
      taken = shows.taken;
      sound = subst (IsSound old.kind) is sound;
    }) where
      w : Target
      w = record v { called = (turn v (blocks v these)).called }

      is : turn v (blocks v these) ≡ w
      is = blocks_change v v these

-- ---- a request acts

-- the lines of grants change nothing but locks, and slots and requests as the act did
lines_change : (d : Deed) (locks : List Lock) (w : Target)
    → (let x = turn w (grant_lines d locks) in
    x ≡ record w { cookie = x.cookie; slots = x.slots; granted = x.granted; waiting = x.waiting; queue = x.queue })
lines_change d [] w = refl
lines_change d (l ∷ locks) w = lines_change d locks (after w (Grant l (Some d)))

-- the request waits no longer already
lines_queue : (d : Deed) (locks : List Lock) (w : Target) → without_request d w.queue ≡ w.queue → (turn w (grant_lines d locks)).queue
    ≡ w.queue
lines_queue d [] w out = refl
lines_queue d (l ∷ locks) w out = lines_queue d locks (after w (Grant l (Some d))) (ap (without_request d) out) ∙ out

without_twice : (d : Deed) (queue : List Request) → without_request d (without_request d queue) ≡ without_request d queue
without_twice d [] = refl
without_twice d (r ∷ queue) = by (is_request_of d r) refl (without_twice d queue) where
  by : (here : Bool) → is_request_of d r ≡ here → without_request d (without_request d queue) ≡ without_request d queue
      → without_request d (cond (not here) (r ∷ without_request d queue) (without_request d queue))
      ≡ cond (not here) (r ∷ without_request d queue) (without_request d queue)
  by true e rest = rest
  by false e rest = rw e (ap (λ (rs : List Request). r ∷ rs) rest)

-- the reply is kept already
slots_again : (d : Deed) (slots : List LifeSlot) → (slot_in slots d.reply.who d.tag).reply ≡ Some d.reply → (w : Who) (t : ℕ)
    → slot_in (slots_answered d slots) w t ≡ slot_in slots w t
slots_again d slots has w t = slot_put d.reply.who d.tag kept slots w t ∙ by (same_life w d.reply.who && t == d.tag) refl where
  kept : Slot
  kept = record { taken = (slot_in slots d.reply.who d.tag).taken; reply = Some d.reply }

  by : (own : Bool) → (same_life w d.reply.who && t == d.tag) ≡ own → (if own then kept else slot_in slots w t) ≡ slot_in slots w t
  by true e =
      let one = one_place w d.reply.who t d.tag e in
      ap (λ reply. record { taken = (slot_in slots d.reply.who d.tag).taken; reply = reply }) (sym has)
      ∙ ap (λ who. slot_in slots who d.tag) (sym one.0)
      ∙ ap (slot_in slots w) (sym one.1)
  by false e = refl

answered_has : (d : Deed) (slots : List LifeSlot) → (slot_in (slots_answered d slots) d.reply.who d.tag).reply ≡ Some d.reply
answered_has d slots =
    ap (λ (s : Slot). s.reply) (slot_put d.reply.who d.tag kept slots d.reply.who d.tag)
    ∙ ap (λ own. (if own then kept else slot_in slots d.reply.who d.tag).reply) (same_place d.reply.who d.tag) where
      kept : Slot
      kept = record { taken = (slot_in slots d.reply.who d.tag).taken; reply = Some d.reply }

      same_place : (who : Who) (tag : ℕ) → (same_life who who && tag == tag) ≡ true
      same_place who tag = grind (arith, nat_tests)

lines_serve : (s : StoreState) (d : Deed) (locks : List Lock) (w : Target) → (slot_in w.slots d.reply.who d.tag).reply ≡ Some d.reply
    → Serves s w → Serves s (turn w (grant_lines d locks))
lines_serve s d [] w has serves = serves
lines_serve s d (l ∷ locks) w has serves =
    let x = after w (Grant l (Some d)) in
    let j = serves.journal in
    let b = serves.disk in
    lines_serve s d locks x (answered_has d w.slots)
    (record {
      journal = record {
        booted = record {
          boot = j.booted.boot;
          begun = j.booted.begun;
          number = j.booted.number;
          lives = j.booted.lives;
          over =
              j.booted.over;
          committed = j.booted.committed;
        };
        settled = j.settled;
        log = j.log;
        slots = λ who tag. slots_again d w.slots has who tag ∙ j.slots who tag;
        held = j.held;
        late = j.late;
      };
      disk = record {
        disk = b.disk;
        boot = b.boot;
        committed = b.committed;
        lives = b.lives;
        over = b.over;
        rising = b.rising;
        below = b.below;
        replies = b.replies;
      };
      sound = serves.sound;
    })

pub shows_acts :
    (old : ServerState) (locks : LockState) (contents : Contents) (new : ServerState) (v : Target) (d : Deed)
    → IsAnswered d.tag d.reply (record old { locks = locks; contents = contents }) new → Shows old v
    → locking.Shows locks (turn v (Act d ∷ grant_lines d d.reply.locks))
    → redo.Shows old.kind v.setting.osts v.number contents v.contents
    → IsSound old.kind (turn v (row_acts d))
    → Shows new (turn v (row_acts d))
shows_acts old locks contents new v d answers shows shows_locks shows_contents sound =
    subst (λ (s : ServerState). Shows s (turn v (row_acts d))) (sym answers.same)
    (subst (Shows state) (sym (turn_more (after v (Act d)) lines (replies d ∷ [])))
    (subst (Shows state) (sym is)
    (record {
      id = shows.id;
      kind = shows.kind;
      expire = shows.expire;
      boot = shows.boot;
      store = subst (Serves new.store) is
          (lines_serve new.store d d.reply.locks (after v (Act d)) (answered_has d v.slots) (answers.store.acts v d refl refl shows.store));
      locks = subst (locking.Shows locks) is shows_locks;
      contents = shows_contents;
      requests = lines_queue d d.reply.locks (after v (Act d)) (without_twice d v.queue) ∙ ap (without_request d) shows.requests
          ∙ sym answers.requests;
      taken = subst (All (λ (r : Request). HasTaken r.who r.tag new.store)) (sym answers.requests)
          (taken_still d.reply old.store new.store old.requests answers.takes shows.taken);
      sound = subst (IsSound old.kind) is (subst (IsSound old.kind) (turn_more (after v (Act d)) lines (replies d ∷ [])) sound);
    }))) where
      lines : List Entry
      lines = grant_lines d d.reply.locks

      x : Target
      x = turn (after v (Act d)) lines

      state : ServerState
      state = record old { locks = locks; contents = contents; store = new.store; requests = new.requests }

      w : Target
      w = record (after v (Act d)) { cookie = x.cookie; slots = x.slots; granted = x.granted; waiting = x.waiting; queue = x.queue }

      is : x ≡ w
      is = lines_change d d.reply.locks (after v (Act d))

-- ---- a request makes a transaction

pub shows_transacts :
    (old : ServerState) (contents : Contents) (new : ServerState) (v : Target) (d : Deed)
    → IsAppended d (record old { contents = contents }) new → Shows old v → d.reply.txn ≡ next_number v
    → redo.Shows old.kind v.setting.osts (after v (Txn d)).number contents (after v (Txn d)).contents
    → IsSound old.kind (turn v (row_transacts d))
    → Shows new (turn v (row_transacts d))
shows_transacts old contents new v d appended shows next shows_contents sound =
    subst (λ (s : ServerState). Shows s (turn v (row_transacts d))) (sym appended.same)
    (record {
      id = shows.id;
      kind = shows.kind;
      expire = shows.expire;
      boot = shows.boot;
      store = appended.store v shows.store next;
      locks = locks_still old.locks v (after v (Txn d)) refl refl refl refl refl refl refl shows.locks;
      contents = shows_contents;
      requests = ap (without_request d) shows.requests ∙ sym appended.requests;
      taken = subst (All (λ (r : Request). HasTaken r.who r.tag new.store)) (sym appended.requests)
          (taken_still d.reply old.store new.store old.requests appended.takes shows.taken);
      sound = sound;
    })
