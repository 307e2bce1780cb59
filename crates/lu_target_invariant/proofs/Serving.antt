-- Row by row, of a target that serves: where its log may be performed again, and what waits has operations of its service's,
-- so it is afterwards, and so are the batches.
use Rattle.std.proofs.Common.{◌≡◌, ℕ, zero, suc, ◌+◌, ◌==◌, ◌&&◌, ◌||◌, not, Bool, true, false, List, [], ◌∷◌, ◌++◌, Option, Some, None}
use Rattle.std.proofs.Common.{refl, sym, ap, subst, nat_lt}
use Rattle.std.specs.Prelude.{if◌then◌else◌, length}
use Rattle.std.specs.List.{list_any}
use Rattle.lu_base.specs.declared.ids.At.{At}
use Rattle.lu_base.specs.declared.ids.Cookie.{Cookie}
use Rattle.lu_base.specs.declared.ids.Who.{Who}
use Rattle.lu_base.specs.declared.locks.Cause.TheVariants.{Expired, Replaced}
use Rattle.lu_base.specs.declared.locks.Extent.{Extent}
use Rattle.lu_base.specs.declared.locks.Lock.{Lock}
use Rattle.lu_base.specs.declared.locks.Mode.TheVariants.{PR, PW}
use Rattle.lu_base.specs.declared.locks.Resource.{Resource}
use Rattle.lu_lock.specs.Growth.{the_end}
use Rattle.lu_lock.specs.Modes.{serves}
use Rattle.lu_lock.specs.Overlap.{extents_meet}
use Rattle.lu_spec_machine.specs.Footprint.{Every}
use Rattle.lu_spec_machine.specs.Objects.{page_extent, content}
use Rattle.lu_msg.specs.declared.answers.Answer.TheVariants as told
use Rattle.lu_msg.specs.declared.commits.Batch.{Batch}
use Rattle.lu_msg.specs.declared.messages.Reply.{Reply}
use Rattle.lu_msg.specs.declared.messages.Request.{Request}
use Rattle.lu_msg.specs.declared.messages.SizeReport.{SizeReport}
use Rattle.lu_msg.specs.declared.operations.Op.{Op}
use Rattle.lu_msg.specs.declared.operations.Op.TheVariants as op
use Rattle.lu_service.specs.declared.services.Kind.{Kind}
use Rattle.lu_service.specs.declared.services.Kind.TheVariants.{Mdt, Ost}
use Rattle.lu_service.specs.Takes.{Takes}
use Rattle.lu_spec_entries.specs.Carried.{Deed}
use Rattle.lu_spec_entries.specs.Words.{Entry, Skip, Tick, Txn, Wait, Commit, Joined, Enters}
use Rattle.lu_spec_target.specs.Disks.{batches_of}
use Rattle.lu_spec_target.specs.Lives.{is_life, slot_in}
use Rattle.lu_spec_target.specs.Locks.{is_request_of}
use Rattle.lu_spec_target.specs.Stored.{batch_of}
use Rattle.lu_spec_target.specs.States.{Target, is_names, after, turn, follow}
use Rattle.lu_spec_target.specs.Replies.{none, next_number, replies, locks_on, row_kept, blocks}
use Rattle.lu_spec_target.specs.Names.{is_read, does_change, in_way, written_by, is_ready, locks_for, names_deed, grant_lines, row_acts}
use Rattle.lu_spec_target.specs.Names.{row_executes, row_waits, row_pass, row_sweep, names_go}
use Rattle.lu_spec_target.specs.Queues.{object, size_of, extent_of, grant_message, has_to_wait, grown, blocks_go, queue_goes, resources_of}
use Rattle.lu_spec_target.specs.Queues.{all_queues_go}
use Rattle.lu_spec_target.specs.Glimpses.{answered, row_sizes, row_answers, row_locked, highest, row_asks, row_size, row_report, asked_for}
use Rattle.lu_spec_target.specs.Objects.{lock_for, row_granted, row_waiting, row_enqueue, lock_of, row_uncovered, row_get, lies_in, written}
use Rattle.lu_spec_target.specs.Objects.{row_written, row_write, put_extent, cut_extent, objects_go}
use Rattle.lu_spec_target.specs.Requests.{goes, row_enters, by_number, row_request, goes_on, releases, row_cancels, row_cancel, row_finds}
use Rattle.lu_spec_target.specs.Requests.{row_where}
use Rattle.lu_spec_target.specs.Leaving.{last_of, commits, evicted, ready, evictions, all_go, condemned, expels, sends_again, ticked}
use Rattle.lu_spec_target.specs.Leaving.{life_of, admits, row_admits, by_life, is_over, row_join}
use Rattle.lu_spec_target.specs.Rows.{first_deeds, row_commits}
use Rattle.lu_target_refines.proofs.Lists.{every_append, every_filter, every_of}
use Rattle.lu_target_refines.proofs.Blocking.{turned_more}
use Rattle.lu_target_refines.proofs.Quiet.{blocks_unread, blocks_go_unread, queue_goes_unread, queues_go_unread, sends_again_unread}
use Rattle.lu_target_redo.specs.Shown.{IsRepeatable, AreRepeatable, AllRepeatable}
use Rattle.lu_target_invariant.specs.Sound.{IsKindOf, IsTaken, IsSound}
use Rattle.lu_target_invariant.proofs.Failing.{batches_append}
use Rattle.lu_target_invariant.proofs.Turns.{kind_stays}
use Rattle.lu_target_invariant.specs.Repeats.{LogRepeats, QueueTakes, KeepsRepeatable}
use Rattle.lu_target_invariant.proofs.Calm.{all_calm, calm_append, calm_batches, calm_log, calm_queue, unread_calm, grant_lines_calm}
use Rattle.lu_target_invariant.proofs.Calm.{report_calm, releases_calm, evictions_calm}
use Rattle.lu_target_invariant.proofs.Repeatable.{names_repeat, DeedsRepeat, transactions_repeat, first_repeat, batches_more}

-- ---- what a row keeps

pub record IsRepeating (kind : Kind) (v : Target) : Type 0 where
  pub log : LogRepeats kind v
  pub queue : QueueTakes kind v

pub record StaysRepeating (kind : Kind) (v : Target) (es : List Entry) : Type 0 where
  pub batches : AllRepeatable kind (batches_of es)
  pub state : IsRepeating kind (turn v es)

-- a sound state has such requests
pub sound_takes : (kind : Kind) (v : Target) → IsSound kind v → QueueTakes kind v
sound_takes kind v sound = by v.queue (every_of (IsTaken kind v) v.queue sound.queue) where
  by : (queue : List Request) → Every (IsTaken kind v) queue → Every (λ (r : Request). Takes kind r.op) queue
  by [] all = tt
  by (r ∷ queue) all = (all.0.takes, by queue all.1)

pub keeps_row : (kind : Kind) (v : Target) (es : List Entry) → StaysRepeating kind v es → KeepsRepeatable kind v es
keeps_row kind v es stays = record { batches = stays.batches; log = stays.state.log }

-- ---- one after the other

pub stays_none : (kind : Kind) (v : Target) → IsRepeating kind v → StaysRepeating kind v []
stays_none kind v it = record { batches = tt; state = it }

pub stays_more : (kind : Kind) (v : Target) (es more : List Entry) → StaysRepeating kind v es → StaysRepeating kind (turn v es) more
    → StaysRepeating kind v (es ++ more)
stays_more kind v es more one two = record {
  batches = subst (AllRepeatable kind) (sym (batches_append es more))
      (batches_more kind (batches_of es) (batches_of more) one.batches two.batches);
  state = subst (IsRepeating kind) (sym (turned_more v es more)) two.state;
}

pub stays_follow : (kind : Kind) (v : Target) (es : List Entry) (next : Target → List Entry) → StaysRepeating kind v es
    → (IsRepeating kind (turn v es) → StaysRepeating kind (turn v es) (next (turn v es))) → StaysRepeating kind v (follow v es next)
stays_follow kind v es next one two = stays_more kind v es (next (turn v es)) one (two one.state)

-- ---- entries

pub stays_calm : (kind : Kind) (v : Target) (es : List Entry) → all_calm es ≡ true → IsRepeating kind v → StaysRepeating kind v es
stays_calm kind v es calm it = record {
  batches = subst (AllRepeatable kind) (sym (calm_batches es calm)) tt;
  state = record {
    log = subst (DeedsRepeat kind) (sym (calm_log v es calm)) it.log;
    queue = calm_queue (λ (r : Request). Takes kind r.op) v es calm it.queue;
  };
}

pub stays_enters : (kind : Kind) (v : Target) (r : Request) → Takes kind r.op → IsRepeating kind v → StaysRepeating kind v (Enters r ∷ [])
stays_enters kind v r takes it = record {
  batches = tt;
  state = record { log = it.log; queue = every_append (λ (q : Request). Takes kind q.op) v.queue (r ∷ []) it.queue (takes, tt) };
}

pub stays_txn : (kind : Kind) (v : Target) (d : Deed) → IsRepeatable kind d.op → IsRepeating kind v → StaysRepeating kind v (Txn d ∷ [])
stays_txn kind v d repeats it = record {
  batches = tt;
  state = record {
    log = every_append (λ (x : Deed). IsRepeatable kind x.op) v.log (d ∷ []) it.log (repeats, tt);
    queue = every_filter (λ (q : Request). Takes kind q.op) (λ q. not (is_request_of d q)) v.queue it.queue;
  };
}

pub stays_commit : (kind : Kind) (v : Target) (to : ℕ) (batch : Batch) → AreRepeatable kind batch.transactions → IsRepeating kind v
    → StaysRepeating kind v (Commit to batch ∷ [])
stays_commit kind v to batch repeats it = record {
  batches = (repeats, tt);
  state = record {
    log = every_filter (λ (d : Deed). IsRepeatable kind d.op) (λ d. nat_lt to d.reply.txn.0) v.log it.log;
    queue = every_filter (λ (q : Request). Takes kind q.op) (λ q. not (is_life q.who batch.removed)) v.queue it.queue;
  };
}

-- these transactions of the log, with lives that leave and lives that come
pub stays_commits : (kind : Kind) (v : Target) (deeds : List Deed) (gone come : List Who) → DeedsRepeat kind deeds → IsRepeating kind v
    → StaysRepeating kind v (commits v deeds gone come ∷ [])
stays_commits kind v deeds gone come repeat it =
    stays_commit kind v (last_of deeds v.committed) (batch_of deeds gone come) (transactions_repeat kind deeds repeat) it

-- ---- names

pub stays_executes : (v : Target) (at : At) (r : Request) (changes : Bool) → Takes Mdt r.op → IsRepeating Mdt v
    → StaysRepeating Mdt v (row_executes v at r changes)
stays_executes v at r true takes it =
    let d : Deed = names_deed v at r (next_number v) [] in
    let one : StaysRepeating Mdt v (Txn d ∷ []) = stays_txn Mdt v d (names_repeat r.op takes) it in
    stays_more Mdt v (Txn d ∷ []) (replies d ∷ []) one (stays_calm Mdt (after v (Txn d)) (replies d ∷ []) refl one.state)
stays_executes v at r false takes it =
    let d : Deed = names_deed v at r none (locks_for v r) in
    stays_calm Mdt v (row_acts d) (calm_append (grant_lines d d.reply.locks) (replies d ∷ []) (grant_lines_calm d d.reply.locks) refl) it

pub stays_row_waits : (v : Target) (r : Request) → IsRepeating Mdt v → StaysRepeating Mdt v (row_waits v r)
stays_row_waits v r it = by (is_read r.op) where
  locks : List Lock
  locks = in_way v.granted (written_by v r)

  by : (reads : Bool) → StaysRepeating Mdt v (if reads then [] else blocks v locks)
  by true = stays_none Mdt v it
  by false = stays_calm Mdt v (blocks v locks) (unread_calm (blocks v locks) (blocks_unread v locks)) it

pub stays_pass : (again : Target → List Entry) → ((w : Target) → IsRepeating Mdt w → StaysRepeating Mdt w (again w))
    → (v : Target) (at : At) (stood : Bool) (queue : List Request) → Every (λ (r : Request). Takes Mdt r.op) queue → IsRepeating Mdt v
    → StaysRepeating Mdt v (row_pass again v at stood queue)
stays_pass again goes v at stood [] all it = stays_none Mdt v it
stays_pass again goes v at stood (r ∷ queue) all it =
    let next : Target → List Entry = λ w. row_pass again w at (stood || not (is_read r.op)) queue in
    let acts : List Entry = row_executes v at r (does_change v r) in
    let waits : List Entry = row_waits v r in
    by next (is_ready v stood r) (stays_follow Mdt v acts again (stays_executes v at r (does_change v r) all.0 it) (goes (turn v acts)))
    (stays_follow Mdt v waits next (stays_row_waits v r it) (stays_pass again goes (turn v waits) at (stood || not (is_read r.op)) queue
    all.1))
  where
    by : (next : Target → List Entry) (ready : Bool) → StaysRepeating Mdt v (follow v (row_executes v at r (does_change v r)) again)
        → StaysRepeating Mdt v (follow v (row_waits v r) next)
        → StaysRepeating Mdt v (if ready then follow v (row_executes v at r (does_change v r)) again else follow v (row_waits v r) next)
    by next true one two = one
    by next false one two = two

pub stays_sweep : (more : ℕ) (at : At) (v : Target) → IsRepeating Mdt v → StaysRepeating Mdt v (row_sweep more at v)
stays_sweep zero at v it = stays_none Mdt v it
stays_sweep (suc more) at v it = stays_pass (row_sweep more at) (λ w s. stays_sweep more at w s) v at false v.queue it.queue it

pub stays_names_go : (at : At) (v : Target) → IsRepeating Mdt v → StaysRepeating Mdt v (names_go at v)
stays_names_go at v it = stays_sweep (length v.queue + 1) at v it

-- ---- objects

pub stays_answers : (kind : Kind) (v : Target) (d : Deed) → IsRepeating kind v → StaysRepeating kind v (row_answers d)
stays_answers kind v d it = stays_calm kind v (row_answers d) refl it

pub stays_written : (v : Target) (d : Deed) → IsRepeatable Ost d.op → IsRepeating Ost v → StaysRepeating Ost v (row_written d)
stays_written v d repeats it =
    let one : StaysRepeating Ost v (Txn d ∷ []) = stays_txn Ost v d repeats it in
    stays_more Ost v (Txn d ∷ []) (replies d ∷ []) one (stays_calm Ost (after v (Txn d)) (replies d ∷ []) refl one.state)

pub stays_waiting : (v : Target) (at : At) (r : Request) (l : Lock) → IsRepeating Ost v → StaysRepeating Ost v (row_waiting v at r l)
stays_waiting v at r l it =
    let d : Deed = answered v at r (told.Waiting l.cookie) in
    let es : List Entry = Wait l d ∷ replies d ∷ [] in
    let waiting : List Lock = locks_on l.resource (turn v es).waiting in
    stays_follow Ost v es (λ w. blocks_go (locks_on l.resource w.waiting) w) (stays_calm Ost v es refl it)
    (stays_calm Ost (turn v es) (blocks_go waiting (turn v es))
    (unread_calm (blocks_go waiting (turn v es)) (blocks_go_unread waiting (turn v es))))

pub stays_enqueue : (v : Target) (at : At) (r : Request) (l : Lock) → IsRepeating Ost v → StaysRepeating Ost v (row_enqueue v at r l)
stays_enqueue v at r l it = by (has_to_wait v (locks_on l.resource v.waiting) l) where
  by : (waits : Bool) → StaysRepeating Ost v (if waits then row_waiting v at r l
      else row_granted v at r (grown v (locks_on l.resource v.waiting) l))
  by true = stays_waiting v at r l it
  by false = stays_calm Ost v (row_granted v at r (grown v (locks_on l.resource v.waiting) l)) refl it

pub stays_get : (v : Target) (at : At) (r : Request) (resource : Resource) (page : ℕ) (found : Option Lock) → IsRepeating Ost v
    → StaysRepeating Ost v (row_get v at r resource page found)
stays_get v at r resource page None it = stays_answers Ost v (answered v at r told.Uncovered) it
stays_get v at r resource page (Some l) it = by (serves l.ask.mode PR && extents_meet (extent_of l) (page_extent page)) where
  by : (covers : Bool)
      → StaysRepeating Ost v (if covers then row_answers (answered v at r (told.Content (content page (extent_of l) (object v resource))))
      else row_uncovered v at r)
  by true = stays_answers Ost v (answered v at r (told.Content (content page (extent_of l) (object v resource)))) it
  by false = stays_answers Ost v (answered v at r told.Uncovered) it

-- a put or a cut
pub stays_write : (v : Target) (at : At) (r : Request) (extent : Extent) (found : Option Lock) → IsRepeatable Ost r.op → IsRepeating Ost v
    → StaysRepeating Ost v (row_write v at r extent found)
stays_write v at r extent None repeats it = stays_answers Ost v (answered v at r told.Uncovered) it
stays_write v at r extent (Some l) repeats it = by (serves l.ask.mode PW && lies_in extent (extent_of l)) where
  by : (covers : Bool) → StaysRepeating Ost v (if covers then row_written (written v at r) else row_uncovered v at r)
  by true = stays_written v (written v at r) repeats it
  by false = stays_answers Ost v (answered v at r told.Uncovered) it

pub stays_size : (v : Target) (at : At) (r : Request) (resource : Resource) (found : Option Lock) → IsRepeating Ost v
    → StaysRepeating Ost v (row_size v at r resource found)
stays_size v at r resource None it = stays_calm Ost v (row_sizes (answered v at r (told.Size (size_of v resource)))) refl it
stays_size v at r resource (Some l) it = by ((extent_of l).last == the_end) (nat_lt (extent_of l).last (size_of v resource)) where
  d : Deed
  d = answered v at r (told.Size (size_of v resource))

  by : (ends past : Bool) → StaysRepeating Ost v (if ends then row_asks v r resource l
      else (if past then row_sizes d else row_locked v at r))
  by true past = stays_calm Ost v (row_asks v r resource l) refl it
  by false true = stays_calm Ost v (row_sizes d) refl it
  by false false = stays_answers Ost v (answered v at r told.Lock) it

pub stays_objects : (v : Target) (at : At) (r : Request) (o : Op) → r.op ≡ o → Takes Ost o → IsRepeating Ost v
    → StaysRepeating Ost v (objects_go v at r o)
stays_objects v at r (op.Enqueue resource mode extent) is takes it = stays_enqueue v at r (lock_for v r resource mode extent) it
stays_objects v at r (op.Get resource cookie page) is takes it =
    stays_get v at r resource page (lock_of r.who cookie (locks_on resource v.granted)) it
stays_objects v at r (op.Put resource cookie offset bytes) is takes it =
    stays_write v at r (put_extent offset bytes) (lock_of r.who cookie (locks_on resource v.granted))
    (subst (IsRepeatable Ost) (sym is) (takes, λ e. refl)) it
stays_objects v at r (op.Cut resource cookie size) is takes it =
    stays_write v at r (cut_extent size) (lock_of r.who cookie (locks_on resource v.granted))
    (subst (IsRepeatable Ost) (sym is) (takes, λ e. refl)) it
stays_objects v at r (op.Size resource) is takes it = stays_size v at r resource (highest (locks_on resource v.granted)) it
stays_objects v at r _ is takes it = stays_none Ost v it

-- ---- a request

names_is : (v : Target) → IsKindOf v.setting.id Mdt → is_names v ≡ true
names_is v is = ap (λ n. n == 0) is

pub stays_goes : (kind : Kind) (at : At) (r : Request) (v : Target) → IsKindOf v.setting.id kind → Takes kind r.op → IsRepeating kind v
    → StaysRepeating kind v (goes at r v)
stays_goes Mdt at r v is takes it = subst (λ names. StaysRepeating Mdt v (if names then names_go at v else objects_go v at r r.op))
    (sym (names_is v is)) (stays_names_go at v it)
stays_goes Ost at r v is takes it =
    subst (λ names. StaysRepeating Ost v (if names then names_go at v else objects_go v at r r.op)) (sym is)
    (stays_objects v at r r.op refl takes it)

pub stays_row_enters : (kind : Kind) (v : Target) (at : At) (r : Request) → IsKindOf v.setting.id kind → Takes kind r.op
    → IsRepeating kind v → StaysRepeating kind v (row_enters v at r)
stays_row_enters kind v at r is takes it =
    stays_follow kind v (Enters r ∷ []) (goes at r) (stays_enters kind v r takes it) (stays_goes kind at r (after v (Enters r)) is takes)

pub stays_kept : (kind : Kind) (v : Target) (kept : Option Reply) → IsRepeating kind v → StaysRepeating kind v (row_kept v kept)
stays_kept kind v None it = stays_none kind v it
stays_kept kind v (Some reply) it = stays_calm kind v (row_kept v (Some reply)) refl it

pub stays_request : (kind : Kind) (v : Target) (at : At) (r : Request) → IsKindOf v.setting.id kind → Takes kind r.op → IsRepeating kind v
    → StaysRepeating kind v (row_request v at r)
stays_request kind v at r is takes it =
    by (slot_in v.slots r.who r.tag).reply (nat_lt (slot_in v.slots r.who r.tag).taken r.xid.0)
    ((slot_in v.slots r.who r.tag).taken == r.xid.0) where
      by : (kept : Option Reply) (above same : Bool) → StaysRepeating kind v (by_number v at r kept above same)
      by kept true same = stays_row_enters kind v at r is takes it
      by kept false true = stays_kept kind v kept it
      by kept false false = stays_none kind v it

-- ---- a cancel, what became of a lock, and what a holder says

stays_queue_goes : (kind : Kind) (resource : Resource) (v : Target) → IsRepeating kind v → StaysRepeating kind v (queue_goes resource v)
stays_queue_goes kind resource v it = stays_calm kind v (queue_goes resource v)
    (unread_calm (queue_goes resource v) (queue_goes_unread resource v)) it

pub stays_goes_on : (kind : Kind) (l : Lock) (at : At) (v : Target) → IsKindOf v.setting.id kind → IsRepeating kind v
    → StaysRepeating kind v (goes_on l at v)
stays_goes_on Mdt l at v is it = subst (λ names. StaysRepeating Mdt v (if names then names_go at v else queue_goes l.resource v))
    (sym (names_is v is)) (stays_names_go at v it)
stays_goes_on Ost l at v is it = subst (λ names. StaysRepeating Ost v (if names then names_go at v else queue_goes l.resource v)) (sym is)
    (stays_queue_goes Ost l.resource v it)

pub stays_cancels : (kind : Kind) (v : Target) (at : At) (found : Option Lock) → IsKindOf v.setting.id kind → IsRepeating kind v
    → StaysRepeating kind v (row_cancels v at found)
stays_cancels kind v at None is it = stays_none kind v it
stays_cancels kind v at (Some l) is it =
    stays_follow kind v (releases at l v) (goes_on l at) (stays_calm kind v (releases at l v) (releases_calm at l v) it)
    (stays_goes_on kind l at (turn v (releases at l v)) (kind_stays kind v (releases at l v) is))

pub stays_cancel : (kind : Kind) (v : Target) (at : At) (who : Who) (cookie : Cookie) → IsKindOf v.setting.id kind → IsRepeating kind v
    → StaysRepeating kind v (row_cancel v at who cookie)
stays_cancel kind v at who cookie is it = stays_cancels kind v at (lock_of who cookie v.granted) is it

pub stays_where : (kind : Kind) (v : Target) (who : Who) (cookie : Cookie) → IsRepeating kind v
    → StaysRepeating kind v (row_where v who cookie)
stays_where kind v who cookie it = by (lock_of who cookie v.granted) where
  said : (l : Lock) (names : Bool) → StaysRepeating kind v (if names then [] else grant_message v l ∷ [])
  said l true = stays_none kind v it
  said l false = stays_calm kind v (grant_message v l ∷ []) refl it

  by : (found : Option Lock) → StaysRepeating kind v (row_finds v found)
  by None = stays_none kind v it
  by (Some l) = said l (is_names v)

pub stays_report : (kind : Kind) (v : Target) (at : At) (m : SizeReport) → IsRepeating kind v
    → StaysRepeating kind v (row_report v at m (asked_for m v.glimpses))
stays_report kind v at m it = stays_calm kind v (row_report v at m (asked_for m v.glimpses)) (report_calm v at m (asked_for m v.glimpses))
    it

-- ---- a commit

stays_row_commits : (kind : Kind) (v : Target) (deeds : List Deed) → DeedsRepeat kind deeds → IsRepeating kind v
    → StaysRepeating kind v (row_commits v deeds)
stays_row_commits kind v [] repeat it = stays_calm kind v (Skip ∷ []) refl it
stays_row_commits kind v (d ∷ deeds) repeat it = stays_commits kind v (d ∷ deeds) [] [] repeat it

-- of all of the log, or of the first of it
pub stays_first_commits : (kind : Kind) (v : Target) (count : Option ℕ) → IsRepeating kind v
    → StaysRepeating kind v (row_commits v (first_deeds count v.log))
stays_first_commits kind v count it = stays_row_commits kind v (first_deeds count v.log) (first_repeat kind count v.log it.log) it

-- ---- ticks

pub stays_all_go : (kind : Kind) (at : At) (v : Target) → IsKindOf v.setting.id kind → IsRepeating kind v
    → StaysRepeating kind v (all_go at v)
stays_all_go Mdt at v is it = subst (λ names. StaysRepeating Mdt v (if names then names_go at v else all_queues_go v)) (sym (names_is v is))
    (stays_names_go at v it)
stays_all_go Ost at v is it =
    subst (λ names. StaysRepeating Ost v (if names then names_go at v else all_queues_go v)) (sym is)
    (stays_calm Ost v (all_queues_go v) (unread_calm (all_queues_go v) (queues_go_unread (resources_of v.waiting) v)) it)

pub stays_expels : (kind : Kind) (at : At) (gone : List Who) (v : Target) → IsKindOf v.setting.id kind → IsRepeating kind v
    → StaysRepeating kind v (expels at gone v)
stays_expels kind at [] v is it = stays_none kind v it
stays_expels kind at (who ∷ gone) v is it =
    let e : Entry = commits v v.log (who ∷ gone) [] in
    let w : Target = after v e in
    let es : List Entry = evictions at Expired v.granted (who ∷ gone) w in
    stays_follow kind v (e ∷ []) (λ x. follow x (evictions at Expired v.granted (who ∷ gone) x) (all_go at))
    (stays_commits kind v v.log (who ∷ gone) [] it.log it)
    (λ left. stays_follow kind w es (all_go at) (stays_calm kind w es (evictions_calm at Expired v.granted (who ∷ gone) w) left)
    (stays_all_go kind at (turn w es) (kind_stays kind w es is)))

pub stays_ticked : (kind : Kind) (at : At) (v : Target) → IsKindOf v.setting.id kind → IsRepeating kind v
    → StaysRepeating kind v (ticked at v)
stays_ticked kind at v is it =
    let es : List Entry = expels at (condemned v v.called) v in
    let w : Target = turn v es in
    stays_follow kind v es (λ x. sends_again x v.called v.glimpses x.granted) (stays_expels kind at (condemned v v.called) v is it)
    (stays_calm kind w (sends_again w v.called v.glimpses w.granted)
    (unread_calm (sends_again w v.called v.glimpses w.granted) (sends_again_unread w v.called v.glimpses w.granted)))

-- its line, and what comes of it
pub stays_tick : (kind : Kind) (at : At) (v : Target) → IsKindOf v.setting.id kind → IsRepeating kind v
    → StaysRepeating kind v (follow v (Tick ∷ []) (ticked at))
stays_tick kind at v is it = stays_follow kind v (Tick ∷ []) (ticked at) (stays_calm kind v (Tick ∷ []) refl it)
    (stays_ticked kind at (after v Tick) is)

-- ---- joins

pub stays_admits : (kind : Kind) (at : At) (who : Who) (v : Target) → IsKindOf v.setting.id kind → IsRepeating kind v
    → StaysRepeating kind v (admits at who v)
stays_admits kind at who v is it =
    let es : List Entry = Joined who ∷ ready v who ∷ [] in
    stays_follow kind v es (all_go at) (stays_calm kind v es refl it) (stays_all_go kind at (turn v es) is)

pub stays_row_admits : (kind : Kind) (at : At) (old : List Who) (who : Who) (v : Target) → IsKindOf v.setting.id kind → IsRepeating kind v
    → StaysRepeating kind v (row_admits at old who v)
stays_row_admits kind at old who v is it =
    let e : Entry = commits v v.log old (who ∷ []) in
    let w : Target = after v e in
    let es : List Entry = evictions at Replaced v.granted old w in
    stays_follow kind v (e ∷ []) (λ x. follow x (evictions at Replaced v.granted old x) (admits at who))
    (stays_commits kind v v.log old (who ∷ []) it.log it)
    (λ left. stays_follow kind w es (admits at who) (stays_calm kind w es (evictions_calm at Replaced v.granted old w) left)
    (stays_admits kind at who (turn w es) (kind_stays kind w es is)))

pub stays_by_life : (kind : Kind) (v : Target) (at : At) (who : Who) (found : Option Who) → IsKindOf v.setting.id kind → IsRepeating kind v
    → StaysRepeating kind v (by_life v at who found)
stays_by_life kind v at who None is it = stays_row_admits kind at [] who v is it
stays_by_life kind v at who (Some old) is it = by (nat_lt who.life old.life) (who.life == old.life) where
  by : (older same : Bool) → StaysRepeating kind v (if older then evicted v who ∷ []
      else (if same then ready v who ∷ [] else row_admits at (old ∷ []) who v))
  by true same = stays_calm kind v (evicted v who ∷ []) refl it
  by false true = stays_calm kind v (ready v who ∷ []) refl it
  by false false = stays_row_admits kind at (old ∷ []) who v is it

pub stays_join : (kind : Kind) (v : Target) (at : At) (who : Who) → IsKindOf v.setting.id kind → IsRepeating kind v
    → StaysRepeating kind v (row_join v at who)
stays_join kind v at who is it = by (list_any (is_over who) v.removed) where
  by : (over : Bool) → StaysRepeating kind v (if over then evicted v who ∷ [] else by_life v at who (life_of who.client v.lives))
  by true = stays_calm kind v (evicted v who ∷ []) refl it
  by false = stays_by_life kind v at who (life_of who.client v.lives) is it
