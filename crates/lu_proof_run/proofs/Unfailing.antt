-- No row of a target has the line of a failed disk: that comes by `over_disk` alone.
use Rattle.std.proofs.Common.{◌≡◌, ℕ, zero, suc, ◌+◌, ◌||◌, not, Bool, true, false, List, [], ◌∷◌, ◌++◌, length, Option, Some, None, refl}
use Rattle.std.proofs.Common.{nat_lt, ◌==◌, ◌&&◌, filter}
use Rattle.std.specs.Prelude.{if◌then◌else◌}
use Rattle.std.specs.List.{list_any}
use Rattle.lu_base.specs.declared.ids.At.{At}
use Rattle.lu_base.specs.declared.ids.Who.{Who}
use Rattle.lu_base.specs.declared.locks.Cause.{Cause}
use Rattle.lu_base.specs.declared.locks.Cause.TheVariants.{Expired, Replaced}
use Rattle.lu_base.specs.declared.locks.Extent.{Extent}
use Rattle.lu_base.specs.declared.locks.Lock.{Lock}
use Rattle.lu_base.specs.declared.locks.Mode.TheVariants.{PR, PW}
use Rattle.lu_base.specs.declared.locks.Resource.{Resource}
use Rattle.lu_lock.specs.Growth.{the_end}
use Rattle.lu_lock.specs.Modes.{serves}
use Rattle.lu_lock.specs.Overlap.{extents_meet}
use Rattle.lu_spec_machine.specs.Objects.{page_extent}
use Rattle.lu_msg.specs.declared.answers.Answer.TheVariants as told
use Rattle.lu_msg.specs.declared.messages.Message.{Message}
use Rattle.lu_msg.specs.declared.messages.Message.TheVariants as message
use Rattle.lu_msg.specs.declared.messages.Reply.{Reply as ReplyTo}
use Rattle.lu_msg.specs.declared.messages.Request.{Request as RequestOf}
use Rattle.lu_msg.specs.declared.messages.RequestReplay.{RequestReplay}
use Rattle.lu_msg.specs.declared.messages.SizeReport.{SizeReport}
use Rattle.lu_msg.specs.declared.operations.Op.{Op}
use Rattle.lu_msg.specs.declared.operations.Op.TheVariants as op
use Rattle.lu_spec_entries.specs.Carried.{Deed, Called, Glimpse, Said, Gone, Outcome, Slot}
use Rattle.lu_spec_entries.specs.Words.{Entry, Tick, Boot, Close, Evict, Joined, Fail, Enters, Stores, Brings, Says, Wishes, Wait, Skip}
use Rattle.lu_spec_entries.specs.Words.{Crash}
use Rattle.lu_spec_target.specs.Kept.{replayed}
use Rattle.lu_spec_target.specs.Lives.{is_life, lives_of, slot_in}
use Rattle.lu_spec_target.specs.Locks.{same_glimpse}
use Rattle.lu_spec_target.specs.Windows.{is_replay, is_lock, word_of, is_newest, is_back, all_settled}
use Rattle.lu_spec_target.specs.States.{Target, is_serving, turn, follow, is_names}
use Rattle.lu_spec_target.specs.Replies.{row_kept, locks_on, blocks, is_called, replies, none}
use Rattle.lu_spec_target.specs.Queues.{conflicting, blocks_go, grown, grant_entries, grants_go, queue_goes, queues_go, extent_of, size_of}
use Rattle.lu_spec_target.specs.Queues.{has_to_wait, resources_of}
use Rattle.lu_spec_target.specs.Glimpses.{row_size, row_holder, row_report, glimpses_of, glimpses_end, answered, highest, asked_for}
use Rattle.lu_spec_target.specs.Objects.{lock_for, row_enqueue, row_get, row_write, objects_go, lock_of, put_extent, cut_extent, lies_in}
use Rattle.lu_spec_target.specs.Names.{is_read, does_change, grant_lines, row_executes, row_waits, row_pass, row_sweep, names_go, in_way}
use Rattle.lu_spec_target.specs.Names.{written_by, is_ready, names_deed, locks_for}
use Rattle.lu_spec_target.specs.Requests.{goes, by_number, row_request, goes_on, releases, row_cancels, row_finds, row_cancel, row_where}
use Rattle.lu_spec_target.specs.Leaving.{commits, evicted, ready, all_released, locks_of, evictions, all_go, expels, condemned, block_again}
use Rattle.lu_spec_target.specs.Leaving.{asks_again, sends_again, ticked, row_tick, admits, row_admits, by_life, row_join, is_over, life_of}
use Rattle.lu_spec_target.specs.Outcomes.{outcome_of, window_of}
use Rattle.lu_spec_target.specs.Recovery.{kept_lines, restore_lines, evict_lines, ready_lines, joined_lines, commit_of, answers_all, closes}
use Rattle.lu_spec_target.specs.Recovery.{row_close, settles, back_line, row_keeps, cut, row_replay, row_lock, row_says, row_word}
use Rattle.lu_spec_target.specs.Recovery.{empty_word, wishes_by, row_wish, up_lines, row_boot}
use Rattle.lu_spec_target.specs.Rows.{by_boot, by_slot, heeds, while_serving, while_recovering, of_boot, row_heeds, row_commits, Event}
use Rattle.lu_spec_target.specs.Rows.{Comes, Ticks, Commits, Crashes, Boots, Closes, row, lock_again, when_up, first_deeds, row_commit}
use Rattle.lu_spec_target.specs.Rows.{row_closes}

abbrev pub no_fail : List Entry → Bool
no_fail [] = true
no_fail (e ∷ es) = elim e [ Fail ↦ false | _ ↦ no_fail es ]

-- ---- one list after another, one or the other

pub more_unfailing : (es fs : List Entry) → no_fail es ≡ true → no_fail fs ≡ true → no_fail (es ++ fs) ≡ true
more_unfailing [] fs first second = second
more_unfailing (Fail ∷ es) fs first second = absurd (cc)
more_unfailing (e ∷ es) fs first second = more_unfailing es fs first second

pub either_unfailing : (b : Bool) (es fs : List Entry) → no_fail es ≡ true → no_fail fs ≡ true → no_fail (if b then es else fs) ≡ true
either_unfailing true es fs first second = first
either_unfailing false es fs first second = second

follows : (es : List Entry) (next : Target → List Entry) (v : Target) → no_fail es ≡ true → ((w : Target) → no_fail (next w) ≡ true)
    → no_fail (follow v es next) ≡ true
follows es next v first second = more_unfailing es (next (turn v es)) first (second (turn v es))

-- ---- calling back, and the queues of locks

kept_unfailing : (v : Target) (kept : Option ReplyTo) → no_fail (row_kept v kept) ≡ true
kept_unfailing v None = refl
kept_unfailing v (Some reply) = refl

blocks_unfailing : (v : Target) (locks : List Lock) → no_fail (blocks v locks) ≡ true
blocks_unfailing v [] = refl
blocks_unfailing v (l ∷ locks) = either_unfailing (is_called l.cookie v.called) _ _ (blocks_unfailing v locks) (blocks_unfailing v locks)

blocks_go_unfailing : (waiting : List Lock) (v : Target) → no_fail (blocks_go waiting v) ≡ true
blocks_go_unfailing [] v = refl
blocks_go_unfailing (l ∷ waiting) v =
    follows (blocks v (conflicting v l)) (blocks_go waiting) v (blocks_unfailing v (conflicting v l)) (λ w. blocks_go_unfailing waiting w)

grants_go_unfailing : (ahead later : List Lock) (v : Target) → no_fail (grants_go ahead later v) ≡ true
grants_go_unfailing ahead [] v = refl
grants_go_unfailing ahead (l ∷ later) v =
    either_unfailing (has_to_wait v ahead l) _ _ (grants_go_unfailing (ahead ++ l ∷ []) later v)
    (follows (grant_entries v (grown v (ahead ++ later) l)) (grants_go ahead later) v refl (λ w. grants_go_unfailing ahead later w))

queue_unfailing : (r : Resource) (v : Target) → no_fail (queue_goes r v) ≡ true
queue_unfailing r v =
    follows (grants_go [] (locks_on r v.waiting) v) (λ w. blocks_go (locks_on r w.waiting) w) v
    (grants_go_unfailing [] (locks_on r v.waiting) v)
    (λ w. blocks_go_unfailing (locks_on r w.waiting) w)

queues_unfailing : (rs : List Resource) (v : Target) → no_fail (queues_go rs v) ≡ true
queues_unfailing [] v = refl
queues_unfailing (r ∷ rs) v = follows (queue_goes r v) (queues_go rs) v (queue_unfailing r v) (λ w. queues_unfailing rs w)

-- ---- glimpses

size_unfailing : (v : Target) (at : At) (r : RequestOf) (resource : Resource) (l : Option Lock) → no_fail (row_size v at r resource l)
    ≡ true
size_unfailing v at r resource None = refl
size_unfailing v at r resource (Some l) =
    either_unfailing ((extent_of l).last == the_end) _ _ refl (either_unfailing (nat_lt (extent_of l).last (size_of v resource)) _ _ refl
    refl)

holder_unfailing : (v : Target) (at : At) (m : SizeReport) (g : Glimpse) (size : Option ℕ) → no_fail (row_holder v at m g size) ≡ true
holder_unfailing v at m g None = refl
holder_unfailing v at m g (Some size) = refl

report_unfailing : (v : Target) (at : At) (m : SizeReport) (found : Option Glimpse) → no_fail (row_report v at m found) ≡ true
report_unfailing v at m None = refl
report_unfailing v at m (Some g) = holder_unfailing v at m g m.size

glimpses_unfailing : (at : At) (gs : List Glimpse) (v : Target) → no_fail (glimpses_end at gs v) ≡ true
glimpses_unfailing at [] v = refl
glimpses_unfailing at (g ∷ gs) v = glimpses_unfailing at gs v

-- ---- requests on objects

enqueue_unfailing : (v : Target) (at : At) (r : RequestOf) (l : Lock) → no_fail (row_enqueue v at r l) ≡ true
enqueue_unfailing v at r l =
    let d : Deed = answered v at r (told.Waiting l.cookie) in
    either_unfailing (has_to_wait v (locks_on l.resource v.waiting) l) _ _
    (follows (Wait l d ∷ replies d ∷ []) (λ w. blocks_go (locks_on l.resource w.waiting) w) v refl
    (λ w. blocks_go_unfailing (locks_on l.resource w.waiting) w)) refl

get_unfailing : (v : Target) (at : At) (r : RequestOf) (resource : Resource) (page : ℕ) (l : Option Lock)
    → no_fail (row_get v at r resource page l) ≡ true
get_unfailing v at r resource page None = refl
get_unfailing v at r resource page (Some l) = either_unfailing (serves l.ask.mode PR && extents_meet (extent_of l) (page_extent page)) _ _
    refl refl

write_unfailing : (v : Target) (at : At) (r : RequestOf) (extent : Extent) (l : Option Lock) → no_fail (row_write v at r extent l) ≡ true
write_unfailing v at r extent None = refl
write_unfailing v at r extent (Some l) = either_unfailing (serves l.ask.mode PW && lies_in extent (extent_of l)) _ _ refl refl

objects_unfailing : (v : Target) (at : At) (r : RequestOf) (o : Op) → no_fail (objects_go v at r o) ≡ true
objects_unfailing v at r (op.Enqueue resource mode extent) = enqueue_unfailing v at r (lock_for v r resource mode extent)
objects_unfailing v at r (op.Get resource cookie page) = get_unfailing v at r resource page
    (lock_of r.who cookie (locks_on resource v.granted))
objects_unfailing v at r (op.Put resource cookie offset bytes) =
    write_unfailing v at r (put_extent offset bytes) (lock_of r.who cookie (locks_on resource v.granted))
objects_unfailing v at r (op.Cut resource cookie size) = write_unfailing v at r (cut_extent size)
    (lock_of r.who cookie (locks_on resource v.granted))
objects_unfailing v at r (op.Size resource) = size_unfailing v at r resource (highest (locks_on resource v.granted))
objects_unfailing v at r o = refl

-- ---- requests on names

grants_unfailing : (d : Deed) (locks : List Lock) → no_fail (grant_lines d locks) ≡ true
grants_unfailing d [] = refl
grants_unfailing d (l ∷ locks) = grants_unfailing d locks

executes_unfailing : (v : Target) (at : At) (r : RequestOf) (changes : Bool) → no_fail (row_executes v at r changes) ≡ true
executes_unfailing v at r true = refl
executes_unfailing v at r false =
    let d : Deed = names_deed v at r none (locks_for v r) in
    more_unfailing (grant_lines d d.reply.locks) (replies d ∷ []) (grants_unfailing d d.reply.locks) refl

waits_unfailing : (v : Target) (r : RequestOf) → no_fail (row_waits v r) ≡ true
waits_unfailing v r = either_unfailing (is_read r.op) _ _ refl (blocks_unfailing v (in_way v.granted (written_by v r)))

pass_unfailing : (again : Target → List Entry) → ((w : Target) → no_fail (again w) ≡ true)
    → (v : Target) (at : At) (stood : Bool) (queue : List RequestOf)
    → no_fail (row_pass again v at stood queue) ≡ true
pass_unfailing again goes v at stood [] = refl
pass_unfailing again goes v at stood (r ∷ queue) =
    let next : Bool = stood || not (is_read r.op) in
    either_unfailing (is_ready v stood r) _ _ (follows (row_executes v at r (does_change v r)) again v
    (executes_unfailing v at r (does_change v r)) goes)
    (follows (row_waits v r) (λ w. row_pass again w at next queue) v (waits_unfailing v r) (λ w. pass_unfailing again goes w at next queue))

sweep_unfailing : (more : ℕ) (at : At) (v : Target) → no_fail (row_sweep more at v) ≡ true
sweep_unfailing zero at v = refl
sweep_unfailing (suc more) at v = pass_unfailing (row_sweep more at) (λ w. sweep_unfailing more at w) v at false v.queue

names_unfailing : (at : At) (v : Target) → no_fail (names_go at v) ≡ true
names_unfailing at v = sweep_unfailing (length v.queue + 1) at v

-- ---- a request, a cancel, and what became of a lock

goes_unfailing : (at : At) (r : RequestOf) (v : Target) → no_fail (goes at r v) ≡ true
goes_unfailing at r v = either_unfailing (is_names v) _ _ (names_unfailing at v) (objects_unfailing v at r r.op)

number_unfailing : (v : Target) (at : At) (r : RequestOf) (kept : Option ReplyTo) (above same : Bool)
    → no_fail (by_number v at r kept above same) ≡ true
number_unfailing v at r kept true same = follows (Enters r ∷ []) (goes at r) v refl (λ w. goes_unfailing at r w)
number_unfailing v at r kept false true = kept_unfailing v kept
number_unfailing v at r kept false false = refl

request_unfailing : (v : Target) (at : At) (r : RequestOf) → no_fail (row_request v at r) ≡ true
request_unfailing v at r =
    let slot : Slot = slot_in v.slots r.who r.tag in
    number_unfailing v at r slot.reply (nat_lt slot.taken r.xid.0) (slot.taken == r.xid.0)

goes_on_unfailing : (l : Lock) (at : At) (v : Target) → no_fail (goes_on l at v) ≡ true
goes_on_unfailing l at v = either_unfailing (is_names v) _ _ (names_unfailing at v) (queue_unfailing l.resource v)

releases_unfailing : (at : At) (l : Lock) (v : Target) → no_fail (releases at l v) ≡ true
releases_unfailing at l v = glimpses_unfailing at (glimpses_of l v.glimpses) v

cancels_unfailing : (v : Target) (at : At) (found : Option Lock) → no_fail (row_cancels v at found) ≡ true
cancels_unfailing v at None = refl
cancels_unfailing v at (Some l) = follows (releases at l v) (goes_on l at) v (releases_unfailing at l v) (λ w. goes_on_unfailing l at w)

finds_unfailing : (v : Target) (found : Option Lock) → no_fail (row_finds v found) ≡ true
finds_unfailing v None = refl
finds_unfailing v (Some l) = either_unfailing (is_names v) _ _ refl refl

-- ---- lives that leave

released_unfailing : (at : At) (locks : List Lock) (v : Target) → no_fail (all_released at locks v) ≡ true
released_unfailing at [] v = refl
released_unfailing at (l ∷ locks) v = follows (releases at l v) (all_released at locks) v (releases_unfailing at l v)
    (λ w. released_unfailing at locks w)

evictions_unfailing : (at : At) (cause : Cause) (granted : List Lock) (gone : List Who) (v : Target)
    → no_fail (evictions at cause granted gone v) ≡ true
evictions_unfailing at cause granted [] v = refl
evictions_unfailing at cause granted (who ∷ gone) v =
    follows (Evict who cause ∷ evicted v who ∷ all_released at (locks_of who granted) v) (evictions at cause granted gone) v
    (released_unfailing at (locks_of who granted) v) (λ w. evictions_unfailing at cause granted gone w)

all_go_unfailing : (at : At) (v : Target) → no_fail (all_go at v) ≡ true
all_go_unfailing at v = either_unfailing (is_names v) _ _ (names_unfailing at v) (queues_unfailing (resources_of v.waiting) v)

-- ---- ticks

expels_unfailing : (at : At) (gone : List Who) (v : Target) → no_fail (expels at gone v) ≡ true
expels_unfailing at [] v = refl
expels_unfailing at (who ∷ gone) v =
    follows (commits v v.log (who ∷ gone) [] ∷ []) (λ w. follow w (evictions at Expired v.granted (who ∷ gone) w) (all_go at)) v refl
    (λ w. follows (evictions at Expired v.granted (who ∷ gone) w) (all_go at) w (evictions_unfailing at Expired v.granted (who ∷ gone) w)
    (λ x. all_go_unfailing at x))

block_again_unfailing : (v : Target) (l : Lock) (before : List Called) → no_fail (block_again v l before) ≡ true
block_again_unfailing v l before = either_unfailing (is_called l.cookie before && is_called l.cookie v.called) _ _ refl refl

asks_again_unfailing : (v : Target) (l : Lock) (before : List Glimpse) → no_fail (asks_again v l before) ≡ true
asks_again_unfailing v l [] = refl
asks_again_unfailing v l (g ∷ before) =
    either_unfailing (list_any (same_glimpse g) v.glimpses) _ _ (asks_again_unfailing v l before) (asks_again_unfailing v l before)

sends_unfailing : (v : Target) (called : List Called) (glimpses : List Glimpse) (locks : List Lock)
    → no_fail (sends_again v called glimpses locks) ≡ true
sends_unfailing v called glimpses [] = refl
sends_unfailing v called glimpses (l ∷ locks) =
    let asks : List Entry = asks_again v l (glimpses_of l glimpses) in
    let rest : List Entry = sends_again v called glimpses locks in
    more_unfailing (block_again v l called) (asks ++ rest) (block_again_unfailing v l called)
    (more_unfailing asks rest (asks_again_unfailing v l (glimpses_of l glimpses)) (sends_unfailing v called glimpses locks))

ticked_unfailing : (at : At) (v : Target) → no_fail (ticked at v) ≡ true
ticked_unfailing at v =
    follows (expels at (condemned v v.called) v) (λ w. sends_again w v.called v.glimpses w.granted) v
    (expels_unfailing at (condemned v v.called) v)
    (λ w. sends_unfailing w v.called v.glimpses w.granted)

tick_unfailing : (v : Target) (at : At) → no_fail (row_tick v at) ≡ true
tick_unfailing v at = either_unfailing (is_serving v) _ _ (follows (Tick ∷ []) (ticked at) v refl (λ w. ticked_unfailing at w)) refl

-- ---- joins, while the target serves

admits_unfailing : (at : At) (who : Who) (v : Target) → no_fail (admits at who v) ≡ true
admits_unfailing at who v = follows (Joined who ∷ ready v who ∷ []) (all_go at) v refl (λ w. all_go_unfailing at w)

row_admits_unfailing : (at : At) (old : List Who) (who : Who) (v : Target) → no_fail (row_admits at old who v) ≡ true
row_admits_unfailing at old who v =
    follows (commits v v.log old (who ∷ []) ∷ []) (λ w. follow w (evictions at Replaced v.granted old w) (admits at who)) v refl
    (λ w. follows (evictions at Replaced v.granted old w) (admits at who) w (evictions_unfailing at Replaced v.granted old w)
    (λ x. admits_unfailing at who x))

life_unfailing : (v : Target) (at : At) (who : Who) (found : Option Who) → no_fail (by_life v at who found) ≡ true
life_unfailing v at who None = row_admits_unfailing at [] who v
life_unfailing v at who (Some old) =
    either_unfailing (nat_lt who.life old.life) _ _ refl (either_unfailing (who.life == old.life) _ _ refl
    (row_admits_unfailing at (old ∷ []) who v))

join_unfailing : (v : Target) (at : At) (who : Who) → no_fail (row_join v at who) ≡ true
join_unfailing v at who = either_unfailing (list_any (is_over who) v.removed) _ _ refl
    (life_unfailing v at who (life_of who.client v.lives))

-- ---- the close of a window

kept_lines_unfailing : (deeds : List Deed) → no_fail (kept_lines deeds) ≡ true
kept_lines_unfailing [] = refl
kept_lines_unfailing (d ∷ deeds) = kept_lines_unfailing deeds

restores_unfailing : (locks : List Lock) → no_fail (restore_lines locks) ≡ true
restores_unfailing [] = refl
restores_unfailing (l ∷ locks) = restores_unfailing locks

evict_lines_unfailing : (v : Target) (gone : List Gone) → no_fail (evict_lines v gone) ≡ true
evict_lines_unfailing v [] = refl
evict_lines_unfailing v (g ∷ gone) = evict_lines_unfailing v gone

ready_lines_unfailing : (v : Target) (lives : List Who) → no_fail (ready_lines v lives) ≡ true
ready_lines_unfailing v [] = refl
ready_lines_unfailing v (who ∷ lives) = ready_lines_unfailing v lives

joined_lines_unfailing : (v : Target) (lives : List Who) → no_fail (joined_lines v lives) ≡ true
joined_lines_unfailing v [] = refl
joined_lines_unfailing v (who ∷ lives) = joined_lines_unfailing v lives

answers_unfailing : (o : Outcome) (lives : List Who) (v : Target) → no_fail (answers_all o lives v) ≡ true
answers_unfailing o lives v =
    let stay : List Who = filter (λ who. not (is_life who (lives_of o.gone))) lives in
    more_unfailing (evict_lines v o.gone) (ready_lines v stay ++ joined_lines v o.joins) (evict_lines_unfailing v o.gone)
    (more_unfailing (ready_lines v stay) (joined_lines v o.joins) (ready_lines_unfailing v stay) (joined_lines_unfailing v o.joins))

closes_unfailing : (v : Target) (o : Outcome) → no_fail (closes v o) ≡ true
closes_unfailing v o =
    follows (Close o ∷ commit_of o ∷ kept_lines o.kept ++ restore_lines o.locks) (answers_all o v.lives) v
    (more_unfailing (kept_lines o.kept) (restore_lines o.locks) (kept_lines_unfailing o.kept) (restores_unfailing o.locks))
    (λ w. answers_unfailing o v.lives w)

close_unfailing : (at : At) (v : Target) → no_fail (row_close at v) ≡ true
close_unfailing at v = closes_unfailing v (outcome_of v at)

settles_unfailing : (at : At) (v : Target) → no_fail (settles at v) ≡ true
settles_unfailing at v = either_unfailing (all_settled (window_of v) v.lives) _ _ (close_unfailing at v) refl

-- ---- what a target that recovers takes

keeps_unfailing : (v : Target) (at : At) (who : Who) (e : Entry) → no_fail (e ∷ []) ≡ true → no_fail (row_keeps v at who e) ≡ true
keeps_unfailing v at who e one =
    let before : Bool = is_back (window_of v) who in
    follows (e ∷ []) (λ w. follow w (back_line before who w) (settles at)) v one
    (λ w. follows (back_line before who w) (settles at) w (either_unfailing (is_back (window_of w) who && not before) _ _ refl refl)
    (λ x. settles_unfailing at x))

replay_unfailing : (v : Target) (at : At) (r : RequestReplay) → no_fail (row_replay v at r) ≡ true
replay_unfailing v at r = either_unfailing (list_any (is_replay (replayed r)) v.replays) _ _ refl
    (keeps_unfailing v at r.who (Stores (cut r)) refl)

lock_unfailing : (v : Target) (at : At) (l : Lock) → no_fail (row_lock v at l) ≡ true
lock_unfailing v at l = either_unfailing (list_any (is_lock l) v.brought) _ _ refl (keeps_unfailing v at l.ask.who (Brings l) refl)

says_unfailing : (v : Target) (at : At) (word : Said) (before : Option Said) → no_fail (row_says v at word before) ≡ true
says_unfailing v at word None = keeps_unfailing v at word.who (Says word) refl
says_unfailing v at word (Some before) = refl

word_unfailing : (v : Target) (at : At) (word : Said) → no_fail (row_word v at word) ≡ true
word_unfailing v at word = says_unfailing v at word (word_of word.who v.words)

wishes_unfailing : (v : Target) (at : At) (who : Who) (found : Option Who) → no_fail (wishes_by v at who found) ≡ true
wishes_unfailing v at who None = refl
wishes_unfailing v at who (Some old) =
    either_unfailing (who.life == old.life) _ _ (word_unfailing v at (empty_word who))
    (either_unfailing (nat_lt old.life who.life && is_newest who v.wishes) _ _ (keeps_unfailing v at old (Wishes who) refl) refl)

wish_unfailing : (v : Target) (at : At) (who : Who) → no_fail (row_wish v at who) ≡ true
wish_unfailing v at who = wishes_unfailing v at who (life_of who.client v.lives)

-- ---- a boot

up_lines_unfailing : (v : Target) (lives : List Who) → no_fail (up_lines v lives) ≡ true
up_lines_unfailing v [] = refl
up_lines_unfailing v (who ∷ lives) = up_lines_unfailing v lives

boot_unfailing : (v : Target) (at : At) → no_fail (row_boot v at) ≡ true
boot_unfailing v at =
    follows (Boot (v.disk.boot + 1) v.disk ∷ []) (λ w. up_lines w w.lives ++ settles at w) v refl
    (λ w. more_unfailing (up_lines w w.lives) (settles at w) (up_lines_unfailing w w.lives) (settles_unfailing at w))

-- ---- whole rows

heeds_unfailing : (v : Target) (who : Who) (boot : ℕ) (rest : List Entry) → no_fail rest ≡ true → no_fail (heeds v who boot rest) ≡ true
heeds_unfailing v who boot rest one = by (nat_lt boot v.boot) (is_life who v.lives)
  where
    by : (older has_slot : Bool) → no_fail (by_boot v who older (by_slot v who has_slot rest)) ≡ true
    by true slot = refl
    by false true = one
    by false false = refl

-- what comes while the target serves, or while it recovers
serving_unfailing : (v : Target) (rest : List Entry) → no_fail rest ≡ true → no_fail (while_serving v rest) ≡ true
serving_unfailing v rest one = either_unfailing (is_serving v) rest [] one refl

recovering_unfailing : (v : Target) (boot : ℕ) (rest : List Entry) → no_fail rest ≡ true
    → no_fail (while_recovering v (of_boot v boot rest)) ≡ true
recovering_unfailing v boot rest one = either_unfailing (is_serving v) [] _ refl (either_unfailing (boot == v.boot) rest [] one refl)

message_unfailing : (v : Target) (at : At) (m : Message) → no_fail (row_heeds v at m) ≡ true
message_unfailing v at (message.Request r) = heeds_unfailing v r.who r.boot _
    (serving_unfailing v (row_request v at r) (request_unfailing v at r))
message_unfailing v at (message.Cancel who boot cookie) =
    heeds_unfailing v who boot _ (serving_unfailing v (row_cancel v at who cookie) (cancels_unfailing v at (lock_of who cookie v.granted)))
message_unfailing v at (message.Where who boot cookie) =
    heeds_unfailing v who boot _ (serving_unfailing v (row_where v who cookie) (finds_unfailing v (lock_of who cookie v.granted)))
message_unfailing v at (message.Size m) =
    heeds_unfailing v m.who m.boot _ (serving_unfailing v (row_report v at m (asked_for m v.glimpses))
    (report_unfailing v at m (asked_for m v.glimpses)))
message_unfailing v at (message.Replay r) = heeds_unfailing v r.who r.boot _
    (recovering_unfailing v r.boot (row_replay v at r) (replay_unfailing v at r))
message_unfailing v at (message.Lock r) =
    heeds_unfailing v r.who r.boot _ (recovering_unfailing v r.boot (row_lock v at (lock_again r)) (lock_unfailing v at (lock_again r)))
message_unfailing v at (message.Word who boot replays locks seen) =
    let word : Said = record { who = who; replays = replays; locks = locks; seen = seen } in
    heeds_unfailing v who boot _
    (either_unfailing (is_serving v) _ _ refl (either_unfailing (boot == v.boot) (row_word v at word) [] (word_unfailing v at word) refl))
message_unfailing v at (message.Join who boot) = by (nat_lt boot v.boot)
  where
    by : (older : Bool) → no_fail (by_boot v who older (if is_serving v then row_join v at who else row_wish v at who)) ≡ true
    by true = refl
    by false = either_unfailing (is_serving v) _ _ (join_unfailing v at who) (wish_unfailing v at who)
message_unfailing v at m = refl

commits_unfailing : (v : Target) (deeds : List Deed) → no_fail (row_commits v deeds) ≡ true
commits_unfailing v [] = refl
commits_unfailing v (d ∷ deeds) = refl

up_unfailing : (v : Target) (rest : List Entry) → no_fail rest ≡ true → no_fail (when_up v rest) ≡ true
up_unfailing v rest one = either_unfailing v.up rest (Skip ∷ []) one refl

pub row_unfailing : (v : Target) (at : At) (e : Event) → no_fail (row v at e) ≡ true
row_unfailing v at (Comes number from m) = message_unfailing v at m
row_unfailing v at Ticks = up_unfailing v (row_tick v at) (tick_unfailing v at)
row_unfailing v at (Commits count) =
    let deeds : List Deed = first_deeds count v.log in
    up_unfailing v (row_commit v count) (either_unfailing (is_serving v) (row_commits v deeds) (Skip ∷ []) (commits_unfailing v deeds) refl)
row_unfailing v at Crashes = up_unfailing v (Crash ∷ []) refl
row_unfailing v at Boots = either_unfailing v.up (Skip ∷ []) (row_boot v at) refl (boot_unfailing v at)
row_unfailing v at Closes = up_unfailing v (row_closes v at) (either_unfailing (is_serving v) (Skip ∷ []) (row_close at v) refl
    (close_unfailing at v))
