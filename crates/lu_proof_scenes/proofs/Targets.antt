-- A target's row, for messages, ticks and commands: all its lines are covered, and none but a tick counts one. It asks a
-- disk for a command, for what a life that joins or comes back tells it, and for a tick of which a lock that was called back expires. Where
-- it
-- is down it passes all over.
use Rattle.std.proofs.Common.{◌≡◌, ℕ, zero, suc, ◌+◌, ◌<◌, ◌≤◌, Bool, true, false, List, [], ◌∷◌, ◌++◌, Option, Some, None, refl, ap, ◌∙◌}
use Rattle.std.proofs.Common.{arith}
use Rattle.std.specs.Prelude.{nat_eq, nat_le, nat_lt, not, ◌&&◌, ◌||◌, if◌then◌else◌, length}
use Rattle.std.specs.List.{list_any}
use Rattle.std.proofs.lemmas.Bool.{cond_both}
use Rattle.std.proofs.lemmas.Bool.Decides.{nat_tests}
use Rattle.lu_base.specs.declared.ids.At.{At}
use Rattle.lu_base.specs.declared.ids.Node.{Node}
use Rattle.lu_base.specs.declared.ids.Who.{Who}
use Rattle.lu_base.specs.declared.locks.Cause.{Cause}
use Rattle.lu_base.specs.declared.locks.Cause.TheVariants.{Expired, Replaced}
use Rattle.lu_base.specs.declared.locks.Extent.{Extent}
use Rattle.lu_base.specs.declared.locks.Lock.{Lock}
use Rattle.lu_base.specs.declared.locks.Mode.TheVariants.{PR, PW}
use Rattle.lu_base.specs.declared.locks.Resource.{Resource}
use Rattle.lu_lock.specs.Growth.{the_end}
use Rattle.lu_lock.specs.Modes.{serves}
use Rattle.lu_lock.specs.Overlap.{extents_meet}
use Rattle.lu_spec_machine.specs.Objects.{content, page_extent}
use Rattle.lu_msg.specs.declared.answers.Answer.TheVariants as told
use Rattle.lu_msg.specs.declared.messages.Message.{Message}
use Rattle.lu_msg.specs.declared.messages.SizeReport.{SizeReport}
use Rattle.lu_msg.specs.declared.messages.Message.TheVariants as message
use Rattle.lu_msg.specs.declared.messages.Reply.{Reply as ReplyTo}
use Rattle.lu_msg.specs.declared.messages.Request.{Request as RequestOf}
use Rattle.lu_msg.specs.declared.operations.Op.{Op}
use Rattle.lu_msg.specs.declared.operations.Op.TheVariants as op
use Rattle.lu_spec_entries.specs.Carried.{Deed, Called, Glimpse, Slot, Said}
use Rattle.lu_spec_entries.specs.Words.{Entry, Tick, Skip, Wait, Block, Evict, Joined, Crash, Enters}
use Rattle.lu_spec_target.specs.Glimpses.{answered, row_sizes, row_answers, row_locked, highest, ask_of, row_asks, row_size, asked_for}
use Rattle.lu_spec_target.specs.Glimpses.{row_holder, row_report, glimpses_of, glimpses_end}
use Rattle.lu_spec_target.specs.Leaving.{commits, evicted, ready, all_released, locks_of, evictions, all_go, is_due, condemned, expels}
use Rattle.lu_spec_target.specs.Leaving.{block_again, asks_again, sends_again, ticked, row_tick, life_of, admits, row_admits, by_life}
use Rattle.lu_spec_target.specs.Leaving.{is_over, row_join}
use Rattle.lu_spec_target.specs.Lives.{is_life, with_life, slot_in}
use Rattle.lu_spec_target.specs.Names.{does_change, is_read, is_ready, written_by, in_way, grant_lines, row_executes, row_waits, row_pass}
use Rattle.lu_spec_target.specs.Names.{row_sweep, names_go}
use Rattle.lu_spec_target.specs.Locks.{same_glimpse}
use Rattle.lu_spec_target.specs.Objects.{lock_of, lock_for, row_granted, row_waiting, row_enqueue, row_uncovered, row_get, lies_in, written}
use Rattle.lu_spec_target.specs.Objects.{row_written, row_write, put_extent, cut_extent, objects_go}
use Rattle.lu_spec_target.specs.Queues.{object, size_of, extent_of, conflicting, blocks_go, grant_message, has_to_wait, grown}
use Rattle.lu_spec_target.specs.Queues.{grant_entries, grants_go, queue_goes, queues_go, resources_of, all_queues_go}
use Rattle.lu_spec_target.specs.Recovery.{row_replay, row_lock, row_word, row_wish, row_boot, row_close}
use Rattle.lu_spec_target.specs.Replies.{is_called, called, block_of, blocks, replies, row_kept, locks_on}
use Rattle.lu_spec_target.specs.Requests.{goes, by_number, by_slot as slot_of_request, row_request, releases, goes_on, row_cancels}
use Rattle.lu_spec_target.specs.Requests.{row_cancel, row_finds, row_where}
use Rattle.lu_spec_target.specs.Rows.{by_boot, by_slot, heeds, while_serving, while_recovering, of_boot, lock_again, row_heeds, first_deeds}
use Rattle.lu_spec_target.specs.Rows.{row_commits, row_commit, row_closes}
use Rattle.lu_spec_target.specs.Rows as target
use Rattle.lu_spec_target.specs.States.{Target, is_names, is_serving, after, turn, follow}
use Rattle.lu_proof_scenes.proofs.Every.{every_more, every_so}
use Rattle.lu_proof_scenes.proofs.Asking.{IsOf}
use Rattle.lu_proof_scenes.proofs.Served.{LineServed, AllServed, OfRun, of_run_turn, served_still}
use Rattle.lu_proof_scenes.proofs.Windows.{AllBack, back_served, close_back, replay_back, lock_back, word_back, wish_back, boot_served}

-- ---- what comes

-- a message of a life: it is of a client of the run; where no turn may ask a disk it is of the present boot, and of a life with a slot
pub record Spoken (MayAsk : Type 0) (clients : ℕ) (v : Target) (who : Who) (boot : ℕ) : Type 0 where
  pub of : IsOf clients who
  pub older : nat_lt boot v.boot ≡ true → MayAsk
  pub without : is_life who v.lives ≡ false → MayAsk

-- which messages may come: requests, and what is said of locks; the others, where a turn may ask a disk
abbrev pub MessageServed : Type 0 → (clients : ℕ) → Target → Message → Type 0
MessageServed MayAsk clients v (message.Request r) = Spoken MayAsk clients v r.who r.boot
MessageServed MayAsk clients v (message.Cancel who boot cookie) = Spoken MayAsk clients v who boot
MessageServed MayAsk clients v (message.Where who boot cookie) = Spoken MayAsk clients v who boot
MessageServed MayAsk clients v (message.Size m) = Spoken MayAsk clients v m.who m.boot
MessageServed MayAsk clients v (message.Join who boot) = MayAsk × IsOf clients who
MessageServed MayAsk clients v (message.Replay r) = MayAsk × IsOf clients r.who
MessageServed MayAsk clients v (message.Lock r) = MayAsk × IsOf clients r.who
MessageServed MayAsk clients v (message.Word who boot replays locks seen) = MayAsk × IsOf clients who
MessageServed MayAsk clients v _ = ⊥

-- ---- requests that wait go on

module _ (MayAsk : Type 0) (clients : ℕ) where
  abbrev All : List Entry → Type 0
  All es = AllServed ⊥ MayAsk clients es

  -- these lines, and then those of the target as they left it
  follow_served : (es : List Entry) (next : Target → List Entry) (v : Target) → OfRun clients v → All es
      → ((w : Target) → OfRun clients w → All (next w)) → All (follow v es next)
  follow_served es next v s all more = every_more (LineServed ⊥ MayAsk clients) es (next (turn v es)) all
      (more (turn v es) (of_run_turn ⊥ MayAsk clients v es all s))

  grants_served : (d : Deed) (locks : List Lock) → All (grant_lines d locks ++ replies d ∷ [])
  grants_served d [] = (tt, tt)
  grants_served d (l ∷ locks) = (tt, grants_served d locks)

  executes_served : (v : Target) (at : At) (r : RequestOf) (b : Bool) → All (row_executes v at r b)
  executes_served v at r true = (tt, (tt, tt))
  executes_served v at r false = (tt, grants_served _ _)

  blocks_served : (v : Target) (locks : List Lock) → All (blocks v locks)
  blocks_served v [] = tt
  blocks_served v (l ∷ locks) =
      cond_both (is_called l.cookie v.called) (blocks v locks) (Block (called v l) ∷ block_of v l ∷ blocks v locks) All
      (λ t. blocks_served v locks) (λ t. (tt, (tt, blocks_served v locks)))

  waits_served : (v : Target) (r : RequestOf) → All (row_waits v r)
  waits_served v r = cond_both (is_read r.op) [] (blocks v (in_way v.granted (written_by v r))) All (λ t. tt)
      (λ t. blocks_served v (in_way v.granted (written_by v r)))

  pass_served : (again : Target → List Entry) → ((w : Target) → All (again w))
      → (v : Target) (at : At) (stood : Bool) (queue : List RequestOf) → All (row_pass again v at stood queue)
  pass_served again more v at stood [] = tt
  pass_served again more v at stood (r ∷ queue) =
      let acts = row_executes v at r (does_change v r) in
      let next : Target → List Entry = λ w. row_pass again w at (stood || not (is_read r.op)) queue in
      cond_both (is_ready v stood r) (follow v acts again) (follow v (row_waits v r) next) All
      (λ t. every_more (LineServed ⊥ MayAsk clients) acts (again (turn v acts)) (executes_served v at r (does_change v r))
      (more (turn v acts)))
      (λ t. every_more (LineServed ⊥ MayAsk clients) (row_waits v r) (next (turn v (row_waits v r))) (waits_served v r)
      (pass_served again more (turn v (row_waits v r)) at (stood || not (is_read r.op)) queue))

  sweep_served : (n : ℕ) (at : At) (v : Target) → All (row_sweep n at v)
  sweep_served zero at v = tt
  sweep_served (suc n) at v = pass_served (row_sweep n at) (sweep_served n at) v at false v.queue

  pub names_served : (at : At) (v : Target) → All (names_go at v)
  names_served at v = sweep_served (length v.queue + 1) at v

  -- ---- locks on objects

  blocks_go_served : (waiting : List Lock) (v : Target) → All (blocks_go waiting v)
  blocks_go_served [] v = tt
  blocks_go_served (l ∷ waiting) v =
      every_more (LineServed ⊥ MayAsk clients) (blocks v (conflicting v l)) (blocks_go waiting (turn v (blocks v (conflicting v l))))
      (blocks_served v (conflicting v l)) (blocks_go_served waiting (turn v (blocks v (conflicting v l))))

  grants_go_served : (ahead later : List Lock) (v : Target) → All (grants_go ahead later v)
  grants_go_served ahead [] v = tt
  grants_go_served ahead (l ∷ later) v =
      let granted : List Entry = grant_entries v (grown v (ahead ++ later) l) in
      cond_both (has_to_wait v ahead l) (grants_go (ahead ++ l ∷ []) later v) (follow v granted (grants_go ahead later)) All
      (λ t. grants_go_served (ahead ++ l ∷ []) later v)
      (λ t. every_more (LineServed ⊥ MayAsk clients) granted (grants_go ahead later (turn v granted)) (tt, (tt, tt))
      (grants_go_served ahead later (turn v granted)))

  pub queue_served : (r : Resource) (v : Target) → All (queue_goes r v)
  queue_served r v =
      let granted : List Entry = grants_go [] (locks_on r v.waiting) v in
      let w : Target = turn v granted in
      every_more (LineServed ⊥ MayAsk clients) granted (blocks_go (locks_on r w.waiting) w) (grants_go_served [] (locks_on r v.waiting) v)
      (blocks_go_served (locks_on r w.waiting) w)

  queues_served : (rs : List Resource) (v : Target) → All (queues_go rs v)
  queues_served [] v = tt
  queues_served (r ∷ rs) v = every_more (LineServed ⊥ MayAsk clients) (queue_goes r v) (queues_go rs (turn v (queue_goes r v)))
      (queue_served r v) (queues_served rs (turn v (queue_goes r v)))

  enqueue_served : (v : Target) (at : At) (r : RequestOf) (l : Lock) → All (row_enqueue v at r l)
  enqueue_served v at r l =
      let waiting : List Lock = locks_on l.resource v.waiting in
      cond_both (has_to_wait v waiting l) (row_waiting v at r l) (row_granted v at r (grown v waiting l)) All
      (λ t.
      let es : List Entry = Wait l (answered v at r (told.Waiting l.cookie)) ∷ replies (answered v at r (told.Waiting l.cookie)) ∷ [] in
      let w : Target = turn v es in
      every_more (LineServed ⊥ MayAsk clients) es (blocks_go (locks_on l.resource w.waiting) w) (tt, (tt, tt))
      (blocks_go_served (locks_on l.resource w.waiting) w))
      (λ t. (tt, (tt, tt)))

  -- ---- bytes, and sizes

  get_served : (v : Target) (at : At) (r : RequestOf) (resource : Resource) (page : ℕ) (o : Option Lock)
      → All (row_get v at r resource page o)
  get_served v at r resource page None = (tt, (tt, tt))
  get_served v at r resource page (Some l) =
      cond_both (serves l.ask.mode PR && extents_meet (extent_of l) (page_extent page))
      (row_answers (answered v at r (told.Content (content page (extent_of l) (object v resource))))) (row_uncovered v at r) All
      (λ t. (tt, (tt, tt))) (λ t. (tt, (tt, tt)))

  write_served : (v : Target) (at : At) (r : RequestOf) (extent : Extent) (o : Option Lock) → All (row_write v at r extent o)
  write_served v at r extent None = (tt, (tt, tt))
  write_served v at r extent (Some l) =
      cond_both (serves l.ask.mode PW && lies_in extent (extent_of l)) (row_written (written v at r)) (row_uncovered v at r) All
      (λ t. (tt, (tt, tt))) (λ t. (tt, (tt, tt)))

  size_served : (v : Target) (at : At) (r : RequestOf) (resource : Resource) (o : Option Lock) → All (row_size v at r resource o)
  size_served v at r resource None = (tt, (tt, tt))
  size_served v at r resource (Some l) =
      let sizes : List Entry = row_sizes (answered v at r (told.Size (size_of v resource))) in
      cond_both (nat_eq (extent_of l).last the_end) (row_asks v r resource l)
      (if nat_lt (extent_of l).last (size_of v resource) then sizes else row_locked v at r) All (λ t. (tt, (tt, tt)))
      (λ t. cond_both (nat_lt (extent_of l).last (size_of v resource)) sizes (row_locked v at r) All (λ b. (tt, (tt, tt)))
      (λ b. (tt, (tt, tt))))

  objects_served : (at : At) (v : Target) (r : RequestOf) (o : Op) → All (objects_go v at r o)
  objects_served at v r (op.Enqueue resource mode extent) = enqueue_served v at r (lock_for v r resource mode extent)
  objects_served at v r (op.Get resource cookie page) = get_served v at r resource page (lock_of r.who cookie (locks_on resource v.granted))
  objects_served at v r (op.Put resource cookie offset bytes) =
      write_served v at r (put_extent offset bytes) (lock_of r.who cookie (locks_on resource v.granted))
  objects_served at v r (op.Cut resource cookie size) = write_served v at r (cut_extent size)
      (lock_of r.who cookie (locks_on resource v.granted))
  objects_served at v r (op.Size resource) = size_served v at r resource (highest (locks_on resource v.granted))
  objects_served at v r o = tt

  -- a request goes on
  goes_served : (at : At) (v : Target) (r : RequestOf) → All (goes at r v)
  goes_served at v r = cond_both (is_names v) (names_go at v) (objects_go v at r r.op) All (λ t. names_served at v)
      (λ t. objects_served at v r r.op)

  -- what waited goes on
  pub all_go_served : (at : At) (v : Target) → All (all_go at v)
  all_go_served at v = cond_both (is_names v) (names_go at v) (all_queues_go v) All (λ t. names_served at v)
      (λ t. queues_served (resources_of v.waiting) v)

  -- ---- lives that leave and lives that come

  -- those who asked a holder are told to take a lock
  glimpses_served : (at : At) (gs : List Glimpse) (v : Target) → All (glimpses_end at gs v)
  glimpses_served at [] v = tt
  glimpses_served at (g ∷ gs) v = (tt, (tt, (tt, glimpses_served at gs v)))

  pub releases_served : (at : At) (l : Lock) (v : Target) → All (releases at l v)
  releases_served at l v = (tt, glimpses_served at (glimpses_of l v.glimpses) v)

  pub released_served : (at : At) (locks : List Lock) (v : Target) → All (all_released at locks v)
  released_served at [] v = tt
  released_served at (l ∷ locks) v =
      every_more (LineServed ⊥ MayAsk clients) (releases at l v) (all_released at locks (turn v (releases at l v))) (releases_served at l v)
      (released_served at locks (turn v (releases at l v)))

  pub evictions_served : (at : At) (cause : Cause) (granted : List Lock) (gone : List Who) (v : Target) → MayAsk → OfRun clients v
      → All (evictions at cause granted gone v)
  evictions_served at cause granted [] v may s = tt
  evictions_served at cause granted (who ∷ gone) v may s =
      follow_served (Evict who cause ∷ evicted v who ∷ all_released at (locks_of who granted) v) (evictions at cause granted gone) v s
      (may, (may, released_served at (locks_of who granted) v)) (λ w r. evictions_served at cause granted gone w may r)

  -- the locks that were called back too long ago
  pub expels_served : (at : At) (gone : List Who) (v : Target) → ((who : Who) (more : List Who) → gone ≡ who ∷ more → MayAsk)
      → OfRun clients v → All (expels at gone v)
  expels_served at [] v may s = tt
  expels_served at (who ∷ gone) v may s =
      let asks = may who gone refl in
      follow_served (commits v v.log (who ∷ gone) [] ∷ []) (λ w. follow w (evictions at Expired v.granted (who ∷ gone) w) (all_go at)) v s
      ((asks, tt), tt)
      (λ w r. follow_served (evictions at Expired v.granted (who ∷ gone) w) (all_go at) w r
      (evictions_served at Expired v.granted (who ∷ gone) w asks r) (λ x q. all_go_served at x))

  pub admits_served : (at : At) (who : Who) (v : Target) → MayAsk → OfRun clients v → All (admits at who v)
  admits_served at who v may s = follow_served (Joined who ∷ ready v who ∷ []) (all_go at) v s (may, (may, tt)) (λ w r. all_go_served at w)

  life_admitted : (at : At) (old : List Who) (who : Who) (v : Target) → MayAsk → IsOf clients who → OfRun clients v
      → All (row_admits at old who v)
  life_admitted at old who v may one s =
      follow_served (commits v v.log old (who ∷ []) ∷ []) (λ w. follow w (evictions at Replaced v.granted old w) (admits at who)) v s
      ((may, (one, tt)), tt)
      (λ w r. follow_served (evictions at Replaced v.granted old w) (admits at who) w r (evictions_served at Replaced v.granted old w may r)
      (λ x q. admits_served at who x may q))

  by_life_served : (at : At) (who : Who) (v : Target) (o : Option Who) → MayAsk → IsOf clients who → OfRun clients v
      → All (by_life v at who o)
  by_life_served at who v None may one s = life_admitted at [] who v may one s
  by_life_served at who v (Some old) may one s =
      cond_both (nat_lt who.life old.life) (evicted v who ∷ [])
      (if nat_eq who.life old.life then ready v who ∷ [] else row_admits at (old ∷ []) who v) All (λ t. (may, tt))
      (λ t. cond_both (nat_eq who.life old.life) (ready v who ∷ []) (row_admits at (old ∷ []) who v) All (λ b. (may, tt))
      (λ b. life_admitted at (old ∷ []) who v may one s))

  join_served : (at : At) (who : Who) (v : Target) → MayAsk → IsOf clients who → OfRun clients v → All (row_join v at who)
  join_served at who v may one s =
      cond_both (list_any (is_over who) v.removed) (evicted v who ∷ []) (by_life v at who (life_of who.client v.lives)) All (λ t. (may, tt))
      (λ t. by_life_served at who v (life_of who.client v.lives) may one s)

  -- ---- a message comes

  kept_served : (v : Target) (k : Option ReplyTo) → All (row_kept v k)
  kept_served v None = tt
  kept_served v (Some k) = (tt, tt)

  module _ (v : Target) (s : OfRun clients v) where
    -- where a turn may ask a disk, of an older boot, and of a life without a slot
    slot_served : (who : Who) (rest : List Entry) (has : Bool) → is_life who v.lives ≡ has → (is_life who v.lives ≡ false → MayAsk)
        → All rest → All (by_slot v who has rest)
    slot_served who rest true e may all = all
    slot_served who rest false e may all = (may e, tt)

    boot_heard : (who : Who) (boot : ℕ) (rest : List Entry) (older : Bool) → nat_lt boot v.boot ≡ older → IsOf clients who
        → (nat_lt boot v.boot ≡ true → MayAsk) → All rest → All (by_boot v who older rest)
    boot_heard who boot rest true e one may all = ((may e, one), tt)
    boot_heard who boot rest false e one may all = all

    heeds_served : (who : Who) (boot : ℕ) (rest : List Entry) → Spoken MayAsk clients v who boot → All rest → All (heeds v who boot rest)
    heeds_served who boot rest is all =
        boot_heard who boot (by_slot v who (is_life who v.lives) rest) (nat_lt boot v.boot) refl is.of is.older
        (slot_served who rest (is_life who v.lives) refl is.without all)

    while_served : (rest : List Entry) → All rest → All (while_serving v rest)
    while_served rest all = cond_both (is_serving v) rest [] All (λ t. all) (λ t. tt)

    back_heard : (boot : ℕ) (rest : List Entry) → MayAsk → AllBack clients rest → All (while_recovering v (of_boot v boot rest))
    back_heard boot rest may back =
        cond_both (is_serving v) [] (of_boot v boot rest) All (λ t. tt)
        (λ t. cond_both (nat_eq boot v.boot) rest [] All (λ b. back_served clients ⊥ MayAsk may rest back) (λ b. tt))

    word_heard : (at : At) (said : Said) (boot : ℕ) → MayAsk → All
        (if is_serving v then ready v said.who ∷ [] else of_boot v boot (row_word v at said))
    word_heard at said boot may =
        cond_both (is_serving v) (ready v said.who ∷ []) (of_boot v boot (row_word v at said)) All (λ t. (may, tt))
        (λ t. cond_both (nat_eq boot v.boot) (row_word v at said) [] All
        (λ b. back_served clients ⊥ MayAsk may (row_word v at said) (word_back clients v at said s)) (λ b. tt))

    join_heard : (at : At) (who : Who) → MayAsk → IsOf clients who → All (if is_serving v then row_join v at who else row_wish v at who)
    join_heard at who may one =
        cond_both (is_serving v) (row_join v at who) (row_wish v at who) All (λ t. join_served at who v may one s)
        (λ t. back_served clients ⊥ MayAsk may (row_wish v at who) (wish_back clients v at who s one))

    request_served : (at : At) (r : RequestOf) → All (row_request v at r)
    request_served at r = by (slot_in v.slots r.who r.tag)
      where
        number : (k : Option ReplyTo) (above same : Bool) → All (by_number v at r k above same)
        number k true same = (tt, goes_served at (after v (Enters r)) r)
        number k false true = kept_served v k
        number k false false = tt

        by : (slot : Slot) → All (slot_of_request v at r slot)
        by slot = number slot.reply (nat_lt slot.taken r.xid.0) (nat_eq slot.taken r.xid.0)

    cancels_served : (at : At) (o : Option Lock) → All (row_cancels v at o)
    cancels_served at None = tt
    cancels_served at (Some l) =
        follow_served (releases at l v) (goes_on l at) v s (releases_served at l v)
        (λ w q. cond_both (is_names w) (names_go at w) (queue_goes l.resource w) All (λ t. names_served at w)
        (λ t. queue_served l.resource w))

    -- a granted lock is told of once more
    finds_served : (o : Option Lock) → All (row_finds v o)
    finds_served None = tt
    finds_served (Some l) = cond_both (is_names v) [] (grant_message v l ∷ []) All (λ t. tt) (λ t. (tt, tt))

    -- a holder told how long an object is
    holder_served : (at : At) (m : SizeReport) (g : Glimpse) (o : Option ℕ) → All (row_holder v at m g o)
    holder_served at m g None = (tt, (tt, (tt, tt)))
    holder_served at m g (Some size) = (tt, (tt, (tt, tt)))

    report_served : (at : At) (m : SizeReport) (o : Option Glimpse) → All (row_report v at m o)
    report_served at m None = tt
    report_served at m (Some g) = holder_served at m g m.size

pub comes_served : (MayAsk : Type 0) (clients : ℕ) (v : Target) (at : At) (n : ℕ) (from : Node) (m : Message) → OfRun clients v
    → MessageServed MayAsk clients v m → AllServed ⊥ MayAsk clients (target.row v at (target.Comes n from m))
comes_served MayAsk clients v at n from m s is = (tt, by m is)
  where
    -- where a turn may ask a disk
    told : (who : Who) (boot : ℕ) → MayAsk × IsOf clients who → Spoken MayAsk clients v who boot
    told who boot is = record { of = is.1; older = λ e. is.0; without = λ e. is.0 }

    by : (m : Message) → MessageServed MayAsk clients v m → AllServed ⊥ MayAsk clients (row_heeds v at m)
    by (message.Request r) is = heeds_served MayAsk clients v s r.who r.boot (while_serving v (row_request v at r)) is
        (while_served MayAsk clients v s (row_request v at r) (request_served MayAsk clients v s at r))
    by (message.Where who boot cookie) is =
        heeds_served MayAsk clients v s who boot (while_serving v (row_where v who cookie)) is
        (while_served MayAsk clients v s (row_where v who cookie) (finds_served MayAsk clients v s (lock_of who cookie v.granted)))
    by (message.Size m) is =
        heeds_served MayAsk clients v s m.who m.boot (while_serving v (row_report v at m (asked_for m v.glimpses))) is
        (while_served MayAsk clients v s (row_report v at m (asked_for m v.glimpses))
        (report_served MayAsk clients v s at m (asked_for m v.glimpses)))
    by (message.Cancel who boot cookie) is =
        heeds_served MayAsk clients v s who boot (while_serving v (row_cancel v at who cookie)) is
        (while_served MayAsk clients v s (row_cancel v at who cookie) (cancels_served MayAsk clients v s at (lock_of who cookie v.granted)))
    by (message.Join who boot) is =
        boot_heard MayAsk clients v s who boot (if is_serving v then row_join v at who else row_wish v at who) (nat_lt boot v.boot) refl
        is.1 (λ e. is.0) (join_heard MayAsk clients v s at who is.0 is.1)
    by (message.Replay r) is =
        heeds_served MayAsk clients v s r.who r.boot (while_recovering v (of_boot v r.boot (row_replay v at r))) (told r.who r.boot is)
        (back_heard MayAsk clients v s r.boot (row_replay v at r) is.0 (replay_back clients v at r s))
    by (message.Lock r) is =
        heeds_served MayAsk clients v s r.who r.boot (while_recovering v (of_boot v r.boot (row_lock v at (lock_again r))))
        (told r.who r.boot is)
        (back_heard MayAsk clients v s r.boot (row_lock v at (lock_again r)) is.0 (lock_back clients v at (lock_again r) s))
    by (message.Word who boot replays locks seen) is =
        let said : Said = record { who = who; replays = replays; locks = locks; seen = seen } in
        heeds_served MayAsk clients v s who boot (if is_serving v then ready v who ∷ [] else of_boot v boot (row_word v at said))
        (told who boot is)
        (word_heard MayAsk clients v s at said boot is.0)
    by m is = absurd is

-- ---- time goes on

-- no lock that was called back expires
due_none : (v : Target) (cs : List Called) → v.ticks < v.setting.expire → condemned v cs ≡ []
due_none v [] low = refl
due_none v (c ∷ cs) low =
    ap (λ (b : Bool). if b then with_life c.who (condemned v cs) else condemned v cs) (not_due (is_due v c) refl) ∙ due_none v cs low
  where
    not_due : (b : Bool) → is_due v c ≡ b → b ≡ false
    not_due false e = refl
    not_due true e = absurd (let due : nat_le (c.since + v.setting.expire) v.ticks ≡ true = e in grind (arith, nat_tests))

pub expires_none : (v : Target) → v.ticks + 1 < v.setting.expire → condemned (after v Tick) v.called ≡ []
expires_none v low = due_none (after v Tick) v.called low

pub uncalled_none : (v : Target) → v.called ≡ [] → condemned (after v Tick) v.called ≡ []
uncalled_none v none = ap (condemned (after v Tick)) none

-- what is sent again
asks_served : (MayAsk : Type 0) (clients : ℕ) (w : Target) (l : Lock) (gs : List Glimpse) → AllServed ⊥ MayAsk clients (asks_again w l gs)
asks_served MayAsk clients w l [] = tt
asks_served MayAsk clients w l (g ∷ gs) =
    cond_both (list_any (same_glimpse g) w.glimpses) (ask_of w l g.request ∷ asks_again w l gs) (asks_again w l gs)
    (AllServed ⊥ MayAsk clients) (λ t. (tt, asks_served MayAsk clients w l gs)) (λ t. asks_served MayAsk clients w l gs)

pub again_served : (MayAsk : Type 0) (clients : ℕ) (w : Target) (cs : List Called) (gs : List Glimpse) (locks : List Lock)
    → AllServed ⊥ MayAsk clients (sends_again w cs gs locks)
again_served MayAsk clients w cs gs [] = tt
again_served MayAsk clients w cs gs (l ∷ locks) =
    every_more (LineServed ⊥ MayAsk clients) (block_again w l cs) (asks_again w l (glimpses_of l gs) ++ sends_again w cs gs locks)
    (cond_both (is_called l.cookie cs && is_called l.cookie w.called) (block_of w l ∷ []) [] (AllServed ⊥ MayAsk clients) (λ t. (tt, tt))
    (λ t. tt))
    (every_more (LineServed ⊥ MayAsk clients) (asks_again w l (glimpses_of l gs)) (sends_again w cs gs locks)
    (asks_served MayAsk clients w l (glimpses_of l gs)) (again_served MayAsk clients w cs gs locks))

-- who has a lock that expires is evicted, where a turn may ask a disk
abbrev pub Expires : Type 0 → Target → Type 0
Expires MayAsk v = (who : Who) (gone : List Who) → condemned (after v Tick) v.called ≡ who ∷ gone → MayAsk

-- what holds of the row of a tick: while the target recovers it is its line alone
pub of_tick : (v : Target) (at : At) (P : List Entry → Type 0) → P (Tick ∷ ticked at (after v Tick)) → P (Tick ∷ []) → P (Skip ∷ [])
    → P (target.row v at target.Ticks)
of_tick v at P goes counts skips = cond_both v.up (row_tick v at) (Skip ∷ []) P
    (λ up. cond_both (is_serving v) (follow v (Tick ∷ []) (ticked at)) (Tick ∷ []) P (λ t. goes) (λ t. counts)) (λ down. skips)

module _ (MayAsk : Type 0) (clients : ℕ) (v : Target) (at : At) (s : OfRun clients v) (may : Expires MayAsk v) where
  ticked_served : AllServed ⊥ MayAsk clients (ticked at (after v Tick))
  ticked_served =
      let w : Target = after v Tick in
      let now = of_run_turn (Unit {0}) MayAsk clients v (Tick ∷ []) (tt, tt) s in
      follow_served MayAsk clients (expels at (condemned w w.called) w) (λ x. sends_again x w.called w.glimpses x.granted) w now
      (expels_served MayAsk clients at (condemned w w.called) w may now)
      (λ x r. again_served MayAsk clients x w.called w.glimpses x.granted)

  -- no line but the first counts
  line_ticked : (e : Entry) → LineServed ⊥ MayAsk clients e → LineServed (Unit {0}) MayAsk clients e
  line_ticked Tick s = tt
  line_ticked e s = s

  pub tick_served : AllServed (Unit {0}) MayAsk clients (target.row v at target.Ticks)
  tick_served =
      of_tick v at (AllServed (Unit {0}) MayAsk clients) (
        tt,
        every_so (LineServed ⊥ MayAsk clients) (LineServed (Unit {0}) MayAsk clients) (ticked at (after v Tick)) line_ticked
            ticked_served,
      ) (tt, tt) (tt, tt)

  -- it counts one, or none where the target is down
  pub tick_counts : (turn v (target.row v at target.Ticks)).ticks ≤ v.ticks + 1
  tick_counts =
      of_tick v at (λ (es : List Entry). (turn v es).ticks ≤ v.ticks + 1)
      (let same = served_still MayAsk clients (after v Tick) (ticked at (after v Tick)) ticked_served in omega (arith, same)) (omega arith)
      (omega arith)

-- ---- a command: to commit, to close a window, to crash, or to boot

module _ (MayAsk : Type 0) (clients : ℕ) (v : Target) (at : At) where
  skipped : AllServed ⊥ MayAsk clients (Skip ∷ [])
  skipped = (tt, tt)

  pub commit_served : (count : Option ℕ) → MayAsk → AllServed ⊥ MayAsk clients (target.row v at (target.Commits count))
  commit_served count may =
      cond_both v.up (row_commit v count) (Skip ∷ []) (AllServed ⊥ MayAsk clients)
      (λ t. cond_both (is_serving v) (row_commits v (first_deeds count v.log)) (Skip ∷ []) (AllServed ⊥ MayAsk clients)
      (λ b. by (first_deeds count v.log)) (λ b. skipped)) (λ t. skipped)
    where
      by : (deeds : List Deed) → AllServed ⊥ MayAsk clients (row_commits v deeds)
      by [] = skipped
      by (d ∷ deeds) = ((may, tt), tt)

  pub close_served : MayAsk → OfRun clients v → AllServed ⊥ MayAsk clients (target.row v at target.Closes)
  close_served may s =
      cond_both v.up (row_closes v at) (Skip ∷ []) (AllServed ⊥ MayAsk clients)
      (λ t. cond_both (is_serving v) (Skip ∷ []) (row_close at v) (AllServed ⊥ MayAsk clients) (λ b. skipped)
      (λ b. back_served clients ⊥ MayAsk may (row_close at v) (close_back clients at v s))) (λ t. skipped)

  pub crash_served : AllServed ⊥ MayAsk clients (target.row v at target.Crashes)
  crash_served = cond_both v.up (Crash ∷ []) (Skip ∷ []) (AllServed ⊥ MayAsk clients) (λ t. (tt, tt)) (λ t. skipped)

  pub boots_served : MayAsk → OfRun clients v → AllServed ⊥ MayAsk clients (target.row v at target.Boots)
  boots_served may s = cond_both v.up (Skip ∷ []) (row_boot v at) (AllServed ⊥ MayAsk clients) (λ t. skipped)
      (λ t. boot_served MayAsk clients v at may s)
