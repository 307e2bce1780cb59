-- A target has numbers left in a scenario: each row keeps that so many turns brought so few (`Below`).
use Rattle.std.proofs.Common.{◌≡◌, ℕ, zero, suc, ◌+◌, ◌≤◌, Bool, true, false, List, [], ◌∷◌, ◌++◌, inl, Option, Some, None, refl, sym}
use Rattle.std.proofs.Common.{subst, ap, ◌∙◌, arith}
use Rattle.std.specs.Prelude.{nat_eq, nat_lt, max, not, ◌&&◌, ◌||◌, if◌then◌else◌, length}
use Rattle.std.specs.List.{list_any}
use Rattle.std.proofs.lemmas.Bool.{cond_both}
use Rattle.std.proofs.Math.Nat.{max-zero, le-max_left, le-max_right}
use Rattle.std.proofs.lemmas.Bool.Decides.{nat_tests}
use Rattle.lu_base.specs.declared.ids.At.{At}
use Rattle.lu_base.specs.declared.ids.Node.{Node}
use Rattle.lu_base.specs.declared.ids.Txn.{Txn as TxnOf}
use Rattle.lu_base.specs.declared.ids.Who.{Who}
use Rattle.lu_base.specs.declared.locks.Cause.{Cause}
use Rattle.lu_base.specs.declared.locks.Cause.TheVariants.{Expired, Replaced}
use Rattle.lu_base.specs.declared.locks.Lock.{Lock}
use Rattle.lu_base.specs.declared.locks.Mode.TheVariants.{PR, PW}
use Rattle.lu_base.specs.declared.locks.Extent.{Extent}
use Rattle.lu_base.specs.declared.locks.Resource.{Resource}
use Rattle.lu_held.specs.Locks.{same_resource}
use Rattle.lu_lock.specs.Growth.{the_end}
use Rattle.lu_lock.specs.Modes.{serves}
use Rattle.lu_lock.specs.Overlap.{extents_meet}
use Rattle.lu_spec_machine.specs.Objects.{content, page_extent}
use Rattle.lu_msg.specs.declared.commits.Batch.{Batch}
use Rattle.lu_msg.specs.declared.answers.Answer.{Answer}
use Rattle.lu_msg.specs.declared.answers.Answer.TheVariants as told
use Rattle.lu_msg.specs.declared.messages.Message.{Message}
use Rattle.lu_msg.specs.declared.messages.Message.TheVariants as message
use Rattle.lu_msg.specs.declared.messages.Reply.{Reply as ReplyTo}
use Rattle.lu_msg.specs.declared.messages.Request.{Request as RequestOf}
use Rattle.lu_msg.specs.declared.messages.SizeReport.{SizeReport}
use Rattle.lu_msg.specs.declared.operations.Op.{Op}
use Rattle.lu_msg.specs.declared.operations.Op.TheVariants as op
use Rattle.lu_spec_machine.specs.Footprint.{grants}
use Rattle.lu_spec_entries.specs.Carried.{Deed, Called, Slot, Glimpse, Said}
use Rattle.lu_spec_entries.specs.Words.{Entry, Tick, Skip, Act, Txn, Grant, Wait, Block, Commit, Crash, Boot, Close, Evict, Joined, Enters}
use Rattle.lu_spec_target.specs.Glimpses.{answered, row_sizes, row_answers, row_locked, highest, ask_of, row_asks, row_size, asked_for}
use Rattle.lu_spec_target.specs.Glimpses.{row_holder, row_report, glimpses_of, glimpses_end}
use Rattle.lu_spec_target.specs.Leaving.{last_of as last_committed, commits, up, evicted, ready, all_released, locks_of, evictions, all_go}
use Rattle.lu_spec_target.specs.Leaving.{condemned, expels, block_again, asks_again, sends_again, ticked, life_of, admits, row_admits}
use Rattle.lu_spec_target.specs.Leaving.{by_life, is_over, row_join}
use Rattle.lu_spec_target.specs.Lives.{is_life, slot_in}
use Rattle.lu_spec_target.specs.Locks.{is_request_of, same_glimpse}
use Rattle.lu_spec_target.specs.Names.{asked, does_change, is_read, is_ready, locks_for, written_by, in_way, names_deed, grant_lines}
use Rattle.lu_spec_target.specs.Names.{row_executes, row_waits, row_pass, row_sweep, names_go}
use Rattle.lu_spec_target.specs.Objects.{lock_of, lock_for, row_granted, row_waiting, row_enqueue, row_uncovered, row_get, lies_in, written}
use Rattle.lu_spec_target.specs.Objects.{row_written, row_write, put_extent, cut_extent, objects_go}
use Rattle.lu_spec_target.specs.Phase.{first_of}
use Rattle.lu_spec_target.specs.Queues.{object, size_of, extent_of, conflicting, blocks_go, grant_message, has_to_wait, grown}
use Rattle.lu_spec_target.specs.Queues.{grant_entries, grants_go, queue_goes, queues_go, resources_of, all_queues_go}
use Rattle.lu_spec_target.specs.Recovery.{row_replay, row_lock, row_word, row_wish, up_lines, row_boot, row_close, settles}
use Rattle.lu_spec_target.specs.Replies.{none, next_number, is_called, called, block_of, blocks, replies, row_kept, locks_on}
use Rattle.lu_spec_target.specs.Requests.{goes, by_number, by_slot as slot_of_request, row_request, releases, goes_on, row_cancels}
use Rattle.lu_spec_target.specs.Requests.{row_cancel, row_finds, row_where}
use Rattle.lu_spec_target.specs.Stored.{batch_of}
use Rattle.lu_spec_target.specs.Rows.{by_boot, by_slot, heeds, while_serving, while_recovering, of_boot, lock_again, row_heeds, first_deeds}
use Rattle.lu_spec_target.specs.Rows.{row_commits, row_commit, row_closes}
use Rattle.lu_spec_target.specs.Rows as target
use Rattle.lu_spec_target.specs.States.{Target, is_names, is_serving, after, turn, follow}
use Rattle.lu_proof_lawful.proofs.Preconditions.Guards.{In}
use Rattle.lu_proof_lawful.proofs.Preconditions.Lists.{self, in_right}
use Rattle.lu_proof_scenes.proofs.Every.{Every, every_more, every_filter}
use Rattle.lu_proof_scenes.proofs.Asking.{IsOf}
use Rattle.lu_proof_scenes.proofs.Served.{AllServed, OfRun, of_run_turn}
use Rattle.lu_proof_scenes.proofs.Windows.{IsBack, AllBack, close_back, replay_back, lock_back, word_back, wish_back, boots_back, booted}
use Rattle.lu_proof_scenes.proofs.Windows.{booted_of_run}
use Rattle.lu_proof_scenes.proofs.Targets.{released_served, evictions_served, expels_served, MessageServed, of_tick}
use Rattle.lu_proof_scenes.proofs.Numbers.{IsShort, grants_few, filter_le, filter_out, all_in, AllUpto, max_upto, greatest_upto}
use Rattle.lu_proof_scenes.proofs.Numbers.{greatest_least, upto_more, locks_upto, RequestFits, Below, acts_below, fewer_below, Same}
use Rattle.lu_proof_scenes.proofs.Numbers.{same_below, more_below, IsStill, AllStill, still_below, follow_below}

-- ---- an execution

its_own : (v : Target) (at : At) (r : RequestOf) (number : TxnOf) (locks : List Lock)
    → not (is_request_of (names_deed v at r number locks) r) ≡ false
its_own v at r number locks = rw (self r.who.client, self r.who.life, self r.xid.0) refl

its_answer : (v : Target) (at : At) (r : RequestOf) (a : Answer) → not (is_request_of (answered v at r a) r) ≡ false
its_answer v at r a = rw (self r.who.client, self r.who.life, self r.xid.0) refl

-- a deed's locks are shown, and it is answered
abbrev Shown : ℕ → Target → Target → Type 0
Shown m w u =
    record {
      cookie : u.cookie ≤ m;
      number : u.number ≡ w.number;
      queue : length u.queue ≤ length w.queue;
      fits : Every RequestFits w.queue → Every RequestFits u.queue;
      boot : u.boot ≡ w.boot;
      disk : u.disk.boot ≡ w.disk.boot;
      least : w.cookie ≤ u.cookie;
      waiting : (k : ℕ) → AllUpto k w.waiting → AllUpto k u.waiting;
    }

shown : (d : Deed) (m : ℕ) (locks : List Lock) (w : Target) → AllUpto m locks → w.cookie ≤ m
    → Shown m w (turn w (grant_lines d locks ++ replies d ∷ []))
shown d m [] w all low = record {
  cookie = low;
  number = refl;
  queue = omega arith;
  fits = λ f. f;
  boot = refl;
  disk = refl;
  least =
      omega arith;
  waiting = λ k all. all;
}
shown d m (l ∷ locks) w all low =
    let next : Target = after w (Grant l (Some d)) in
    let h = shown d m locks next all.1 (max_upto w.cookie l.cookie.0 m low all.0) in
    let more = h.queue in
    let least = h.least in
    let rises = le-max_left w.cookie l.cookie.0 in
    let less : length next.queue ≤ length w.queue = filter_le (λ q. not (is_request_of d q)) w.queue in
    record {
      cookie = h.cookie;
      number = h.number;
      queue = omega (arith, more, less);
      fits = λ f. h.fits (every_filter RequestFits (λ q. not (is_request_of d q)) w.queue f);
      boot = h.boot;
      disk = h.disk;
      least = omega (arith, least, rises);
      waiting = λ k all. h.waiting k (every_filter (λ (j : Lock). j.cookie.0 ≤ k) (λ (j : Lock). not (nat_eq j.cookie.0 l.cookie.0))
          w.waiting all);
    }

executes_below : (n : ℕ) (v : Target) (at : At) (r : RequestOf) (b : Bool) → In r v.queue → IsShort r.op → Below n v
    → Below n (turn v (row_executes v at r b))
executes_below n v at r true i short h =
    let d : Deed = names_deed v at r (next_number v) [] in
    let w : Target = turn v (row_executes v at r true) in
    let one : w.number ≤ v.number + 1 = omega arith in
    let same : w.cookie ≤ v.cookie + 33 = omega arith in
    acts_below n v w (every_filter RequestFits (λ q. not (is_request_of d q)) v.queue h.queue) one same
    (filter_out (λ q. not (is_request_of d q)) r v.queue i (its_own v at r (next_number v) [])) (record { boot = refl; disk = refl })
    h.waiting h
executes_below n v at r false i short h =
    let locks : List Lock = locks_for v r in
    let d : Deed = names_deed v at r none locks in
    let u : Target = after v (Act d) in
    let w : Target = turn v (row_executes v at r false) in
    let few = grants_few v.setting.osts v.contents.tree none r.who r.op short in
    let all : AllUpto (v.cookie + 33) locks = locks_upto v.cookie r.who (grants v.setting.osts v.contents.tree (asked r none))
    (v.cookie + 33) (omega (arith, few)) in
    let s : Shown (v.cookie + 33) u w = shown d (v.cookie + 33) locks u all (greatest_upto v.cookie (v.cookie + 33) locks (omega arith) all)
    in
    let out : length u.queue + 1 ≤ length v.queue = filter_out (λ q. not (is_request_of d q)) r v.queue i (its_own v at r none locks) in
    let less = s.queue in
    let number : w.number ≤ v.number + 1 = let same = s.number in omega (arith, same) in
    acts_below n v w (s.fits (every_filter RequestFits (λ q. not (is_request_of d q)) v.queue h.queue)) number s.cookie
    (omega (arith, out, less)) (record { boot = s.boot; disk = s.disk })
    (s.waiting w.cookie (upto_more v.cookie w.cookie v.waiting (let rises = greatest_least v.cookie locks in let least = s.least
    in omega (arith, rises, least)) h.waiting)) h

-- ---- requests that wait go on

blocks_same : (v w : Target) (locks : List Lock) → Same w (turn w (blocks v locks))
blocks_same v w [] = record { number = refl; cookie = refl; queue = refl; boot = refl; disk = refl; waiting = refl }
blocks_same v w (l ∷ locks) =
    cond_both (is_called l.cookie v.called) (blocks v locks) (Block (called v l) ∷ block_of v l ∷ blocks v locks)
    (λ (es : List Entry). Same w (turn w es))
    (λ t. blocks_same v w locks)
    (λ t. let h = blocks_same v (after (after w (Block (called v l))) (block_of v l)) locks
    in record { number = h.number; cookie = h.cookie; queue = h.queue; boot = h.boot; disk = h.disk; waiting = h.waiting })

waits_same : (v : Target) (r : RequestOf) → Same v (turn v (row_waits v r))
waits_same v r =
    cond_both (is_read r.op) [] (blocks v (in_way v.granted (written_by v r))) (λ (es : List Entry). Same v (turn v es))
    (λ t. record { number = refl; cookie = refl; queue = refl; boot = refl; disk = refl; waiting = refl })
    (λ t. blocks_same v v (in_way v.granted (written_by v r)))

abbrev Goes : ℕ → (Target → List Entry) → Type 0
Goes n next = (w : Target) → Below n w → Below n (turn w (next w))

pass_below : (n : ℕ) (again : Target → List Entry) → Goes n again → (v : Target) (at : At) (stood : Bool) (queue : List RequestOf)
    → Every (λ (r : RequestOf). In r v.queue) queue → Every RequestFits queue → Below n v
    → Below n (turn v (row_pass again v at stood queue))
pass_below n again more v at stood [] i fit h = h
pass_below n again more v at stood (r ∷ queue) i fit h =
    let acts = row_executes v at r (does_change v r) in
    let stood_next = stood || not (is_read r.op) in
    let next : Target → List Entry = λ w. row_pass again w at stood_next queue in
    let w : Target = turn v (row_waits v r) in
    let same = waits_same v r in
    cond_both (is_ready v stood r) (follow v acts again) (follow v (row_waits v r) next) (λ (es : List Entry). Below n (turn v es))
    (λ t. follow_below n v acts again (more (turn v acts) (executes_below n v at r (does_change v r) i.0 fit.0 h)))
    (λ t. follow_below n v (row_waits v r) next
    (pass_below n again more w at stood_next queue (subst (λ (q : List RequestOf). Every (λ (x : RequestOf). In x q) queue) (sym same.queue)
    i.1) fit.1 (same_below n v w same h)))

sweep_below : (n more : ℕ) (at : At) → Goes n (row_sweep more at)
sweep_below n zero at v h = h
sweep_below n (suc more) at v h = pass_below n (row_sweep more at) (sweep_below n more at) v at false v.queue (all_in v.queue) h.queue h

names_below : (n : ℕ) (at : At) → Goes n (names_go at)
names_below n at v h = sweep_below n (length v.queue + 1) at v h

-- ---- locks on objects

blocks_still : (v : Target) (locks : List Lock) → AllStill (blocks v locks)
blocks_still v [] = tt
blocks_still v (l ∷ locks) =
    cond_both (is_called l.cookie v.called) (blocks v locks) (Block (called v l) ∷ block_of v l ∷ blocks v locks) AllStill
    (λ t. blocks_still v locks) (λ t. (tt, (tt, blocks_still v locks)))

blocks_go_still : (waiting : List Lock) (v : Target) → AllStill (blocks_go waiting v)
blocks_go_still [] v = tt
blocks_go_still (l ∷ waiting) v =
    every_more IsStill (blocks v (conflicting v l)) (blocks_go waiting (turn v (blocks v (conflicting v l))))
    (blocks_still v (conflicting v l)) (blocks_go_still waiting (turn v (blocks v (conflicting v l))))

-- a lock that waited has its cookie already
max_stays : (a b : ℕ) → b ≤ a → max a b ≡ a
max_stays a b less =
    let least = le-max_left a b in
    let most = max_upto a b a (omega arith) less in
    omega (arith, least, most)

given_below : (n : ℕ) (v : Target) (l : Lock) → l.cookie.0 ≤ v.cookie → Below n v → Below n (turn v (grant_entries v l))
given_below n v l low h =
    let same : max v.cookie l.cookie.0 ≡ v.cookie = max_stays v.cookie l.cookie.0 low in
    fewer_below n v (turn v (grant_entries v l))
    (record {
      number = refl;
      cookie = same;
      queue = omega arith;
      fits = λ f. f;
      boot = refl;
      disk = refl;
      waiting = λ all. every_filter (λ (j : Lock). j.cookie.0 ≤ v.cookie) (λ (j : Lock). not (nat_eq j.cookie.0 l.cookie.0)) v.waiting all;
    })
    h

grants_go_below : (n : ℕ) (ahead later : List Lock) (v : Target) → AllUpto v.cookie later → Below n v
    → Below n (turn v (grants_go ahead later v))
grants_go_below n ahead [] v all h = h
grants_go_below n ahead (l ∷ later) v all h =
    let k : Lock = grown v (ahead ++ later) l in
    let same : max v.cookie l.cookie.0 ≡ v.cookie = max_stays v.cookie l.cookie.0 all.0 in
    cond_both (has_to_wait v ahead l) (grants_go (ahead ++ l ∷ []) later v) (follow v (grant_entries v k) (grants_go ahead later))
    (λ (es : List Entry). Below n (turn v es))
    (λ t. grants_go_below n (ahead ++ l ∷ []) later v all.1 h)
    (λ t. follow_below n v (grant_entries v k) (grants_go ahead later)
    (grants_go_below n ahead later (turn v (grant_entries v k)) (subst (λ (m : ℕ). AllUpto m later) (sym same) all.1)
    (given_below n v k all.0 h)))

queue_below : (n : ℕ) (r : Resource) → Goes n (queue_goes r)
queue_below n r v h =
    let granted : List Entry = grants_go [] (locks_on r v.waiting) v in
    let w : Target = turn v granted in
    follow_below n v granted (λ u. blocks_go (locks_on r u.waiting) u)
    (still_below n w (blocks_go (locks_on r w.waiting) w) (blocks_go_still (locks_on r w.waiting) w)
    (grants_go_below n [] (locks_on r v.waiting) v (every_filter (λ (l : Lock). l.cookie.0 ≤ v.cookie)
    (λ (l : Lock). same_resource l.resource r) v.waiting h.waiting) h))

queues_below : (n : ℕ) (rs : List Resource) → Goes n (queues_go rs)
queues_below n [] v h = h
queues_below n (r ∷ rs) v h = follow_below n v (queue_goes r v) (queues_go rs)
    (queues_below n rs (turn v (queue_goes r v)) (queue_below n r v h))

-- one is asked for
next_cookie : (c : ℕ) → max c (c + 1) ≡ c + 1
next_cookie c =
    let least = le-max_right c (c + 1) in
    let most = max_upto c (c + 1) (c + 1) (omega arith) (omega arith) in
    omega (arith, least, most)

waits_below : (n : ℕ) (v : Target) (at : At) (r : RequestOf) (l : Lock) → l.cookie.0 ≡ v.cookie + 1 → In r v.queue → Below n v
    → Below n (turn v (row_waiting v at r l))
waits_below n v at r l cookie i h =
    let d : Deed = answered v at r (told.Waiting l.cookie) in
    let es : List Entry = Wait l d ∷ replies d ∷ [] in
    let w : Target = turn v es in
    let kept : RequestOf → Bool = λ (q : RequestOf). not (is_request_of d q) in
    let same : max v.cookie l.cookie.0 ≡ v.cookie + 1 = ap (max v.cookie) cookie ∙ next_cookie v.cookie in
    follow_below n v es (λ u. blocks_go (locks_on l.resource u.waiting) u)
    (still_below n w (blocks_go (locks_on l.resource w.waiting) w) (blocks_go_still (locks_on l.resource w.waiting) w)
    (acts_below n v w (every_filter RequestFits kept v.queue h.queue) (omega arith) (omega (arith, same))
    (filter_out kept r v.queue i (its_answer v at r (told.Waiting l.cookie))) (record { boot = refl; disk = refl })
    (subst (λ (m : ℕ). AllUpto m w.waiting) (sym same)
    (every_more (λ (j : Lock). j.cookie.0 ≤ v.cookie + 1) v.waiting (l ∷ [])
    (upto_more v.cookie (v.cookie + 1) v.waiting (omega arith) h.waiting) (omega (arith, cookie), tt))) h))

granted_below : (n : ℕ) (v : Target) (at : At) (r : RequestOf) (l : Lock) → l.cookie.0 ≡ v.cookie + 1 → In r v.queue → Below n v
    → Below n (turn v (row_granted v at r l))
granted_below n v at r l cookie i h =
    let d : Deed = answered v at r (told.Granted l.cookie (extent_of l) (size_of v l.resource)) in
    let w : Target = turn v (row_granted v at r l) in
    let kept : RequestOf → Bool = λ (q : RequestOf). not (is_request_of d q) in
    let same : max v.cookie l.cookie.0 ≡ v.cookie + 1 = ap (max v.cookie) cookie ∙ next_cookie v.cookie in
    acts_below n v w (every_filter RequestFits kept v.queue h.queue) (omega arith) (omega (arith, same))
    (filter_out kept r v.queue i (its_answer v at r (told.Granted l.cookie (extent_of l) (size_of v l.resource))))
    (record { boot = refl; disk = refl })
    (subst (λ (m : ℕ). AllUpto m w.waiting) (sym same)
    (every_filter (λ (j : Lock). j.cookie.0 ≤ v.cookie + 1) (λ (j : Lock). not (nat_eq j.cookie.0 l.cookie.0)) v.waiting
    (upto_more v.cookie (v.cookie + 1) v.waiting (omega arith) h.waiting))) h

enqueue_below : (n : ℕ) (v : Target) (at : At) (r : RequestOf) (l : Lock) → l.cookie.0 ≡ v.cookie + 1 → In r v.queue → Below n v
    → Below n (turn v (row_enqueue v at r l))
enqueue_below n v at r l cookie i h =
    let waiting : List Lock = locks_on l.resource v.waiting in
    cond_both (has_to_wait v waiting l) (row_waiting v at r l) (row_granted v at r (grown v waiting l))
    (λ (es : List Entry). Below n (turn v es)) (λ t. waits_below n v at r l cookie i h)
    (λ t. granted_below n v at r (grown v waiting l) cookie i h)

-- ---- bytes, and sizes

-- an answer that no entry shows brings nothing
get_still : (v : Target) (at : At) (r : RequestOf) (resource : Resource) (page : ℕ) (o : Option Lock)
    → AllStill (row_get v at r resource page o)
get_still v at r resource page None = (tt, (tt, tt))
get_still v at r resource page (Some l) =
    cond_both (serves l.ask.mode PR && extents_meet (extent_of l) (page_extent page))
    (row_answers (answered v at r (told.Content (content page (extent_of l) (object v resource))))) (row_uncovered v at r) AllStill
    (λ t. (tt, (tt, tt))) (λ t. (tt, (tt, tt)))

its_write : (v : Target) (at : At) (r : RequestOf) → not (is_request_of (written v at r) r) ≡ false
its_write v at r = rw (self r.who.client, self r.who.life, self r.xid.0) refl

write_below : (n : ℕ) (v : Target) (at : At) (r : RequestOf) (extent : Extent) (o : Option Lock) → In r v.queue → Below n v
    → Below n (turn v (row_write v at r extent o))
write_below n v at r extent None i h = still_below n v (row_uncovered v at r) (tt, (tt, tt)) h
write_below n v at r extent (Some l) i h =
    let d : Deed = written v at r in
    let kept : RequestOf → Bool = λ (q : RequestOf). not (is_request_of d q) in
    cond_both (serves l.ask.mode PW && lies_in extent (extent_of l)) (row_written d) (row_uncovered v at r)
    (λ (es : List Entry). Below n (turn v es))
    (λ t. acts_below n v (turn v (row_written d)) (every_filter RequestFits kept v.queue h.queue) (omega arith) (omega arith)
    (filter_out kept r v.queue i (its_write v at r)) (record { boot = refl; disk = refl }) h.waiting h)
    (λ t. still_below n v (row_uncovered v at r) (tt, (tt, tt)) h)

-- an act without locks
sizes_below : (n : ℕ) (v : Target) (at : At) (r : RequestOf) (a : Answer) → Below n v → Below n (turn v (row_sizes (answered v at r a)))
sizes_below n v at r a h =
    let d : Deed = answered v at r a in
    fewer_below n v (turn v (row_sizes d))
    (record {
      number = refl;
      cookie = refl;
      queue = filter_le (λ (q : RequestOf). not (is_request_of d q)) v.queue;
      fits = λ f. every_filter RequestFits (λ (q : RequestOf). not (is_request_of d q)) v.queue f;
      boot = refl;
      disk = refl;
      waiting = λ all. all;
    })
    h

size_below : (n : ℕ) (v : Target) (at : At) (r : RequestOf) (resource : Resource) (o : Option Lock) → Below n v
    → Below n (turn v (row_size v at r resource o))
size_below n v at r resource None h = sizes_below n v at r (told.Size (size_of v resource)) h
size_below n v at r resource (Some l) h =
    let sizes : List Entry = row_sizes (answered v at r (told.Size (size_of v resource))) in
    cond_both (nat_eq (extent_of l).last the_end) (row_asks v r resource l)
    (if nat_lt (extent_of l).last (size_of v resource) then sizes else row_locked v at r) (λ (es : List Entry). Below n (turn v es))
    (λ t. still_below n v (row_asks v r resource l) (tt, (tt, tt)) h)
    (λ t. cond_both (nat_lt (extent_of l).last (size_of v resource)) sizes (row_locked v at r) (λ (es : List Entry). Below n (turn v es))
    (λ b. sizes_below n v at r (told.Size (size_of v resource)) h)
    (λ b. still_below n v (row_locked v at r) (tt, (tt, tt)) h))

objects_below : (n : ℕ) (v : Target) (at : At) (r : RequestOf) (o : Op) → In r v.queue → Below n v → Below n (turn v (objects_go v at r o))
objects_below n v at r (op.Enqueue resource mode extent) i h = enqueue_below n v at r (lock_for v r resource mode extent) refl i h
objects_below n v at r (op.Get resource cookie page) i h =
    still_below n v (row_get v at r resource page (lock_of r.who cookie (locks_on resource v.granted)))
    (get_still v at r resource page (lock_of r.who cookie (locks_on resource v.granted))) h
objects_below n v at r (op.Put resource cookie offset bytes) i h =
    write_below n v at r (put_extent offset bytes) (lock_of r.who cookie (locks_on resource v.granted)) i h
objects_below n v at r (op.Cut resource cookie size) i h = write_below n v at r (cut_extent size)
    (lock_of r.who cookie (locks_on resource v.granted)) i h
objects_below n v at r (op.Size resource) i h = size_below n v at r resource (highest (locks_on resource v.granted)) h
objects_below n v at r o i h = h

goes_below : (n : ℕ) (v : Target) (at : At) (r : RequestOf) → In r v.queue → Below n v → Below n (turn v (goes at r v))
goes_below n v at r i h = cond_both (is_names v) (names_go at v) (objects_go v at r r.op) (λ (es : List Entry). Below n (turn v es))
    (λ t. names_below n at v h) (λ t. objects_below n v at r r.op i h)

max_none : (a b : ℕ) → b ≡ 0 → max a b ≡ a
max_none a b e = ap (max a) e ∙ max-zero a

-- a life that leaves takes its requests along
commit_below : (n : ℕ) (v : Target) (to : ℕ) (batch : Batch) → batch.boot ≡ 0 → Below n v → Below n (after v (Commit to batch))
commit_below n v to batch boot h =
    fewer_below n v (after v (Commit to batch))
    (record {
      number = refl;
      cookie = refl;
      queue = filter_le (λ (r : RequestOf). not (is_life r.who batch.removed)) v.queue;
      fits = λ f. every_filter RequestFits (λ (r : RequestOf). not (is_life r.who batch.removed)) v.queue f;
      boot = refl;
      disk = max_none v.disk.boot batch.boot boot;
      waiting = λ all. every_filter (λ (j : Lock). j.cookie.0 ≤ v.cookie) (λ (j : Lock). not (is_life j.ask.who batch.removed)) v.waiting
          all;
    })
    h

commits_below : (n : ℕ) (v : Target) (deeds : List Deed) (removed added : List Who) → Below n v
    → Below n (after v (commits v deeds removed added))
commits_below n v deeds removed added h = commit_below n v (last_committed deeds v.committed) (batch_of deeds removed added) refl h

-- ---- a target that recovers: what it keeps, and a close, at which nothing waits any more

-- all other lines of such a target bring nothing
abbrev Left : (clients : ℕ) → Entry → Type 0
Left clients (Commit to batch) = Unit {0}
Left clients (Close o) = Unit {0}
Left clients e = IsStill e

back_left : (clients : ℕ) (e : Entry) → IsBack clients e → Left clients e
back_left clients (Enters r) b = absurd b
back_left clients (Act d) b = absurd b
back_left clients (Txn d) b = absurd b
back_left clients (Grant lock asked) b = absurd b
back_left clients (Wait lock asked) b = absurd b
back_left clients (Boot boot disk) b = absurd b
back_left clients e b = tt

line_back_below : (n clients : ℕ) (v : Target) (e : Entry) → IsBack clients e → Below n v → Below n (after v e)
line_back_below n clients v (Commit to batch) b h = commit_below n v to batch b.0 h
line_back_below n clients v (Close o) b h =
    fewer_below n v (after v (Close o)) (record {
      number = refl;
      cookie = refl;
      queue = omega arith;
      fits = λ f. tt;
      boot = refl;
      disk =
          refl;
      waiting = λ all. tt;
    }) h
line_back_below n clients v e b h = still_below n v (e ∷ []) (back_left clients e b, tt) h

back_below : (n clients : ℕ) (v : Target) (es : List Entry) → AllBack clients es → Below n v → Below n (turn v es)
back_below n clients v [] b h = h
back_below n clients v (e ∷ es) b h = back_below n clients (after v e) es b.1 (line_back_below n clients v e b.0 h)

-- ---- lives that leave and lives that come

module _ (clients : ℕ) where
  -- such lines as may stand in the turn
  abbrev All : List Entry → Type 0
  All es = AllServed ⊥ (Unit {0}) clients es

  abbrev Going : ℕ → (Target → List Entry) → Type 0
  Going n next = (w : Target) → OfRun clients w → Below n w → Below n (turn w (next w))

  follow_going : (n : ℕ) (es : List Entry) (next : Target → List Entry) (v : Target) → OfRun clients v → All es → Below n (turn v es)
      → Going n next → Below n (turn v (follow v es next))
  follow_going n es next v s all h more = follow_below n v es next (more (turn v es) (of_run_turn ⊥ (Unit {0}) clients v es all s) h)

  -- what waited goes on
  all_go_below : (n : ℕ) (at : At) → Goes n (all_go at)
  all_go_below n at v h = cond_both (is_names v) (names_go at v) (all_queues_go v) (λ (es : List Entry). Below n (turn v es))
      (λ t. names_below n at v h) (λ t. queues_below n (resources_of v.waiting) v h)

  glimpses_still : (at : At) (gs : List Glimpse) (v : Target) → AllStill (glimpses_end at gs v)
  glimpses_still at [] v = tt
  glimpses_still at (g ∷ gs) v = (tt, (tt, (tt, glimpses_still at gs v)))

  releases_below : (n : ℕ) (at : At) (l : Lock) → Goes n (releases at l)
  releases_below n at l v h = still_below n v (releases at l v) (tt, glimpses_still at (glimpses_of l v.glimpses) v) h

  released_below : (n : ℕ) (at : At) (locks : List Lock) → Goes n (all_released at locks)
  released_below n at [] v h = h
  released_below n at (l ∷ locks) v h = follow_below n v (releases at l v) (all_released at locks)
      (released_below n at locks (turn v (releases at l v)) (releases_below n at l v h))

  evictions_below : (n : ℕ) (at : At) (cause : Cause) (granted : List Lock) (gone : List Who) → Going n (evictions at cause granted gone)
  evictions_below n at cause granted [] v s h = h
  evictions_below n at cause granted (who ∷ gone) v s h =
      follow_going n (Evict who cause ∷ evicted v who ∷ all_released at (locks_of who granted) v) (evictions at cause granted gone) v s
      (tt, (tt, released_served (Unit {0}) clients at (locks_of who granted) v)) (released_below n at (locks_of who granted) v h)
      (λ w r b. evictions_below n at cause granted gone w r b)

  expels_below : (n : ℕ) (at : At) (gone : List Who) → Going n (expels at gone)
  expels_below n at [] v s h = h
  expels_below n at (who ∷ gone) v s h =
      follow_going n (commits v v.log (who ∷ gone) [] ∷ []) (λ w. follow w (evictions at Expired v.granted (who ∷ gone) w) (all_go at)) v s
      ((tt, tt), tt) (commits_below n v v.log (who ∷ gone) [] h)
      (λ w r b.
      follow_going n (evictions at Expired v.granted (who ∷ gone) w) (all_go at) w r
      (evictions_served (Unit {0}) clients at Expired v.granted (who ∷ gone) w tt r)
      (evictions_below n at Expired v.granted (who ∷ gone) w r b) (λ x q a. all_go_below n at x a))

  admits_below : (n : ℕ) (at : At) (who : Who) → Going n (admits at who)
  admits_below n at who v s h = follow_going n (Joined who ∷ ready v who ∷ []) (all_go at) v s (tt, (tt, tt))
      (still_below n v (Joined who ∷ ready v who ∷ []) (tt, (tt, tt)) h) (λ w r b. all_go_below n at w b)

  life_below : (n : ℕ) (at : At) (old : List Who) (who : Who) → IsOf clients who → Going n (row_admits at old who)
  life_below n at old who one v s h =
      follow_going n (commits v v.log old (who ∷ []) ∷ []) (λ w. follow w (evictions at Replaced v.granted old w) (admits at who)) v s
      ((tt, (one, tt)), tt) (commits_below n v v.log old (who ∷ []) h)
      (λ w r b.
      follow_going n (evictions at Replaced v.granted old w) (admits at who) w r
      (evictions_served (Unit {0}) clients at Replaced v.granted old w tt r)
      (evictions_below n at Replaced v.granted old w r b) (admits_below n at who))

  by_life_below : (n : ℕ) (at : At) (who : Who) (v : Target) (o : Option Who) → IsOf clients who → OfRun clients v → Below n v
      → Below n (turn v (by_life v at who o))
  by_life_below n at who v None one s h = life_below n at [] who one v s h
  by_life_below n at who v (Some old) one s h =
      cond_both (nat_lt who.life old.life) (evicted v who ∷ [])
      (if nat_eq who.life old.life then ready v who ∷ [] else row_admits at (old ∷ []) who v) (λ (es : List Entry). Below n (turn v es))
      (λ t. still_below n v (evicted v who ∷ []) (tt, tt) h)
      (λ t. cond_both (nat_eq who.life old.life) (ready v who ∷ []) (row_admits at (old ∷ []) who v)
      (λ (es : List Entry). Below n (turn v es))
      (λ b. still_below n v (ready v who ∷ []) (tt, tt) h) (λ b. life_below n at (old ∷ []) who one v s h))

  join_below : (n : ℕ) (at : At) (who : Who) (v : Target) → IsOf clients who → OfRun clients v → Below n v
      → Below n (turn v (row_join v at who))
  join_below n at who v one s h =
      cond_both (list_any (is_over who) v.removed) (evicted v who ∷ []) (by_life v at who (life_of who.client v.lives))
      (λ (es : List Entry). Below n (turn v es))
      (λ t. still_below n v (evicted v who ∷ []) (tt, tt) h) (λ t. by_life_below n at who v (life_of who.client v.lives) one s h)

-- ---- a message comes

abbrev pub MessageFits : Message → Type 0
MessageFits (message.Request r) = IsShort r.op
MessageFits _ = Unit {0}

kept_below : (n : ℕ) (v : Target) (k : Option ReplyTo) → Below n v → Below n (turn v (row_kept v k))
kept_below n v None h = h
kept_below n v (Some k) h = still_below n v (row_kept v (Some k)) (tt, tt) h

length_one : {A : Type 0} (xs : List A) (x : A) → length (xs ++ x ∷ []) ≡ length xs + 1
length_one [] x = refl
length_one (y ∷ xs) x = let h = length_one xs x in omega arith

module _ (n clients : ℕ) (v : Target) (s : OfRun clients v) (h : Below n v) where
  enters_below : (r : RequestOf) → IsShort r.op → Below (suc n) (after v (Enters r))
  enters_below r short =
      let one = length_one v.queue r in
      let few = h.few in
      let number = h.number in
      let cookie = h.cookie in
      let boot = h.boot in
      record {
        queue = every_more RequestFits v.queue (r ∷ []) h.queue (short, tt);
        few = omega (arith, one, few);
        number = omega (arith, one, number);
        cookie = omega (arith, one, cookie);
        boot = omega (arith, boot);
        disk = h.disk;
        waiting = h.waiting;
      }

  request_below : (at : At) (r : RequestOf) → IsShort r.op → Below (suc n) (turn v (row_request v at r))
  request_below at r short = by (slot_in v.slots r.who r.tag)
    where
      number : (k : Option ReplyTo) (above same : Bool) → Below (suc n) (turn v (by_number v at r k above same))
      number k true same = goes_below (suc n) (after v (Enters r)) at r (in_right r v.queue (r ∷ []) (inl refl)) (enters_below r short)
      number k false true = more_below n (turn v (row_kept v k)) (kept_below n v k h)
      number k false false = more_below n v h

      by : (slot : Slot) → Below (suc n) (turn v (slot_of_request v at r slot))
      by slot = number slot.reply (nat_lt slot.taken r.xid.0) (nat_eq slot.taken r.xid.0)

  cancels_below : (at : At) (o : Option Lock) → Below n (turn v (row_cancels v at o))
  cancels_below at None = h
  cancels_below at (Some l) =
      let w : Target = turn v (releases at l v) in
      let low : Below n w = releases_below clients n at l v h in
      follow_below n v (releases at l v) (goes_on l at)
      (cond_both (is_names w) (names_go at w) (queue_goes l.resource w) (λ (es : List Entry). Below n (turn w es))
      (λ t. names_below n at w low) (λ t. queue_below n l.resource w low))

  finds_below : (o : Option Lock) → Below n (turn v (row_finds v o))
  finds_below None = h
  finds_below (Some l) = cond_both (is_names v) [] (grant_message v l ∷ []) (λ (es : List Entry). Below n (turn v es)) (λ t. h)
      (λ t. still_below n v (grant_message v l ∷ []) (tt, tt) h)

  holder_still : (at : At) (m : SizeReport) (g : Glimpse) (o : Option ℕ) → AllStill (row_holder v at m g o)
  holder_still at m g None = (tt, (tt, (tt, tt)))
  holder_still at m g (Some size) = (tt, (tt, (tt, tt)))

  report_below : (at : At) (m : SizeReport) (o : Option Glimpse) → Below n (turn v (row_report v at m o))
  report_below at m None = h
  report_below at m (Some g) = still_below n v (row_holder v at m g m.size) (holder_still at m g m.size) h

  -- one of an older boot is told the present one, and a life without a slot that it is over
  slot_below : (m : ℕ) (who : Who) (rest : List Entry) (has : Bool) → Below m v → Below m (turn v rest)
      → Below m (turn v (by_slot v who has rest))
  slot_below m who rest true low all = all
  slot_below m who rest false low all = still_below m v (evicted v who ∷ []) (tt, tt) low

  boot_below : (m : ℕ) (who : Who) (rest : List Entry) (older : Bool) → Below m v → Below m (turn v rest)
      → Below m (turn v (by_boot v who older rest))
  boot_below m who rest true low all = still_below m v (up v who ∷ []) (tt, tt) low
  boot_below m who rest false low all = all

  heeds_below : (m : ℕ) (who : Who) (boot : ℕ) (rest : List Entry) → Below m v → Below m (turn v rest)
      → Below m (turn v (heeds v who boot rest))
  heeds_below m who boot rest low all =
      boot_below m who (by_slot v who (is_life who v.lives) rest) (nat_lt boot v.boot) low
      (slot_below m who rest (is_life who v.lives) low all)

  serving_below : (m : ℕ) (rest : List Entry) → Below m v → Below m (turn v rest) → Below m (turn v (while_serving v rest))
  serving_below m rest low all = cond_both (is_serving v) rest [] (λ (es : List Entry). Below m (turn v es)) (λ t. all) (λ t. low)

  recovering_below : (boot : ℕ) (rest : List Entry) → AllBack clients rest → Below n (turn v (while_recovering v (of_boot v boot rest)))
  recovering_below boot rest all =
      cond_both (is_serving v) [] (of_boot v boot rest) (λ (es : List Entry). Below n (turn v es)) (λ t. h)
      (λ t. cond_both (nat_eq boot v.boot) rest [] (λ (es : List Entry). Below n (turn v es)) (λ b. back_below n clients v rest all h)
      (λ b. h))

  word_below : (at : At) (said : Said) (boot : ℕ) → Below n (turn v
      (if is_serving v then ready v said.who ∷ [] else of_boot v boot (row_word v at said)))
  word_below at said boot =
      cond_both (is_serving v) (ready v said.who ∷ []) (of_boot v boot (row_word v at said)) (λ (es : List Entry). Below n (turn v es))
      (λ t. still_below n v (ready v said.who ∷ []) (tt, tt) h)
      (λ t. cond_both (nat_eq boot v.boot) (row_word v at said) [] (λ (es : List Entry). Below n (turn v es))
      (λ b. back_below n clients v (row_word v at said) (word_back clients v at said s) h) (λ b. h))

  joins_below : (at : At) (who : Who) → IsOf clients who → Below n (turn v (if is_serving v then row_join v at who else row_wish v at who))
  joins_below at who one =
      cond_both (is_serving v) (row_join v at who) (row_wish v at who) (λ (es : List Entry). Below n (turn v es))
      (λ t. join_below clients n at who v one s h)
      (λ t. back_below n clients v (row_wish v at who) (wish_back clients v at who s one) h)

  pub comes_below : (MayAsk : Type 0) (at : At) (k : ℕ) (from : Node) (m : Message) → MessageServed MayAsk clients v m → MessageFits m
      → Below (suc n) (turn v (target.row v at (target.Comes k from m)))
  comes_below MayAsk at k from m is fits = by m is fits
    where
      by : (m : Message) → MessageServed MayAsk clients v m → MessageFits m → Below (suc n) (turn v (row_heeds v at m))
      by (message.Request r) is fits =
          heeds_below (suc n) r.who r.boot (while_serving v (row_request v at r)) (more_below n v h)
          (serving_below (suc n) (row_request v at r) (more_below n v h) (request_below at r fits))
      by (message.Cancel who boot cookie) is fits =
          more_below n (turn v (row_heeds v at (message.Cancel who boot cookie)))
          (heeds_below n who boot (while_serving v (row_cancel v at who cookie)) h
          (serving_below n (row_cancel v at who cookie) h (cancels_below at (lock_of who cookie v.granted))))
      by (message.Where who boot cookie) is fits =
          more_below n (turn v (row_heeds v at (message.Where who boot cookie)))
          (heeds_below n who boot (while_serving v (row_where v who cookie)) h
          (serving_below n (row_where v who cookie) h (finds_below (lock_of who cookie v.granted))))
      by (message.Size m) is fits =
          more_below n (turn v (row_heeds v at (message.Size m)))
          (heeds_below n m.who m.boot (while_serving v (row_report v at m (asked_for m v.glimpses))) h
          (serving_below n (row_report v at m (asked_for m v.glimpses)) h (report_below at m (asked_for m v.glimpses))))
      by (message.Join who boot) is fits =
          more_below n (turn v (row_heeds v at (message.Join who boot)))
          (boot_below n who (if is_serving v then row_join v at who else row_wish v at who) (nat_lt boot v.boot) h
          (joins_below at who is.1))
      by (message.Replay r) is fits =
          more_below n (turn v (row_heeds v at (message.Replay r)))
          (heeds_below n r.who r.boot (while_recovering v (of_boot v r.boot (row_replay v at r))) h
          (recovering_below r.boot (row_replay v at r) (replay_back clients v at r s)))
      by (message.Lock r) is fits =
          more_below n (turn v (row_heeds v at (message.Lock r)))
          (heeds_below n r.who r.boot (while_recovering v (of_boot v r.boot (row_lock v at (lock_again r)))) h
          (recovering_below r.boot (row_lock v at (lock_again r)) (lock_back clients v at (lock_again r) s)))
      by (message.Word who boot replays locks seen) is fits =
          let said : Said = record { who = who; replays = replays; locks = locks; seen = seen } in
          more_below n (turn v (row_heeds v at (message.Word who boot replays locks seen)))
          (heeds_below n who boot (if is_serving v then ready v who ∷ [] else of_boot v boot (row_word v at said)) h
          (word_below at said boot))
      by m is fits = absurd is

-- ---- time goes on

-- what is sent again
asks_still : (w : Target) (l : Lock) (gs : List Glimpse) → AllStill (asks_again w l gs)
asks_still w l [] = tt
asks_still w l (g ∷ gs) = cond_both (list_any (same_glimpse g) w.glimpses) (ask_of w l g.request ∷ asks_again w l gs) (asks_again w l gs)
    AllStill (λ t. (tt, asks_still w l gs)) (λ t. asks_still w l gs)

again_still : (w : Target) (cs : List Called) (gs : List Glimpse) (locks : List Lock) → AllStill (sends_again w cs gs locks)
again_still w cs gs [] = tt
again_still w cs gs (l ∷ locks) =
    every_more IsStill (block_again w l cs) (asks_again w l (glimpses_of l gs) ++ sends_again w cs gs locks)
    (cond_both (is_called l.cookie cs && is_called l.cookie w.called) (block_of w l ∷ []) [] AllStill (λ t. (tt, tt)) (λ t. tt))
    (every_more IsStill (asks_again w l (glimpses_of l gs)) (sends_again w cs gs locks) (asks_still w l (glimpses_of l gs))
    (again_still w cs gs locks))

pub tick_below : (n clients : ℕ) (v : Target) (at : At) → OfRun clients v → Below n v
    → Below (suc n) (turn v (target.row v at target.Ticks))
tick_below n clients v at s h =
    more_below n (turn v (target.row v at target.Ticks))
    (of_tick v at (λ (es : List Entry). Below n (turn v es)) goes (still_below n v (Tick ∷ []) (tt, tt) h)
    (still_below n v (Skip ∷ []) (tt, tt) h))
  where
    w : Target
    w = after v Tick

    now : OfRun clients w
    now = of_run_turn (Unit {0}) (Unit {0}) clients v (Tick ∷ []) (tt, tt) s

    goes : Below n (turn w (ticked at w))
    goes =
        follow_going clients n (expels at (condemned w w.called) w) (λ x. sends_again x w.called w.glimpses x.granted) w now
        (expels_served (Unit {0}) clients at (condemned w w.called) w (λ who gone e. tt) now)
        (expels_below clients n at (condemned w w.called) w now (still_below n v (Tick ∷ []) (tt, tt) h))
        (λ x r b. still_below n x (sends_again x w.called w.glimpses x.granted) (again_still x w.called w.glimpses x.granted) b)

-- ---- a command

pub commit_command_below : (n : ℕ) (v : Target) (at : At) (count : Option ℕ) → Below n v
    → Below (suc n) (turn v (target.row v at (target.Commits count)))
commit_command_below n v at count h =
    more_below n (turn v (target.row v at (target.Commits count)))
    (cond_both v.up (row_commit v count) (Skip ∷ []) (λ (es : List Entry). Below n (turn v es))
    (λ t. cond_both (is_serving v) (row_commits v (first_deeds count v.log)) (Skip ∷ []) (λ (es : List Entry). Below n (turn v es))
    (λ b. by (first_deeds count v.log)) (λ b. skips)) (λ t. skips))
  where
    skips : Below n (turn v (Skip ∷ []))
    skips = still_below n v (Skip ∷ []) (tt, tt) h

    by : (deeds : List Deed) → Below n (turn v (row_commits v deeds))
    by [] = skips
    by (d ∷ deeds) = commits_below n v (d ∷ deeds) [] [] h

pub close_command_below : (n clients : ℕ) (v : Target) (at : At) → OfRun clients v → Below n v
    → Below (suc n) (turn v (target.row v at target.Closes))
close_command_below n clients v at s h =
    more_below n (turn v (target.row v at target.Closes))
    (cond_both v.up (row_closes v at) (Skip ∷ []) (λ (es : List Entry). Below n (turn v es))
    (λ t. cond_both (is_serving v) (Skip ∷ []) (row_close at v) (λ (es : List Entry). Below n (turn v es)) (λ b. skips)
    (λ b. back_below n clients v (row_close at v) (close_back clients at v s) h)) (λ t. skips))
  where
    skips : Below n (turn v (Skip ∷ []))
    skips = still_below n v (Skip ∷ []) (tt, tt) h

-- the next boot begins anew
booted_below : (n : ℕ) (v : Target) → n ≤ 67108864 → Below n v → Below (suc n) (booted v)
booted_below n v most h =
    let few = h.few in
    let boot = h.boot in
    let disk = h.disk in
    let cookie = h.cookie in
    let w : Target = booted v in
    let rises : v.cookie ≤ w.cookie = omega (arith, cookie, most, disk) in
    record {
      queue = h.queue;
      few = omega (arith, few);
      number = omega (arith, few);
      cookie = omega (arith, few);
      boot = omega (arith, boot, disk);
      disk = refl;
      waiting = upto_more v.cookie w.cookie v.waiting rises h.waiting;
    }

pub boot_command_below : (n clients : ℕ) (v : Target) (at : At) → n ≤ 67108864 → OfRun clients v → Below n v
    → Below (suc n) (turn v (target.row v at target.Boots))
boot_command_below n clients v at most s h =
    let w : Target = booted v in
    cond_both v.up (Skip ∷ []) (row_boot v at) (λ (es : List Entry). Below (suc n) (turn v es))
    (λ t. more_below n (turn v (Skip ∷ [])) (still_below n v (Skip ∷ []) (tt, tt) h))
    (λ t. back_below (suc n) clients w (up_lines w w.lives ++ settles at w) (boots_back clients at w (booted_of_run clients v s))
    (booted_below n v most h))

pub crash_command_below : (n : ℕ) (v : Target) (at : At) → Below n v → Below (suc n) (turn v (target.row v at target.Crashes))
crash_command_below n v at h =
    more_below n (turn v (target.row v at target.Crashes))
    (cond_both v.up (Crash ∷ []) (Skip ∷ []) (λ (es : List Entry). Below n (turn v es)) (λ t. crashed)
    (λ t. still_below n v (Skip ∷ []) (tt, tt) h))
  where
    crashed : Below n (turn v (Crash ∷ []))
    crashed = still_below n v (Crash ∷ []) (tt, tt) h

-- ---- numbers are left

pub has_numbers : (n : ℕ) (v : Target) (es : List Entry) → Below n (turn v es) → n ≤ 67108864 → target.overruns v es ≡ false
has_numbers n v es h few =
    let w : Target = turn v es in
    let number = h.number in
    let cookie = h.cookie in
    let boot = h.boot in
    let none : nat_lt 4294967295 w.boot ≡ false = not_above w.boot 4294967295 (omega (arith, boot, few)) in
    let numbers : target.passes w.boot w.number ≡ false = not_above w.number (first_of w.boot + 4294967295) (omega (arith, number, few)) in
    let cookies : target.passes w.boot w.cookie ≡ false = not_above w.cookie (first_of w.boot + 4294967295) (omega (arith, cookie, few)) in
    rw (none, numbers, cookies) refl
  where
    not_above : (k most : ℕ) → k ≤ most → nat_lt most k ≡ false
    not_above k most low = grind (arith, nat_tests)
