-- Row by row: transaction numbers and cookies only rise, so a turn that overruns in its middle overruns at its end.
use Rattle.std.proofs.Common.{◌≡◌, ℕ, zero, suc, ◌+◌, ◌≤◌, max, ◌==◌, ◌&&◌, ◌||◌, not, Bool, true, false, List, [], ◌∷◌, ◌++◌, filter}
use Rattle.std.proofs.Common.{Option, Some, None, refl, sym, subst, ◌∙◌, arith, nat_lt}
use Rattle.std.specs.Prelude.{if◌then◌else◌, length}
use Rattle.std.specs.List.{list_any}
use Rattle.std.proofs.lemmas.Bool.Decides.{nat_tests}
use Rattle.lu_base.specs.declared.ids.At.{At}
use Rattle.lu_base.specs.declared.ids.Cookie.{Cookie}
use Rattle.lu_base.specs.declared.ids.Who.{Who}
use Rattle.lu_base.specs.declared.locks.Cause.{Cause}
use Rattle.lu_base.specs.declared.locks.Cause.TheVariants.{Expired, Replaced}
use Rattle.lu_base.specs.declared.locks.Extent.{Extent}
use Rattle.lu_base.specs.declared.locks.Lock.{Lock}
use Rattle.lu_base.specs.declared.locks.Mode.TheVariants.{PR, PW}
use Rattle.lu_base.specs.declared.locks.Resource.{Resource}
use Rattle.lu_lock.specs.Growth.{the_end}
use Rattle.lu_lock.specs.Modes.{serves}
use Rattle.lu_lock.specs.Overlap.{extents_meet}
use Rattle.lu_spec_machine.specs.Objects.{page_extent, content}
use Rattle.lu_msg.specs.declared.answers.Answer.TheVariants as told
use Rattle.lu_msg.specs.declared.messages.Reply.{Reply}
use Rattle.lu_msg.specs.declared.messages.Request.{Request}
use Rattle.lu_msg.specs.declared.messages.SizeReport.{SizeReport}
use Rattle.lu_msg.specs.declared.operations.Op.{Op}
use Rattle.lu_msg.specs.declared.operations.Op.TheVariants as op
use Rattle.lu_spec_entries.specs.Carried.{Deed, Called, Glimpse, Outcome}
use Rattle.lu_spec_entries.specs.Words.{Entry, Tick, Act, Txn, Grant, Wait, Boot, Close, Joined, Enters}
use Rattle.lu_spec_target.specs.Lives.{is_life, lives_of, slot_in}
use Rattle.lu_spec_target.specs.Phase.{number_after, greatest_cookie, cookie_after, first_of}
use Rattle.lu_spec_target.specs.States.{Target, is_names, after, turn, follow}
use Rattle.lu_spec_target.specs.Replies.{none, next_number, replies, locks_on, row_kept, blocks}
use Rattle.lu_spec_target.specs.Names.{is_read, does_change, in_way, written_by, is_ready, locks_for, names_deed, grant_lines, row_acts}
use Rattle.lu_spec_target.specs.Names.{row_transacts, row_executes, row_waits, row_pass, row_sweep, names_go}
use Rattle.lu_spec_target.specs.Queues.{object, size_of, extent_of, grant_message, has_to_wait, grown, blocks_go, grants_go, queue_goes}
use Rattle.lu_spec_target.specs.Queues.{resources_of, all_queues_go}
use Rattle.lu_spec_target.specs.Glimpses.{answered, row_sizes, row_answers, row_locked, highest, row_asks, row_size, row_report}
use Rattle.lu_spec_target.specs.Glimpses.{glimpses_end}
use Rattle.lu_spec_target.specs.Objects.{lock_for, row_granted, row_waiting, row_enqueue, lock_of, row_uncovered, row_get, lies_in, written}
use Rattle.lu_spec_target.specs.Objects.{row_written, row_write, put_extent, cut_extent, objects_go}
use Rattle.lu_spec_target.specs.Requests.{goes, row_enters, by_number, row_request, goes_on, releases, row_cancels, row_cancel, row_finds}
use Rattle.lu_spec_target.specs.Requests.{row_where}
use Rattle.lu_spec_target.specs.Leaving.{commits, evicted, ready, all_released, evictions, all_go, condemned, expels, sends_again, ticked}
use Rattle.lu_spec_target.specs.Leaving.{life_of, admits, row_admits, by_life, is_over, row_join}
use Rattle.lu_spec_target.specs.Recovery.{kept_lines, restore_lines, evict_lines, ready_lines, joined_lines, commit_of, answers_all, closes}
use Rattle.lu_spec_target.specs.Rows.{most_numbers, passes, overruns, row_commits}
use Rattle.lu_target_refines.proofs.Slots.{never, both}
use Rattle.lu_target_refines.proofs.Blocking.{turned_more}
use Rattle.lu_target_refines.proofs.Quiet.{unread_append, kept_unread, restore_unread, evict_unread, ready_unread, joined_unread}
use Rattle.lu_target_refines.proofs.Quiet.{blocks_unread, blocks_go_unread, grants_go_unread, queue_goes_unread, queues_go_unread}
use Rattle.lu_target_refines.proofs.Quiet.{sends_again_unread}
use Rattle.lu_target_invariant.specs.Numbers.{Raises}
use Rattle.lu_target_invariant.proofs.Plain.{is_plain, all_plain, plain_append, unread_plain, grant_lines_plain, report_plain}
use Rattle.lu_target_invariant.proofs.Plain.{glimpses_end_plain, releases_plain, all_released_plain, evictions_plain}

-- ---- one after the other

pub raises_itself : (v : Target) → Raises v v
raises_itself v = record { boot = refl; number = omega arith; cookie = omega arith }

pub raises_then : (v w x : Target) → Raises v w → Raises w x → Raises v x
raises_then v w x one two =
    let n = one.number in
    let m = two.number in
    let c = one.cookie in
    let k = two.cookie in
    record { boot = two.boot ∙ one.boot; number = omega (arith, n, m); cookie = omega (arith, c, k) }

pub raises_more : (v : Target) (es more : List Entry) → Raises v (turn v es) → Raises (turn v es) (turn (turn v es) more)
    → Raises v (turn v (es ++ more))
raises_more v es more one two = subst (Raises v) (sym (turned_more v es more)) (raises_then v (turn v es) (turn (turn v es) more) one two)

pub raises_follow : (v : Target) (es : List Entry) (next : Target → List Entry) → Raises v (turn v es)
    → Raises (turn v es) (turn (turn v es) (next (turn v es)))
    → Raises v (turn v (follow v es next))
raises_follow v es next one two = raises_more v es (next (turn v es)) one two

-- ---- an entry

greatest_above : (n : ℕ) (locks : List Lock) → n ≤ greatest_cookie n locks
greatest_above n [] = omega arith
greatest_above n (l ∷ locks) = let more = greatest_above (max n l.cookie.0) locks in omega (arith, more)

cookie_above : (n : ℕ) (e : Entry) → is_plain e ≡ true → n ≤ cookie_after n e
cookie_above n (Act d) plain = greatest_above n d.reply.locks
cookie_above n (Grant l asked) plain = omega arith
cookie_above n (Wait l d) plain = omega arith
cookie_above n (Boot boot disk) plain = absurd (never (sym plain))
cookie_above n _ plain = omega arith

number_stays : (n : ℕ) (e : Entry) → is_plain e ≡ true → number_after n e ≡ n
number_stays n (Txn d) plain = absurd (never (sym plain))
number_stays n (Boot boot disk) plain = absurd (never (sym plain))
number_stays n _ plain = refl

boot_stays : (v : Target) (e : Entry) → is_plain e ≡ true → (after v e).boot ≡ v.boot
boot_stays v (Boot boot disk) plain = absurd (never (sym plain))
boot_stays v _ plain = refl

pub raises_plain : (v : Target) (e : Entry) → is_plain e ≡ true → Raises v (after v e)
raises_plain v e plain =
    let same = number_stays v.number e plain in
    record { boot = boot_stays v e plain; number = omega (arith, same); cookie = cookie_above v.cookie e plain }

pub raises_all_plain : (v : Target) (es : List Entry) → all_plain es ≡ true → Raises v (turn v es)
raises_all_plain v [] plain = raises_itself v
raises_all_plain v (e ∷ es) plain =
    let parts = both (is_plain e) (all_plain es) plain in
    raises_then v (after v e) (turn (after v e) es) (raises_plain v e parts.0) (raises_all_plain (after v e) es parts.1)

-- a transaction, of a number that isn't below the last one
pub raises_txn : (v : Target) (d : Deed) → v.number ≤ d.reply.txn.0 → Raises v (after v (Txn d))
raises_txn v d above = record { boot = refl; number = above; cookie = omega arith }

-- ---- overruns

passes_more : (boot n m : ℕ) → n ≤ m → passes boot n ≡ true → passes boot m ≡ true
passes_more boot n m more e = further (first_of boot + most_numbers) n m more e where
  further : (k a b : ℕ) → a ≤ b → nat_lt k a ≡ true → nat_lt k b ≡ true
  further k a b le lt = grind (arith, nat_tests)

pub overruns_on : (v w : Target) → Raises v w → overruns v [] ≡ true → overruns w [] ≡ true
overruns_on v w more over =
    subst (λ boot. (nat_lt most_numbers boot || (passes boot w.number || passes boot w.cookie)) ≡ true) (sym more.boot)
    (by (nat_lt most_numbers v.boot) (passes v.boot v.number) refl over) where
      or_true : (a : Bool) → (a || true) ≡ true
      or_true true = refl
      or_true false = refl

      by : (boots numbers : Bool) → passes v.boot v.number ≡ numbers → (boots || (numbers || passes v.boot v.cookie)) ≡ true
          → (boots || (passes v.boot w.number || passes v.boot w.cookie)) ≡ true
      by true numbers e o = refl
      by false true e o = rw (passes_more v.boot v.number w.number more.number e) refl
      by false false e o = rw (passes_more v.boot v.cookie w.cookie more.cookie o) (or_true (passes v.boot w.number))

pub overruns_more : (v : Target) (es rest : List Entry) → Raises (turn v es) (turn (turn v es) rest) → overruns v es ≡ true
    → overruns v (es ++ rest) ≡ true
overruns_more v es rest more over = subst (λ w. overruns w [] ≡ true) (sym (turned_more v es rest))
    (overruns_on (turn v es) (turn (turn v es) rest) more over)

-- ---- what is plain: w is the state, v that of which the entries tell

pub raises_blocks : (v w : Target) (locks : List Lock) → Raises w (turn w (blocks v locks))
raises_blocks v w locks = raises_all_plain w (blocks v locks) (unread_plain (blocks v locks) (blocks_unread v locks))

pub raises_blocks_go : (waiting : List Lock) (v w : Target) → Raises w (turn w (blocks_go waiting v))
raises_blocks_go waiting v w = raises_all_plain w (blocks_go waiting v) (unread_plain (blocks_go waiting v) (blocks_go_unread waiting v))

pub raises_grants_go : (ahead later : List Lock) (v w : Target) → Raises w (turn w (grants_go ahead later v))
raises_grants_go ahead later v w = raises_all_plain w (grants_go ahead later v)
    (unread_plain (grants_go ahead later v) (grants_go_unread ahead later v))

pub raises_queue_goes : (r : Resource) (v w : Target) → Raises w (turn w (queue_goes r v))
raises_queue_goes r v w = raises_all_plain w (queue_goes r v) (unread_plain (queue_goes r v) (queue_goes_unread r v))

pub raises_all_queues_go : (v w : Target) → Raises w (turn w (all_queues_go v))
raises_all_queues_go v w = raises_all_plain w (all_queues_go v)
    (unread_plain (all_queues_go v) (queues_go_unread (resources_of v.waiting) v))

pub raises_sends_again : (v w : Target) (called : List Called) (glimpses : List Glimpse) (locks : List Lock)
    → Raises w (turn w (sends_again v called glimpses locks))
raises_sends_again v w called glimpses locks =
    raises_all_plain w (sends_again v called glimpses locks) (unread_plain (sends_again v called glimpses locks)
    (sends_again_unread v called glimpses locks))

pub raises_answers : (w : Target) (d : Deed) → Raises w (turn w (row_answers d))
raises_answers w d = raises_all_plain w (row_answers d) refl

pub raises_sizes : (w : Target) (d : Deed) → Raises w (turn w (row_sizes d))
raises_sizes w d = raises_all_plain w (row_sizes d) refl

pub raises_report : (v w : Target) (at : At) (m : SizeReport) (found : Option Glimpse) → Raises w (turn w (row_report v at m found))
raises_report v w at m found = raises_all_plain w (row_report v at m found) (report_plain v at m found)

pub raises_glimpses_end : (at : At) (gs : List Glimpse) (v w : Target) → Raises w (turn w (glimpses_end at gs v))
raises_glimpses_end at gs v w = raises_all_plain w (glimpses_end at gs v) (glimpses_end_plain at gs v)

pub raises_releases : (at : At) (l : Lock) (v w : Target) → Raises w (turn w (releases at l v))
raises_releases at l v w = raises_all_plain w (releases at l v) (releases_plain at l v)

pub raises_all_released : (at : At) (locks : List Lock) (v w : Target) → Raises w (turn w (all_released at locks v))
raises_all_released at locks v w = raises_all_plain w (all_released at locks v) (all_released_plain at locks v)

pub raises_evictions : (at : At) (cause : Cause) (granted : List Lock) (gone : List Who) (v w : Target)
    → Raises w (turn w (evictions at cause granted gone v))
raises_evictions at cause granted gone v w = raises_all_plain w (evictions at cause granted gone v)
    (evictions_plain at cause granted gone v)

pub raises_commits : (v w : Target) (deeds : List Deed) → Raises w (turn w (row_commits v deeds))
raises_commits v w [] = raises_all_plain w (row_commits v []) refl
raises_commits v w (d ∷ deeds) = raises_all_plain w (row_commits v (d ∷ deeds)) refl

-- ---- names

pub raises_acts : (w : Target) (d : Deed) → Raises w (turn w (row_acts d))
raises_acts w d =
    raises_all_plain w (row_acts d) (plain_append (grant_lines d d.reply.locks) (replies d ∷ []) (grant_lines_plain d d.reply.locks) refl)

pub raises_executes : (v : Target) (at : At) (r : Request) (changes : Bool) → Raises v (turn v (row_executes v at r changes))
raises_executes v at r true =
    let d : Deed = names_deed v at r (next_number v) [] in
    raises_then v (after v (Txn d)) (turn v (row_transacts d)) (raises_txn v d (omega arith))
    (raises_plain (after v (Txn d)) (replies d) refl)
raises_executes v at r false = raises_acts v (names_deed v at r none (locks_for v r))

pub raises_row_waits : (v w : Target) (r : Request) → Raises w (turn w (row_waits v r))
raises_row_waits v w r = by (is_read r.op) (raises_blocks v w (in_way v.granted (written_by v r))) where
  by : (reads : Bool) → Raises w (turn w (blocks v (in_way v.granted (written_by v r))))
      → Raises w (turn w (if reads then [] else blocks v (in_way v.granted (written_by v r))))
  by true rest = raises_itself w
  by false rest = rest

pub raises_pass : (again : Target → List Entry) → ((w : Target) → Raises w (turn w (again w)))
    → (v : Target) (at : At) (stood : Bool) (queue : List Request)
    → Raises v (turn v (row_pass again v at stood queue))
raises_pass again goes v at stood [] = raises_itself v
raises_pass again goes v at stood (r ∷ queue) =
    let next : Target → List Entry = λ w. row_pass again w at (stood || not (is_read r.op)) queue in
    let acts : List Entry = row_executes v at r (does_change v r) in
    let waits : List Entry = row_waits v r in
    by next (is_ready v stood r) (raises_follow v acts again (raises_executes v at r (does_change v r)) (goes (turn v acts)))
    (raises_follow v waits next (raises_row_waits v v r) (raises_pass again goes (turn v waits) at (stood || not (is_read r.op)) queue))
  where
    by : (next : Target → List Entry) (ready : Bool) → Raises v (turn v (follow v (row_executes v at r (does_change v r)) again))
        → Raises v (turn v (follow v (row_waits v r) next))
        → Raises v (turn v (if ready then follow v (row_executes v at r (does_change v r)) again else follow v (row_waits v r) next))
    by next true one two = one
    by next false one two = two

pub raises_sweep : (more : ℕ) (at : At) (v : Target) → Raises v (turn v (row_sweep more at v))
raises_sweep zero at v = raises_itself v
raises_sweep (suc more) at v = raises_pass (row_sweep more at) (λ w. raises_sweep more at w) v at false v.queue

pub raises_names_go : (at : At) (v : Target) → Raises v (turn v (names_go at v))
raises_names_go at v = raises_sweep (length v.queue + 1) at v

-- ---- objects

-- the number of the transaction is the next one
pub raises_written : (v : Target) (at : At) (r : Request) → Raises v (turn v (row_written (written v at r)))
raises_written v at r =
    let d : Deed = written v at r in
    raises_then v (after v (Txn d)) (turn v (row_written d)) (raises_txn v d (omega arith))
    (raises_plain (after v (Txn d)) (replies d) refl)

pub raises_granted : (v w : Target) (at : At) (r : Request) (l : Lock) → Raises w (turn w (row_granted v at r l))
raises_granted v w at r l = raises_all_plain w (row_granted v at r l) refl

pub raises_waiting : (v : Target) (at : At) (r : Request) (l : Lock) → Raises v (turn v (row_waiting v at r l))
raises_waiting v at r l =
    let d : Deed = answered v at r (told.Waiting l.cookie) in
    let es : List Entry = Wait l d ∷ replies d ∷ [] in
    raises_follow v es (λ w. blocks_go (locks_on l.resource w.waiting) w) (raises_all_plain v es refl)
    (raises_blocks_go (locks_on l.resource (turn v es).waiting) (turn v es) (turn v es))

pub raises_enqueue : (v : Target) (at : At) (r : Request) (l : Lock) → Raises v (turn v (row_enqueue v at r l))
raises_enqueue v at r l =
    by (has_to_wait v (locks_on l.resource v.waiting) l) (raises_waiting v at r l)
    (raises_granted v v at r (grown v (locks_on l.resource v.waiting) l)) where
      by : (waits : Bool) → Raises v (turn v (row_waiting v at r l))
          → Raises v (turn v (row_granted v at r (grown v (locks_on l.resource v.waiting) l)))
          → Raises v (turn v (if waits then row_waiting v at r l else row_granted v at r (grown v (locks_on l.resource v.waiting) l)))
      by true one two = one
      by false one two = two

pub raises_get : (v w : Target) (at : At) (r : Request) (resource : Resource) (page : ℕ) (found : Option Lock)
    → Raises w (turn w (row_get v at r resource page found))
raises_get v w at r resource page None = raises_answers w (answered v at r told.Uncovered)
raises_get v w at r resource page (Some l) = by (serves l.ask.mode PR && extents_meet (extent_of l) (page_extent page)) where
  by : (covers : Bool)
      → Raises w (turn w (if covers then row_answers (answered v at r (told.Content (content page (extent_of l) (object v resource))))
      else row_uncovered v at r))
  by true = raises_answers w (answered v at r (told.Content (content page (extent_of l) (object v resource))))
  by false = raises_answers w (answered v at r told.Uncovered)

pub raises_write : (v : Target) (at : At) (r : Request) (extent : Extent) (found : Option Lock)
    → Raises v (turn v (row_write v at r extent found))
raises_write v at r extent None = raises_answers v (answered v at r told.Uncovered)
raises_write v at r extent (Some l) = by (serves l.ask.mode PW && lies_in extent (extent_of l)) where
  by : (covers : Bool) → Raises v (turn v (if covers then row_written (written v at r) else row_uncovered v at r))
  by true = raises_written v at r
  by false = raises_answers v (answered v at r told.Uncovered)

pub raises_asks : (v w : Target) (r : Request) (resource : Resource) (l : Lock) → Raises w (turn w (row_asks v r resource l))
raises_asks v w r resource l = raises_all_plain w (row_asks v r resource l) refl

pub raises_size : (v w : Target) (at : At) (r : Request) (resource : Resource) (found : Option Lock)
    → Raises w (turn w (row_size v at r resource found))
raises_size v w at r resource None = raises_sizes w (answered v at r (told.Size (size_of v resource)))
raises_size v w at r resource (Some l) = by ((extent_of l).last == the_end) (nat_lt (extent_of l).last (size_of v resource)) where
  d : Deed
  d = answered v at r (told.Size (size_of v resource))

  by : (ends past : Bool) → Raises w (turn w (if ends then row_asks v r resource l else (if past then row_sizes d else row_locked v at r)))
  by true past = raises_asks v w r resource l
  by false true = raises_sizes w d
  by false false = raises_answers w (answered v at r told.Lock)

pub raises_objects : (v : Target) (at : At) (r : Request) (o : Op) → Raises v (turn v (objects_go v at r o))
raises_objects v at r (op.Enqueue resource mode extent) = raises_enqueue v at r (lock_for v r resource mode extent)
raises_objects v at r (op.Get resource cookie page) = raises_get v v at r resource page (lock_of r.who cookie (locks_on resource v.granted))
raises_objects v at r (op.Put resource cookie offset bytes) = raises_write v at r (put_extent offset bytes)
    (lock_of r.who cookie (locks_on resource v.granted))
raises_objects v at r (op.Cut resource cookie size) = raises_write v at r (cut_extent size)
    (lock_of r.who cookie (locks_on resource v.granted))
raises_objects v at r (op.Size resource) = raises_size v v at r resource (highest (locks_on resource v.granted))
raises_objects v at r _ = raises_itself v

-- ---- whole rows

pub raises_goes : (at : At) (r : Request) (v : Target) → Raises v (turn v (goes at r v))
raises_goes at r v = by (is_names v) where
  by : (names : Bool) → Raises v (turn v (if names then names_go at v else objects_go v at r r.op))
  by true = raises_names_go at v
  by false = raises_objects v at r r.op

pub raises_enters : (v : Target) (at : At) (r : Request) → Raises v (turn v (row_enters v at r))
raises_enters v at r = raises_follow v (Enters r ∷ []) (goes at r) (raises_plain v (Enters r) refl) (raises_goes at r (after v (Enters r)))

pub raises_kept : (v w : Target) (kept : Option Reply) → Raises w (turn w (row_kept v kept))
raises_kept v w None = raises_itself w
raises_kept v w (Some reply) = raises_all_plain w (row_kept v (Some reply)) refl

pub raises_request : (v : Target) (at : At) (r : Request) → Raises v (turn v (row_request v at r))
raises_request v at r =
    by (slot_in v.slots r.who r.tag).reply (nat_lt (slot_in v.slots r.who r.tag).taken r.xid.0)
    ((slot_in v.slots r.who r.tag).taken == r.xid.0) where
      by : (kept : Option Reply) (above same : Bool) → Raises v (turn v (by_number v at r kept above same))
      by kept true same = raises_enters v at r
      by kept false true = raises_kept v v kept
      by kept false false = raises_itself v

pub raises_goes_on : (l : Lock) (at : At) (v : Target) → Raises v (turn v (goes_on l at v))
raises_goes_on l at v = by (is_names v) where
  by : (names : Bool) → Raises v (turn v (if names then names_go at v else queue_goes l.resource v))
  by true = raises_names_go at v
  by false = raises_queue_goes l.resource v v

pub raises_cancels : (v : Target) (at : At) (found : Option Lock) → Raises v (turn v (row_cancels v at found))
raises_cancels v at None = raises_itself v
raises_cancels v at (Some l) = raises_follow v (releases at l v) (goes_on l at) (raises_releases at l v v)
    (raises_goes_on l at (turn v (releases at l v)))

pub raises_cancel : (v : Target) (at : At) (who : Who) (cookie : Cookie) → Raises v (turn v (row_cancel v at who cookie))
raises_cancel v at who cookie = raises_cancels v at (lock_of who cookie v.granted)

pub raises_where : (v : Target) (who : Who) (cookie : Cookie) → Raises v (turn v (row_where v who cookie))
raises_where v who cookie = by (lock_of who cookie v.granted) where
  said : (l : Lock) (names : Bool) → Raises v (turn v (if names then [] else grant_message v l ∷ []))
  said l true = raises_itself v
  said l false = raises_plain v (grant_message v l) refl

  by : (found : Option Lock) → Raises v (turn v (row_finds v found))
  by None = raises_itself v
  by (Some l) = said l (is_names v)

pub raises_all_go : (at : At) (v : Target) → Raises v (turn v (all_go at v))
raises_all_go at v = by (is_names v) where
  by : (names : Bool) → Raises v (turn v (if names then names_go at v else all_queues_go v))
  by true = raises_names_go at v
  by false = raises_all_queues_go v v

pub raises_expels : (at : At) (gone : List Who) (v : Target) → Raises v (turn v (expels at gone v))
raises_expels at [] v = raises_itself v
raises_expels at (who ∷ gone) v =
    let e : Entry = commits v v.log (who ∷ gone) [] in
    let w : Target = after v e in
    let es : List Entry = evictions at Expired v.granted (who ∷ gone) w in
    raises_follow v (e ∷ []) (λ x. follow x (evictions at Expired v.granted (who ∷ gone) x) (all_go at)) (raises_plain v e refl)
    (raises_follow w es (all_go at) (raises_evictions at Expired v.granted (who ∷ gone) w w) (raises_all_go at (turn w es)))

pub raises_ticked : (at : At) (v : Target) → Raises v (turn v (ticked at v))
raises_ticked at v =
    let es : List Entry = expels at (condemned v v.called) v in
    raises_follow v es (λ w. sends_again w v.called v.glimpses w.granted) (raises_expels at (condemned v v.called) v)
    (raises_sends_again (turn v es) (turn v es) v.called v.glimpses (turn v es).granted)

pub raises_tick : (at : At) (v : Target) → Raises v (turn v (follow v (Tick ∷ []) (ticked at)))
raises_tick at v = raises_follow v (Tick ∷ []) (ticked at) (raises_plain v Tick refl) (raises_ticked at (after v Tick))

pub raises_admits : (at : At) (who : Who) (v : Target) → Raises v (turn v (admits at who v))
raises_admits at who v =
    let es : List Entry = Joined who ∷ ready v who ∷ [] in
    raises_follow v es (all_go at) (raises_all_plain v es refl) (raises_all_go at (turn v es))

pub raises_row_admits : (at : At) (old : List Who) (who : Who) (v : Target) → Raises v (turn v (row_admits at old who v))
raises_row_admits at old who v =
    let e : Entry = commits v v.log old (who ∷ []) in
    let w : Target = after v e in
    let es : List Entry = evictions at Replaced v.granted old w in
    raises_follow v (e ∷ []) (λ x. follow x (evictions at Replaced v.granted old x) (admits at who)) (raises_plain v e refl)
    (raises_follow w es (admits at who) (raises_evictions at Replaced v.granted old w w) (raises_admits at who (turn w es)))

pub raises_by_life : (v : Target) (at : At) (who : Who) (found : Option Who) → Raises v (turn v (by_life v at who found))
raises_by_life v at who None = raises_row_admits at [] who v
raises_by_life v at who (Some old) = by (nat_lt who.life old.life) (who.life == old.life) where
  by : (older same : Bool) → Raises v (turn v (if older then evicted v who ∷ []
      else (if same then ready v who ∷ [] else row_admits at (old ∷ []) who v)))
  by true same = raises_plain v (evicted v who) refl
  by false true = raises_plain v (ready v who) refl
  by false false = raises_row_admits at (old ∷ []) who v

pub raises_join : (v : Target) (at : At) (who : Who) → Raises v (turn v (row_join v at who))
raises_join v at who = by (list_any (is_over who) v.removed) where
  by : (over : Bool) → Raises v (turn v (if over then evicted v who ∷ [] else by_life v at who (life_of who.client v.lives)))
  by true = raises_plain v (evicted v who) refl
  by false = raises_by_life v at who (life_of who.client v.lives)

-- ---- the close of a window

lines_plain : (o : Outcome) → all_plain (kept_lines o.kept ++ restore_lines o.locks) ≡ true
lines_plain o =
    plain_append (kept_lines o.kept) (restore_lines o.locks) (unread_plain (kept_lines o.kept) (kept_unread o.kept))
    (unread_plain (restore_lines o.locks) (restore_unread o.locks))

answers_plain : (o : Outcome) (lives : List Who) (v : Target) → all_plain (answers_all o lives v) ≡ true
answers_plain o lives v =
    let stay : List Who = filter (λ who. not (is_life who (lives_of o.gone))) lives in
    unread_plain (answers_all o lives v)
    (unread_append (evict_lines v o.gone) (ready_lines v stay ++ joined_lines v o.joins) (evict_unread v o.gone)
    (unread_append (ready_lines v stay) (joined_lines v o.joins) (ready_unread v stay) (joined_unread v o.joins)))

pub raises_closes : (v : Target) (o : Outcome) → Raises v (turn v (closes v o))
raises_closes v o =
    let es : List Entry = Close o ∷ commit_of o ∷ kept_lines o.kept ++ restore_lines o.locks in
    raises_follow v es (answers_all o v.lives) (raises_all_plain v es (lines_plain o))
    (raises_all_plain (turn v es) (answers_all o v.lives (turn v es)) (answers_plain o v.lives (turn v es)))
