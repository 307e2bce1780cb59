-- Turns in which the disk fails: rows that ask it for nothing, what stands before the line of that, and the batches of rows.
use Rattle.std.proofs.Common.{◌≡◌, ℕ, zero, suc, ◌+◌, ◌||◌, not, Bool, true, false, List, [], ◌∷◌, ◌++◌, filter, Some, refl, sym, ap, ◌∙◌}
use Rattle.std.proofs.Common.{arith}
use Rattle.std.specs.Prelude.{if◌then◌else◌, length}
use Rattle.lu_base.specs.declared.ids.At.{At}
use Rattle.lu_base.specs.declared.ids.Who.{Who}
use Rattle.lu_base.specs.declared.locks.Cause.{Cause}
use Rattle.lu_base.specs.declared.locks.Cause.TheVariants.{Expired, Replaced}
use Rattle.lu_base.specs.declared.locks.Lock.{Lock}
use Rattle.lu_msg.specs.declared.commits.Batch.{Batch}
use Rattle.lu_msg.specs.declared.messages.Request.{Request}
use Rattle.lu_spec_entries.specs.Carried.{Deed, Glimpse, Outcome}
use Rattle.lu_spec_entries.specs.Words.{Entry, Tick, Grant, Commit, Boot, Close, Evict, Joined, Fail}
use Rattle.lu_spec_target.specs.Disks.{boot_batch, calls_of, calls, failing, batches_of}
use Rattle.lu_spec_target.specs.Lives.{is_life, lives_of}
use Rattle.lu_spec_target.specs.Stored.{batch_of}
use Rattle.lu_spec_target.specs.States.{Target, is_names, after, turn, follow}
use Rattle.lu_spec_target.specs.Replies.{none, replies, blocks}
use Rattle.lu_spec_target.specs.Names.{is_read, does_change, in_way, written_by, is_ready, locks_for, names_deed, grant_lines, row_executes}
use Rattle.lu_spec_target.specs.Names.{row_waits, row_pass, row_sweep, names_go}
use Rattle.lu_spec_target.specs.Queues.{resources_of, all_queues_go}
use Rattle.lu_spec_target.specs.Glimpses.{glimpses_of, glimpses_end}
use Rattle.lu_spec_target.specs.Requests.{releases}
use Rattle.lu_spec_target.specs.Leaving.{commits, evicted, ready, locks_of, all_released, evictions, all_go, condemned, expels, sends_again}
use Rattle.lu_spec_target.specs.Leaving.{ticked, admits, row_admits}
use Rattle.lu_spec_target.specs.Recovery.{kept_lines, restore_lines, evict_lines, ready_lines, joined_lines, commit_of, answers_all, closes}
use Rattle.lu_spec_target.specs.Rows.{row_commits}
use Rattle.lu_target_refines.specs.Unread.{is_unread, all_unread}
use Rattle.lu_target_refines.proofs.Slots.{never, both}
use Rattle.lu_target_refines.proofs.Quiet.{unread_append, kept_unread, restore_unread, evict_unread, ready_unread, joined_unread}
use Rattle.lu_target_refines.proofs.Quiet.{blocks_unread, queues_go_unread, sends_again_unread}

-- ---- lists of entries, one after the other

pub calls_append : (es more : List Entry) → calls (es ++ more) ≡ calls es + calls more
calls_append [] more = omega arith
calls_append (e ∷ es) more = let rest = calls_append es more in omega (arith, rest)

pub no_calls_append : (es more : List Entry) → calls es ≡ 0 → calls more ≡ 0 → calls (es ++ more) ≡ 0
no_calls_append es more one two = let all = calls_append es more in omega (arith, all, one, two)

pub batches_append : (es more : List Entry) → batches_of (es ++ more) ≡ batches_of es ++ batches_of more
batches_append [] more = refl
batches_append (Commit to batch ∷ es) more = ap (λ batches. batch ∷ batches) (batches_append es more)
batches_append (Boot boot disk ∷ es) more = ap (λ batches. boot_batch boot ∷ batches) (batches_append es more)
batches_append (_ ∷ es) more = batches_append es more

-- what asks the disk for nothing has no batch, and doesn't fail
no_more : (n : ℕ) → 0 + n ≡ 0 → n ≡ 0
no_more n e = omega (arith, e)

some_call : {P : Type 0} (m n : ℕ) → suc m + n ≡ 0 → P
some_call m n e = absurd (omega (arith, e))

pub no_batches : (es : List Entry) → calls es ≡ 0 → batches_of es ≡ []
no_batches [] calm = refl
no_batches (Commit to batch ∷ es) calm = some_call 0 (calls es) calm
no_batches (Boot boot disk ∷ es) calm = some_call 1 (calls es) calm
no_batches (_ ∷ es) calm = no_batches es (no_more (calls es) calm)

pub failing_none : (es : List Entry) (n : ℕ) → calls es ≡ 0 → failing es n ≡ es
failing_none [] n calm = refl
failing_none (Commit to batch ∷ es) n calm = some_call 0 (calls es) calm
failing_none (Boot boot disk ∷ es) n calm = some_call 1 (calls es) calm
failing_none (e ∷ es) n calm = ap (λ rest. e ∷ rest) (failing_none es n (no_more (calls es) calm))

-- the first call fails
pub failing_first : (es : List Entry) (to : ℕ) (batch : Batch) (rest : List Entry) → calls es ≡ 0 → failing (es ++ Commit to batch ∷ rest) 0
    ≡ es ++ Fail ∷ []
failing_first [] to batch rest calm = refl
failing_first (Commit m b ∷ es) to batch rest calm = some_call 0 (calls es) calm
failing_first (Boot boot disk ∷ es) to batch rest calm = some_call 1 (calls es) calm
failing_first (e ∷ es) to batch rest calm = ap (λ more. e ∷ more) (failing_first es to batch rest (no_more (calls es) calm))

-- and is the only one
pub batches_first : (es : List Entry) (to : ℕ) (batch : Batch) (rest : List Entry) → calls es ≡ 0 → calls rest ≡ 0
    → batches_of (es ++ Commit to batch ∷ rest) ≡ batch ∷ []
batches_first es to batch rest one two =
    batches_append es (Commit to batch ∷ rest) ∙ ap (λ batches. batches ++ batch ∷ batches_of rest) (no_batches es one)
    ∙ ap (λ batches. batch ∷ batches) (no_batches rest two)

-- ---- rows that ask the disk for nothing

no_call_unread : (e : Entry) → is_unread e ≡ true → calls_of e ≡ 0
no_call_unread (Commit to batch) unread = absurd (never (sym unread))
no_call_unread (Boot boot disk) unread = absurd (never (sym unread))
no_call_unread _ unread = refl

pub calls_unread : (es : List Entry) → all_unread es ≡ true → calls es ≡ 0
calls_unread [] unread = refl
calls_unread (e ∷ es) unread =
    let parts = both (is_unread e) (all_unread es) unread in
    let one = no_call_unread e parts.0 in
    let rest = calls_unread es parts.1 in
    omega (arith, one, rest)

calls_behind : (e : Entry) (es : List Entry) → calls_of e ≡ 0 → calls es ≡ 0 → calls (e ∷ es) ≡ 0
calls_behind e es one two = omega (arith, one, two)

pub calls_grant_lines : (d : Deed) (locks : List Lock) → calls (grant_lines d locks) ≡ 0
calls_grant_lines d [] = refl
calls_grant_lines d (l ∷ locks) = calls_behind (Grant l (Some d)) (grant_lines d locks) refl (calls_grant_lines d locks)

pub calls_glimpses_end : (at : At) (gs : List Glimpse) (v : Target) → calls (glimpses_end at gs v) ≡ 0
calls_glimpses_end at [] v = refl
calls_glimpses_end at (g ∷ gs) v = let rest = calls_glimpses_end at gs v in omega (arith, rest)

pub calls_releases : (at : At) (l : Lock) (v : Target) → calls (releases at l v) ≡ 0
calls_releases at l v = let rest = calls_glimpses_end at (glimpses_of l v.glimpses) v in omega (arith, rest)

pub calls_all_released : (at : At) (locks : List Lock) (v : Target) → calls (all_released at locks v) ≡ 0
calls_all_released at [] v = refl
calls_all_released at (l ∷ locks) v =
    no_calls_append (releases at l v) (all_released at locks (turn v (releases at l v))) (calls_releases at l v)
    (calls_all_released at locks (turn v (releases at l v)))

pub calls_evictions : (at : At) (cause : Cause) (granted : List Lock) (gone : List Who) (v : Target)
    → calls (evictions at cause granted gone v) ≡ 0
calls_evictions at cause granted [] v = refl
calls_evictions at cause granted (who ∷ gone) v =
    let es : List Entry = Evict who cause ∷ evicted v who ∷ all_released at (locks_of who granted) v in
    let released = calls_all_released at (locks_of who granted) v in
    no_calls_append es (evictions at cause granted gone (turn v es)) (omega (arith, released))
    (calls_evictions at cause granted gone (turn v es))

pub calls_executes : (v : Target) (at : At) (r : Request) (changes : Bool) → calls (row_executes v at r changes) ≡ 0
calls_executes v at r true = refl
calls_executes v at r false =
    let d : Deed = names_deed v at r none (locks_for v r) in
    let lines = no_calls_append (grant_lines d d.reply.locks) (replies d ∷ []) (calls_grant_lines d d.reply.locks) refl in
    omega (arith, lines)

pub calls_row_waits : (v : Target) (r : Request) → calls (row_waits v r) ≡ 0
calls_row_waits v r = by (is_read r.op) (calls_unread (blocks v (in_way v.granted (written_by v r)))
    (blocks_unread v (in_way v.granted (written_by v r)))) where
      by : (reads : Bool) → calls (blocks v (in_way v.granted (written_by v r))) ≡ 0
          → calls (if reads then [] else blocks v (in_way v.granted (written_by v r))) ≡ 0
      by true rest = refl
      by false rest = rest

pub calls_pass : (again : Target → List Entry) → ((w : Target) → calls (again w) ≡ 0)
    → (v : Target) (at : At) (stood : Bool) (queue : List Request)
    → calls (row_pass again v at stood queue) ≡ 0
calls_pass again goes v at stood [] = refl
calls_pass again goes v at stood (r ∷ queue) =
    let next : Target → List Entry = λ w. row_pass again w at (stood || not (is_read r.op)) queue in
    let acts : List Entry = row_executes v at r (does_change v r) in
    let waits : List Entry = row_waits v r in
    by next (is_ready v stood r) (no_calls_append acts (again (turn v acts)) (calls_executes v at r (does_change v r)) (goes (turn v acts)))
    (no_calls_append waits (next (turn v waits)) (calls_row_waits v r)
    (calls_pass again goes (turn v waits) at (stood || not (is_read r.op)) queue))
  where
    by : (next : Target → List Entry) (ready : Bool) → calls (follow v (row_executes v at r (does_change v r)) again) ≡ 0
        → calls (follow v (row_waits v r) next) ≡ 0
        → calls (if ready then follow v (row_executes v at r (does_change v r)) again else follow v (row_waits v r) next) ≡ 0
    by next true one two = one
    by next false one two = two

pub calls_sweep : (more : ℕ) (at : At) (v : Target) → calls (row_sweep more at v) ≡ 0
calls_sweep zero at v = refl
calls_sweep (suc more) at v = calls_pass (row_sweep more at) (λ w. calls_sweep more at w) v at false v.queue

pub calls_names_go : (at : At) (v : Target) → calls (names_go at v) ≡ 0
calls_names_go at v = calls_sweep (length v.queue + 1) at v

pub calls_all_queues_go : (v : Target) → calls (all_queues_go v) ≡ 0
calls_all_queues_go v = calls_unread (all_queues_go v) (queues_go_unread (resources_of v.waiting) v)

pub calls_all_go : (at : At) (v : Target) → calls (all_go at v) ≡ 0
calls_all_go at v = by (is_names v) where
  by : (names : Bool) → calls (if names then names_go at v else all_queues_go v) ≡ 0
  by true = calls_names_go at v
  by false = calls_all_queues_go v

pub calls_admits : (at : At) (who : Who) (v : Target) → calls (admits at who v) ≡ 0
calls_admits at who v =
    let es : List Entry = Joined who ∷ ready v who ∷ [] in
    no_calls_append es (all_go at (turn v es)) refl (calls_all_go at (turn v es))

-- what comes behind the commit of a row in which lives leave
pub calls_left : (at : At) (cause : Cause) (granted : List Lock) (gone : List Who) (next : Target → List Entry) (w : Target)
    → ((x : Target) → calls (next x) ≡ 0) → calls (follow w (evictions at cause granted gone w) next) ≡ 0
calls_left at cause granted gone next w goes =
    no_calls_append (evictions at cause granted gone w) (next (turn w (evictions at cause granted gone w)))
    (calls_evictions at cause granted gone w)
    (goes (turn w (evictions at cause granted gone w)))

-- ---- commits alone

pub failing_commits : (v : Target) (d : Deed) (deeds : List Deed) → failing (row_commits v (d ∷ deeds)) 0 ≡ Fail ∷ []
failing_commits v d deeds = refl

pub batches_commits : (v : Target) (d : Deed) (deeds : List Deed) → batches_of (row_commits v (d ∷ deeds)) ≡ batch_of (d ∷ deeds) [] [] ∷ []
batches_commits v d deeds = refl

-- ---- ticks

-- lives leave by it
pub failing_expels : (at : At) (who : Who) (gone : List Who) (v : Target) → failing (expels at (who ∷ gone) v) 0 ≡ Fail ∷ []
failing_expels at who gone v = refl

pub batches_expels : (at : At) (who : Who) (gone : List Who) (v : Target) → batches_of (expels at (who ∷ gone) v)
    ≡ batch_of v.log (who ∷ gone) [] ∷ []
batches_expels at who gone v =
    let w : Target = after v (commits v v.log (who ∷ gone) []) in
    ap (λ batches. batch_of v.log (who ∷ gone) [] ∷ batches)
    (no_batches (follow w (evictions at Expired v.granted (who ∷ gone) w) (all_go at))
    (calls_left at Expired v.granted (who ∷ gone) (all_go at) w (calls_all_go at)))

calls_again : (at : At) (v w : Target) → calls (sends_again w v.called v.glimpses w.granted) ≡ 0
calls_again at v w = calls_unread (sends_again w v.called v.glimpses w.granted) (sends_again_unread w v.called v.glimpses w.granted)

pub batches_ticked : (at : At) (v : Target) → batches_of (ticked at v) ≡ batches_of (expels at (condemned v v.called) v)
batches_ticked at v =
    let es : List Entry = expels at (condemned v v.called) v in
    let again : List Entry = sends_again (turn v es) v.called v.glimpses (turn v es).granted in
    batches_append es again ∙ ap (λ batches. batches_of es ++ batches) (no_batches again (calls_again at v (turn v es)))
    ∙ append_none (batches_of es)
  where
    append_none : (batches : List Batch) → batches ++ [] ≡ batches
    append_none [] = refl
    append_none (batch ∷ batches) = ap (λ more. batch ∷ more) (append_none batches)

pub failing_ticked : (at : At) (v : Target) (who : Who) (gone : List Who) → condemned v v.called ≡ who ∷ gone → failing (ticked at v) 0
    ≡ Fail ∷ []
failing_ticked at v who gone is = ap (λ lives. failing (follow v (expels at lives v) (λ w. sends_again w v.called v.glimpses w.granted)) 0)
    is

-- its line stands before
pub failing_tick : (at : At) (v : Target) → failing (follow v (Tick ∷ []) (ticked at)) 0 ≡ Tick ∷ failing (ticked at (after v Tick)) 0
failing_tick at v = refl

pub batches_tick : (at : At) (v : Target) → batches_of (follow v (Tick ∷ []) (ticked at)) ≡ batches_of (ticked at (after v Tick))
batches_tick at v = refl

-- ---- joins

pub failing_admits : (at : At) (old : List Who) (who : Who) (v : Target) → failing (row_admits at old who v) 0 ≡ Fail ∷ []
failing_admits at old who v = refl

pub batches_admits : (at : At) (old : List Who) (who : Who) (v : Target) → batches_of (row_admits at old who v)
    ≡ batch_of v.log old (who ∷ []) ∷ []
batches_admits at old who v =
    let w : Target = after v (commits v v.log old (who ∷ [])) in
    ap (λ batches. batch_of v.log old (who ∷ []) ∷ batches)
    (no_batches (follow w (evictions at Replaced v.granted old w) (admits at who))
    (calls_left at Replaced v.granted old (admits at who) w (calls_admits at who)))

-- ---- the close of a window

-- its line stands before the commit, and all else behind it
pub failing_closes : (v : Target) (o : Outcome) → failing (closes v o) 0 ≡ Close o ∷ Fail ∷ []
failing_closes v o = refl

calls_answers : (o : Outcome) (lives : List Who) (v : Target) → calls (answers_all o lives v) ≡ 0
calls_answers o lives v =
    let stay : List Who = filter (λ who. not (is_life who (lives_of o.gone))) lives in
    calls_unread (answers_all o lives v)
    (unread_append (evict_lines v o.gone) (ready_lines v stay ++ joined_lines v o.joins) (evict_unread v o.gone)
    (unread_append (ready_lines v stay) (joined_lines v o.joins) (ready_unread v stay) (joined_unread v o.joins)))

pub batches_closes : (v : Target) (o : Outcome) → batches_of (closes v o) ≡ batch_of o.kept (lives_of o.gone) o.joins ∷ []
batches_closes v o =
    let lines : List Entry = kept_lines o.kept ++ restore_lines o.locks in
    let es : List Entry = Close o ∷ commit_of o ∷ lines in
    let shown : List Entry = answers_all o v.lives (turn v es) in
    let calm : calls lines ≡ 0 = calls_unread lines (unread_append (kept_lines o.kept) (restore_lines o.locks) (kept_unread o.kept)
    (restore_unread o.locks)) in
    ap (λ batches. batch_of o.kept (lives_of o.gone) o.joins ∷ batches)
    (no_batches (lines ++ shown) (no_calls_append lines shown calm (calls_answers o v.lives (turn v es))))
