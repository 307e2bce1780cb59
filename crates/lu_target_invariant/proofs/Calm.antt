-- Entries that take no request, make no transaction, and ask the disk for nothing: log, boot and close stay, and of the
-- requests that wait none comes.
use Rattle.std.proofs.Common.{◌≡◌, ◌&&◌, Bool, true, false, List, [], ◌∷◌, ◌++◌, Option, Some, None, ℕ, not, refl, sym, ◌∙◌}
use Rattle.lu_base.specs.declared.ids.At.{At}
use Rattle.lu_base.specs.declared.ids.Who.{Who}
use Rattle.lu_base.specs.declared.locks.Cause.{Cause}
use Rattle.lu_base.specs.declared.locks.Lock.{Lock}
use Rattle.lu_spec_machine.specs.Footprint.{Every}
use Rattle.lu_msg.specs.declared.messages.Request.{Request}
use Rattle.lu_msg.specs.declared.messages.SizeReport.{SizeReport}
use Rattle.lu_spec_entries.specs.Carried.{Deed, Glimpse}
use Rattle.lu_spec_entries.specs.Words.{Entry, Act, Txn, Grant, Wait, Commit, Boot, Close, Evict, Enters, Answers}
use Rattle.lu_spec_target.specs.Disks.{batches_of}
use Rattle.lu_spec_target.specs.Locks.{is_request_of, queue_after}
use Rattle.lu_spec_target.specs.States.{Target, is_serving, after, turn}
use Rattle.lu_spec_target.specs.Glimpses.{row_holder, row_report, glimpses_of, glimpses_end}
use Rattle.lu_spec_target.specs.Names.{grant_lines}
use Rattle.lu_spec_target.specs.Requests.{releases}
use Rattle.lu_spec_target.specs.Leaving.{evicted, locks_of, all_released, evictions}
use Rattle.lu_target_refines.specs.Unread.{is_unread, all_unread}
use Rattle.lu_target_refines.proofs.Lists.{every_filter}
use Rattle.lu_target_refines.proofs.Slots.{never, both}

abbrev pub is_calm : Entry → Bool
is_calm (Enters r) = false
is_calm (Txn d) = false
is_calm (Commit to batch) = false
is_calm (Boot boot disk) = false
is_calm (Close o) = false
is_calm _ = true

abbrev pub all_calm : List Entry → Bool
all_calm [] = true
all_calm (e ∷ es) = is_calm e && all_calm es

pub calm_append : (es more : List Entry) → all_calm es ≡ true → all_calm more ≡ true → all_calm (es ++ more) ≡ true
calm_append [] more one two = two
calm_append (e ∷ es) more one two =
    let parts = both (is_calm e) (all_calm es) one in
    rw parts.0 (calm_append es more parts.1 two)

-- ---- what they leave

pub calm_batches : (es : List Entry) → all_calm es ≡ true → batches_of es ≡ []
calm_batches [] calm = refl
calm_batches (Commit to batch ∷ es) calm = absurd (never (sym calm))
calm_batches (Boot boot disk ∷ es) calm = absurd (never (sym calm))
calm_batches (e ∷ es) calm = calm_batches es (both (is_calm e) (all_calm es) calm).1

log_stays : (v : Target) (e : Entry) → is_calm e ≡ true → (after v e).log ≡ v.log
log_stays v (Txn d) calm = absurd (never (sym calm))
log_stays v (Commit to batch) calm = absurd (never (sym calm))
log_stays v (Close o) calm = absurd (never (sym calm))
log_stays v _ calm = refl

pub calm_log : (v : Target) (es : List Entry) → all_calm es ≡ true → (turn v es).log ≡ v.log
calm_log v [] calm = refl
calm_log v (e ∷ es) calm =
    let parts = both (is_calm e) (all_calm es) calm in
    calm_log (after v e) es parts.1 ∙ log_stays v e parts.0

serving_stays : (v : Target) (e : Entry) → is_calm e ≡ true → is_serving (after v e) ≡ is_serving v
serving_stays v (Boot boot disk) calm = absurd (never (sym calm))
serving_stays v (Close o) calm = absurd (never (sym calm))
serving_stays v _ calm = refl

pub calm_serving : (v : Target) (es : List Entry) → all_calm es ≡ true → is_serving (turn v es) ≡ is_serving v
calm_serving v [] calm = refl
calm_serving v (e ∷ es) calm =
    let parts = both (is_calm e) (all_calm es) calm in
    calm_serving (after v e) es parts.1 ∙ serving_stays v e parts.0

queue_left : (P : Request → Type 0) (queue : List Request) (e : Entry) → is_calm e ≡ true → Every P queue → Every P (queue_after queue e)
queue_left P queue (Enters r) calm all = absurd (never (sym calm))
queue_left P queue (Act d) calm all = every_filter P (λ r. not (is_request_of d r)) queue all
queue_left P queue (Txn d) calm all = absurd (never (sym calm))
queue_left P queue (Grant lock None) calm all = all
queue_left P queue (Grant lock (Some d)) calm all = every_filter P (λ r. not (is_request_of d r)) queue all
queue_left P queue (Wait lock d) calm all = every_filter P (λ r. not (is_request_of d r)) queue all
queue_left P queue (Answers d) calm all = every_filter P (λ r. not (is_request_of d r)) queue all
queue_left P queue (Commit to batch) calm all = absurd (never (sym calm))
queue_left P queue (Close o) calm all = absurd (never (sym calm))
queue_left P queue _ calm all = all

pub calm_queue : (P : Request → Type 0) (v : Target) (es : List Entry) → all_calm es ≡ true → Every P v.queue → Every P (turn v es).queue
calm_queue P v [] calm all = all
calm_queue P v (e ∷ es) calm all =
    let parts = both (is_calm e) (all_calm es) calm in
    calm_queue P (after v e) es parts.1 (queue_left P v.queue e parts.0 all)

-- ---- rows of such entries

-- what journal and disk don't read is calm
unread_is_calm : (e : Entry) → is_unread e ≡ true → is_calm e ≡ true
unread_is_calm (Enters r) unread = unread
unread_is_calm (Txn d) unread = unread
unread_is_calm (Commit to batch) unread = unread
unread_is_calm (Boot boot disk) unread = unread
unread_is_calm (Close o) unread = unread
unread_is_calm _ unread = refl

pub unread_calm : (es : List Entry) → all_unread es ≡ true → all_calm es ≡ true
unread_calm [] unread = refl
unread_calm (e ∷ es) unread =
    let parts = both (is_unread e) (all_unread es) unread in
    rw (unread_is_calm e parts.0) (unread_calm es parts.1)

pub grant_lines_calm : (d : Deed) (locks : List Lock) → all_calm (grant_lines d locks) ≡ true
grant_lines_calm d [] = refl
grant_lines_calm d (l ∷ locks) = grant_lines_calm d locks

holder_calm : (v : Target) (at : At) (m : SizeReport) (g : Glimpse) (size : Option ℕ) → all_calm (row_holder v at m g size) ≡ true
holder_calm v at m g None = refl
holder_calm v at m g (Some size) = refl

pub report_calm : (v : Target) (at : At) (m : SizeReport) (found : Option Glimpse) → all_calm (row_report v at m found) ≡ true
report_calm v at m None = refl
report_calm v at m (Some g) = holder_calm v at m g m.size

glimpses_end_calm : (at : At) (gs : List Glimpse) (v : Target) → all_calm (glimpses_end at gs v) ≡ true
glimpses_end_calm at [] v = refl
glimpses_end_calm at (g ∷ gs) v = glimpses_end_calm at gs v

pub releases_calm : (at : At) (l : Lock) (v : Target) → all_calm (releases at l v) ≡ true
releases_calm at l v = glimpses_end_calm at (glimpses_of l v.glimpses) v

all_released_calm : (at : At) (locks : List Lock) (v : Target) → all_calm (all_released at locks v) ≡ true
all_released_calm at [] v = refl
all_released_calm at (l ∷ locks) v =
    calm_append (releases at l v) (all_released at locks (turn v (releases at l v))) (releases_calm at l v)
    (all_released_calm at locks (turn v (releases at l v)))

pub evictions_calm : (at : At) (cause : Cause) (granted : List Lock) (gone : List Who) (v : Target)
    → all_calm (evictions at cause granted gone v) ≡ true
evictions_calm at cause granted [] v = refl
evictions_calm at cause granted (who ∷ gone) v =
    let es : List Entry = Evict who cause ∷ evicted v who ∷ all_released at (locks_of who granted) v in
    calm_append es (evictions at cause granted gone (turn v es)) (all_released_calm at (locks_of who granted) v)
    (evictions_calm at cause granted gone (turn v es))
