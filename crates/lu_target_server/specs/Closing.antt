-- The close of a recovery window in its parts: in its middle no state is shown.
use Rattle.std.specs.Prelude.{◌≡◌, ℕ, ◌+◌, ◌*◌, ◌^◌, ◌<◌, ◌≤◌, max, if◌then◌else◌, true, ⊤, List, [], ◌∷◌, ◌++◌, map, take, IsSome}
use Rattle.lu_base.specs.declared.ids.At.{At}
use Rattle.lu_base.specs.declared.ids.Txn.{Txn}
use Rattle.lu_base.specs.declared.ids.Who.{Who}
use Rattle.lu_base.specs.declared.locks.Lock.{Lock}
use Rattle.lu_spec_machine.specs.Footprint.{Every}
use Rattle.lu_msg.specs.Limits.{tag_count}
use Rattle.lu_msg.specs.declared.messages.Message.TheVariants as message
use Rattle.lu_msg.specs.declared.commits.Batch.{Batch}
use Rattle.lu_trace.specs.Turns.{Making}
use Rattle.lu_spec_entries.specs.Carried.{Deed}
use Rattle.lu_spec_entries.specs.Words.{Entry, Close, Kept, Restore, Evict, Joined}
use Rattle.lu_txn.specs.Slots.{slot_of}
use Rattle.lu_spec_target.specs.Lives.{is_life, lives_of as gone_of}
use Rattle.lu_spec_target.specs.Phase.{first_of}
use Rattle.lu_spec_target.specs.Replies.{to_life}
use Rattle.lu_spec_target.specs.Windows.{Replayed, Settled, settled}
use Rattle.lu_spec_target.specs.Stored.{batch_of, transaction_of}
use Rattle.lu_spec_target.specs.Outcomes.{window_of, outcome_by, outcome_of, restored}
use Rattle.lu_spec_target.specs.Recovery.{commit_of, kept_lines, restore_lines}
use Rattle.lu_spec_target.specs.States.{Target, turn}
use Rattle.lu_target_refines.specs.Batches.{IsClosing}
use Rattle.lu_target_refines.specs.Contents.{transaction_again}
use Rattle.lu_target_refines.specs.Journals.{AreRising}
use Rattle.lu_target_refines.specs.Windows.{settled_of}
use Rattle.lu_window.specs.States.{State}
use Rattle.lu_window.specs.declared.outcomes.Eviction.{Eviction}
use Rattle.lu_window.specs.declared.outcomes.Outcome.{Outcome}
use Rattle.lu_target_store.specs.Stores as stores
use Rattle.lu_target_store.specs.Stores.{StoreState, Redoes, IsClose}
use Rattle.lu_target_redo.specs.Shown as redo
use Rattle.lu_target_redo.specs.Shown.{AreRepeatable}
use Rattle.lu_spec_entries.specs.Given.{giving}
use Rattle.lu_target_server.specs.Servers.{ServerState}
use Rattle.lu_target_server.specs.Recovering.{Gathers}

-- ---- lines, item by item

abbrev pub lines : {A : Type 0} → (A → List Entry) → List A → List Entry
lines f [] = []
lines f (x ∷ xs) = f x ++ lines f xs

abbrev pub kept_line : Txn → List Entry
kept_line number = Kept number ∷ []

abbrev pub restore_line : Lock → List Entry
restore_line l = Restore l ∷ []

abbrev pub evict_line : ℕ → Eviction → List Entry
evict_line boot e = Evict e.who e.cause ∷ to_life e.who (message.Evicted e.who boot) ∷ []

abbrev pub ready_line : (boot committed : ℕ) → Who → Entry
ready_line boot committed who = to_life who (message.Ready who boot (record { 0 = committed }))

abbrev pub stays_line : List Who → (boot committed : ℕ) → Who → List Entry
stays_line gone boot committed who = if is_life who gone then [] else ready_line boot committed who ∷ []

abbrev pub joined_line : (boot committed : ℕ) → Who → List Entry
joined_line boot committed who = Joined who ∷ ready_line boot committed who ∷ []

-- ---- what the window decided

-- some window of a target that gathers was closed so
pub record Settles (s : ServerState) (o : Outcome) (v : Target) : Type 0 where
  pub window : State
  pub gathers : Gathers s window v
  pub settled : settled_of o ≡ settled (window_of v)

-- The kept replays may be performed again: they rise from above all that stands on the disk.
pub record MayPerform (kept : List Replayed) (gone : List Who) (s : ServerState) (v : Target) : Type 0 where
  pub store : stores.Recovers s.store v
  pub boot : v.boot ≡ s.boot
  pub contents : redo.Shows s.kind v.setting.osts (max 1 v.disk.committed) s.contents v.disk.contents
  pub keeps : kept ≡ (settled (window_of v)).kept
  pub leaves : gone ≡ gone_of (settled (window_of v)).gone
  pub rising : AreRising (max 1 v.disk.committed) (map {A = Replayed} transaction_again kept)
  pub repeatable : AreRepeatable s.kind (map {A = Replayed} transaction_again kept)

-- Deeds that may be the journal's again: their numbers rise from above this one, up to that one, and their lives have slots.
abbrev pub MayRedo : List Who → (most n : ℕ) → List Deed → Type 0
MayRedo lives most n [] = ⊤
MayRedo lives most n (d ∷ deeds) =
    ((is_life d.reply.who lives ≡ true) × (d.tag < tag_count) × (n < d.reply.txn.0) × (d.reply.txn.0 ≤ most))
    × MayRedo lives most d.reply.txn.0 deeds

abbrev pub CanRedo : List Deed → ServerState → Target → Type 0
CanRedo deeds s v = stores.Recovers s.store v × MayRedo v.lives (first_of v.boot) v.committed deeds

-- what the store wants of the next one
pub record MayBeNext (d : Deed) (s : StoreState) : Type 0 where
  pub slot : IsSome (slot_of d.reply.who s.journal.slots)
  pub tag : d.tag < tag_count
  pub above : s.journal.newest < d.reply.txn.0
  pub boot : d.reply.txn.0 < (s.journal.boot + 1) * 2 ^ 32

-- the numbers of deeds
abbrev pub numbers_of : List Deed → List Txn
numbers_of deeds = map {A = Deed} {B = Txn} (λ d. d.reply.txn) deeds

-- ---- once it is committed

-- the state after the close and its commit
abbrev pub closed_at : At → Target → Target
closed_at at v = let o = outcome_of v at in turn v (Close o ∷ commit_of o ∷ [])

-- the lives that lose their slots
abbrev pub gone_in : List Eviction → List Who
gone_in evicted = map {A = Eviction} {B = Who} (λ e. e.who) evicted

-- what is told once the commit of the close is
abbrev pub close_lines : (boot committed : ℕ) → (lives gone : List Who) → List Eviction → List Lock → List Who → List Entry
close_lines boot committed lives gone evicted locks joins =
    lines restore_line (restored [] locks) ++ (lines (evict_line boot) evicted
    ++ (lines (stays_line gone boot committed) lives ++ lines (joined_line boot committed) joins))

-- These replays are what the window of a target that gathers decides to keep, these lives leave and these join.
pub record Decides (kept : List Replayed) (gone joins : List Who) (s : ServerState) (v : Target) : Type 0 where
  pub window : State
  pub gathers : Gathers s window v
  pub keeps : kept ≡ (settled (window_of v)).kept
  pub leaves : gone ≡ gone_of (settled (window_of v)).gone
  pub comes : joins ≡ (settled (window_of v)).joins

-- The kept replays stand again, and are on the disk; that was told.
pub record IsKept (shown : Target → Type 0) (gone joins : List Who) (old new : ServerState) (before after : Making) : Type 0 where
  pub gives : (v : Target) → shown v → after ≡ giving before (let o = outcome_of v before.at in Close o ∷ commit_of o ∷ kept_lines o.kept)
  pub store : (v : Target) → shown v → stores.Serves new.store (closed_at before.at v)
  pub contents : (v : Target) → shown v → redo.Shows new.kind v.setting.osts (first_of v.boot) new.contents
      (outcome_of v before.at).disk.contents
  pub batches : (v : Target) → shown v → new.store.batches ≡ old.store.batches ++ batch_of (outcome_of v before.at).kept gone joins ∷ []
  pub same : new ≡ record old { store = new.store; contents = new.contents }

-- The disk has what it had, and maybe this batch.
abbrev pub HasSome : (shown : Target → Type 0) → (batch : Target → Batch) → (old new : ServerState) → Type 0
HasSome shown batch old new = (v : Target) → shown v → (n : ℕ) × (new.store.batches ≡ old.store.batches ++ take n (batch v ∷ []))

-- what each life with a slot is told at a boot
abbrev pub up_line : ℕ → Who → List Entry
up_line boot who = to_life who (message.Up boot) ∷ []

-- ---- the commit of a close

-- It is on the disk, and was told.
pub record IsCommitted (gone joins : List Who) (old new : ServerState) (before after : Making) : Type 0 where
  pub to : Txn
  pub store : IsClose gone joins to old.store new.store
  pub told : (v : Target) (deeds : List Deed) (s : Settled) → Redoes deeds old.store v
      → AreRising v.committed (map {A = Deed} transaction_of deeds)
      → after ≡ giving before (commit_of (outcome_by v deeds s) ∷ [])
  pub same : new ≡ record old { store = new.store }

-- It may be on the disk.
abbrev pub MayBeCommitted : (gone joins : List Who) → (old new : StoreState) → Type 0
MayBeCommitted gone joins old new =
    (v : Target) (deeds : List Deed) → Redoes deeds old v → IsClosing v deeds gone joins → (n : ℕ)
    × (new.batches ≡ old.batches ++ take n (batch_of deeds gone joins ∷ []))
