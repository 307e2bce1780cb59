-- What a target has taken and answered, as its calls see it and as the rows read it.
use Rattle.std.specs.Prelude.{◌≡◌, ◌≢◌, ℕ, ◌==◌, nat_lt, true, false, List, [], ◌∷◌, ◌++◌, Option, Some, None, IsSome}
use Rattle.lu_base.specs.declared.ids.Txn.{Txn}
use Rattle.lu_base.specs.declared.ids.Who.{Who}
use Rattle.lu_base.specs.declared.ids.Xid.{Xid}
use Rattle.lu_base.specs.declared.locks.Lock.{Lock}
use Rattle.lu_msg.specs.declared.commits.Batch.{Batch}
use Rattle.lu_msg.specs.declared.messages.Reply.{Reply}
use Rattle.lu_spec_entries.specs.Carried.{Slot, Deed}
use Rattle.lu_spec_entries.specs.Words.{Act, Answers, Grant, Wait, Close}
use Rattle.lu_txn.specs.Slots.{lives_of}
use Rattle.lu_txn.specs.Journals.{JournalState, IsSound}
use Rattle.lu_spec_target.specs.Lives.{is_life, without_lives, lives_of as gone_of}
use Rattle.lu_spec_target.specs.Stored.{batch_of}
use Rattle.lu_spec_target.specs.Leaving.{commits, last_of}
use Rattle.lu_spec_target.specs.Rows.{first_deeds}
use Rattle.lu_spec_target.specs.Windows.{Settled}
use Rattle.lu_spec_target.specs.Outcomes.{outcome_by}
use Rattle.lu_spec_target.specs.Recovery.{commit_of}
use Rattle.lu_target_refines.specs.Batches.{AreOnce, AreAmong, AreApart, all_appended, IsClosing}
use Rattle.lu_spec_target.specs.States.{Target, after, turn}
use Rattle.lu_target_store.specs.Taken.{Entries, taken_of}
use Rattle.lu_target_refines.specs.Journals.{IsUntaken, ShowsJournal, ShowsDisk, ShowsWindow}
use Rattle.lu_target_store.specs.declared.store.Look.{Look}
use Rattle.lu_target_store.specs.declared.store.Look.TheVariants as look

-- The journal; the newest request of each life and tag; the batches on the disk, in the order of their commits, and how
-- often the disk failed.
pub record StoreState : Type 0 where
  pub journal : JournalState
  pub taken : Entries
  pub batches : List Batch
  pub faults : ℕ

-- it shows that state of the rows' target, while it serves
pub record Serves (s : StoreState) (v : Target) : Type 0 where
  pub journal : ShowsJournal (taken_of s.taken) s.journal v
  pub disk : ShowsDisk s.batches v
  pub sound : IsSound s.journal

-- while it recovers
pub record Recovers (s : StoreState) (v : Target) : Type 0 where
  pub journal : ShowsWindow s.journal v
  pub disk : ShowsDisk s.batches v
  pub untaken : IsUntaken (taken_of s.taken)
  pub sound : IsSound s.journal
  pub newest : s.journal.newest ≡ s.journal.committed

-- while its window closes: these kept transactions are the journal's again, beside what it had
pub record Redoes (deeds : List Deed) (s : StoreState) (v : Target) : Type 0 where
  pub before : JournalState
  pub window : ShowsWindow before v
  pub sound : IsSound before
  pub journal : s.journal ≡ all_appended deeds before
  pub disk : ShowsDisk s.batches v
  pub untaken : IsUntaken (taken_of s.taken)

-- the disk is as it was
pub record KeepsDisk (old new : StoreState) : Type 0 where
  pub batches : new.batches ≡ old.batches
  pub faults : new.faults ≡ old.faults

-- a request of this life and tag was taken
abbrev pub HasTaken : Who → ℕ → StoreState → Type 0
HasTaken who tag s = IsSome (taken_of s.taken who tag)

-- what was taken stays so
abbrev pub KeepsTaken : (old new : StoreState) → Type 0
KeepsTaken old new = (who : Who) (tag : ℕ) → HasTaken who tag old → HasTaken who tag new

-- what was taken of all other lives stays so
abbrev pub KeepsTakenBut : List Who → (old new : StoreState) → Type 0
KeepsTakenBut gone old new = (who : Who) (tag : ℕ) → is_life who gone ≡ false → HasTaken who tag old → HasTaken who tag new

-- A request was answered so without a transaction: by an act, an answer of which nothing is printed, a lock that is
-- granted at once, or one that waits.
pub record IsAnsweredBy (tag : ℕ) (reply : Reply) (old new : StoreState) : Type 0 where
  pub acts : (v : Target) (d : Deed) → d.tag ≡ tag → d.reply ≡ reply → Serves old v → Serves new (after v (Act d))
  pub answers : (v : Target) (d : Deed) → d.tag ≡ tag → d.reply ≡ reply → Serves old v → Serves new (after v (Answers d))
  pub grants : (v : Target) (l : Lock) (d : Deed) → d.tag ≡ tag → d.reply ≡ reply → Serves old v → Serves new (after v (Grant l (Some d)))
  pub waits : (v : Target) (l : Lock) (d : Deed) → d.tag ≡ tag → d.reply ≡ reply → Serves old v → Serves new (after v (Wait l d))

-- ---- commits

-- The first transactions that aren't on the disk, or all where there is no count, went there: `None` where there was
-- none, and then nothing changed; else the number of the last of them.
pub record IsCommit (count : Option ℕ) (to : Option Txn) (old new : StoreState) : Type 0 where
  pub nothing : (v : Target) → Serves old v → to ≡ None → (first_deeds count v.log ≡ []) × (new ≡ old)
  pub some : (v : Target) (number : Txn) → Serves old v → to ≡ Some number → (first_deeds count v.log ≢ [])
      × (number.0 ≡ last_of (first_deeds count v.log) v.committed)
  pub shows : (v : Target) (number : Txn) → Serves old v → to ≡ Some number
      → Serves new (after v (commits v (first_deeds count v.log) [] []))
  pub batches : (v : Target) (number : Txn) → Serves old v → to ≡ Some number → new.batches ≡ old.batches
      ++ batch_of (first_deeds count v.log) [] [] ∷ []

-- Lives that leave and lives that come: each of the first has a slot, none of the others but where it leaves, and each
-- stands once.
pub record MayMove (gone come : List Who) (s : StoreState) : Type 0 where
  pub once : AreOnce gone
  pub among : AreAmong (lives_of s.journal.slots) gone
  pub new : AreOnce come
  pub apart : AreApart (without_lives gone (lives_of s.journal.slots)) come

-- All that wasn't on the disk went there, up to this number, with the lives that left and those that came.
pub record IsMove (gone come : List Who) (to : Txn) (old new : StoreState) : Type 0 where
  pub number : (v : Target) → Serves old v → to.0 ≡ last_of v.log v.committed
  pub shows : (v : Target) → Serves old v → Serves new (after v (commits v v.log gone come))
  pub batches : (v : Target) → Serves old v → new.batches ≡ old.batches ++ batch_of v.log gone come ∷ []

-- A kept transaction is the journal's again.
abbrev pub IsRedone : Deed → (old new : StoreState) → Type 0
IsRedone d old new = (v : Target) (deeds : List Deed) → Redoes deeds old v → Redoes (deeds ++ d ∷ []) new v

-- The window closed, and this is the number of the last transaction on the disk.
pub record IsClose (gone come : List Who) (to : Txn) (old new : StoreState) : Type 0 where
  pub number : (v : Target) (deeds : List Deed) → Redoes deeds old v → to.0 ≡ last_of deeds v.committed
  pub shows :
      (v : Target) (deeds : List Deed) (s : Settled) → Redoes deeds old v → gone_of s.gone ≡ gone → s.joins ≡ come
      → IsClosing v deeds gone come → Serves new (turn v (Close (outcome_by v deeds s) ∷ commit_of (outcome_by v deeds s) ∷ []))
  pub batches : (v : Target) (deeds : List Deed) → Redoes deeds old v → IsClosing v deeds gone come → new.batches ≡ old.batches
      ++ batch_of deeds gone come ∷ []

-- ---- requests that come

-- A request's number against that of the newest one of its life and tag: it is above; or it is the same, which was
-- answered so, or wasn't answered yet; or it is below.
abbrev pub IsLook : Slot → Xid → Look → Type 0
IsLook slot xid look.New = nat_lt slot.taken xid.0 ≡ true
IsLook slot xid (look.Again reply) = (nat_lt slot.taken xid.0 ≡ false) × ((slot.taken == xid.0) ≡ true) × (slot.reply ≡ Some reply.now)
IsLook slot xid look.Waits = (nat_lt slot.taken xid.0 ≡ false) × ((slot.taken == xid.0) ≡ true) × (slot.reply ≡ None)
IsLook slot xid look.Old = (nat_lt slot.taken xid.0 ≡ false) × ((slot.taken == xid.0) ≡ false)
