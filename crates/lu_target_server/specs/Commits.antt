-- What a commit that moves lives leaves.
use Rattle.std.specs.Prelude.{◌≡◌, ℕ, List, [], ◌∷◌, Option, Some, None}
use Rattle.lu_base.specs.declared.ids.Txn.{Txn}
use Rattle.lu_base.specs.declared.ids.Who.{Who}
use Rattle.lu_trace.specs.declared.entries.Entry.{Entry as Printed}
use Rattle.lu_trace.specs.declared.entries.Entry.TheVariants as line
use Rattle.lu_trace.specs.Turns.{Making}
use Rattle.lu_spec_entries.specs.Carried.{Deed}
use Rattle.lu_spec_entries.specs.Words.{Entry}
use Rattle.lu_spec_target.specs.Leaving.{commits, last_of}
use Rattle.lu_spec_target.specs.Recovery.{commit_of}
use Rattle.lu_spec_target.specs.Outcomes.{outcome_by}
use Rattle.lu_spec_target.specs.Windows.{Settled}
use Rattle.lu_spec_target.specs.Stored.{batch_of}
use Rattle.lu_spec_target.specs.States.{Target}
use Rattle.lu_target_refines.specs.Batches.{IsClosing}
use Rattle.lu_target_store.specs.Stores.{StoreState, Serves, Redoes, IsMove, IsClose, KeepsTakenBut}
use Rattle.lu_spec_entries.specs.Given.{giving}
use Rattle.lu_target_server.specs.Middles.{KeepsFirst}
use Rattle.lu_target_server.specs.Servers.{ServerState}

-- the line of a commit
abbrev pub commit_line : Option Txn → Printed
commit_line None = line.Skip
commit_line (Some to) = line.Commit to

-- After an error the disk has what it had, or the batch of the commit too. So does the commit of a close.
pub record KeepsMoved (gone come : List Who) (old new : StoreState) : Type 0 where
  pub serving : (v : Target) → Serves old v → KeepsFirst (batch_of v.log gone come ∷ []) old new
  pub closing : (v : Target) (deeds : List Deed) → Redoes deeds old v → IsClosing v deeds gone come
      → KeepsFirst (batch_of deeds gone come ∷ []) old new

-- All that wasn't on the disk went there, with the lives that left and those that came; its line was told. So does the commit
-- of a close.
pub record IsMoved (gone come : List Who) (old new : ServerState) (before after : Making) : Type 0 where
  pub to : Txn
  pub store : IsMove gone come to old.store new.store
  pub closed : IsClose gone come to old.store new.store
  pub takes : KeepsTakenBut gone old.store new.store
  pub told : (v : Target) → Serves old.store v → after ≡ giving before (commits v v.log gone come ∷ [])
  pub told_close : (v : Target) (deeds : List Deed) (s : Settled) → Redoes deeds old.store v → (outcome_by v deeds s).disk.committed
      ≡ last_of deeds v.committed → after ≡ giving before (commit_of (outcome_by v deeds s) ∷ [])
  pub same : new ≡ record old { store = new.store }
