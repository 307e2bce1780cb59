-- What a target's service shows of the contents that the rows read, once transactions were performed again over what it
-- showed before; and what is wanted of these.
use Rattle.std.specs.Prelude.{◌≡◌, ℕ, ◌+◌, ◌≤◌, max, ⊤, List, [], ◌∷◌, map}
use Rattle.lu_base.specs.declared.ids.Who.{Who}
use Rattle.lu_msg.specs.declared.commits.Batch.{Batch}
use Rattle.lu_msg.specs.declared.commits.Transaction.{Transaction}
use Rattle.lu_service.specs.declared.services.Kind.{Kind}
use Rattle.lu_service.specs.declared.services.Kind.TheVariants.{Mdt, Ost}
use Rattle.lu_service.specs.Contents.{Contents}
pub use Rattle.lu_service.specs.Serving.{IsRepeatable}
use Rattle.lu_spec_entries.specs.Carried.{Deed as RowsDeed, Contents as Read, Disk}
use Rattle.lu_spec_target.specs.Stored.{all_done, forgotten, last_number}
use Rattle.lu_spec_target.specs.Windows.{Replayed}
use Rattle.lu_spec_target.specs.States.{Target, no_contents}
use Rattle.lu_spec_target.specs.Outcomes.{deeds_again}
use Rattle.lu_spec_target.specs.Disks.{loaded_on}
use Rattle.lu_target_refines.specs.Contents.{ShowsNames, ShowsObjects, transaction_again}
use Rattle.lu_target_refines.specs.Journals.{AreRising, AllRising, ShowsDisk}
use Rattle.lu_window.specs.declared.outcomes.KeptReplay.{KeptReplay}
use Rattle.lu_window.specs.Shown.{kept_replay}
use Rattle.lu_target_redo.specs.declared.deeds.Close.{Close}
use Rattle.lu_target_redo.specs.declared.deeds.Deed.{Deed}

-- a deed as the rows have it
abbrev pub deed_of : Deed → RowsDeed
deed_of d = record { tag = d.tag; op = d.op; writes = d.writes; reply = d.reply }

-- kept replays as transactions
abbrev pub transactions_of : List KeptReplay → List Transaction
transactions_of kept = map transaction_again (map kept_replay kept)

-- ---- what may be performed again

abbrev pub AreRepeatable : Kind → List Transaction → Type 0
AreRepeatable kind [] = ⊤
AreRepeatable kind (t ∷ ts) = IsRepeatable kind t.op × AreRepeatable kind ts

abbrev pub AllRepeatable : Kind → List Batch → Type 0
AllRepeatable kind [] = ⊤
AllRepeatable kind (batch ∷ batches) = AreRepeatable kind batch.transactions × AllRepeatable kind batches

-- ---- what a service shows

-- It shows these contents, the names or the objects, and no number above n was used.
abbrev pub Shows : Kind → (osts n : ℕ) → Contents → Read → Type 0
Shows Mdt osts n own c = ShowsNames osts (n + 1) own c
Shows Ost osts n own c = (own.last ≤ n) × ShowsObjects own c

-- whatever it showed, if the numbers of these transactions rise from above those there: it shows what they make of that
abbrev pub ShowsDone : Kind → List Transaction → (old new : Contents) → Type 0
ShowsDone kind ts old new =
    (osts : ℕ) (c : Read) (n : ℕ) → Shows kind osts n old c → AreRising n ts → Shows kind osts (last_number ts n) new (all_done osts ts c)

-- and the deeds are those that the rows make of these replays, in that boot and with that committed number
abbrev pub AreDeeds : Kind → Close → List Replayed → Contents → List RowsDeed → Type 0
AreDeeds kind close replays own deeds =
    (v : Target) (c : Read) (n : ℕ) → Shows kind v.setting.osts n own c → v.boot ≡ close.boot → v.committed ≡ close.committed.0
    → AreRising n (map transaction_again replays) → deeds ≡ deeds_again v close.at c replays

-- whatever it showed, the opens of these lives are gone
abbrev pub ShowsForgotten : Kind → List Who → (old new : Contents) → Type 0
ShowsForgotten kind gone old new = (osts : ℕ) (c : Read) (n : ℕ) → Shows kind osts n old c → Shows kind osts n new (forgotten gone c)

-- whatever disk it showed, of which no number is above the greatest committed one or n, and the numbers of these batches
-- rise from above both: it shows what they make of that disk
abbrev pub ShowsLoaded : Kind → List Batch → (old new : Contents) → Type 0
ShowsLoaded kind batches old new =
    (osts : ℕ) (disk : Disk) (n : ℕ) → Shows kind osts (max n disk.committed) old disk.contents → AllRising (max n disk.committed) batches
    → Shows kind osts (max n (loaded_on osts disk batches).committed) new (loaded_on osts disk batches).contents

-- and where it showed nothing yet, it shows the disk of a target that these batches tell
abbrev pub ShowsDiskOf : Kind → List Batch → (old new : Contents) → Type 0
ShowsDiskOf kind batches old new =
    (v : Target) (n : ℕ) → ShowsDisk batches v → Shows kind v.setting.osts n old no_contents → AllRising n batches
    → Shows kind v.setting.osts (max n v.disk.committed) new v.disk.contents
