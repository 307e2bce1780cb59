-- Turns over a disk that can fail (this project's profile). A turn asks the disk once for each commit, and twice for a boot:
-- to load what stands there, and to commit the next boot. Where it fails, the line `fail` stands in place of what was to
-- come; the target makes no further turn.
use Rattle.std.specs.Prelude.{ℕ, zero, suc, ◌+◌, Bool, true, false, List, [], ◌∷◌, Option, Some, None}
use Rattle.lu_msg.specs.declared.commits.Batch.{Batch}
use Rattle.lu_spec_entries.specs.Carried.{Disk}
use Rattle.lu_spec_entries.specs.Words.{Entry, Commit, Boot, Fail}
use Rattle.lu_spec_target.specs.Stored.{stored}
use Rattle.lu_spec_target.specs.States.{Setting, empty_disk, first_batch}

-- ---- how often a turn asks the disk

abbrev pub calls_of : Entry → ℕ
calls_of (Commit to batch) = 1
calls_of (Boot boot disk) = 2
calls_of _ = 0

abbrev pub calls : List Entry → ℕ
calls [] = 0
calls (e ∷ es) = calls_of e + calls es

-- ---- the lines of a turn in which a call to the disk fails, so many others having succeeded before

abbrev pub boot_fails : ℕ → Entry → (ℕ → List Entry) → List Entry
boot_fails zero e rest = Fail ∷ []
boot_fails (suc zero) e rest = Fail ∷ []
boot_fails (suc (suc n)) e rest = e ∷ rest n

abbrev pub commit_fails : ℕ → Entry → (ℕ → List Entry) → List Entry
commit_fails zero e rest = Fail ∷ []
commit_fails (suc n) e rest = e ∷ rest n

abbrev pub failing : List Entry → ℕ → List Entry
failing [] n = []
failing (Commit to batch ∷ es) n = commit_fails n (Commit to batch) (failing es)
failing (Boot boot disk ∷ es) n = boot_fails n (Boot boot disk) (failing es)
failing (e ∷ es) n = e ∷ failing es n

-- none: all calls of the turn succeed
abbrev pub over_disk : Option ℕ → List Entry → List Entry
over_disk None es = es
over_disk (Some n) es = failing es n

-- a target's start loads the disk and commits the first boot with a slot for life 1 of each client; it makes no line, but for
-- this one where a call fails
abbrev pub row_start : (fails : Bool) → List Entry
row_start true = Fail ∷ []
row_start false = []

-- ---- the batches on the disk, and what is loaded of them

abbrev pub boot_batch : ℕ → Batch
boot_batch boot = record { boot = boot; transactions = []; replies = []; added = []; removed = [] }

abbrev pub batches_with : Entry → List Batch → List Batch
batches_with (Commit to batch) batches = batch ∷ batches
batches_with (Boot boot disk) batches = boot_batch boot ∷ batches
batches_with _ batches = batches

abbrev pub batches_of : List Entry → List Batch
batches_of [] = []
batches_of (e ∷ es) = batches_with e (batches_of es)

abbrev pub loaded_on : ℕ → Disk → List Batch → Disk
loaded_on osts disk [] = disk
loaded_on osts disk (batch ∷ batches) = loaded_on osts (stored osts batch disk) batches

-- of the batches of a run, the first one among them
abbrev pub loaded : Setting → (clients : ℕ) → List Entry → Disk
loaded setting clients es = loaded_on setting.osts empty_disk (first_batch clients ∷ batches_of es)
