-- What a target's service holds, and the contents that the rows read. The rows' tree keeps the record of a file that has
-- left with its last name and its last open, the service's doesn't; nobody can tell the two apart.
use Rattle.std.specs.Prelude.{◌≡◌, ℕ, ◌<◌, List, [], ◌∷◌}
use Rattle.lu_base.specs.declared.ids.Who.{Who}
use Rattle.lu_spec_machine.specs.Footprint.{empty}
use Rattle.lu_spec_machine.specs.Removal.{Item, contents}
use Rattle.lu_spec_machine.specs.Trim.{Rising, Above, trimmed}
use Rattle.lu_msg.specs.declared.commits.Transaction.{Transaction}
use Rattle.lu_service.specs.Acts.{Acts}
use Rattle.lu_service.specs.Contents.{Contents}
use Rattle.lu_spec_entries.specs.Carried.{Contents as Read}
use Rattle.lu_spec_target.specs.Windows.{Replayed}

-- names: some past leaves both trees, all of whose numbers are below this one
pub record ShowsNames (osts below : ℕ) (own : Contents) (read : Read) : Type 0 where
  pub past : List Item
  pub rising : Rising past
  pub above : Above past below
  pub last : own.last < below
  pub targets : own.osts ≡ osts
  pub tree : own.tree ≡ trimmed osts past
  pub rows : read.tree ≡ contents osts empty past

-- objects: they are the same
abbrev pub ShowsObjects : Contents → Read → Type 0
ShowsObjects own read = own.objects ≡ read.objects

-- the opens of these lives go, one after another
abbrev pub all_forgotten : Acts → List Who → Contents → Contents
all_forgotten acts [] s = s
all_forgotten acts (who ∷ gone) s = all_forgotten acts gone (acts.forgotten s who)

-- a kept replay as a transaction
abbrev pub transaction_again : Replayed → Transaction
transaction_again r = record { txn = record { 0 = r.number }; who = r.who; xid = record { 0 = r.xid }; tag = r.tag; op = r.op }
