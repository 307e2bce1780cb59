-- The program's tree, and the greatest number of what was performed on it.
use Rattle.std.specs.Prelude.{◌≡◌, ◌≤◌, ℕ, max, Bool, nat_lt, if◌then◌else◌, Option, Some, None, List, [], ◌∷◌}
use Rattle.lu_base.specs.declared.ids.Txn.{Txn as TxnOf}
use Rattle.lu_base.specs.declared.ids.Who.{Who}
use Rattle.lu_msg.specs.declared.operations.Op.{Op}
use Rattle.lu_part.specs.declared.parts.Part.{Part}
use Rattle.lu_part.specs.declared.parts.Want.{Want}
use Rattle.lu_spec_machine.specs.Footprint.{Operation, writes, touches, grants}
use Rattle.lu_spec_machine.specs.Removal.{Item, Acts, Forgets}
use Rattle.lu_tree.specs.State.{TreeState, fresh, performed, forgotten, asked as act}
use Rattle.lu_judge_names.specs.Events.{Marked}

pub record NamesState : Type 0 where
  pub tree : TreeState
  pub greatest : ℕ

-- what holds of all names that the program keeps: the tree is over so many object storage targets, one to eight, and used
-- no number above the greatest
pub record IsWell (osts : ℕ) (tree : TreeState) (greatest : ℕ) : Type 0 where
  pub same : osts ≡ tree.osts
  pub some : 1 ≤ osts
  pub most : osts ≤ 8
  pub last : tree.last ≤ max 1 greatest

abbrev pub no_names : ℕ → NamesState
no_names osts = record { tree = fresh osts; greatest = 0 }

-- ---- footprints

abbrev pub state_writes : TreeState → TxnOf → Who → Option Op → List Part
state_writes s number who None = []
state_writes s number who (Some o) = writes s.osts s.tree (act number who o)

abbrev pub state_touches : TreeState → TxnOf → Who → Option Op → List Part
state_touches s number who None = []
state_touches s number who (Some o) = touches s.osts s.tree (act number who o)

abbrev pub state_wants : TreeState → Who → Option Op → List Want
state_wants s who None = []
state_wants s who (Some o) = grants s.osts s.tree (act (record { 0 = 0 }) who o)

-- ---- changes

-- an operation, if its number is above the root's and all before
abbrev pub acted : NamesState → Operation → NamesState
acted k a =
    if nat_lt (max 1 k.greatest) a.number.0 then record { tree = performed k.tree a; greatest = a.number.0 } else k

abbrev pub forgot : NamesState → Who → NamesState
forgot k who = record { tree = forgotten k.tree who; greatest = k.greatest }

-- a lost one changes nothing
abbrev pub changed_by : NamesState → Item → Bool → NamesState
changed_by k (Acts a) lost = if lost then k else acted k a
changed_by k (Forgets who) lost = forgot k who

-- what these items leave of an empty file system, the newest first
abbrev pub names_of : ℕ → List Marked → NamesState
names_of osts [] = no_names osts
names_of osts (m ∷ older) = changed_by (names_of osts older) m.item m.lost
