-- The names as the program has them: a file leaves with its last name and its last open.
use Rattle.std.specs.Prelude.{ℕ, ◌≤◌, max, Bool, not, nat_lt, ◌&&◌, if◌then◌else◌, Option, None}
use Rattle.lu_base.specs.declared.ids.Txn.{Txn}
use Rattle.lu_base.specs.declared.ids.Who.{Who}
use Rattle.lu_layout.specs.Raid0.{Raid0}
use Rattle.lu_msg.specs.declared.answers.Answer.{Answer}
use Rattle.lu_msg.specs.declared.answers.Answer.TheVariants.{Made, Refused}
use Rattle.lu_msg.specs.declared.answers.Errno.TheVariants.{EBADF}
use Rattle.lu_msg.specs.declared.operations.Op.{Op}
use Rattle.lu_msg.specs.declared.operations.Op.TheVariants.{Create}
use Rattle.lu_spec_machine.specs.Footprint.{Operation, answer, changes}
use Rattle.lu_spec_machine.specs.Striping.{new_layout}
use Rattle.lu_tree.specs.State.{TreeState, fresh, performed}

-- the number of object storage targets, the greatest number of an operation on names so far, and the tree
pub record NamesState : Type 0 where
  pub osts : ℕ
  pub last : ℕ
  pub tree : TreeState

-- a new file system
abbrev pub first_names : ℕ → NamesState
first_names osts = record { osts = osts; last = 1; tree = fresh osts }

-- what holds of all names of the program: the tree has used no greater number
pub record IsNames (s : NamesState) : Type 0 where
  pub some : 1 ≤ s.osts
  pub most : s.osts ≤ 8
  pub used : s.tree.last ≤ s.last

-- an operation as a life asks for it
abbrev pub asked : Txn → Who → Op → Operation
asked number who o = record { number = number; who = who; op = o }

module _ (s : NamesState) (a : Operation) where
  -- it would make a transaction under a number that isn't above all before it
  abbrev pub is_passed : Bool
  is_passed = changes s.tree.osts s.tree.tree a && not (nat_lt s.last a.number.0)

  -- what the metadata target would answer
  abbrev pub answer_of : Answer
  answer_of = if is_passed then Refused EBADF else answer s.tree.osts s.tree.tree a

  abbrev pub names_after : NamesState
  names_after =
      if is_passed
      then s
      else record { osts = s.osts; last = max s.last a.number.0; tree = performed s.tree a }

-- the layout of the file that an operation made, by its answer
abbrev pub made_layout : ℕ → Txn → Op → Answer → Option Raid0
made_layout osts number (Create path size count) (Made fid) = new_layout osts number size count
made_layout osts number _ _ = None
