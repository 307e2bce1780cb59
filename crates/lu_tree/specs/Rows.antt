-- The rows of the table that end one walk, by what is asked.
use Rattle.std.specs.Prelude.{ℕ, ◌+◌, List, [], ◌∷◌, Option}
use Rattle.lu_base.specs.declared.ids.Fid.{Fid}
use Rattle.lu_base.specs.declared.ids.Txn.{Txn}
use Rattle.lu_base.specs.declared.ids.Who.{Who}
use Rattle.lu_msg.specs.declared.answers.Answer.TheVariants as told
use Rattle.lu_msg.specs.declared.answers.Errno.{Errno}
use Rattle.lu_msg.specs.declared.answers.Errno.TheVariants.{EEXIST, EISDIR, EBUSY}
use Rattle.lu_spec_machine.specs.declared.child.Child.{Child}
use Rattle.lu_spec_machine.specs.declared.child.Child.TheVariants.{File}
use Rattle.lu_spec_machine.specs.Change.{Leads, SetLinks}
use Rattle.lu_spec_machine.specs.Plan.{Plan, LookAttr}
use Rattle.lu_spec_machine.specs.Tree.{Tree}
use Rattle.lu_spec_machine.specs.Striping.{new_layout}
use Rattle.lu_spec_machine.specs.Table.{there, absent, row_lookup, row_stat, row_list, row_layout, row_chmod, row_open, row_mkdir}
use Rattle.lu_spec_machine.specs.Table.{row_create, row_unlink, row_rmdir, does}
use Rattle.lu_tree.specs.Ends.{IsReached}
use Rattle.lu_tree.specs.declared.rows.Ask.{Ask}
use Rattle.lu_tree.specs.declared.rows.Ask.TheVariants.{Lookup, Stat, List as Names, Layout, Chmod, Open}
use Rattle.lu_tree.specs.declared.rows.LastAsk.{LastAsk}
use Rattle.lu_tree.specs.declared.rows.LastAsk.TheVariants.{Mkdir, Create, Link, Unlink, Rmdir}

-- of what a whole path leads to
abbrev pub row_of : Txn → Who → Ask → List Child → Child → Plan
row_of number who Lookup cs c = row_lookup cs c
row_of number who Stat cs c = row_stat cs c
row_of number who Names cs c = row_list cs c
row_of number who Layout cs c = row_layout cs c
row_of number who (Chmod mode) cs c = row_chmod mode c
row_of number who Open cs c = row_open number who c

-- a free name is made lead to the file
abbrev pub row_link_here : Fid → Fid → List ℕ → Plan
row_link_here f d n = LookAttr (File f) (λ a. does told.Done (Leads d n (File f) ∷ SetLinks f (a.links + 1) ∷ []))

-- of a path's last name, and what it leads to, if to anything
abbrev pub last_row_of : ℕ → Txn → LastAsk → Fid → List ℕ → Option Child → Plan
last_row_of osts number Mkdir d n o = absent (row_mkdir number d n) o
last_row_of osts number (Create size count) d n o = absent (row_create number d n (new_layout osts number size count)) o
last_row_of osts number (Link f) d n o = absent (row_link_here f d n) o
last_row_of osts number Unlink d n o = there (row_unlink d n) o
last_row_of osts number Rmdir d n o = there (row_rmdir d n) o

-- what is answered for `/`
abbrev pub no_last : LastAsk → Errno
no_last Mkdir = EEXIST
no_last (Create size count) = EEXIST
no_last (Link f) = EEXIST
no_last Unlink = EISDIR
no_last Rmdir = EBUSY

-- a link is asked for a file that has a name
abbrev pub IsAskable : Tree → LastAsk → Type 0
IsAskable t (Link f) = IsReached t (File f)
IsAskable t _ = Unit {0}
