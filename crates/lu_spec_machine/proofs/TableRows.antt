-- The table's answers and errors, each computed: what comes first where several hold, and what was looked at.
use Rattle.std.proofs.Common.{◌≡◌, ℕ, ◌+◌, Bool, true, false, List, [], ◌∷◌, refl, pos, negsuc}
use Rattle.std.specs.Prelude.{codes, replicate}
use Rattle.lu_base.specs.declared.ids.Fid.{Fid}
use Rattle.lu_base.specs.declared.ids.Txn.{Txn}
use Rattle.lu_base.specs.declared.ids.Who.{Who}
use Rattle.lu_msg.specs.declared.answers.Answer.{Answer}
use Rattle.lu_msg.specs.declared.answers.Answer.TheVariants as told
use Rattle.lu_msg.specs.declared.answers.Answer.TheVariants.{Refused}
use Rattle.lu_msg.specs.declared.answers.Errno.TheVariants.{ENOENT, EEXIST, ENOTDIR, EISDIR, ENOTEMPTY, EPERM, EINVAL, EBUSY, EBADF}
use Rattle.lu_msg.specs.declared.answers.Errno.TheVariants.{ENAMETOOLONG}
use Rattle.lu_msg.specs.declared.operations.Op.{Op}
use Rattle.lu_msg.specs.declared.operations.Op.TheVariants as op
use Rattle.lu_part.specs.declared.parts.Part.{Part}
use Rattle.lu_part.specs.declared.parts.Part.TheVariants as part
use Rattle.lu_part.specs.declared.parts.Want.{Want}
use Rattle.lu_spec_machine.specs.declared.acts.Act.{Act}
use Rattle.lu_spec_machine.specs.declared.acts.Deed.TheVariants.{Names}
use Rattle.lu_spec_machine.specs.Tree.{Tree}
use Rattle.lu_spec_machine.specs.Footprint as footprint
use Rattle.lu_spec_machine.specs.Footprint.{Operation, empty, forget}
use Rattle.lu_spec_machine.specs.Machine as machine

abbrev at : ℕ → Fid
at count = record { 0 = 4294967296 + count }

abbrev number : ℕ → Txn
number count = record { 0 = 4294967296 + count }

abbrev root : Fid
root = record { 0 = 1 }

abbrev me : Who
me = record { client = 0; life = 1 }

abbrev act : ℕ → Op → Operation
act count o = record { number = number count; who = me; op = o }

abbrev item : ℕ → Op → Act
item count o = record { who = me; number = number count; deed = Names o }

abbrev a : List ℕ
a = codes "a"

abbrev b : List ℕ
b = codes "b"

abbrev e : List ℕ
e = codes "e"

abbrev f : List ℕ
f = codes "f"

abbrev g : List ℕ
g = codes "g"

abbrev x : List ℕ
x = codes "x"

abbrev y : List ℕ
y = codes "y"

-- 255 and 256 bytes
abbrev longest : List ℕ
longest = replicate 255 97

abbrev too_long : List ℕ
too_long = replicate 256 97

-- /b/x, /e and the file /f, also called /g
abbrev built : machine.Machine
built =
    machine.run 4 machine.start
    (item 1 (op.Mkdir (b ∷ []))
    ∷ item 2 (op.Create (f ∷ []) 65536 (pos 2))
    ∷ item 3 (op.Create (b ∷ x ∷ []) 0 (pos 0))
    ∷ item 4 (op.Mkdir (e ∷ []))
    ∷ item 5 (op.Link (f ∷ []) (g ∷ []))
    ∷ [])

abbrev now : Tree
now = built.tree

abbrev answer : Op → Answer
answer o = footprint.answer 4 now (act 20 o)

abbrev touches : Op → List Part
touches o = footprint.touches 4 now (act 20 o)

abbrev writes : Op → List Part
writes o = footprint.writes 4 now (act 20 o)

abbrev grants : Op → List Want
grants o = footprint.grants 4 now (act 20 o)

abbrev changes : Op → Bool
changes o = footprint.changes 4 now (act 20 o)

abbrev want : Fid → ℕ → Want
want fid bits = record { fid = fid; bits = bits }

-- ---- a walk: ENAMETOOLONG, then ENOTDIR, then ENOENT, at each name from the left

long_in_file : answer (op.Lookup (f ∷ too_long ∷ [])) ≡ Refused ENAMETOOLONG
long_in_file = refl

long_in_file_looked : touches (op.Lookup (f ∷ too_long ∷ [])) ≡ part.Name root f ∷ []
long_in_file_looked = refl

in_file : answer (op.Lookup (f ∷ x ∷ [])) ≡ Refused ENOTDIR
in_file = refl

in_file_looked : touches (op.Lookup (f ∷ x ∷ [])) ≡ part.Name root f ∷ []
in_file_looked = refl

absent_first : answer (op.Lookup (x ∷ too_long ∷ [])) ≡ Refused ENOENT
absent_first = refl

absent_looked : touches (op.Lookup (b ∷ y ∷ x ∷ [])) ≡ part.Name root b ∷ part.Name (at 1) y ∷ []
absent_looked = refl

longest_name : answer (op.Lookup (longest ∷ [])) ≡ Refused ENOENT
longest_name = refl

long_name : answer (op.Lookup (too_long ∷ [])) ≡ Refused ENAMETOOLONG
long_name = refl

long_name_looked : touches (op.Lookup (too_long ∷ [])) ≡ []
long_name_looked = refl

-- ---- lookup and stat

lookup_root : answer (op.Lookup []) ≡ told.Dir root
lookup_root = refl

lookup_root_touches : touches (op.Lookup []) ≡ []
lookup_root_touches = refl

lookup_root_grants : grants (op.Lookup []) ≡ []
lookup_root_grants = refl

lookup_file : answer (op.Lookup (b ∷ x ∷ [])) ≡ told.File (at 3)
lookup_file = refl

lookup_grants : grants (op.Lookup (b ∷ x ∷ [])) ≡ want (at 1) 1 ∷ want (at 3) 1 ∷ []
lookup_grants = refl

stat_root : answer (op.Stat []) ≡ told.DirStat root 493
stat_root = refl

stat_root_grants : grants (op.Stat []) ≡ want root 2 ∷ []
stat_root_grants = refl

stat_dir : answer (op.Stat (b ∷ [])) ≡ told.DirStat (at 1) 493
stat_dir = refl

stat_dir_grants : grants (op.Stat (b ∷ [])) ≡ want (at 1) 3 ∷ []
stat_dir_grants = refl

stat_file : answer (op.Stat (g ∷ [])) ≡ told.FileStat (at 2) 420 2 (record { size = 65536; targets = 3 ∷ 4 ∷ [] })
stat_file = refl

stat_file_touches : touches (op.Stat (g ∷ [])) ≡ part.Name root g ∷ part.Attr (at 2) ∷ part.Layout (at 2) ∷ []
stat_file_touches = refl

stat_file_grants : grants (op.Stat (b ∷ x ∷ [])) ≡ want (at 1) 1 ∷ want (at 3) 7 ∷ []
stat_file_grants = refl

-- ---- list, layout and open

list_file : answer (op.List (f ∷ [])) ≡ Refused ENOTDIR
list_file = refl

list_file_touches : touches (op.List (f ∷ [])) ≡ part.Name root f ∷ []
list_file_touches = refl

list_root : answer (op.List []) ≡ told.Names (b ∷ e ∷ f ∷ g ∷ [])
list_root = refl

list_touches : touches (op.List (b ∷ [])) ≡ part.Name root b ∷ part.List (at 1) ∷ []
list_touches = refl

list_grants : grants (op.List (b ∷ [])) ≡ want (at 1) 3 ∷ []
list_grants = refl

layout_dir : answer (op.Layout []) ≡ Refused EISDIR
layout_dir = refl

layout_dir_touches : touches (op.Layout (b ∷ [])) ≡ part.Name root b ∷ []
layout_dir_touches = refl

layout_file : answer (op.Layout (b ∷ x ∷ [])) ≡ told.Layout (record { size = 1048576; targets = 4 ∷ [] })
layout_file = refl

layout_grants : grants (op.Layout (f ∷ [])) ≡ want (at 2) 5 ∷ []
layout_grants = refl

open_dir : answer (op.Open (b ∷ [])) ≡ Refused EISDIR
open_dir = refl

open_dir_touches : touches (op.Open (b ∷ [])) ≡ part.Name root b ∷ []
open_dir_touches = refl

open_file : answer (op.Open (b ∷ x ∷ [])) ≡ told.OpenFile (at 3) (number 20) (record { size = 1048576; targets = 4 ∷ [] })
open_file = refl

open_touches : touches (op.Open (f ∷ [])) ≡ part.Name root f ∷ part.Layout (at 2) ∷ []
open_touches = refl

open_changes : changes (op.Open (f ∷ [])) ≡ true
open_changes = refl

open_writes : writes (op.Open (f ∷ [])) ≡ []
open_writes = refl

-- ---- mkdir and create

mkdir_root : answer (op.Mkdir []) ≡ Refused EEXIST
mkdir_root = refl

mkdir_there : answer (op.Mkdir (f ∷ [])) ≡ Refused EEXIST
mkdir_there = refl

mkdir_there_touches : touches (op.Mkdir (b ∷ x ∷ [])) ≡ part.Name root b ∷ part.Name (at 1) x ∷ []
mkdir_there_touches = refl

mkdir_below_nothing : answer (op.Mkdir (a ∷ x ∷ [])) ≡ Refused ENOENT
mkdir_below_nothing = refl

mkdir_in_file : answer (op.Mkdir (f ∷ x ∷ [])) ≡ Refused ENOTDIR
mkdir_in_file = refl

mkdir_long : answer (op.Mkdir (b ∷ too_long ∷ [])) ≡ Refused ENAMETOOLONG
mkdir_long = refl

mkdir_made : answer (op.Mkdir (b ∷ y ∷ [])) ≡ told.Made (at 20)
mkdir_made = refl

mkdir_writes : writes (op.Mkdir (b ∷ y ∷ [])) ≡ part.Name (at 1) y ∷ []
mkdir_writes = refl

create_root : answer (op.Create [] 1 (pos 1)) ≡ Refused EEXIST
create_root = refl

create_there : answer (op.Create (f ∷ []) 1 (pos 1)) ≡ Refused EEXIST
create_there = refl

create_uneven : answer (op.Create (a ∷ []) 65535 (pos 1)) ≡ Refused EINVAL
create_uneven = refl

create_uneven_touches : touches (op.Create (a ∷ []) 65535 (pos 1)) ≡ part.Name root a ∷ []
create_uneven_touches = refl

create_largest : answer (op.Create (a ∷ []) 4294901760 (pos 4)) ≡ told.Made (at 20)
create_largest = refl

create_too_large : answer (op.Create (a ∷ []) 4294967296 (pos 1)) ≡ Refused EINVAL
create_too_large = refl

create_too_many : answer (op.Create (a ∷ []) 65536 (pos 5)) ≡ Refused EINVAL
create_too_many = refl

abbrev created : Op → Answer
created o = footprint.answer 4 (footprint.after 4 now (act 21 o)) (act 0 (op.Layout (a ∷ [])))

-- 21 mod 4 is 1: the stripes lie on targets 2, 3, 4 and 1
create_all : created (op.Create (a ∷ []) 0 (negsuc 0)) ≡ told.Layout (record { size = 1048576; targets = 2 ∷ 3 ∷ 4 ∷ 1 ∷ [] })
create_all = refl

create_default : created (op.Create (a ∷ []) 0 (pos 0)) ≡ told.Layout (record { size = 1048576; targets = 2 ∷ [] })
create_default = refl

-- ---- link

link_absent : answer (op.Link (a ∷ []) []) ≡ Refused ENOENT
link_absent = refl

link_dir : answer (op.Link (b ∷ []) []) ≡ Refused EPERM
link_dir = refl

link_of_root : answer (op.Link [] (a ∷ [])) ≡ Refused EPERM
link_of_root = refl

link_dir_touches : touches (op.Link (b ∷ []) (f ∷ [])) ≡ part.Name root b ∷ []
link_dir_touches = refl

link_root : answer (op.Link (f ∷ []) []) ≡ Refused EEXIST
link_root = refl

link_below_nothing : answer (op.Link (f ∷ []) (a ∷ x ∷ [])) ≡ Refused ENOENT
link_below_nothing = refl

link_there : answer (op.Link (f ∷ []) (b ∷ x ∷ [])) ≡ Refused EEXIST
link_there = refl

link_there_touches : touches (op.Link (f ∷ []) (b ∷ x ∷ [])) ≡ part.Name root f ∷ part.Name root b ∷ part.Name (at 1) x ∷ []
link_there_touches = refl

link_done : answer (op.Link (f ∷ []) (b ∷ y ∷ [])) ≡ told.Done
link_done = refl

link_touches : touches (op.Link (f ∷ []) (b ∷ y ∷ [])) ≡ part.Name root f ∷ part.Name root b ∷ part.Name (at 1) y ∷ part.Attr (at 2) ∷ []
link_touches = refl

link_writes : writes (op.Link (f ∷ []) (b ∷ y ∷ [])) ≡ part.Name (at 1) y ∷ part.Attr (at 2) ∷ []
link_writes = refl

-- ---- unlink and rmdir

unlink_root : answer (op.Unlink []) ≡ Refused EISDIR
unlink_root = refl

unlink_dir : answer (op.Unlink (b ∷ [])) ≡ Refused EISDIR
unlink_dir = refl

unlink_dir_touches : touches (op.Unlink (b ∷ [])) ≡ part.Name root b ∷ []
unlink_dir_touches = refl

unlink_absent : answer (op.Unlink (a ∷ [])) ≡ Refused ENOENT
unlink_absent = refl

unlink_done : answer (op.Unlink (f ∷ [])) ≡ told.Done
unlink_done = refl

unlink_touches : touches (op.Unlink (f ∷ [])) ≡ part.Name root f ∷ part.Attr (at 2) ∷ []
unlink_touches = refl

unlink_writes : writes (op.Unlink (f ∷ [])) ≡ part.Name root f ∷ part.Parent (at 2) ∷ part.Attr (at 2) ∷ []
unlink_writes = refl

-- of two names one is left
unlink_leaves : footprint.answer 4 (footprint.after 4 now (act 20 (op.Unlink (f ∷ [])))) (act 21 (op.Stat (g ∷ [])))
    ≡ told.FileStat (at 2) 420 1 (record { size = 65536; targets = 3 ∷ 4 ∷ [] })
unlink_leaves = refl

rmdir_root : answer (op.Rmdir []) ≡ Refused EBUSY
rmdir_root = refl

rmdir_file : answer (op.Rmdir (f ∷ [])) ≡ Refused ENOTDIR
rmdir_file = refl

rmdir_file_touches : touches (op.Rmdir (f ∷ [])) ≡ part.Name root f ∷ []
rmdir_file_touches = refl

rmdir_full : answer (op.Rmdir (b ∷ [])) ≡ Refused ENOTEMPTY
rmdir_full = refl

rmdir_full_touches : touches (op.Rmdir (b ∷ [])) ≡ part.Name root b ∷ part.List (at 1) ∷ []
rmdir_full_touches = refl

rmdir_full_writes : writes (op.Rmdir (b ∷ [])) ≡ []
rmdir_full_writes = refl

rmdir_done : answer (op.Rmdir (e ∷ [])) ≡ told.Done
rmdir_done = refl

rmdir_writes : writes (op.Rmdir (e ∷ [])) ≡ part.Name root e ∷ part.Parent (at 4) ∷ part.Attr (at 4) ∷ []
rmdir_writes = refl

-- ---- rename

rename_root : answer (op.Rename [] (a ∷ x ∷ [])) ≡ Refused EBUSY
rename_root = refl

rename_onto_root : answer (op.Rename (a ∷ []) []) ≡ Refused EBUSY
rename_onto_root = refl

rename_onto_root_touches : touches (op.Rename (f ∷ []) []) ≡ []
rename_onto_root_touches = refl

rename_absent : answer (op.Rename (a ∷ []) (too_long ∷ [])) ≡ Refused ENOENT
rename_absent = refl

rename_below_nothing : answer (op.Rename (f ∷ []) (a ∷ x ∷ [])) ≡ Refused ENOENT
rename_below_nothing = refl

rename_long : answer (op.Rename (f ∷ []) (f ∷ too_long ∷ [])) ≡ Refused ENAMETOOLONG
rename_long = refl

rename_in_file : answer (op.Rename (f ∷ []) (f ∷ x ∷ [])) ≡ Refused ENOTDIR
rename_in_file = refl

rename_same : answer (op.Rename (f ∷ []) (g ∷ [])) ≡ told.Done
rename_same = refl

rename_same_touches : touches (op.Rename (f ∷ []) (g ∷ [])) ≡ part.Name root f ∷ part.Name root g ∷ []
rename_same_touches = refl

rename_same_changes : changes (op.Rename (f ∷ []) (g ∷ [])) ≡ false
rename_same_changes = refl

rename_same_dir : answer (op.Rename (b ∷ []) (b ∷ [])) ≡ told.Done
rename_same_dir = refl

rename_into_itself : answer (op.Rename (b ∷ []) (b ∷ x ∷ [])) ≡ Refused EINVAL
rename_into_itself = refl

rename_into_itself_touches : touches (op.Rename (b ∷ []) (b ∷ y ∷ [])) ≡ part.Name root b ∷ part.Name root b ∷ part.Name (at 1) y ∷ []
rename_into_itself_touches = refl

rename_dir_onto_file : answer (op.Rename (b ∷ []) (f ∷ [])) ≡ Refused ENOTDIR
rename_dir_onto_file = refl

rename_dir_onto_file_touches : touches (op.Rename (b ∷ []) (f ∷ [])) ≡ part.Name root b ∷ part.Name root f ∷ []
rename_dir_onto_file_touches = refl

rename_file_onto_dir : answer (op.Rename (f ∷ []) (b ∷ [])) ≡ Refused EISDIR
rename_file_onto_dir = refl

rename_file_onto_dir_touches : touches (op.Rename (f ∷ []) (b ∷ [])) ≡ part.Name root f ∷ part.Name root b ∷ []
rename_file_onto_dir_touches = refl

rename_onto_full : answer (op.Rename (e ∷ []) (b ∷ [])) ≡ Refused ENOTEMPTY
rename_onto_full = refl

rename_onto_full_touches : touches (op.Rename (e ∷ []) (b ∷ [])) ≡ part.Name root e ∷ part.Name root b ∷ part.List (at 1) ∷ []
rename_onto_full_touches = refl

rename_onto_empty : answer (op.Rename (b ∷ []) (e ∷ [])) ≡ told.Done
rename_onto_empty = refl

rename_onto_empty_writes : writes (op.Rename (b ∷ []) (e ∷ [])) ≡ part.Name root b ∷ part.Name root e ∷ part.Parent (at 1)
    ∷ part.Parent (at 4) ∷ part.Attr (at 4) ∷ []
rename_onto_empty_writes = refl

rename_onto_empty_leaves : footprint.answer 4 (footprint.after 4 now (act 20 (op.Rename (b ∷ []) (e ∷ [])))) (act 0 (op.List []))
    ≡ told.Names (e ∷ f ∷ g ∷ [])
rename_onto_empty_leaves = refl

rename_onto_file_touches : touches (op.Rename (b ∷ x ∷ []) (g ∷ [])) ≡ part.Name root b ∷ part.Name (at 1) x ∷ part.Name root g
    ∷ part.Attr (at 2) ∷ []
rename_onto_file_touches = refl

rename_onto_file_writes : writes (op.Rename (b ∷ x ∷ []) (g ∷ [])) ≡ part.Name (at 1) x ∷ part.Name root g ∷ part.Parent (at 3)
    ∷ part.Parent (at 2) ∷ part.Attr (at 2) ∷ []
rename_onto_file_writes = refl

-- the file that is replaced had two names, and the one that is moved keeps its links
rename_onto_file_leaves : footprint.answer 4 (footprint.after 4 now (act 20 (op.Rename (b ∷ x ∷ []) (g ∷ [])))) (act 21 (op.Stat (f ∷ [])))
    ≡ told.FileStat (at 2) 420 1 (record { size = 65536; targets = 3 ∷ 4 ∷ [] })
rename_onto_file_leaves = refl

rename_onto_file_moved : footprint.answer 4 (footprint.after 4 now (act 20 (op.Rename (b ∷ x ∷ []) (g ∷ [])))) (act 21 (op.Stat (g ∷ [])))
    ≡ told.FileStat (at 3) 420 1 (record { size = 1048576; targets = 4 ∷ [] })
rename_onto_file_moved = refl

rename_free_writes : writes (op.Rename (f ∷ []) (b ∷ y ∷ [])) ≡ part.Name root f ∷ part.Name (at 1) y ∷ part.Parent (at 2) ∷ []
rename_free_writes = refl

-- ---- chmod and close

chmod_absent : answer (op.Chmod (a ∷ []) 0) ≡ Refused ENOENT
chmod_absent = refl

chmod_standing : changes (op.Chmod (f ∷ []) 420) ≡ false
chmod_standing = refl

chmod_standing_touches : touches (op.Chmod (f ∷ []) 420) ≡ part.Name root f ∷ part.Attr (at 2) ∷ []
chmod_standing_touches = refl

chmod_writes : writes (op.Chmod [] 511) ≡ part.Attr root ∷ []
chmod_writes = refl

close_nothing : answer (op.Close (number 9) (at 2)) ≡ told.Done
close_nothing = refl

close_changes : changes (op.Close (number 9) (at 2)) ≡ true
close_changes = refl

close_touches : touches (op.Close (number 9) (at 2)) ≡ []
close_touches = refl

close_writes : writes (op.Close (number 9) (at 2)) ≡ []
close_writes = refl

-- ---- a file without names is there for its opens, and no name leads to it

abbrev unlinked : Tree
unlinked = (machine.run 4 machine.start (item 1 (op.Create (f ∷ []) 0 (pos 0)) ∷ item 2 (op.Open (f ∷ [])) ∷ item 3 (op.Unlink (f ∷ []))
    ∷ [])).tree

gone : footprint.answer 4 unlinked (act 0 (op.Lookup (f ∷ []))) ≡ Refused ENOENT
gone = refl

still_open : unlinked.opens ≡ record { number = number 2; life = me; fid = at 1 } ∷ []
still_open = refl

closed : (footprint.after 4 unlinked (act 4 (op.Close (number 2) (at 1)))).opens ≡ []
closed = refl

-- another life's open stays
not_closed : (footprint.after 4 unlinked (record {
  number = number 4;
  who = record { client = 0; life = 2 };
  op =
      op.Close (number 2) (at 1);
})).opens ≡ record { number = number 2; life = me; fid = at 1 } ∷ []
not_closed = refl

forgotten : (forget unlinked me).opens ≡ []
forgotten = refl

-- the next life of the client has what it opened
not_forgotten : (forget unlinked (record { client = 0; life = 2 })).opens ≡ unlinked.opens
not_forgotten = refl

-- ---- an operation of an object storage target is none on names

not_on_names : answer (op.Size (record { fid = at 2; stripe = 0 })) ≡ Refused EBADF
not_on_names = refl

-- ---- the machine refuses a transaction under a number that was passed, and answers a reading under any

stale : machine.answer 4 built (item 5 (op.Mkdir (a ∷ []))) ≡ Refused EBADF
stale = refl

stale_stays : (machine.next 4 built (item 5 (op.Mkdir (a ∷ [])))).tree ≡ now
stale_stays = refl

fresh : machine.answer 4 built (item 6 (op.Mkdir (a ∷ []))) ≡ told.Made (at 6)
fresh = refl

refused_first : machine.answer 4 built (item 5 (op.Mkdir (f ∷ []))) ≡ Refused EEXIST
refused_first = refl

reads : machine.answer 4 built (record { who = me; number = record { 0 = 0 }; deed = Names (op.Lookup (f ∷ [])) }) ≡ told.File (at 2)
reads = refl

root_number : machine.answer 4 machine.start (record { who = me; number = record { 0 = 1 }; deed = Names (op.Mkdir (a ∷ [])) })
    ≡ Refused EBADF
root_number = refl
