-- The plain machine: one tree, and the bytes of each file. It answers one act after another, and has no
-- targets, caches or locks.
use Rattle.std.specs.Prelude.{ℕ, max, Bool, not, List, [], ◌∷◌, ◌&&◌, nat_lt, is_some, if◌then◌else◌}
use Rattle.std.specs.Map.{lookup}
use Rattle.std.specs.Option.{unwrap_or}
use Rattle.lu_base.specs.declared.ids.Fid.{Fid}
use Rattle.lu_msg.specs.declared.answers.Answer.{Answer}
use Rattle.lu_msg.specs.declared.answers.Answer.TheVariants as told
use Rattle.lu_msg.specs.declared.answers.Errno.TheVariants.{EBADF}
use Rattle.lu_msg.specs.declared.calls.Call.{Call}
use Rattle.lu_msg.specs.declared.calls.Call.TheVariants as call
use Rattle.lu_msg.specs.declared.operations.Op.{Op}
use Rattle.lu_msg.specs.declared.operations.Op.TheVariants as op
use Rattle.lu_spec_machine.specs.declared.acts.Act.{Act}
use Rattle.lu_spec_machine.specs.declared.acts.Deed.{Deed}
use Rattle.lu_spec_machine.specs.declared.acts.Deed.TheVariants.{Names, Data, Piece}
use Rattle.lu_spec_machine.specs.Entries.{without, place}
use Rattle.lu_spec_machine.specs.Tree.{Tree, same_fid, fid_cmp, layout}
use Rattle.lu_spec_machine.specs.Objects.{Object}
use Rattle.lu_spec_machine.specs.Bytes.{FileBytes, object_at, size_of, read, write, cut, put_piece, cut_piece}
use Rattle.lu_spec_machine.specs.Footprint as footprint
use Rattle.lu_spec_machine.specs.Footprint.{Operation, empty, changes, after}

-- `last` is the greatest number of an operation on names so far; that of the root, 1, is used from the first.
-- A file's bytes stay when no name leads to it any longer, and whatever its layout is.
pub record Machine : Type 0 where
  pub tree : Tree
  pub last : ℕ
  pub bytes : List (Fid × FileBytes)

abbrev pub start : Machine
start = record { tree = empty; last = 1; bytes = [] }

abbrev pub bytes_of : Machine → Fid → FileBytes
bytes_of m f = unwrap_or (lookup (same_fid f) m.bytes) []

abbrev pub with_bytes : Machine → Fid → FileBytes → Machine
with_bytes m f b = record m { bytes = place fid_cmp f b (without (same_fid f) m.bytes) }

-- whether it is or was a file
abbrev pub was_file : Machine → Fid → Bool
was_file m f = is_some (lookup (same_fid f) m.tree.files)

-- ---- operations on names

module _ (osts : ℕ) (m : Machine) (a : Operation) where
  -- it would make a transaction under a number that isn't above all before it: the machine refuses it with
  -- EBADF, which is no answer that is told to an operation on names
  abbrev pub is_stale : Bool
  is_stale = changes osts m.tree a && not (nat_lt m.last a.number.0)

  abbrev pub names_next : Machine
  names_next = record m { tree = if is_stale then m.tree else after osts m.tree a; last = max m.last a.number.0 }

-- what the user is told: of an open the file, of a file's attributes its size
abbrev pub as_told : Machine → Answer → Answer
as_told m told.Done = told.Done
as_told m (told.Made fid) = told.Made fid
as_told m (told.Dir fid) = told.Dir fid
as_told m (told.File fid) = told.File fid
as_told m (told.DirStat fid mode) = told.DirStat fid mode
as_told m (told.FileStat fid mode links layout) = told.FileSize fid mode links (size_of layout (bytes_of m fid))
as_told m (told.FileSize fid mode links size) = told.FileSize fid mode links size
as_told m (told.Names names) = told.Names names
as_told m (told.Layout layout) = told.Layout layout
as_told m (told.OpenFile fid txn layout) = told.Made fid
as_told m (told.Granted cookie extent size) = told.Granted cookie extent size
as_told m (told.Waiting cookie) = told.Waiting cookie
as_told m (told.Content bytes) = told.Content bytes
as_told m (told.Size size) = told.Size size
as_told m told.Lock = told.Lock
as_told m (told.Sizes sizes) = told.Sizes sizes
as_told m told.Uncovered = told.Uncovered
as_told m (told.Refused errno) = told.Refused errno

abbrev pub names_answer : ℕ → Machine → Operation → Answer
names_answer osts m a = if is_stale osts m a then told.Refused EBADF else as_told m (footprint.answer osts m.tree a)

-- ---- bytes, through the layout that the file has: what never was a file has none, and keeps none that is written

abbrev pub data_answer : Machine → Fid → Call → Answer
data_answer m f (call.Lookup path) = told.Refused EBADF
data_answer m f (call.Stat path) = told.Refused EBADF
data_answer m f (call.List path) = told.Refused EBADF
data_answer m f (call.Layout path) = told.Refused EBADF
data_answer m f (call.Mkdir path) = told.Refused EBADF
data_answer m f (call.Create path stripes) = told.Refused EBADF
data_answer m f (call.Link old new) = told.Refused EBADF
data_answer m f (call.Unlink path) = told.Refused EBADF
data_answer m f (call.Rmdir path) = told.Refused EBADF
data_answer m f (call.Rename old new) = told.Refused EBADF
data_answer m f (call.Chmod path mode) = told.Refused EBADF
data_answer m f (call.Open handle path) = told.Refused EBADF
data_answer m f (call.Close handle) = told.Refused EBADF
data_answer m f (call.Read handle offset count) = told.Content (read (layout m.tree f) (bytes_of m f) offset count)
data_answer m f (call.Write handle offset bytes) = told.Done
data_answer m f (call.Cut handle n) = told.Done
data_answer m f (call.Flush handle) = told.Done
data_answer m f (call.Glimpse handle) = told.Refused EBADF

abbrev pub data_change : Machine → Fid → Call → FileBytes → FileBytes
data_change m f (call.Lookup path) b = b
data_change m f (call.Stat path) b = b
data_change m f (call.List path) b = b
data_change m f (call.Layout path) b = b
data_change m f (call.Mkdir path) b = b
data_change m f (call.Create path stripes) b = b
data_change m f (call.Link old new) b = b
data_change m f (call.Unlink path) b = b
data_change m f (call.Rmdir path) b = b
data_change m f (call.Rename old new) b = b
data_change m f (call.Chmod path mode) b = b
data_change m f (call.Open handle path) b = b
data_change m f (call.Close handle) b = b
data_change m f (call.Read handle offset count) b = b
data_change m f (call.Write handle offset bytes) b = write (layout m.tree f) offset bytes b
data_change m f (call.Cut handle n) b = cut (layout m.tree f) n b
data_change m f (call.Flush handle) b = b
data_change m f (call.Glimpse handle) b = b

abbrev pub changed_bytes : Machine → Fid → (FileBytes → FileBytes) → Machine
changed_bytes m f change = if was_file m f then with_bytes m f (change (bytes_of m f)) else m

-- ---- pieces: kept whatever the tree says of the file

abbrev pub piece_bytes : Machine → Fid → (FileBytes → FileBytes) → Machine
piece_bytes m f change = with_bytes m f (change (bytes_of m f))

abbrev pub piece_next : Machine → Op → Machine
piece_next m (op.Lookup path) = m
piece_next m (op.Stat path) = m
piece_next m (op.List path) = m
piece_next m (op.Layout path) = m
piece_next m (op.Mkdir path) = m
piece_next m (op.Create path size count) = m
piece_next m (op.Link old new) = m
piece_next m (op.Unlink path) = m
piece_next m (op.Rmdir path) = m
piece_next m (op.Rename old new) = m
piece_next m (op.Chmod path mode) = m
piece_next m (op.Open path) = m
piece_next m (op.Close opened fid) = m
piece_next m (op.Enqueue resource mode extent) = m
piece_next m (op.Get resource cookie page) = m
piece_next m (op.Put resource cookie offset bytes) = piece_bytes m resource.fid (put_piece resource.stripe offset bytes)
piece_next m (op.Cut resource cookie n) = piece_bytes m resource.fid (cut_piece resource.stripe n)
piece_next m (op.Size resource) = m

-- ---- one act

abbrev pub on_names : Act → Op → Operation
on_names i o = record { number = i.number; who = i.who; op = o }

abbrev pub answer_to : ℕ → Machine → Act → Deed → Answer
answer_to osts m i (Names o) = names_answer osts m (on_names i o)
answer_to osts m i (Data f c) = data_answer m f c
answer_to osts m i (Piece o) = told.Done

abbrev pub next_after : ℕ → Machine → Act → Deed → Machine
next_after osts m i (Names o) = names_next osts m (on_names i o)
next_after osts m i (Data f c) = changed_bytes m f (data_change m f c)
next_after osts m i (Piece o) = piece_next m o

module _ (osts : ℕ) (m : Machine) (i : Act) where
  abbrev pub answer : Answer
  answer = answer_to osts m i i.deed

  abbrev pub next : Machine
  next = next_after osts m i i.deed

-- the object of a file's stripe
abbrev pub object_of : Machine → Fid → ℕ → Object
object_of m f stripe = object_at (bytes_of m f) stripe

-- the answers to acts, and the machine after them, the first act first
abbrev pub answers : ℕ → Machine → List Act → List Answer
answers osts m [] = []
answers osts m (i ∷ is) = answer osts m i ∷ answers osts (next osts m i) is

abbrev pub run : ℕ → Machine → List Act → Machine
run osts m [] = m
run osts m (i ∷ is) = run osts (next osts m i) is
