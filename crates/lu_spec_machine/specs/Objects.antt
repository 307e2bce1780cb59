-- An operation on an object, the bytes of one stripe of a file by their offsets: what it writes and touches, what it makes
-- of the object, and what is read of it. An absent byte is read as 0.
use Rattle.std.specs.Prelude.{ℕ, zero, suc, ◌+◌, ◌-◌, ◌*◌, max, ◌==◌, if◌then◌else◌, List, [], ◌∷◌, ◌++◌, length}
use Rattle.std.specs.Option.{unwrap_or}
use Rattle.lu_base.specs.declared.locks.Extent.{Extent}
use Rattle.lu_base.specs.declared.locks.Resource.{Resource}
use Rattle.lu_lock.specs.Growth.{the_end}
use Rattle.lu_msg.specs.declared.answers.Answer.{Answer}
use Rattle.lu_msg.specs.declared.answers.Answer.TheVariants as told
use Rattle.lu_msg.specs.declared.operations.Op.{Op}
use Rattle.lu_msg.specs.declared.operations.Op.TheVariants as op
use Rattle.lu_part.specs.declared.parts.Part.{Part}
use Rattle.lu_part.specs.declared.parts.Part.TheVariants.{Bytes}
use Rattle.lu_spec_machine.specs.Fits.{IsContent, IsSize, has_form}
use Rattle.lu_spec_machine.specs.Places.{Places, found_at, below, laid, inside, end_of}

abbrev pub Object : Type 0
Object = Places ℕ

-- ---- changes

-- a put of no bytes changes nothing
abbrev pub put_bytes : ℕ → List ℕ → Object → Object
put_bytes offset [] object = object
put_bytes offset (b ∷ bs) object = laid offset (b ∷ bs) object

-- a cut to n: all from n on is gone, and the byte at n - 1 is there, 0 if it was absent
abbrev pub cut_bytes : ℕ → Object → Object
cut_bytes zero object = []
cut_bytes (suc last) object = below last object ++ (last, unwrap_or (found_at object last) 0) ∷ []

-- what an operation makes of the object that it names
abbrev pub object_after : Op → Object → Object
object_after (op.Lookup path) object = object
object_after (op.Stat path) object = object
object_after (op.List path) object = object
object_after (op.Layout path) object = object
object_after (op.Mkdir path) object = object
object_after (op.Create path size count) object = object
object_after (op.Link old new) object = object
object_after (op.Unlink path) object = object
object_after (op.Rmdir path) object = object
object_after (op.Rename old new) object = object
object_after (op.Chmod path mode) object = object
object_after (op.Open path) object = object
object_after (op.Close opened fid) object = object
object_after (op.Enqueue resource mode extent) object = object
object_after (op.Get resource cookie page) object = object
object_after (op.Put resource cookie offset bytes) object = put_bytes offset bytes object
object_after (op.Cut resource cookie size) object = cut_bytes size object
object_after (op.Size resource) object = object

-- ---- what is read

-- one past the last offset with a byte, or 0
abbrev pub object_size : Object → ℕ
object_size object = end_of object

abbrev pub page_size : ℕ
page_size = 4096

abbrev pub page_extent : ℕ → Extent
page_extent page = record { first = page * page_size; last = page * page_size + 4095 }

-- so many bytes from an offset on, up to the last that is there
abbrev pub filled : ℕ → ℕ → Object → List ℕ
filled zero offset object = []
filled (suc count) offset [] = []
filled (suc count) offset (e ∷ object) = if e.0 == offset then e.1 ∷ filled count (offset + 1) object else 0
    ∷ filled count (offset + 1) (e ∷ object)

-- what a `get` of a page is answered under a lock: from the page's start to the last byte of the page that is there under the lock
abbrev pub content : ℕ → Extent → Object → List ℕ
content page lock object = filled page_size (page * page_size) (inside (page_extent page) (inside lock object))

-- ---- parts

abbrev pub range : Resource → ℕ → ℕ → List Part
range resource first last = Bytes resource.fid resource.stripe (record { first = first; last = last }) ∷ []

abbrev pub put_range : Resource → ℕ → List ℕ → List Part
put_range resource offset [] = []
put_range resource offset (b ∷ bs) = range resource offset (offset + length bs)

-- a cut also gives its last offset a byte
abbrev pub object_writes : Op → List Part
object_writes (op.Lookup path) = []
object_writes (op.Stat path) = []
object_writes (op.List path) = []
object_writes (op.Layout path) = []
object_writes (op.Mkdir path) = []
object_writes (op.Create path size count) = []
object_writes (op.Link old new) = []
object_writes (op.Unlink path) = []
object_writes (op.Rmdir path) = []
object_writes (op.Rename old new) = []
object_writes (op.Chmod path mode) = []
object_writes (op.Open path) = []
object_writes (op.Close opened fid) = []
object_writes (op.Enqueue resource mode extent) = []
object_writes (op.Get resource cookie page) = []
object_writes (op.Put resource cookie offset bytes) = put_range resource offset bytes
object_writes (op.Cut resource cookie size) = range resource (max size 1 - 1) the_end
object_writes (op.Size resource) = []

-- what waits touches nothing, nor does any answer that isn't given to an `enqueue`
abbrev pub granted_range : Resource → Answer → List Part
granted_range resource told.Done = []
granted_range resource (told.Made fid) = []
granted_range resource (told.Dir fid) = []
granted_range resource (told.File fid) = []
granted_range resource (told.DirStat fid mode) = []
granted_range resource (told.FileStat fid mode links layout) = []
granted_range resource (told.FileSize fid mode links size) = []
granted_range resource (told.Names names) = []
granted_range resource (told.Layout layout) = []
granted_range resource (told.OpenFile fid txn layout) = []
granted_range resource (told.Granted cookie granted size) = range resource granted.first granted.last
granted_range resource (told.Waiting cookie) = []
granted_range resource (told.Content bytes) = []
granted_range resource (told.Size size) = []
granted_range resource told.Lock = []
granted_range resource (told.Sizes sizes) = []
granted_range resource told.Uncovered = []
granted_range resource (told.Refused errno) = []

-- by the answer: a lock that is granted touches its range, content its page, and a size the whole object; what waits, isn't
-- covered, or sends the asker to a lock touches nothing
abbrev pub object_touches : Op → Answer → List Part
object_touches (op.Lookup path) answer = []
object_touches (op.Stat path) answer = []
object_touches (op.List path) answer = []
object_touches (op.Layout path) answer = []
object_touches (op.Mkdir path) answer = []
object_touches (op.Create path size count) answer = []
object_touches (op.Link old new) answer = []
object_touches (op.Unlink path) answer = []
object_touches (op.Rmdir path) answer = []
object_touches (op.Rename old new) answer = []
object_touches (op.Chmod path mode) answer = []
object_touches (op.Open path) answer = []
object_touches (op.Close opened fid) answer = []
object_touches (op.Enqueue resource mode extent) answer = granted_range resource answer
object_touches (op.Get resource cookie page) answer = if has_form IsContent answer
    then range resource (page_extent page).first (page_extent page).last else []
object_touches (op.Put resource cookie offset bytes) answer = []
object_touches (op.Cut resource cookie size) answer = []
object_touches (op.Size resource) answer = if has_form IsSize answer then range resource 0 the_end else []
