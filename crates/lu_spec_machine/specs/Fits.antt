-- Which answers an operation can be given: those of its row. A refusal by the metadata target has any error but EBADF and
-- EIO; EBADF is what it answers to an operation that is none on names; EIO is told by a client alone.
use Rattle.std.specs.Prelude.{◌≡◌, ℕ, Bool, true, List, [], ◌∷◌, ◌==◌}
use Rattle.std.specs.List.{list_any}
use Rattle.lu_msg.specs.declared.answers.Answer.{Answer}
use Rattle.lu_msg.specs.declared.answers.Answer.TheVariants as told
use Rattle.lu_msg.specs.declared.answers.Errno.{Errno}
use Rattle.lu_msg.specs.declared.answers.Errno.TheVariants.{ENOENT, EEXIST, ENOTDIR, EISDIR, ENOTEMPTY, EPERM, EINVAL, EBUSY, EBADF}
use Rattle.lu_msg.specs.declared.answers.Errno.TheVariants.{ENAMETOOLONG, EIO}
use Rattle.lu_msg.specs.declared.operations.Op.{Op}
use Rattle.lu_msg.specs.declared.operations.Op.TheVariants as op
use Rattle.lu_spec_machine.specs.Tree.{Tree}
use Rattle.lu_spec_machine.specs.Footprint.{Operation, answer}

-- the forms of answers: an error of the table is a refusal
pub data Form : Type 0 where
  IsDone : Form
  IsMade : Form
  IsDir : Form
  IsFile : Form
  IsDirStat : Form
  IsFileStat : Form
  IsFileSize : Form
  IsNames : Form
  IsLayout : Form
  IsOpenFile : Form
  IsGranted : Form
  IsWaiting : Form
  IsContent : Form
  IsSize : Form
  IsLock : Form
  IsSizes : Form
  IsUncovered : Form
  IsRefusal : Form
  IsBadFile : Form
  IsEvicted : Form

abbrev pub form_of_errno : Errno → Form
form_of_errno ENOENT = IsRefusal
form_of_errno EEXIST = IsRefusal
form_of_errno ENOTDIR = IsRefusal
form_of_errno EISDIR = IsRefusal
form_of_errno ENOTEMPTY = IsRefusal
form_of_errno EPERM = IsRefusal
form_of_errno EINVAL = IsRefusal
form_of_errno EBUSY = IsRefusal
form_of_errno EBADF = IsBadFile
form_of_errno ENAMETOOLONG = IsRefusal
form_of_errno EIO = IsEvicted

abbrev pub form_of : Answer → Form
form_of told.Done = IsDone
form_of (told.Made fid) = IsMade
form_of (told.Dir fid) = IsDir
form_of (told.File fid) = IsFile
form_of (told.DirStat fid mode) = IsDirStat
form_of (told.FileStat fid mode links layout) = IsFileStat
form_of (told.FileSize fid mode links size) = IsFileSize
form_of (told.Names names) = IsNames
form_of (told.Layout layout) = IsLayout
form_of (told.OpenFile fid txn layout) = IsOpenFile
form_of (told.Granted cookie extent size) = IsGranted
form_of (told.Waiting cookie) = IsWaiting
form_of (told.Content bytes) = IsContent
form_of (told.Size size) = IsSize
form_of told.Lock = IsLock
form_of (told.Sizes sizes) = IsSizes
form_of told.Uncovered = IsUncovered
form_of (told.Refused errno) = form_of_errno errno

-- the place of a form among them
abbrev pub place_of : Form → ℕ
place_of IsDone = 0
place_of IsMade = 1
place_of IsDir = 2
place_of IsFile = 3
place_of IsDirStat = 4
place_of IsFileStat = 5
place_of IsFileSize = 6
place_of IsNames = 7
place_of IsLayout = 8
place_of IsOpenFile = 9
place_of IsGranted = 10
place_of IsWaiting = 11
place_of IsContent = 12
place_of IsSize = 13
place_of IsLock = 14
place_of IsSizes = 15
place_of IsUncovered = 16
place_of IsRefusal = 17
place_of IsBadFile = 18
place_of IsEvicted = 19

-- the forms that a row's answers have
abbrev pub forms_for : Op → List Form
forms_for (op.Lookup path) = IsDir ∷ IsFile ∷ IsRefusal ∷ []
forms_for (op.Stat path) = IsDirStat ∷ IsFileStat ∷ IsRefusal ∷ []
forms_for (op.List path) = IsNames ∷ IsRefusal ∷ []
forms_for (op.Layout path) = IsLayout ∷ IsRefusal ∷ []
forms_for (op.Mkdir path) = IsMade ∷ IsRefusal ∷ []
forms_for (op.Create path size count) = IsMade ∷ IsRefusal ∷ []
forms_for (op.Link old new) = IsDone ∷ IsRefusal ∷ []
forms_for (op.Unlink path) = IsDone ∷ IsRefusal ∷ []
forms_for (op.Rmdir path) = IsDone ∷ IsRefusal ∷ []
forms_for (op.Rename old new) = IsDone ∷ IsRefusal ∷ []
forms_for (op.Chmod path mode) = IsDone ∷ IsRefusal ∷ []
forms_for (op.Open path) = IsOpenFile ∷ IsRefusal ∷ []
forms_for (op.Close opened fid) = IsDone ∷ []
forms_for (op.Enqueue resource mode extent) = IsGranted ∷ IsWaiting ∷ IsBadFile ∷ []
forms_for (op.Get resource cookie page) = IsContent ∷ IsUncovered ∷ IsBadFile ∷ []
forms_for (op.Put resource cookie offset bytes) = IsDone ∷ IsUncovered ∷ IsBadFile ∷ []
forms_for (op.Cut resource cookie size) = IsDone ∷ IsUncovered ∷ IsBadFile ∷ []
forms_for (op.Size resource) = IsSize ∷ IsLock ∷ IsBadFile ∷ []

abbrev pub has_form : Form → Answer → Bool
has_form form a = place_of form == place_of (form_of a)

abbrev pub answer_fits : Op → Answer → Bool
answer_fits o a = list_any (λ form. has_form form a) (forms_for o)

-- each answer of the table fits its operation
abbrev pub AnswersFit : Type 0
AnswersFit = (osts : ℕ) (t : Tree) (a : Operation) → answer_fits a.op (answer osts t a) ≡ true
