-- The text of an answer.
use Rattle.std.specs.Prelude.{ℕ, List, [], ◌∷◌, length, codes, decimal}
use Rattle.lu_base.specs.Texts.{pair_text, bytes_text}
use Rattle.lu_msg.specs.declared.answers.Errno.{Errno}
use Rattle.lu_msg.specs.declared.answers.Errno.TheVariants.{ENOENT, EEXIST, ENOTDIR, EISDIR, ENOTEMPTY, EPERM, EINVAL, EBUSY, EBADF}
use Rattle.lu_msg.specs.declared.answers.Errno.TheVariants.{ENAMETOOLONG, EIO}
use Rattle.lu_msg.specs.declared.answers.Answer.{Answer}
use Rattle.lu_msg.specs.declared.answers.Answer.TheVariants.{Done, Made, Dir, File, DirStat, FileStat, FileSize, Names, Layout, OpenFile}
use Rattle.lu_msg.specs.declared.answers.Answer.TheVariants.{Granted, Waiting, Content, Size, Lock, Sizes, Uncovered, Refused}
use Rattle.lu_trace.specs.Words.{words}
use Rattle.lu_trace.specs.Values.{extent_text}
use Rattle.lu_base.specs.Values.{octal_text}
use Rattle.lu_trace.specs.Lists.{layout_text, numbers_text}

abbrev pub errno_text : Errno → List ℕ
errno_text ENOENT = codes "ENOENT"
errno_text EEXIST = codes "EEXIST"
errno_text ENOTDIR = codes "ENOTDIR"
errno_text EISDIR = codes "EISDIR"
errno_text ENOTEMPTY = codes "ENOTEMPTY"
errno_text EPERM = codes "EPERM"
errno_text EINVAL = codes "EINVAL"
errno_text EBUSY = codes "EBUSY"
errno_text EBADF = codes "EBADF"
errno_text ENAMETOOLONG = codes "ENAMETOOLONG"
errno_text EIO = codes "EIO"

abbrev pub answer_text : Answer → List ℕ
answer_text Done = codes "ok"
answer_text (Made fid) = words (codes "ok" ∷ pair_text fid.0 ∷ [])
answer_text (Dir fid) = words (codes "dir" ∷ pair_text fid.0 ∷ [])
answer_text (File fid) = words (codes "file" ∷ pair_text fid.0 ∷ [])
answer_text (DirStat fid mode) = words (codes "dir" ∷ pair_text fid.0 ∷ octal_text mode ∷ [])
answer_text (FileStat fid mode links layout) =
    words (codes "file" ∷ pair_text fid.0 ∷ octal_text mode ∷ decimal links ∷ layout_text layout ∷ [])
answer_text (FileSize fid mode links size) =
    words (codes "file" ∷ pair_text fid.0 ∷ octal_text mode ∷ decimal links ∷ decimal size ∷ [])
answer_text (Names names) = words (codes "names" ∷ decimal (length names) ∷ names)
answer_text (Layout layout) = words (codes "layout" ∷ layout_text layout ∷ [])
answer_text (OpenFile fid txn layout) = words (codes "open" ∷ pair_text fid.0 ∷ pair_text txn.0 ∷ layout_text layout ∷ [])
answer_text (Granted cookie extent size) =
    words (codes "granted" ∷ pair_text cookie.0 ∷ extent_text extent ∷ decimal size ∷ [])
answer_text (Waiting cookie) = words (codes "waiting" ∷ pair_text cookie.0 ∷ [])
answer_text (Content bytes) = words (codes "content" ∷ bytes_text bytes ∷ [])
answer_text (Size size) = words (codes "size" ∷ decimal size ∷ [])
answer_text Lock = codes "lock"
answer_text (Sizes sizes) = words (codes "sizes" ∷ numbers_text sizes ∷ [])
answer_text Uncovered = codes "uncovered"
answer_text (Refused errno) = errno_text errno
