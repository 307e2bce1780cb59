-- Each answer is read from its words.
use Rattle.std.proofs.Common.{◌≡◌, ◌≢◌, ℕ, List, [], ◌∷◌, length, Option, Some, refl, ap, ◌∙◌, decimal, arith}
use Rattle.std.specs.Prelude.{codes}
use Rattle.lu_base.specs.Texts.{pair_text, bytes_text}
use Rattle.lu_base.specs.Values.{octal_text}
use Rattle.lu_scene.specs.Fields.{number_of}
use Rattle.lu_scene.proofs.Numerals.{number_of-decimal}
use Rattle.lu_trace.specs.Words.{words}
use Rattle.lu_trace.specs.Values.{extent_text}
use Rattle.lu_trace.specs.Lists.{numbers_text, layout_text}
use Rattle.lu_trace.specs.Answers.{answer_text}
use Rattle.lu_judge_reader.specs.Reading.{◌>>=◌, give, one, further, with_left}
use Rattle.lu_judge_reader.specs.Values.{pair_of, extent_of, octal_of, bytes_of}
use Rattle.lu_judge_reader.specs.Lists.{sizes_of, layout_of}
use Rattle.lu_judge_reader.proofs.Shown.{AreShown, no_words, more_words, code_shown, decimal_shown, pair_shown, extent_shown, octal_shown}
use Rattle.lu_judge_reader.proofs.Shown.{bytes_shown, sizes_shown, layout_shown, names_shown}
use Rattle.lu_judge_reader.proofs.Steps.{one_then}
use Rattle.lu_judge_reader.proofs.ValuesAgain.{pair_again, extent_again}
use Rattle.lu_judge_reader.proofs.ListsAgain.{sizes_again, names_again, layout_again}
use Rattle.lu_judge_reader.proofs.BytesAgain.{octal_again, bytes_again}
use Rattle.lu_msg.specs.declared.answers.Answer.{Answer}
use Rattle.lu_msg.specs.declared.answers.Answer.TheVariants as answer
use Rattle.lu_msg.specs.declared.answers.Errno.{Errno}
use Rattle.lu_msg.specs.declared.answers.Errno.TheVariants as errnos
use Rattle.lu_trace.specs.Answers.{errno_text}
use Rattle.lu_trace.specs.WellFormed.{IsAnswer}
use Rattle.lu_judge_reader.specs.declared.names.AnswerName.{AnswerName}
use Rattle.lu_judge_reader.specs.declared.names.AnswerName.TheVariants as answers
use Rattle.lu_judge_reader.specs.Names.{answer_name_of}
use Rattle.lu_judge_reader.specs.Reading.{if_more}
use Rattle.lu_judge_reader.specs.Parts.{stat_of, names_rest, answer_rest, answer_reader}
use Rattle.lu_judge_reader.proofs.Stats.{stat_layout, stat_size}

-- the words of an answer
abbrev pub answer_words : Answer → List (List ℕ)
answer_words answer.Done = codes "ok" ∷ []
answer_words (answer.Made fid) = codes "ok" ∷ pair_text fid.0 ∷ []
answer_words (answer.Dir fid) = codes "dir" ∷ pair_text fid.0 ∷ []
answer_words (answer.File fid) = codes "file" ∷ pair_text fid.0 ∷ []
answer_words (answer.Layout layout) = codes "layout" ∷ layout_text layout ∷ []
answer_words (answer.OpenFile fid txn layout) = codes "open" ∷ pair_text fid.0 ∷ pair_text txn.0 ∷ layout_text layout ∷ []
answer_words (answer.Granted cookie extent size) = codes "granted" ∷ pair_text cookie.0 ∷ extent_text extent ∷ decimal size ∷ []
answer_words (answer.Waiting cookie) = codes "waiting" ∷ pair_text cookie.0 ∷ []
answer_words (answer.Content bytes) = codes "content" ∷ bytes_text bytes ∷ []
answer_words (answer.Size size) = codes "size" ∷ decimal size ∷ []
answer_words answer.Lock = codes "lock" ∷ []
answer_words (answer.Sizes sizes) = codes "sizes" ∷ numbers_text sizes ∷ []
answer_words answer.Uncovered = codes "uncovered" ∷ []
answer_words (answer.DirStat fid mode) = codes "dir" ∷ pair_text fid.0 ∷ octal_text mode ∷ []
answer_words (answer.FileStat fid mode links layout) = codes "file" ∷ pair_text fid.0 ∷ octal_text mode ∷ decimal links ∷ layout_text layout
    ∷ []
answer_words (answer.FileSize fid mode links size) = codes "file" ∷ pair_text fid.0 ∷ octal_text mode ∷ decimal links ∷ decimal size ∷ []
answer_words (answer.Names names) = codes "names" ∷ decimal (length names) ∷ names
answer_words (answer.Refused errno) = errno_text errno ∷ []

-- its text is these words, with one space between them
pub answer_spelled : (v : Answer) → answer_text v ≡ words (answer_words v)
answer_spelled answer.Done = refl
answer_spelled (answer.Made fid) = refl
answer_spelled (answer.Dir fid) = refl
answer_spelled (answer.File fid) = refl
answer_spelled (answer.Layout layout) = refl
answer_spelled (answer.OpenFile fid txn layout) = refl
answer_spelled (answer.Granted cookie extent size) = refl
answer_spelled (answer.Waiting cookie) = refl
answer_spelled (answer.Content bytes) = refl
answer_spelled (answer.Size size) = refl
answer_spelled answer.Lock = refl
answer_spelled (answer.Sizes sizes) = refl
answer_spelled answer.Uncovered = refl
answer_spelled (answer.DirStat fid mode) = refl
answer_spelled (answer.FileStat fid mode links layout) = refl
answer_spelled (answer.FileSize fid mode links size) = refl
answer_spelled (answer.Names names) = refl
answer_spelled (answer.Refused errno) = refl

pub answer_some : (v : Answer) → answer_words v ≢ []
answer_some answer.Done none = cc none
answer_some (answer.Made fid) none = cc none
answer_some (answer.Dir fid) none = cc none
answer_some (answer.File fid) none = cc none
answer_some (answer.Layout layout) none = cc none
answer_some (answer.OpenFile fid txn layout) none = cc none
answer_some (answer.Granted cookie extent size) none = cc none
answer_some (answer.Waiting cookie) none = cc none
answer_some (answer.Content bytes) none = cc none
answer_some (answer.Size size) none = cc none
answer_some answer.Lock none = cc none
answer_some (answer.Sizes sizes) none = cc none
answer_some answer.Uncovered none = cc none
answer_some (answer.DirStat fid mode) none = cc none
answer_some (answer.FileStat fid mode links layout) none = cc none
answer_some (answer.FileSize fid mode links size) none = cc none
answer_some (answer.Names names) none = cc none
answer_some (answer.Refused errno) none = cc none

errno_again : (errno : Errno) → answer_name_of (errno_text errno) ≡ Some (answers.Refused errno)
errno_again errnos.ENOENT = refl
errno_again errnos.EEXIST = refl
errno_again errnos.ENOTDIR = refl
errno_again errnos.EISDIR = refl
errno_again errnos.ENOTEMPTY = refl
errno_again errnos.EPERM = refl
errno_again errnos.EINVAL = refl
errno_again errnos.EBUSY = refl
errno_again errnos.EBADF = refl
errno_again errnos.ENAMETOOLONG = refl
errno_again errnos.EIO = refl

-- it is read from its words
pub answer_again : (v : Answer) → IsAnswer v → answer_reader (answer_words v) ≡ Some (v, [])
unfolding answer_reader
answer_again answer.Done is = refl
answer_again (answer.Made fid) is =
    one_then pair_of (λ first. give (answer.Made (record { 0 = first }))) (pair_text fid.0) [] fid.0 (pair_again fid.0 is)
answer_again (answer.Dir fid) is =
    one_then pair_of (λ first. if_more (answer.Dir (record { 0 = first }))
    (one octal_of >>= λ mode. give (answer.DirStat (record { 0 = first }) mode))) (pair_text fid.0) [] fid.0 (pair_again fid.0 is)
answer_again (answer.File fid) is =
    one_then pair_of (λ first. if_more (answer.File (record { 0 = first }))
    (one octal_of >>= λ mode. one number_of >>= λ links. one (stat_of first mode links))) (pair_text fid.0) [] fid.0
    (pair_again fid.0 is)
answer_again (answer.Layout layout) is =
    one_then layout_of (λ first. give (answer.Layout first)) (layout_text layout) [] layout (layout_again layout is)
answer_again (answer.OpenFile fid txn layout) is =
    one_then pair_of (λ first. one pair_of >>= λ second. one layout_of >>=
    λ third. give (answer.OpenFile (record { 0 = first }) (record { 0 = second }) third)) (pair_text fid.0)
    (pair_text txn.0 ∷ layout_text layout ∷ []) fid.0 (pair_again fid.0 is.0)
    ∙ one_then pair_of (λ second. one layout_of >>= λ third. give (answer.OpenFile (record { 0 = fid.0 }) (record { 0 = second }) third))
    (pair_text txn.0) (layout_text layout ∷ []) txn.0 (pair_again txn.0 is.1)
    ∙ one_then layout_of (λ third. give (answer.OpenFile (record { 0 = fid.0 }) (record { 0 = txn.0 }) third)) (layout_text layout) []
    layout (layout_again layout is.2)
answer_again (answer.Granted cookie extent size) is =
    one_then pair_of (λ first. one extent_of >>= λ second. one number_of >>=
    λ third. give (answer.Granted (record { 0 = first }) second third)) (pair_text cookie.0) (extent_text extent ∷ decimal size ∷ [])
    cookie.0 (pair_again cookie.0 is.0)
    ∙ one_then extent_of (λ second. one number_of >>= λ third. give (answer.Granted (record { 0 = cookie.0 }) second third))
    (extent_text extent) (decimal size ∷ []) extent (extent_again extent is.1)
    ∙ one_then number_of (λ third. give (answer.Granted (record { 0 = cookie.0 }) extent third)) (decimal size) [] size
    (number_of-decimal size is.2)
answer_again (answer.Waiting cookie) is =
    one_then pair_of (λ first. give (answer.Waiting (record { 0 = first }))) (pair_text cookie.0) [] cookie.0 (pair_again cookie.0 is)
answer_again (answer.Content bytes) is =
    one_then bytes_of (λ first. give (answer.Content first)) (bytes_text bytes) [] bytes (bytes_again bytes is.0 is.1)
answer_again (answer.Size size) is =
    one_then number_of (λ first. give (answer.Size first)) (decimal size) [] size (number_of-decimal size is)
answer_again answer.Lock is = refl
answer_again (answer.Sizes sizes) is =
    one_then sizes_of (λ first. give (answer.Sizes first)) (numbers_text sizes) [] sizes (sizes_again sizes is)
answer_again answer.Uncovered is = refl
answer_again (answer.DirStat fid mode) is =
    one_then pair_of (λ f. if_more (answer.Dir (record { 0 = f })) (one octal_of >>= λ m. give (answer.DirStat (record { 0 = f }) m)))
    (pair_text fid.0) (octal_text mode ∷ []) fid.0 (pair_again fid.0 is.0)
    ∙ one_then octal_of (λ m. give (answer.DirStat fid m)) (octal_text mode) [] mode (octal_again mode is.1)
answer_again (answer.FileStat fid mode links layout) is =
    one_then pair_of (λ f. if_more (answer.File (record { 0 = f })) (one octal_of >>= λ m. one number_of >>= λ k. one (stat_of f m k)))
    (pair_text fid.0) (octal_text mode ∷ decimal links ∷ layout_text layout ∷ []) fid.0 (pair_again fid.0 is.0)
    ∙ one_then octal_of (λ m. one number_of >>= λ k. one (stat_of fid.0 m k)) (octal_text mode) (decimal links ∷ layout_text layout ∷ [])
    mode (octal_again mode is.1)
    ∙ one_then number_of (λ k. one (stat_of fid.0 mode k)) (decimal links) (layout_text layout ∷ []) links (number_of-decimal links is.2)
    ∙ ap (λ (o : Option Answer). with_left o []) (stat_layout fid mode links layout is.3)
answer_again (answer.FileSize fid mode links size) is =
    one_then pair_of (λ f. if_more (answer.File (record { 0 = f })) (one octal_of >>= λ m. one number_of >>= λ k. one (stat_of f m k)))
    (pair_text fid.0) (octal_text mode ∷ decimal links ∷ decimal size ∷ []) fid.0 (pair_again fid.0 is.0)
    ∙ one_then octal_of (λ m. one number_of >>= λ k. one (stat_of fid.0 m k)) (octal_text mode) (decimal links ∷ decimal size ∷ []) mode
    (octal_again mode is.1)
    ∙ one_then number_of (λ k. one (stat_of fid.0 mode k)) (decimal links) (decimal size ∷ []) links (number_of-decimal links is.2)
    ∙ ap (λ (o : Option Answer). with_left o []) (stat_size fid mode links size is.3)
answer_again (answer.Names names) is =
    let few = is.1 in
    one_then number_of (λ n. names_rest n >>= λ ns. give (answer.Names ns)) (decimal (length names)) names (length names)
    (number_of-decimal (length names) (omega (arith, few)))
    ∙ ap (λ (o : Option (List (List ℕ))). further (with_left o []) (λ ns. give (answer.Names ns))) (names_again names is.0)
answer_again (answer.Refused errno) is = ap (λ (o : Option AnswerName). further (with_left o []) answer_rest) (errno_again errno)

errno_shown : (errno : Errno) → AreShown (errno_text errno ∷ [])
errno_shown errnos.ENOENT = more_words (errno_text errnos.ENOENT) [] (code_shown (errno_text errnos.ENOENT) refl) no_words
errno_shown errnos.EEXIST = more_words (errno_text errnos.EEXIST) [] (code_shown (errno_text errnos.EEXIST) refl) no_words
errno_shown errnos.ENOTDIR = more_words (errno_text errnos.ENOTDIR) [] (code_shown (errno_text errnos.ENOTDIR) refl) no_words
errno_shown errnos.EISDIR = more_words (errno_text errnos.EISDIR) [] (code_shown (errno_text errnos.EISDIR) refl) no_words
errno_shown errnos.ENOTEMPTY = more_words (errno_text errnos.ENOTEMPTY) [] (code_shown (errno_text errnos.ENOTEMPTY) refl) no_words
errno_shown errnos.EPERM = more_words (errno_text errnos.EPERM) [] (code_shown (errno_text errnos.EPERM) refl) no_words
errno_shown errnos.EINVAL = more_words (errno_text errnos.EINVAL) [] (code_shown (errno_text errnos.EINVAL) refl) no_words
errno_shown errnos.EBUSY = more_words (errno_text errnos.EBUSY) [] (code_shown (errno_text errnos.EBUSY) refl) no_words
errno_shown errnos.EBADF = more_words (errno_text errnos.EBADF) [] (code_shown (errno_text errnos.EBADF) refl) no_words
errno_shown errnos.ENAMETOOLONG = more_words (errno_text errnos.ENAMETOOLONG) [] (code_shown (errno_text errnos.ENAMETOOLONG) refl) no_words
errno_shown errnos.EIO = more_words (errno_text errnos.EIO) [] (code_shown (errno_text errnos.EIO) refl) no_words

-- each byte of its words is shown, and no space
pub answer_shown : (v : Answer) → IsAnswer v → AreShown (answer_words v)
answer_shown answer.Done is = more_words (codes "ok") [] (code_shown (codes "ok") refl) (no_words)
answer_shown (answer.Made fid) is = more_words (codes "ok") (pair_text fid.0 ∷ []) (code_shown (codes "ok") refl)
    (more_words (pair_text fid.0) [] (pair_shown fid.0 is) (no_words))
answer_shown (answer.Dir fid) is = more_words (codes "dir") (pair_text fid.0 ∷ []) (code_shown (codes "dir") refl)
    (more_words (pair_text fid.0) [] (pair_shown fid.0 is) (no_words))
answer_shown (answer.File fid) is = more_words (codes "file") (pair_text fid.0 ∷ []) (code_shown (codes "file") refl)
    (more_words (pair_text fid.0) [] (pair_shown fid.0 is) (no_words))
answer_shown (answer.Layout layout) is = more_words (codes "layout") (layout_text layout ∷ []) (code_shown (codes "layout") refl)
    (more_words (layout_text layout) [] (layout_shown layout is) (no_words))
answer_shown (answer.OpenFile fid txn layout) is = more_words (codes "open") (pair_text fid.0 ∷ pair_text txn.0 ∷ layout_text layout ∷ [])
    (code_shown (codes "open") refl) (more_words (pair_text fid.0) (pair_text txn.0 ∷ layout_text layout ∷ []) (pair_shown fid.0 is.0)
    (more_words (pair_text txn.0) (layout_text layout ∷ []) (pair_shown txn.0 is.1)
    (more_words (layout_text layout) [] (layout_shown layout is.2) (no_words))))
answer_shown (answer.Granted cookie extent size) is = more_words (codes "granted")
    (pair_text cookie.0 ∷ extent_text extent ∷ decimal size ∷ []) (code_shown (codes "granted") refl)
    (more_words (pair_text cookie.0) (extent_text extent ∷ decimal size ∷ []) (pair_shown cookie.0 is.0)
    (more_words (extent_text extent) (decimal size ∷ []) (extent_shown extent is.1)
    (more_words (decimal size) [] (decimal_shown size is.2) (no_words))))
answer_shown (answer.Waiting cookie) is = more_words (codes "waiting") (pair_text cookie.0 ∷ []) (code_shown (codes "waiting") refl)
    (more_words (pair_text cookie.0) [] (pair_shown cookie.0 is) (no_words))
answer_shown (answer.Content bytes) is = more_words (codes "content") (bytes_text bytes ∷ []) (code_shown (codes "content") refl)
    (more_words (bytes_text bytes) [] (bytes_shown bytes is.0 is.1) (no_words))
answer_shown (answer.Size size) is = more_words (codes "size") (decimal size ∷ []) (code_shown (codes "size") refl)
    (more_words (decimal size) [] (decimal_shown size is) (no_words))
answer_shown answer.Lock is = more_words (codes "lock") [] (code_shown (codes "lock") refl) (no_words)
answer_shown (answer.Sizes sizes) is = more_words (codes "sizes") (numbers_text sizes ∷ []) (code_shown (codes "sizes") refl)
    (more_words (numbers_text sizes) [] (sizes_shown sizes is) (no_words))
answer_shown answer.Uncovered is = more_words (codes "uncovered") [] (code_shown (codes "uncovered") refl) (no_words)
answer_shown (answer.DirStat fid mode) is = more_words (codes "dir") (pair_text fid.0 ∷ octal_text mode ∷ [])
    (code_shown (codes "dir") refl) (more_words (pair_text fid.0) (octal_text mode ∷ []) (pair_shown fid.0 is.0)
    (more_words (octal_text mode) [] (octal_shown mode is.1) (no_words)))
answer_shown (answer.FileStat fid mode links layout) is = more_words (codes "file")
    (pair_text fid.0 ∷ octal_text mode ∷ decimal links ∷ layout_text layout ∷ []) (code_shown (codes "file") refl)
    (more_words (pair_text fid.0) (octal_text mode ∷ decimal links ∷ layout_text layout ∷ []) (pair_shown fid.0 is.0)
    (more_words (octal_text mode) (decimal links ∷ layout_text layout ∷ []) (octal_shown mode is.1)
    (more_words (decimal links) (layout_text layout ∷ []) (decimal_shown links is.2)
    (more_words (layout_text layout) [] (layout_shown layout is.3) (no_words)))))
answer_shown (answer.FileSize fid mode links size) is = more_words (codes "file")
    (pair_text fid.0 ∷ octal_text mode ∷ decimal links ∷ decimal size ∷ []) (code_shown (codes "file") refl)
    (more_words (pair_text fid.0) (octal_text mode ∷ decimal links ∷ decimal size ∷ []) (pair_shown fid.0 is.0)
    (more_words (octal_text mode) (decimal links ∷ decimal size ∷ []) (octal_shown mode is.1)
    (more_words (decimal links) (decimal size ∷ []) (decimal_shown links is.2)
    (more_words (decimal size) [] (decimal_shown size is.3) (no_words)))))
answer_shown (answer.Names names) is =
    let few = is.1 in
    more_words (codes "names") (decimal (length names) ∷ names) (code_shown (codes "names") refl)
    (more_words (decimal (length names)) names (decimal_shown (length names) (omega (arith, few))) (names_shown names is.0))
answer_shown (answer.Refused errno) is = errno_shown errno
