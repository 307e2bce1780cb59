-- Each operation is read from its words.
use Rattle.std.proofs.Common.{◌≡◌, ◌≢◌, ℕ, ◌+◌, ◌^◌, List, [], ◌∷◌, length, Option, Some, None, refl, ap, ◌∙◌, decimal, arith}
use Rattle.std.specs.Prelude.{codes, nat_le}
use Rattle.std.specs.Fmt.{signed_decimal}
use Rattle.std.proofs.lemmas.Bool.{le-leb, cond-true}
use Rattle.lu_base.specs.Texts.{pair_text, path_text, bytes_text}
use Rattle.lu_base.specs.Values.{octal_text, mode_text}
use Rattle.lu_scene.specs.Fields.{number_of, path_of}
use Rattle.lu_scene.proofs.Numerals.{number_of-decimal}
use Rattle.lu_scene.proofs.PathWords.{path_of-text}
use Rattle.lu_trace.specs.Words.{words}
use Rattle.lu_trace.specs.Values.{extent_text, object_text}
use Rattle.lu_trace.specs.Ops.{op_text}
use Rattle.lu_judge_reader.specs.Reading.{◌>>=◌, give, one, with_left}
use Rattle.lu_judge_reader.specs.Values.{small_of, up_to, pair_of, object_of, extent_of, mode_of, rights_of, count_of, bytes_of}
use Rattle.lu_judge_reader.proofs.Shown.{AreShown, no_words, more_words, code_shown, decimal_shown, pair_shown, object_shown, extent_shown}
use Rattle.lu_judge_reader.proofs.Shown.{mode_shown, rights_shown, count_shown, path_shown, bytes_shown}
use Rattle.lu_judge_reader.proofs.Steps.{one_then}
use Rattle.lu_judge_reader.proofs.ValuesAgain.{small_again, up_to_again, pair_again, object_again, extent_again, mode_again, count_again}
use Rattle.lu_judge_reader.proofs.BytesAgain.{rights_again, bytes_again}
use Rattle.lu_msg.specs.declared.operations.Op.{Op}
use Rattle.lu_msg.specs.declared.operations.Op.TheVariants as op
use Rattle.lu_trace.specs.WellFormed.{IsOp}
use Rattle.lu_judge_reader.specs.Parts.{made, put_of, op_reader}

-- the words of an operation
abbrev pub op_words : Op → List (List ℕ)
op_words (op.Lookup path) = codes "lookup" ∷ path_text path ∷ []
op_words (op.Stat path) = codes "stat" ∷ path_text path ∷ []
op_words (op.List path) = codes "list" ∷ path_text path ∷ []
op_words (op.Layout path) = codes "layout" ∷ path_text path ∷ []
op_words (op.Mkdir path) = codes "mkdir" ∷ path_text path ∷ []
op_words (op.Create path size count) = codes "create" ∷ path_text path ∷ decimal size ∷ signed_decimal count ∷ []
op_words (op.Link old new) = codes "link" ∷ path_text old ∷ path_text new ∷ []
op_words (op.Unlink path) = codes "unlink" ∷ path_text path ∷ []
op_words (op.Rmdir path) = codes "rmdir" ∷ path_text path ∷ []
op_words (op.Rename old new) = codes "rename" ∷ path_text old ∷ path_text new ∷ []
op_words (op.Chmod path mode) = codes "chmod" ∷ path_text path ∷ octal_text mode ∷ []
op_words (op.Open path) = codes "open" ∷ path_text path ∷ []
op_words (op.Close txn fid) = codes "close" ∷ pair_text txn.0 ∷ pair_text fid.0 ∷ []
op_words (op.Enqueue resource mode extent) = codes "enqueue" ∷ object_text resource ∷ mode_text mode ∷ extent_text extent ∷ []
op_words (op.Get resource cookie page) = codes "get" ∷ object_text resource ∷ pair_text cookie.0 ∷ decimal page ∷ []
op_words (op.Put resource cookie offset bytes) = codes "put" ∷ object_text resource ∷ pair_text cookie.0 ∷ decimal offset ∷ bytes_text bytes
    ∷ []
op_words (op.Cut resource cookie size) = codes "cut" ∷ object_text resource ∷ pair_text cookie.0 ∷ decimal size ∷ []
op_words (op.Size resource) = codes "size" ∷ object_text resource ∷ []

-- its text is these words, with one space between them
pub op_spelled : (v : Op) → op_text v ≡ words (op_words v)
op_spelled (op.Lookup path) = refl
op_spelled (op.Stat path) = refl
op_spelled (op.List path) = refl
op_spelled (op.Layout path) = refl
op_spelled (op.Mkdir path) = refl
op_spelled (op.Create path size count) = refl
op_spelled (op.Link old new) = refl
op_spelled (op.Unlink path) = refl
op_spelled (op.Rmdir path) = refl
op_spelled (op.Rename old new) = refl
op_spelled (op.Chmod path mode) = refl
op_spelled (op.Open path) = refl
op_spelled (op.Close txn fid) = refl
op_spelled (op.Enqueue resource mode extent) = refl
op_spelled (op.Get resource cookie page) = refl
op_spelled (op.Put resource cookie offset bytes) = refl
op_spelled (op.Cut resource cookie size) = refl
op_spelled (op.Size resource) = refl

pub op_some : (v : Op) → op_words v ≢ []
op_some (op.Lookup path) none = cc none
op_some (op.Stat path) none = cc none
op_some (op.List path) none = cc none
op_some (op.Layout path) none = cc none
op_some (op.Mkdir path) none = cc none
op_some (op.Create path size count) none = cc none
op_some (op.Link old new) none = cc none
op_some (op.Unlink path) none = cc none
op_some (op.Rmdir path) none = cc none
op_some (op.Rename old new) none = cc none
op_some (op.Chmod path mode) none = cc none
op_some (op.Open path) none = cc none
op_some (op.Close txn fid) none = cc none
op_some (op.Enqueue resource mode extent) none = cc none
op_some (op.Get resource cookie page) none = cc none
op_some (op.Put resource cookie offset bytes) none = cc none
op_some (op.Cut resource cookie size) none = cc none
op_some (op.Size resource) none = cc none

-- it is read from its words
pub op_again : (v : Op) → IsOp v → op_reader (op_words v) ≡ Some (v, [])
unfolding op_reader
op_again (op.Lookup path) is =
    one_then path_of (λ first. give (op.Lookup first)) (path_text path) [] path (path_of-text path is)
op_again (op.Stat path) is =
    one_then path_of (λ first. give (op.Stat first)) (path_text path) [] path (path_of-text path is)
op_again (op.List path) is =
    one_then path_of (λ first. give (op.List first)) (path_text path) [] path (path_of-text path is)
op_again (op.Layout path) is =
    one_then path_of (λ first. give (op.Layout first)) (path_text path) [] path (path_of-text path is)
op_again (op.Mkdir path) is =
    one_then path_of (λ first. give (op.Mkdir first)) (path_text path) [] path (path_of-text path is)
op_again (op.Create path size count) is =
    let low = is.1.0 in
    one_then path_of (λ first. one (up_to (2 ^ 32)) >>= λ second. one count_of >>= λ third. give (op.Create first second third))
    (path_text path) (decimal size ∷ signed_decimal count ∷ []) path (path_of-text path is.0)
    ∙ one_then (up_to (2 ^ 32)) (λ second. one count_of >>= λ third. give (op.Create path second third)) (decimal size)
    (signed_decimal count ∷ []) size (up_to_again (2 ^ 32) size low (omega (arith, low)))
    ∙ one_then count_of (λ third. give (op.Create path size third)) (signed_decimal count) [] count (count_again count is.1.1)
op_again (op.Link old new) is =
    one_then path_of (λ first. one path_of >>= λ second. give (op.Link first second)) (path_text old) (path_text new ∷ []) old
    (path_of-text old is.0)
    ∙ one_then path_of (λ second. give (op.Link old second)) (path_text new) [] new (path_of-text new is.1)
op_again (op.Unlink path) is =
    one_then path_of (λ first. give (op.Unlink first)) (path_text path) [] path (path_of-text path is)
op_again (op.Rmdir path) is =
    one_then path_of (λ first. give (op.Rmdir first)) (path_text path) [] path (path_of-text path is)
op_again (op.Rename old new) is =
    one_then path_of (λ first. one path_of >>= λ second. give (op.Rename first second)) (path_text old) (path_text new ∷ []) old
    (path_of-text old is.0)
    ∙ one_then path_of (λ second. give (op.Rename old second)) (path_text new) [] new (path_of-text new is.1)
op_again (op.Chmod path mode) is =
    one_then path_of (λ first. one rights_of >>= λ second. give (op.Chmod first second)) (path_text path) (octal_text mode ∷ []) path
    (path_of-text path is.0)
    ∙ one_then rights_of (λ second. give (op.Chmod path second)) (octal_text mode) [] mode (rights_again mode is.1)
op_again (op.Open path) is =
    one_then path_of (λ first. give (op.Open first)) (path_text path) [] path (path_of-text path is)
op_again (op.Close txn fid) is =
    one_then pair_of (λ first. one pair_of >>= λ second. give (op.Close (record { 0 = first }) (record { 0 = second }))) (pair_text txn.0)
    (pair_text fid.0 ∷ []) txn.0 (pair_again txn.0 is.0)
    ∙ one_then pair_of (λ second. give (op.Close (record { 0 = txn.0 }) (record { 0 = second }))) (pair_text fid.0) [] fid.0
    (pair_again fid.0 is.1)
op_again (op.Enqueue resource mode extent) is =
    one_then object_of (λ first. one mode_of >>= λ second. one extent_of >>= λ third. give (op.Enqueue first second third))
    (object_text resource) (mode_text mode ∷ extent_text extent ∷ []) resource (object_again resource is.0)
    ∙ one_then mode_of (λ second. one extent_of >>= λ third. give (op.Enqueue resource second third)) (mode_text mode)
    (extent_text extent ∷ []) mode (mode_again mode)
    ∙ one_then extent_of (λ third. give (op.Enqueue resource mode third)) (extent_text extent) [] extent (extent_again extent is.1)
op_again (op.Get resource cookie page) is =
    let low = is.2 in
    one_then object_of (λ first. one pair_of >>= λ second. one (small_of 28) >>= λ third. give (op.Get first (record { 0 = second }) third))
    (object_text resource) (pair_text cookie.0 ∷ decimal page ∷ []) resource (object_again resource is.0)
    ∙ one_then pair_of (λ second. one (small_of 28) >>= λ third. give (op.Get resource (record { 0 = second }) third)) (pair_text cookie.0)
    (decimal page ∷ []) cookie.0 (pair_again cookie.0 is.1)
    ∙ one_then (small_of 28) (λ third. give (op.Get resource (record { 0 = cookie.0 }) third)) (decimal page) [] page
    (small_again 28 page (omega (arith, low)) (omega (arith, low)))
op_again (op.Put resource cookie offset bytes) is =
    let low = is.2 in
    one_then object_of (λ first. one pair_of >>= λ second. one number_of >>= λ third. one bytes_of >>=
    λ fourth. made (put_of first second third fourth)) (object_text resource)
    (pair_text cookie.0 ∷ decimal offset ∷ bytes_text bytes ∷ []) resource (object_again resource is.0)
    ∙ one_then pair_of (λ second. one number_of >>= λ third. one bytes_of >>= λ fourth. made (put_of resource second third fourth))
    (pair_text cookie.0) (decimal offset ∷ bytes_text bytes ∷ []) cookie.0 (pair_again cookie.0 is.1)
    ∙ one_then number_of (λ third. one bytes_of >>= λ fourth. made (put_of resource cookie.0 third fourth)) (decimal offset)
    (bytes_text bytes ∷ []) offset (number_of-decimal offset (omega (arith, low)))
    ∙ one_then bytes_of (λ fourth. made (put_of resource cookie.0 offset fourth)) (bytes_text bytes) [] bytes
    (bytes_again bytes is.3 (omega (arith, low)))
    ∙ ap (λ (o : Option Op). with_left o []) (cond-true (nat_le (offset + length bytes) (2 ^ 40))
    (Some (op.Put resource cookie offset bytes)) None (le-leb (offset + length bytes) (2 ^ 40) low))
op_again (op.Cut resource cookie size) is =
    let low = is.2 in
    one_then object_of (λ first. one pair_of >>= λ second. one (up_to (2 ^ 40)) >>=
    λ third. give (op.Cut first (record { 0 = second }) third)) (object_text resource) (pair_text cookie.0 ∷ decimal size ∷ []) resource
    (object_again resource is.0)
    ∙ one_then pair_of (λ second. one (up_to (2 ^ 40)) >>= λ third. give (op.Cut resource (record { 0 = second }) third))
    (pair_text cookie.0) (decimal size ∷ []) cookie.0 (pair_again cookie.0 is.1)
    ∙ one_then (up_to (2 ^ 40)) (λ third. give (op.Cut resource (record { 0 = cookie.0 }) third)) (decimal size) [] size
    (up_to_again (2 ^ 40) size low (omega (arith, low)))
op_again (op.Size resource) is =
    one_then object_of (λ first. give (op.Size first)) (object_text resource) [] resource (object_again resource is)

-- each byte of its words is shown, and no space
pub op_shown : (v : Op) → IsOp v → AreShown (op_words v)
op_shown (op.Lookup path) is = more_words (codes "lookup") (path_text path ∷ []) (code_shown (codes "lookup") refl)
    (more_words (path_text path) [] (path_shown path is) (no_words))
op_shown (op.Stat path) is = more_words (codes "stat") (path_text path ∷ []) (code_shown (codes "stat") refl)
    (more_words (path_text path) [] (path_shown path is) (no_words))
op_shown (op.List path) is = more_words (codes "list") (path_text path ∷ []) (code_shown (codes "list") refl)
    (more_words (path_text path) [] (path_shown path is) (no_words))
op_shown (op.Layout path) is = more_words (codes "layout") (path_text path ∷ []) (code_shown (codes "layout") refl)
    (more_words (path_text path) [] (path_shown path is) (no_words))
op_shown (op.Mkdir path) is = more_words (codes "mkdir") (path_text path ∷ []) (code_shown (codes "mkdir") refl)
    (more_words (path_text path) [] (path_shown path is) (no_words))
op_shown (op.Create path size count) is =
    let low = is.1.0 in
    more_words (codes "create") (path_text path ∷ decimal size ∷ signed_decimal count ∷ []) (code_shown (codes "create") refl)
    (more_words (path_text path) (decimal size ∷ signed_decimal count ∷ []) (path_shown path is.0)
    (more_words (decimal size) (signed_decimal count ∷ []) (decimal_shown size (omega (arith, low)))
    (more_words (signed_decimal count) [] (count_shown count is.1.1) (no_words))))
op_shown (op.Link old new) is = more_words (codes "link") (path_text old ∷ path_text new ∷ []) (code_shown (codes "link") refl)
    (more_words (path_text old) (path_text new ∷ []) (path_shown old is.0) (more_words (path_text new) [] (path_shown new is.1) (no_words)))
op_shown (op.Unlink path) is = more_words (codes "unlink") (path_text path ∷ []) (code_shown (codes "unlink") refl)
    (more_words (path_text path) [] (path_shown path is) (no_words))
op_shown (op.Rmdir path) is = more_words (codes "rmdir") (path_text path ∷ []) (code_shown (codes "rmdir") refl)
    (more_words (path_text path) [] (path_shown path is) (no_words))
op_shown (op.Rename old new) is = more_words (codes "rename") (path_text old ∷ path_text new ∷ []) (code_shown (codes "rename") refl)
    (more_words (path_text old) (path_text new ∷ []) (path_shown old is.0) (more_words (path_text new) [] (path_shown new is.1) (no_words)))
op_shown (op.Chmod path mode) is = more_words (codes "chmod") (path_text path ∷ octal_text mode ∷ []) (code_shown (codes "chmod") refl)
    (more_words (path_text path) (octal_text mode ∷ []) (path_shown path is.0)
    (more_words (octal_text mode) [] (rights_shown mode is.1) (no_words)))
op_shown (op.Open path) is = more_words (codes "open") (path_text path ∷ []) (code_shown (codes "open") refl)
    (more_words (path_text path) [] (path_shown path is) (no_words))
op_shown (op.Close txn fid) is = more_words (codes "close") (pair_text txn.0 ∷ pair_text fid.0 ∷ []) (code_shown (codes "close") refl)
    (more_words (pair_text txn.0) (pair_text fid.0 ∷ []) (pair_shown txn.0 is.0)
    (more_words (pair_text fid.0) [] (pair_shown fid.0 is.1) (no_words)))
op_shown (op.Enqueue resource mode extent) is = more_words (codes "enqueue")
    (object_text resource ∷ mode_text mode ∷ extent_text extent ∷ []) (code_shown (codes "enqueue") refl)
    (more_words (object_text resource) (mode_text mode ∷ extent_text extent ∷ []) (object_shown resource is.0)
    (more_words (mode_text mode) (extent_text extent ∷ []) (mode_shown mode)
    (more_words (extent_text extent) [] (extent_shown extent is.1) (no_words))))
op_shown (op.Get resource cookie page) is =
    let low = is.2 in
    more_words (codes "get") (object_text resource ∷ pair_text cookie.0 ∷ decimal page ∷ []) (code_shown (codes "get") refl)
    (more_words (object_text resource) (pair_text cookie.0 ∷ decimal page ∷ []) (object_shown resource is.0)
    (more_words (pair_text cookie.0) (decimal page ∷ []) (pair_shown cookie.0 is.1)
    (more_words (decimal page) [] (decimal_shown page (omega (arith, low))) (no_words))))
op_shown (op.Put resource cookie offset bytes) is =
    let low = is.2 in
    more_words (codes "put") (object_text resource ∷ pair_text cookie.0 ∷ decimal offset ∷ bytes_text bytes ∷ [])
    (code_shown (codes "put") refl) (more_words (object_text resource) (pair_text cookie.0 ∷ decimal offset ∷ bytes_text bytes ∷ [])
    (object_shown resource is.0) (more_words (pair_text cookie.0) (decimal offset ∷ bytes_text bytes ∷ []) (pair_shown cookie.0 is.1)
    (more_words (decimal offset) (bytes_text bytes ∷ []) (decimal_shown offset (omega (arith, low)))
    (more_words (bytes_text bytes) [] (bytes_shown bytes is.3 (omega (arith, low))) (no_words)))))
op_shown (op.Cut resource cookie size) is =
    let low = is.2 in
    more_words (codes "cut") (object_text resource ∷ pair_text cookie.0 ∷ decimal size ∷ []) (code_shown (codes "cut") refl)
    (more_words (object_text resource) (pair_text cookie.0 ∷ decimal size ∷ []) (object_shown resource is.0)
    (more_words (pair_text cookie.0) (decimal size ∷ []) (pair_shown cookie.0 is.1)
    (more_words (decimal size) [] (decimal_shown size (omega (arith, low))) (no_words))))
op_shown (op.Size resource) is = more_words (codes "size") (object_text resource ∷ []) (code_shown (codes "size") refl)
    (more_words (object_text resource) [] (object_shown resource is) (no_words))
