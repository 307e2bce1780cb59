-- Each call is read from its words.
use Rattle.std.proofs.Common.{◌≡◌, ◌≢◌, ◌+◌, ◌^◌, ◌&&◌, [], ◌∷◌, length, Option, Some, None, refl, ap, ◌∙◌, decimal, arith}
use Rattle.std.specs.Prelude.{codes, nat_le}
use Rattle.std.specs.Fmt.{signed_decimal}
use Rattle.std.proofs.lemmas.Bool.{le-leb, and_from, cond-true}
use Rattle.lu_base.specs.Texts.{path_text, bytes_text}
use Rattle.lu_base.specs.Values.{octal_text}
use Rattle.lu_scene.specs.Fields.{number_of, path_of}
use Rattle.lu_scene.proofs.Numerals.{number_of-decimal}
use Rattle.lu_scene.proofs.PathWords.{path_of-text}
use Rattle.lu_trace.specs.Calls.{call_words}
use Rattle.lu_judge_reader.specs.Reading.{◌>>=◌, give, one, with_left}
use Rattle.lu_judge_reader.specs.Values.{up_to, rights_of, count_of, bytes_of}
use Rattle.lu_judge_reader.proofs.Shown.{AreShown, no_words, more_words, code_shown, decimal_shown, rights_shown, count_shown, path_shown}
use Rattle.lu_judge_reader.proofs.Shown.{bytes_shown}
use Rattle.lu_judge_reader.proofs.Steps.{one_then}
use Rattle.lu_judge_reader.proofs.ValuesAgain.{up_to_again, count_again}
use Rattle.lu_judge_reader.proofs.BytesAgain.{rights_again, bytes_again}
use Rattle.lu_msg.specs.declared.calls.Call.{Call}
use Rattle.lu_msg.specs.declared.calls.Call.TheVariants as call
use Rattle.lu_trace.specs.WellFormed.{IsCall}
use Rattle.lu_judge_reader.specs.Parts.{made, read_of, write_of, call_reader}

-- it is read from its words
pub call_again : (v : Call) → IsCall v → call_reader (call_words v) ≡ Some (v, [])
unfolding call_reader
call_again (call.Lookup path) is =
    one_then path_of (λ first. give (call.Lookup first)) (path_text path) [] path (path_of-text path is)
call_again (call.Stat path) is =
    one_then path_of (λ first. give (call.Stat first)) (path_text path) [] path (path_of-text path is)
call_again (call.List path) is =
    one_then path_of (λ first. give (call.List first)) (path_text path) [] path (path_of-text path is)
call_again (call.Layout path) is =
    one_then path_of (λ first. give (call.Layout first)) (path_text path) [] path (path_of-text path is)
call_again (call.Mkdir path) is =
    one_then path_of (λ first. give (call.Mkdir first)) (path_text path) [] path (path_of-text path is)
call_again (call.Create path None) is = absurd is
call_again (call.Create path (Some stripes)) is =
    let low = is.1.0 in
    one_then path_of (λ first. one (up_to (2 ^ 32)) >>= λ second. one count_of >>= λ third. give (call.Create first (Some (second, third))))
    (path_text path) (decimal stripes.0 ∷ signed_decimal stripes.1 ∷ []) path (path_of-text path is.0)
    ∙ one_then (up_to (2 ^ 32)) (λ second. one count_of >>= λ third. give (call.Create path (Some (second, third)))) (decimal stripes.0)
    (signed_decimal stripes.1 ∷ []) stripes.0 (up_to_again (2 ^ 32) stripes.0 low (omega (arith, low)))
    ∙ one_then count_of (λ third. give (call.Create path (Some (stripes.0, third)))) (signed_decimal stripes.1) [] stripes.1
    (count_again stripes.1 is.1.1)
call_again (call.Link old new) is =
    one_then path_of (λ first. one path_of >>= λ second. give (call.Link first second)) (path_text old) (path_text new ∷ []) old
    (path_of-text old is.0)
    ∙ one_then path_of (λ second. give (call.Link old second)) (path_text new) [] new (path_of-text new is.1)
call_again (call.Unlink path) is =
    one_then path_of (λ first. give (call.Unlink first)) (path_text path) [] path (path_of-text path is)
call_again (call.Rmdir path) is =
    one_then path_of (λ first. give (call.Rmdir first)) (path_text path) [] path (path_of-text path is)
call_again (call.Rename old new) is =
    one_then path_of (λ first. one path_of >>= λ second. give (call.Rename first second)) (path_text old) (path_text new ∷ []) old
    (path_of-text old is.0)
    ∙ one_then path_of (λ second. give (call.Rename old second)) (path_text new) [] new (path_of-text new is.1)
call_again (call.Chmod path mode) is =
    one_then path_of (λ first. one rights_of >>= λ second. give (call.Chmod first second)) (path_text path) (octal_text mode ∷ []) path
    (path_of-text path is.0)
    ∙ one_then rights_of (λ second. give (call.Chmod path second)) (octal_text mode) [] mode (rights_again mode is.1)
call_again (call.Open handle path) is =
    let low = is.0 in
    one_then (up_to 15) (λ first. one path_of >>= λ second. give (call.Open first second)) (decimal handle) (path_text path ∷ []) handle
    (up_to_again 15 handle low (omega (arith, low)))
    ∙ one_then path_of (λ second. give (call.Open handle second)) (path_text path) [] path (path_of-text path is.1)
call_again (call.Close handle) is =
    one_then (up_to 15) (λ first. give (call.Close first)) (decimal handle) [] handle (up_to_again 15 handle is (omega (arith, is)))
call_again (call.Read handle offset size) is =
    let low = is.0 in
    let most = is.3 in
    one_then (up_to 15) (λ first. one number_of >>= λ second. one number_of >>= λ third. made (read_of first second third)) (decimal handle)
    (decimal offset ∷ decimal size ∷ []) handle (up_to_again 15 handle low (omega (arith, low)))
    ∙ one_then number_of (λ second. one number_of >>= λ third. made (read_of handle second third)) (decimal offset) (decimal size ∷ [])
    offset (number_of-decimal offset (omega (arith, most)))
    ∙ one_then number_of (λ third. made (read_of handle offset third)) (decimal size) [] size (number_of-decimal size (omega (arith, most)))
    ∙ ap (λ (o : Option Call). with_left o []) (cond-true (nat_le 1 size && nat_le size 65536 && nat_le (offset + size) (2 ^ 40))
    (Some (call.Read handle offset size)) None (and_from _ _ (and_from _ _ (le-leb 1 size is.1) (le-leb size 65536 is.2))
    (le-leb (offset + size) (2 ^ 40) most)))
call_again (call.Write handle offset bytes) is =
    let low = is.0 in
    let most = is.1.2 in
    one_then (up_to 15) (λ first. one number_of >>= λ second. one bytes_of >>= λ third. made (write_of first second third)) (decimal handle)
    (decimal offset ∷ bytes_text bytes ∷ []) handle (up_to_again 15 handle low (omega (arith, low)))
    ∙ one_then number_of (λ second. one bytes_of >>= λ third. made (write_of handle second third)) (decimal offset) (bytes_text bytes ∷ [])
    offset (number_of-decimal offset (omega (arith, most)))
    ∙ one_then bytes_of (λ third. made (write_of handle offset third)) (bytes_text bytes) [] bytes
    (bytes_again bytes is.1.3 (omega (arith, most)))
    ∙ ap (λ (o : Option Call). with_left o []) (cond-true (nat_le 1 (length bytes) && nat_le (length bytes) 65536
    && nat_le (offset + length bytes) (2 ^ 40)) (Some (call.Write handle offset bytes)) None
    (and_from _ _ (and_from _ _ (le-leb 1 (length bytes) is.1.0) (le-leb (length bytes) 65536 is.1.1))
    (le-leb (offset + length bytes) (2 ^ 40) most)))
call_again (call.Cut handle size) is =
    let low = is.0 in
    let most = is.1 in
    one_then (up_to 15) (λ first. one (up_to (2 ^ 40)) >>= λ second. give (call.Cut first second)) (decimal handle) (decimal size ∷ [])
    handle (up_to_again 15 handle low (omega (arith, low)))
    ∙ one_then (up_to (2 ^ 40)) (λ second. give (call.Cut handle second)) (decimal size) [] size
    (up_to_again (2 ^ 40) size most (omega (arith, most)))
call_again (call.Flush handle) is =
    one_then (up_to 15) (λ first. give (call.Flush first)) (decimal handle) [] handle (up_to_again 15 handle is (omega (arith, is)))
call_again (call.Glimpse handle) is =
    one_then (up_to 15) (λ first. give (call.Glimpse first)) (decimal handle) [] handle (up_to_again 15 handle is (omega (arith, is)))

-- each byte of its words is shown, and no space
pub call_shown : (v : Call) → IsCall v → AreShown (call_words v)
call_shown (call.Lookup path) is = more_words (codes "lookup") (path_text path ∷ []) (code_shown (codes "lookup") refl)
    (more_words (path_text path) [] (path_shown path is) (no_words))
call_shown (call.Stat path) is = more_words (codes "stat") (path_text path ∷ []) (code_shown (codes "stat") refl)
    (more_words (path_text path) [] (path_shown path is) (no_words))
call_shown (call.List path) is = more_words (codes "list") (path_text path ∷ []) (code_shown (codes "list") refl)
    (more_words (path_text path) [] (path_shown path is) (no_words))
call_shown (call.Layout path) is = more_words (codes "layout") (path_text path ∷ []) (code_shown (codes "layout") refl)
    (more_words (path_text path) [] (path_shown path is) (no_words))
call_shown (call.Mkdir path) is = more_words (codes "mkdir") (path_text path ∷ []) (code_shown (codes "mkdir") refl)
    (more_words (path_text path) [] (path_shown path is) (no_words))
call_shown (call.Create path None) is = absurd is
call_shown (call.Create path (Some stripes)) is =
    let low = is.1.0 in
    more_words (codes "create") (path_text path ∷ decimal stripes.0 ∷ signed_decimal stripes.1 ∷ []) (code_shown (codes "create") refl)
    (more_words (path_text path) (decimal stripes.0 ∷ signed_decimal stripes.1 ∷ []) (path_shown path is.0)
    (more_words (decimal stripes.0) (signed_decimal stripes.1 ∷ []) (decimal_shown stripes.0 (omega (arith, low)))
    (more_words (signed_decimal stripes.1) [] (count_shown stripes.1 is.1.1) (no_words))))
call_shown (call.Link old new) is = more_words (codes "link") (path_text old ∷ path_text new ∷ []) (code_shown (codes "link") refl)
    (more_words (path_text old) (path_text new ∷ []) (path_shown old is.0) (more_words (path_text new) [] (path_shown new is.1) (no_words)))
call_shown (call.Unlink path) is = more_words (codes "unlink") (path_text path ∷ []) (code_shown (codes "unlink") refl)
    (more_words (path_text path) [] (path_shown path is) (no_words))
call_shown (call.Rmdir path) is = more_words (codes "rmdir") (path_text path ∷ []) (code_shown (codes "rmdir") refl)
    (more_words (path_text path) [] (path_shown path is) (no_words))
call_shown (call.Rename old new) is = more_words (codes "rename") (path_text old ∷ path_text new ∷ []) (code_shown (codes "rename") refl)
    (more_words (path_text old) (path_text new ∷ []) (path_shown old is.0) (more_words (path_text new) [] (path_shown new is.1) (no_words)))
call_shown (call.Chmod path mode) is = more_words (codes "chmod") (path_text path ∷ octal_text mode ∷ []) (code_shown (codes "chmod") refl)
    (more_words (path_text path) (octal_text mode ∷ []) (path_shown path is.0)
    (more_words (octal_text mode) [] (rights_shown mode is.1) (no_words)))
call_shown (call.Open handle path) is =
    let low = is.0 in
    more_words (codes "open") (decimal handle ∷ path_text path ∷ []) (code_shown (codes "open") refl)
    (more_words (decimal handle) (path_text path ∷ []) (decimal_shown handle (omega (arith, low)))
    (more_words (path_text path) [] (path_shown path is.1) (no_words)))
call_shown (call.Close handle) is = more_words (codes "close") (decimal handle ∷ []) (code_shown (codes "close") refl)
    (more_words (decimal handle) [] (decimal_shown handle (omega (arith, is))) (no_words))
call_shown (call.Read handle offset size) is =
    let low = is.0 in
    let most = is.3 in
    more_words (codes "read") (decimal handle ∷ decimal offset ∷ decimal size ∷ []) (code_shown (codes "read") refl)
    (more_words (decimal handle) (decimal offset ∷ decimal size ∷ []) (decimal_shown handle (omega (arith, low)))
    (more_words (decimal offset) (decimal size ∷ []) (decimal_shown offset (omega (arith, most)))
    (more_words (decimal size) [] (decimal_shown size (omega (arith, most))) (no_words))))
call_shown (call.Write handle offset bytes) is =
    let low = is.0 in
    let most = is.1.2 in
    more_words (codes "write") (decimal handle ∷ decimal offset ∷ bytes_text bytes ∷ []) (code_shown (codes "write") refl)
    (more_words (decimal handle) (decimal offset ∷ bytes_text bytes ∷ []) (decimal_shown handle (omega (arith, low)))
    (more_words (decimal offset) (bytes_text bytes ∷ []) (decimal_shown offset (omega (arith, most)))
    (more_words (bytes_text bytes) [] (bytes_shown bytes is.1.3 (omega (arith, most))) (no_words))))
call_shown (call.Cut handle size) is =
    let low = is.0 in
    let most = is.1 in
    more_words (codes "cut") (decimal handle ∷ decimal size ∷ []) (code_shown (codes "cut") refl)
    (more_words (decimal handle) (decimal size ∷ []) (decimal_shown handle (omega (arith, low)))
    (more_words (decimal size) [] (decimal_shown size (omega (arith, most))) (no_words)))
call_shown (call.Flush handle) is = more_words (codes "flush") (decimal handle ∷ []) (code_shown (codes "flush") refl)
    (more_words (decimal handle) [] (decimal_shown handle (omega (arith, is))) (no_words))
call_shown (call.Glimpse handle) is = more_words (codes "glimpse") (decimal handle ∷ []) (code_shown (codes "glimpse") refl)
    (more_words (decimal handle) [] (decimal_shown handle (omega (arith, is))) (no_words))

pub call_some : (v : Call) → call_words v ≢ []
call_some (call.Lookup path) none = cc none
call_some (call.Stat path) none = cc none
call_some (call.List path) none = cc none
call_some (call.Layout path) none = cc none
call_some (call.Mkdir path) none = cc none
call_some (call.Create path None) none = cc none
call_some (call.Create path (Some stripes)) none = cc none
call_some (call.Link old new) none = cc none
call_some (call.Unlink path) none = cc none
call_some (call.Rmdir path) none = cc none
call_some (call.Rename old new) none = cc none
call_some (call.Chmod path mode) none = cc none
call_some (call.Open handle path) none = cc none
call_some (call.Close handle) none = cc none
call_some (call.Read handle offset size) none = cc none
call_some (call.Write handle offset bytes) none = cc none
call_some (call.Cut handle size) none = cc none
call_some (call.Flush handle) none = cc none
call_some (call.Glimpse handle) none = cc none
