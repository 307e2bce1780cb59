-- Printed words have bytes, and no space among them.
use Rattle.std.proofs.Common.{◌≡◌, ℕ, zero, suc, ◌/◌, ◌%◌, ◌^◌, ◌<◌, ◌≤◌, Bool, true, false, cond, ◌&&◌, List, [], ◌∷◌, ◌++◌, length}
use Rattle.std.proofs.Common.{Option, Some, None, refl, sym, ◌∙◌, decimal, arith, inl, inr, lit<}
use Rattle.std.specs.Prelude.{nat_le, nat_lt, slice_index, ℤ, pos, negsuc, All}
use Rattle.std.specs.List.{list_all, join_with_byte}
use Rattle.std.specs.Char.{digit_value}
use Rattle.std.specs.Str.Parse.{AllDigits}
use Rattle.std.proofs.lemmas.Bool.{true≢false, lt-ltb, le-leb, and_parts, and_from, cond-true, agree_below_at, cases_lt}
use Rattle.std.proofs.lemmas.Bool.Decides.{nat_tests}
use Rattle.std.proofs.lemmas.Fmt.{decimal_is_IsNumeral}
use Rattle.std.proofs.lemmas.List.Folds.{list_all-append}
use Rattle.std.proofs.lemmas.List.Elements.{All-head, All-tail}
use Rattle.std.proofs.lemmas.List.Sums.{list_all-from_AllPass}
use Rattle.hex.specs.Hex.{IsBytes, lower_digits, encode_with, encode_lower}
use Rattle.lu_base.specs.Texts.{is_name_byte, IsName, IsPath, path_text, is_repeated, repeated_text, bytes_text}
use Rattle.lu_base.specs.declared.ids.Node.{Node}
use Rattle.lu_base.specs.declared.ids.Node.TheVariants.{Client, Target}
use Rattle.lu_msg.specs.declared.calls.Call.{Call}
use Rattle.lu_msg.specs.declared.calls.Call.TheVariants as calls
use Rattle.lu_scene.specs.declared.scene.Head.{Head}
use Rattle.lu_scene.specs.declared.scene.SceneLine.{SceneLine}
use Rattle.lu_scene.specs.declared.scene.SceneLine.TheVariants as lines
use Rattle.lu_scene.specs.declared.words.Header.{Header}
use Rattle.lu_scene.specs.declared.words.Header.TheVariants as headers
use Rattle.lu_scene.specs.declared.words.Verb.{Verb}
use Rattle.lu_scene.specs.declared.words.Verb.TheVariants as verbs
use Rattle.lu_scene.specs.declared.words.CallName.{CallName}
use Rattle.lu_scene.specs.declared.words.CallName.TheVariants as names
use Rattle.lu_scene.specs.Words.{header_text, verb_text, name_text}
use Rattle.std.specs.Fmt.{digits, signed_decimal}
use Rattle.lu_base.specs.Values.{client_text, target_text, node_text, octal_text}
use Rattle.lu_trace.specs.Calls.{stripes_words, call_words}
use Rattle.lu_scene.specs.Print.{header_words, slot_text, line_words}
use Rattle.lu_scene.specs.Grammar.{CountFits, StripesFit, CallFits, NodeFits, LineFits}
use Rattle.lu_scene.proofs.LineForms.{IsSmall}

-- a byte that is shown, and no space
abbrev pub is_graphic : ℕ → Bool
is_graphic b = nat_le 33 b && nat_le b 126

-- bytes that are shown
abbrev pub shown : List ℕ → Bool
shown bytes = list_all is_graphic bytes

-- a word: some such bytes
abbrev pub is_word : List ℕ → Bool
is_word word = nat_lt 0 (length word) && shown word

word_from : (b : ℕ) (bytes : List ℕ) → shown (b ∷ bytes) ≡ true → is_word (b ∷ bytes) ≡ true
word_from b bytes is = and_from _ _ (lt-ltb 0 (length (b ∷ bytes)) (omega arith)) is

both_shown : (xs ys : List ℕ) → shown xs ≡ true → shown ys ≡ true → shown (xs ++ ys) ≡ true
both_shown xs ys one two = list_all-append is_graphic xs ys ∙ and_from _ _ one two

long_word : (xs ys : List ℕ) → is_word xs ≡ true → shown ys ≡ true → is_word (xs ++ ys) ≡ true
long_word [] ys one two = absurd (true≢false (sym one))
long_word (x ∷ xs) ys one two = word_from x (xs ++ ys) (both_shown (x ∷ xs) ys
    (and_parts (nat_lt 0 (length (x ∷ xs))) (shown (x ∷ xs)) one).1 two)

word_shown : (word : List ℕ) → is_word word ≡ true → shown word ≡ true
word_shown word is = (and_parts (nat_lt 0 (length word)) (shown word) is).1

-- digits

digit_shown : (b : ℕ) → digit_value b < 10 → is_graphic b ≡ true
digit_shown b small =
    elim (cases_lt b 48) [
      | inl low ↦ let v : digit_value b ≡ 36 = cond-true (nat_lt b 48) 36 _ (lt-ltb b 48 low) in absurd (omega (arith, v, small))
      | inr high ↦
          elim (cases_lt b 58) [
            | inl digit ↦ and_from _ _ (le-leb 33 b (omega (arith, high))) (le-leb b 126 (omega (arith, digit)))
            | inr past ↦ absurd (large b past small)
          ]
    ]
  where
    large : (b : ℕ) → 58 ≤ b → digit_value b < 10 → ⊥
    large b past small = grind (arith, nat_tests)

digits_shown : (text : List ℕ) → AllDigits 10 text → shown text ≡ true
digits_shown [] digits = refl
digits_shown (b ∷ more) digits = and_from (is_graphic b) (shown more) (digit_shown b digits.0) (digits_shown more digits.1)

pub decimal_word : (n : ℕ) → n < 2 ^ 64 → is_word (decimal n) ≡ true
decimal_word n small =
    let is = (decimal_is_IsNumeral n small).0 in
    and_from _ _ (lt-ltb 0 (length (decimal n)) is.0) (digits_shown (decimal n) is.1)

-- names

header_word : (header : Header) → is_word (header_text header) ≡ true
header_word headers.Clients = refl
header_word headers.Osts = refl
header_word headers.Expire = refl
header_word headers.Dirty = refl
header_word headers.Unused = refl
header_word headers.Rounds = refl
header_word headers.Flight = refl

verb_word : (verb : Verb) → is_word (verb_text verb) ≡ true
verb_word verbs.Call = refl
verb_word verbs.Run = refl
verb_word verbs.Deliver = refl
verb_word verbs.Lose = refl
verb_word verbs.Tick = refl
verb_word verbs.Commit = refl
verb_word verbs.Crash = refl
verb_word verbs.Boot = refl
verb_word verbs.Close = refl
verb_word verbs.Die = refl

call_word : (name : CallName) → is_word (name_text name) ≡ true
call_word names.Lookup = refl
call_word names.Stat = refl
call_word names.List = refl
call_word names.Layout = refl
call_word names.Mkdir = refl
call_word names.Create = refl
call_word names.Link = refl
call_word names.Unlink = refl
call_word names.Rmdir = refl
call_word names.Rename = refl
call_word names.Chmod = refl
call_word names.Open = refl
call_word names.Close = refl
call_word names.Read = refl
call_word names.Write = refl
call_word names.Cut = refl
call_word names.Flush = refl
call_word names.Glimpse = refl

-- paths

name_byte_shown : (b : ℕ) → is_name_byte b ≡ true → is_graphic b ≡ true
name_byte_shown b may = grind (arith, nat_tests)

name_shown : (name : List ℕ) → list_all is_name_byte name ≡ true → shown name ≡ true
name_shown [] may = refl
name_shown (b ∷ more) may =
    let parts = and_parts (is_name_byte b) (list_all is_name_byte more) may in
    and_from (is_graphic b) (shown more) (name_byte_shown b parts.0) (name_shown more parts.1)

names_shown : (names : List (List ℕ)) → All IsName names → shown (join_with_byte 47 names) ≡ true
names_shown [] are = refl
names_shown (x ∷ []) are = name_shown x (list_all-from_AllPass is_name_byte x (All-head IsName x [] are).bytes)
names_shown (x ∷ y ∷ more) are =
    both_shown x (47 ∷ join_with_byte 47 (y ∷ more)) (name_shown x
    (list_all-from_AllPass is_name_byte x (All-head IsName x (y ∷ more) are).bytes))
    (names_shown (y ∷ more) (All-tail IsName x (y ∷ more) are))

pub path_word : (path : List (List ℕ)) → IsPath path → is_word (path_text path) ≡ true
path_word path is = word_from 47 (join_with_byte 47 path) (names_shown path is.are_names.1)

-- data

hex_shown : (k : ℕ) → k < 16 → is_graphic (slice_index lower_digits k) ≡ true
hex_shown k small = agree_below_at (λ (d : ℕ). is_graphic (slice_index lower_digits d)) (λ (d : ℕ). true) 16 k refl small

encoded_shown : (bytes : List ℕ) → IsBytes bytes → shown (encode_lower bytes) ≡ true
unfolding encode_with
encoded_shown [] fit = refl
encoded_shown (b ∷ more) fit =
    let small : b < 256 = fit 0 in
    and_from _ _ (hex_shown (b / 16) (omega (arith, small))) (and_from _ _ (hex_shown (b % 16) (omega arith))
    (encoded_shown more (λ i. fit (suc i))))

encoded_word : (b : ℕ) (more : List ℕ) → IsBytes (b ∷ more) → is_word (encode_lower (b ∷ more)) ≡ true
unfolding encode_with
encoded_word b more fit = word_from (slice_index lower_digits (b / 16)) (slice_index lower_digits (b % 16) ∷ encode_lower more)
    (encoded_shown (b ∷ more) fit)

pub bytes_word : (bytes : List ℕ) → IsBytes bytes → length bytes ≤ 65536 → is_word (bytes_text bytes) ≡ true
bytes_word [] fit few = refl
bytes_word (b ∷ more) fit few = by (is_repeated (b ∷ more))
  where
    one : IsBytes (b ∷ [])
    one zero = fit 0
    one (suc i) = lit< tt

    by : (v : Bool) → is_word (cond v (repeated_text b (length (b ∷ more))) (encode_lower (b ∷ more))) ≡ true
    by true =
        long_word (encode_lower (b ∷ [])) (42 ∷ decimal (length (b ∷ more))) (encoded_word b [] one)
        (word_shown (decimal (length (b ∷ more))) (decimal_word (length (b ∷ more)) (omega (arith, few))))
    by false = encoded_word b more fit

-- modes

-- a mode in octal is a word
pub mode_word : (mode : ℕ) → mode < 4096 → is_word (octal_text mode) ≡ true
unfolding digits
mode_word mode small = agree_below_at (λ (m : ℕ). is_word (octal_text m)) (λ (m : ℕ). true) 4096 mode refl small

-- other words

lettered_word : (letter n : ℕ) → is_graphic letter ≡ true → n < 2 ^ 64 → is_word (letter ∷ decimal n) ≡ true
lettered_word letter n one small = word_from letter (decimal n) (and_from _ _ one (word_shown (decimal n) (decimal_word n small)))

node_word : (head : Head) (node : Node) → IsSmall head → NodeFits head node → is_word (node_text node) ≡ true
node_word head (Client client) small fits = let few = small.clients in lettered_word 99 client refl (omega (arith, fits, few))
node_word head (Target target) small fits = let few = small.osts in lettered_word 116 target refl (omega (arith, fits, few))

target_word : (head : Head) (target : ℕ) → IsSmall head → target ≤ head.osts → is_word (target_text target) ≡ true
target_word head target small fits = let few = small.osts in lettered_word 116 target refl (omega (arith, fits, few))

slot_word : (client slot : ℕ) → client < 2 ^ 64 → slot < 2 ^ 64 → is_word (slot_text client slot) ≡ true
slot_word client slot one two = long_word (decimal client) (46 ∷ decimal slot) (decimal_word client one)
    (word_shown (decimal slot) (decimal_word slot two))

count_word : (count : ℤ) → CountFits count → is_word (signed_decimal count) ≡ true
unfolding digits
count_word (pos n) fits = decimal_word n (omega (arith, fits))
count_word (negsuc zero) fits = refl
count_word (negsuc (suc n)) fits = absurd (omega (arith, fits))

-- all of the words
abbrev pub are_words : List (List ℕ) → Bool
are_words words = list_all is_word words

two_words : (a b : List ℕ) → is_word a ≡ true → is_word b ≡ true → are_words (a ∷ b ∷ []) ≡ true
two_words a b one two = and_from _ _ one (and_from _ _ two refl)

three_words : (a b c : List ℕ) → is_word a ≡ true → is_word b ≡ true → is_word c ≡ true → are_words (a ∷ b ∷ c ∷ []) ≡ true
three_words a b c one two three = and_from _ _ one (two_words b c two three)

pub header_line : (header : Header) (n : ℕ) → n < 2 ^ 64 → are_words (header_words header n) ≡ true
header_line header n small = two_words (header_text header) (decimal n) (header_word header) (decimal_word n small)

stripes_are : (stripes : Option (ℕ × ℤ)) → StripesFit stripes → are_words (stripes_words stripes) ≡ true
stripes_are None fits = refl
stripes_are (Some stripes) fits = let most = fits.0 in two_words (decimal stripes.0) (signed_decimal stripes.1)
    (decimal_word stripes.0 (omega (arith, most))) (count_word stripes.1 fits.1)

handle_word : (handle : ℕ) → handle ≤ 15 → is_word (decimal handle) ≡ true
handle_word handle low = decimal_word handle (omega (arith, low))

pub call_line_words : (call : Call) → CallFits call → are_words (call_words call) ≡ true
call_line_words (calls.Lookup path) fits = two_words (name_text names.Lookup) (path_text path) refl (path_word path fits)
call_line_words (calls.Stat path) fits = two_words (name_text names.Stat) (path_text path) refl (path_word path fits)
call_line_words (calls.List path) fits = two_words (name_text names.List) (path_text path) refl (path_word path fits)
call_line_words (calls.Layout path) fits = two_words (name_text names.Layout) (path_text path) refl (path_word path fits)
call_line_words (calls.Mkdir path) fits = two_words (name_text names.Mkdir) (path_text path) refl (path_word path fits)
call_line_words (calls.Create path stripes) fits = and_from _ _ (call_word names.Create)
    (and_from _ _ (path_word path fits.0) (stripes_are stripes fits.1))
call_line_words (calls.Link old new) fits = three_words (name_text names.Link) (path_text old) (path_text new) refl (path_word old fits.0)
    (path_word new fits.1)
call_line_words (calls.Unlink path) fits = two_words (name_text names.Unlink) (path_text path) refl (path_word path fits)
call_line_words (calls.Rmdir path) fits = two_words (name_text names.Rmdir) (path_text path) refl (path_word path fits)
call_line_words (calls.Rename old new) fits = three_words (name_text names.Rename) (path_text old) (path_text new) refl
    (path_word old fits.0) (path_word new fits.1)
call_line_words (calls.Chmod path mode) fits = three_words (name_text names.Chmod) (path_text path) (octal_text mode) refl
    (path_word path fits.0) (mode_word mode fits.1)
call_line_words (calls.Open handle path) fits = three_words (name_text names.Open) (decimal handle) (path_text path) refl
    (handle_word handle fits.0) (path_word path fits.1)
call_line_words (calls.Close handle) fits = two_words (name_text names.Close) (decimal handle) refl (handle_word handle fits)
call_line_words (calls.Read handle offset size) fits =
    let most = fits.3 in
    and_from _ _ (call_word names.Read) (three_words (decimal handle) (decimal offset) (decimal size) (handle_word handle fits.0)
    (decimal_word offset (omega (arith, most))) (decimal_word size (omega (arith, most))))
call_line_words (calls.Write handle offset bytes) fits =
    let most = fits.4 in
    and_from _ _ (call_word names.Write) (three_words (decimal handle) (decimal offset) (bytes_text bytes) (handle_word handle fits.0)
    (decimal_word offset (omega (arith, most))) (bytes_word bytes fits.1 fits.3))
call_line_words (calls.Cut handle size) fits =
    let most = fits.1 in
    three_words (name_text names.Cut) (decimal handle) (decimal size) refl (handle_word handle fits.0)
    (decimal_word size (omega (arith, most)))
call_line_words (calls.Flush handle) fits = two_words (name_text names.Flush) (decimal handle) refl (handle_word handle fits)
call_line_words (calls.Glimpse handle) fits = two_words (name_text names.Glimpse) (decimal handle) refl (handle_word handle fits)

pub said_words : (head : Head) (line : SceneLine) → IsSmall head → LineFits head line → are_words (line_words line) ≡ true
said_words head (lines.Call client slot call) small fits =
    let few = small.clients in
    let low = fits.0 in
    let less = fits.1 in
    and_from _ _ (verb_word verbs.Call) (and_from _ _ (slot_word client slot (omega (arith, few, low)) (omega (arith, less)))
    (call_line_words call fits.2))
said_words head lines.Run small fits = refl
said_words head (lines.RunSome turns) small fits = let most = fits.1
    in two_words (verb_text verbs.Run) (decimal turns) refl (decimal_word turns (omega (arith, most)))
said_words head (lines.Deliver number) small fits = let most = fits.1
    in two_words (verb_text verbs.Deliver) (decimal number) refl (decimal_word number (omega (arith, most)))
said_words head (lines.Lose number) small fits = let most = fits.1
    in two_words (verb_text verbs.Lose) (decimal number) refl (decimal_word number (omega (arith, most)))
said_words head (lines.Tick node) small fits = two_words (verb_text verbs.Tick) (node_text node) refl (node_word head node small fits)
said_words head (lines.Commit target) small fits = two_words (verb_text verbs.Commit) (target_text target.0) refl
    (target_word head target.0 small fits)
said_words head (lines.CommitSome target count) small fits =
    let most = fits.2 in
    three_words (verb_text verbs.Commit) (target_text target.0) (decimal count) refl (target_word head target.0 small fits.0)
    (decimal_word count (omega (arith, most)))
said_words head (lines.Crash target) small fits = two_words (verb_text verbs.Crash) (target_text target.0) refl
    (target_word head target.0 small fits)
said_words head (lines.Boot target) small fits = two_words (verb_text verbs.Boot) (target_text target.0) refl
    (target_word head target.0 small fits)
said_words head (lines.Close target) small fits = two_words (verb_text verbs.Close) (target_text target.0) refl
    (target_word head target.0 small fits)
said_words head (lines.Die client) small fits =
    let few = small.clients in
    two_words (verb_text verbs.Die) (client_text client) refl (lettered_word 99 client refl (omega (arith, fits, few)))
