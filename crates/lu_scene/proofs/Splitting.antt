-- A printed text is split into the words that were printed.
use Rattle.std.proofs.Common.{◌≡◌, ◌≢◌, ℕ, ◌<◌, ◌≤◌, ◌==◌, Bool, true, false, not, cond, ◌&&◌, List, [], ◌∷◌, ◌++◌, length, map, refl, ap}
use Rattle.std.proofs.Common.{◌∙◌, arith}
use Rattle.std.specs.Prelude.{nat_le, nat_lt, filter, All}
use Rattle.std.specs.List.{list_all, slice_split, AllPass}
use Rattle.std.proofs.lemmas.Bool.{ltb-true, leb-true, le-leb, ne_eqb, and_parts, and_from}
use Rattle.std.proofs.lemmas.List.Elements.{All-nil, All-cons, All-head, All-tail}
use Rattle.std.proofs.lemmas.List.Folds.{list_all-append}
use Rattle.std.proofs.lemmas.List.Splits.{slice_split_none, slice_split_at}
use Rattle.lu_scene.specs.Lines.{lines_of, words_of, is_plain, is_comment}
use Rattle.lu_trace.specs.Words.{words}
use Rattle.lu_scene.specs.Print.{lines_text}
use Rattle.lu_scene.specs.Grammar.{says, sayings}
use Rattle.lu_scene.proofs.Complete.{says_first}
use Rattle.lu_scene.proofs.Graphic.{is_graphic, shown, is_word, are_words}

-- bytes that are shown are none of the first
without : (c : ℕ) → c < 33 → (bytes : List ℕ) → shown bytes ≡ true → All (λ b. (b == c) ≡ false) bytes
without c low [] is = All-nil (λ b. (b == c) ≡ false)
without c low (b ∷ more) is =
    let parts = and_parts (is_graphic b) (shown more) is in
    let least = leb-true 33 b (and_parts (nat_le 33 b) (nat_le b 126) parts.0).0 in
    All-cons (λ d. (d == c) ≡ false) b more (ne_eqb b c (λ e. omega (arith, low, least, e))) (without c low more parts.1)

shown_word : (word : List ℕ) → is_word word ≡ true → shown word ≡ true
shown_word word is = (and_parts (nat_lt 0 (length word)) (shown word) is).1

-- words are what stands between the spaces
split_words : (word : List ℕ) (more : List (List ℕ)) → is_word word ≡ true → are_words more ≡ true
    → slice_split (λ b. b == 32) (words (word ∷ more)) ≡ word ∷ more
split_words word [] one are = slice_split_none (λ b. b == 32) word (without 32 (omega arith) word (shown_word word one))
split_words word (next ∷ more) one are =
    let parts = and_parts (is_word next) (are_words more) are in
    slice_split_at (λ b. b == 32) word 32 (words (next ∷ more)) (without 32 (omega arith) word (shown_word word one)) refl
    ∙ ap (λ (ws : List (List ℕ)). word ∷ ws) (split_words next more parts.0 parts.1)

-- no word is empty
kept : (line : List (List ℕ)) → are_words line ≡ true → filter (λ word. not (length word == 0)) line ≡ line
kept [] are = refl
kept (word ∷ line) are =
    let parts = and_parts (is_word word) (are_words line) are in
    let some = ltb-true 0 (length word) (and_parts (nat_lt 0 (length word)) (shown word) parts.0).0 in
    ap (λ (b : Bool). cond (not b) (word ∷ filter (λ w. not (length w == 0)) line) (filter (λ w. not (length w == 0)) line))
    (ne_eqb (length word) 0 (λ e. omega (arith, some, e)))
    ∙ ap (λ (ws : List (List ℕ)). word ∷ ws) (kept line parts.1)

-- words that a line may have
pub record Neat (line : List (List ℕ)) : Type 0 where
  pub are : are_words line ≡ true
  pub some : line ≢ []
  pub plain_start : is_comment (words line) ≡ false
  pub short : length (words line) ≤ 2000

words_back : (line : List (List ℕ)) → line ≢ [] → are_words line ≡ true → words_of (words line) ≡ line
words_back [] some are = absurd (some refl)
words_back (word ∷ line) some are =
    let parts = and_parts (is_word word) (are_words line) are in
    ap (filter (λ w. not (length w == 0))) (split_words word line parts.0 parts.1) ∙ kept (word ∷ line) are

-- bytes of a line
abbrev plain_byte : ℕ → Bool
plain_byte b = nat_le 32 b && nat_le b 126

shown_plain : (bytes : List ℕ) → shown bytes ≡ true → list_all plain_byte bytes ≡ true
shown_plain [] is = refl
shown_plain (b ∷ more) is =
    let parts = and_parts (is_graphic b) (shown more) is in
    let both = and_parts (nat_le 33 b) (nat_le b 126) parts.0 in
    let least = leb-true 33 b both.0 in
    and_from _ _ (and_from _ _ (le-leb 32 b (omega (arith, least))) both.1) (shown_plain more parts.1)

text_plain : (line : List (List ℕ)) → are_words line ≡ true → list_all plain_byte (words line) ≡ true
text_plain [] are = refl
text_plain (word ∷ []) are = shown_plain word (shown_word word (and_parts (is_word word) true are).0)
text_plain (word ∷ next ∷ more) are =
    let parts = and_parts (is_word word) (are_words (next ∷ more)) are in
    list_all-append plain_byte word (32 ∷ words (next ∷ more))
    ∙ and_from _ _ (shown_plain word (shown_word word parts.0)) (text_plain (next ∷ more) parts.1)

no_feed : (bytes : List ℕ) → list_all plain_byte bytes ≡ true → All (λ b. (b == 10) ≡ false) bytes
no_feed [] is = All-nil (λ b. (b == 10) ≡ false)
no_feed (b ∷ more) is =
    let parts = and_parts (plain_byte b) (list_all plain_byte more) is in
    let least = leb-true 32 b (and_parts (nat_le 32 b) (nat_le b 126) parts.0).0 in
    All-cons (λ d. (d == 10) ≡ false) b more (ne_eqb b 10 (λ e. omega (arith, least, e))) (no_feed more parts.1)

-- lines are what stands between the line feeds, and nothing after the last one
pub lines_back : (lines : List (List (List ℕ))) → All Neat lines → lines_of (lines_text lines) ≡ map words lines ++ [] ∷ []
lines_back [] neat = refl
lines_back (line ∷ more) neat =
    let first = All-head Neat line more neat in
    slice_split_at (λ b. b == 10) (words line) 10 (lines_text more) (no_feed (words line) (text_plain line first.are)) refl
    ∙ ap (λ (ls : List (List ℕ)). words line ∷ ls) (lines_back more (All-tail Neat line more neat))

neat_plain : (line : List (List ℕ)) → Neat line → is_plain (words line) ≡ true
neat_plain line neat = and_from _ _ (le-leb (length (words line)) 2000 neat.short) (text_plain line neat.are)

pub all_plain : (lines : List (List (List ℕ))) → All Neat lines → AllPass is_plain (map words lines ++ [] ∷ [])
all_plain [] neat = All-cons (λ l. is_plain l ≡ true) [] [] refl (All-nil (λ l. is_plain l ≡ true))
all_plain (line ∷ more) neat =
    All-cons (λ l. is_plain l ≡ true) (words line) (map words more ++ [] ∷ []) (neat_plain line (All-head Neat line more neat))
    (all_plain more (All-tail Neat line more neat))

neat_says : (line : List (List ℕ)) → Neat line → says (words line) ≡ true
neat_says line neat =
    and_from _ _ (ap not neat.plain_start) (ap (λ (ws : List (List ℕ)). not (length ws == 0)) (words_back line neat.some neat.are)
    ∙ ap not (filled line neat.some))
  where
    filled : (ws : List (List ℕ)) → ws ≢ [] → (length ws == 0) ≡ false
    filled [] some = absurd (some refl)
    filled (w ∷ ws) some = ne_eqb (length (w ∷ ws)) 0 (λ e. omega arith)

-- what is said is what was printed
pub sayings_back : (lines : List (List (List ℕ))) → All Neat lines → sayings (map words lines ++ [] ∷ []) ≡ lines
sayings_back [] neat = refl
sayings_back (line ∷ more) neat =
    let first = All-head Neat line more neat in
    says_first (words line) (map words more ++ [] ∷ []) (neat_says line first)
    ∙ ap (λ (ws : List (List ℕ)). ws ∷ sayings (map words more ++ [] ∷ [])) (words_back line first.some first.are)
    ∙ ap (λ (ls : List (List (List ℕ))). line ∷ ls) (sayings_back more (All-tail Neat line more neat))
