-- Each line is read from its text, and each last line from its text.
use Rattle.std.proofs.Common.{◌≡◌, ◌≢◌, ℕ, ◌^◌, ◌<◌, ◌≤◌, ◌==◌, Bool, true, false, cond, ◌&&◌, ◌||◌, List, [], ◌∷◌, ◌++◌, Option, Some}
use Rattle.std.proofs.Common.{None, refl, sym, ap, subst, ◌∙◌, decimal, arith}
use Rattle.std.specs.Prelude.{codes, nat_le}
use Rattle.std.specs.Str.{bytes_eq}
use Rattle.std.proofs.lemmas.Bool.{true≢false, le-leb, leb-true, eqb-true, eq-eqb, ne_eqb, and_parts, and_from, false_from_ne_true}
use Rattle.std.proofs.lemmas.Bool.{cond-true, cond-false}
use Rattle.std.proofs.lemmas.Bool.Decides.{nat_tests}
use Rattle.std.proofs.lemmas.List.Elements.{All-head, All-tail, All-weaker}
use Rattle.std.proofs.lemmas.List.Splits.{join_with_byte-slice_split}
use Rattle.lu_base.specs.Values.{node_text}
use Rattle.lu_scene.specs.Fields.{number_of}
use Rattle.lu_scene.proofs.Graphic.{is_graphic}
use Rattle.lu_scene.proofs.Numerals.{number_of-decimal, number_of-read}
use Rattle.lu_scene.proofs.Options.{bytes_same}
use Rattle.lu_trace.specs.declared.entries.Line.{Line}
use Rattle.lu_trace.specs.declared.traces.End.{End}
use Rattle.lu_trace.specs.declared.traces.End.TheVariants.{Done, Limit, Fault}
use Rattle.lu_trace.specs.Words.{words}
use Rattle.lu_trace.specs.Entries.{line_text}
use Rattle.lu_trace.specs.Traces.{end_words, osts_words}
use Rattle.lu_trace.specs.WellFormed.{IsLine}
use Rattle.lu_judge_reader.specs.Reading.{◌>>?◌, ◌>>=◌, Read, give, one}
use Rattle.lu_judge_reader.specs.Values.{node_of}
use Rattle.lu_judge_reader.specs.Entries.{entry_reader, line_reader, words_of, whole, said, osts_of, ended_as, end_rest, end_of}
use Rattle.lu_judge_reader.proofs.Alls.{some_is, then_some}
use Rattle.lu_judge_reader.proofs.Bytewise.{Of, Free, is_digit, of_free, of_wider, decimal_of, split_joined}
use Rattle.lu_judge_reader.proofs.Shown.{Shown, AreShown, no_words, more_words, code_shown, decimal_shown, node_shown}
use Rattle.lu_judge_reader.proofs.Steps.{one_then, then_again, last_words}
use Rattle.lu_judge_reader.proofs.ValuesAgain.{node_again}
use Rattle.lu_judge_reader.proofs.ListsAgain.{joined_of}
use Rattle.lu_judge_reader.proofs.EntriesAgain.{entry_words, entry_spelled, entry_some, entry_again, entry_shown}

-- the words of a line
abbrev pub line_words : Line → List (List ℕ)
line_words line = decimal line.at.stamp.0 ∷ node_text line.at.node ∷ entry_words line.entry

line_spelled : (line : Line) → line_text line ≡ words (line_words line)
line_spelled line =
    ap (λ (t : List ℕ). words (decimal line.at.stamp.0 ∷ node_text line.at.node ∷ t ∷ [])) (entry_spelled line.entry)
    ∙ last_words (decimal line.at.stamp.0 ∷ node_text line.at.node ∷ []) (entry_words line.entry) (entry_some line.entry)

line_shown : (line : Line) → IsLine line → AreShown (line_words line)
line_shown line is =
    more_words (decimal line.at.stamp.0) (node_text line.at.node ∷ entry_words line.entry) (decimal_shown line.at.stamp.0 is.0.0)
    (more_words (node_text line.at.node) (entry_words line.entry) (node_shown line.at.node is.0.1)
    (entry_shown line.at.stamp.0 line.entry is.1))

-- words are what stands between the spaces
no_space : (word : List ℕ) → Shown word → Free 32 word
no_space word is = of_free is_graphic 32 refl word is

pub split_words : (word : List ℕ) (more : List (List ℕ)) → AreShown (word ∷ more) → words_of (words (word ∷ more)) ≡ word ∷ more
split_words word more are =
    split_joined 32 refl word more (no_space word (All-head Shown word more are))
    (All-weaker Shown (Free 32) no_space more (All-tail Shown word more are))

-- a byte that is shown, or a space
abbrev is_line : ℕ → Bool
is_line b = is_graphic b || b == 32

line_byte : (b : ℕ) → is_graphic b ≡ true → is_line b ≡ true
line_byte b is = grind (arith, nat_tests)

shown_line : (word : List ℕ) → Shown word → Of is_line word
shown_line word is = of_wider is_graphic is_line line_byte word is

-- no line feed stands between words
pub no_feed : (word : List ℕ) (more : List (List ℕ)) → AreShown (word ∷ more) → Free 10 (words (word ∷ more))
no_feed word more are =
    of_free is_line 10 refl (words (word ∷ more))
    (joined_of is_line 32 refl word more (shown_line word (All-head Shown word more are))
    (All-weaker Shown (Of is_line) shown_line more (All-tail Shown word more are)))

pub line_no_feed : (line : Line) → IsLine line → Free 10 (line_text line)
line_no_feed line is = subst (Free 10) (sym (line_spelled line))
    (no_feed (decimal line.at.stamp.0) (node_text line.at.node ∷ entry_words line.entry) (line_shown line is))

line_again : (line : Line) → IsLine line → line_reader (line_words line) ≡ Some (line, [])
unfolding line_reader
line_again line is =
    one_then number_of (λ s. one node_of >>= λ n. entry_reader (record { 0 = s }) >>=
    λ e. give (record { at = record { stamp = record { 0 = s }; node = n }; entry = e }))
    (decimal line.at.stamp.0) (node_text line.at.node ∷ entry_words line.entry) line.at.stamp.0 (number_of-decimal line.at.stamp.0 is.0.0)
    ∙ one_then node_of (λ n. entry_reader line.at.stamp >>= λ e. give
    (record { at = record { stamp = line.at.stamp; node = n }; entry = e }))
    (node_text line.at.node) (entry_words line.entry) line.at.node (node_again line.at.node is.0.1)
    ∙ then_again (entry_reader line.at.stamp) (λ e. give (record { at = line.at; entry = e })) (entry_words line.entry) [] line.entry
    (entry_again line.at.stamp.0 line.entry is.1)

-- a line's text says the line
pub said_again : (line : Line) → IsLine line → said (line_text line) ≡ Some line
unfolding said
said_again line is =
    ap (λ (t : List ℕ). whole (line_reader (words_of t))) (line_spelled line)
    ∙ ap (λ (ws : List (List ℕ)). whole (line_reader ws)) (split_words (decimal line.at.stamp.0)
    (node_text line.at.node ∷ entry_words line.entry) (line_shown line is))
    ∙ ap (λ (r : Read Line). whole r) (line_again line is)

-- last lines

last_line : End → ℕ → List (List ℕ)
last_line end osts = end_words end ++ osts_words osts

osts_shown : (osts : ℕ) → osts ≤ 8 → AreShown (osts_words osts)
osts_shown osts few = by (osts == 1)
  where
    by : (b : Bool) → AreShown (cond b [] (decimal osts ∷ []))
    by true = no_words
    by false = more_words (decimal osts) [] (decimal_shown osts (omega (arith, few))) no_words

pub end_shown : (end : End) (osts : ℕ) → osts ≤ 8 → AreShown (end_words end ++ osts_words osts)
end_shown Done osts few = more_words (codes "end") (osts_words osts) (code_shown (codes "end") refl) (osts_shown osts few)
end_shown Limit osts few = more_words (codes "end") (codes "limit" ∷ osts_words osts) (code_shown (codes "end") refl)
    (more_words (codes "limit") (osts_words osts) (code_shown (codes "limit") refl) (osts_shown osts few))
end_shown Fault osts few = more_words (codes "end") (codes "fault" ∷ osts_words osts) (code_shown (codes "end") refl)
    (more_words (codes "fault") (osts_words osts) (code_shown (codes "fault") refl) (osts_shown osts few))

-- what follows `end` in a last line
abbrev tail_words : End → ℕ → List (List ℕ)
tail_words Done osts = osts_words osts
tail_words Limit osts = codes "limit" ∷ osts_words osts
tail_words Fault osts = codes "fault" ∷ osts_words osts

ends_with : (end : End) (osts : ℕ) → end_words end ++ osts_words osts ≡ codes "end" ∷ tail_words end osts
ends_with Done osts = refl
ends_with Limit osts = refl
ends_with Fault osts = refl

pub end_no_feed : (end : End) (osts : ℕ) → osts ≤ 8 → Free 10 (words (end_words end ++ osts_words osts))
end_no_feed end osts few =
    subst (λ (ws : List (List ℕ)). Free 10 (words ws)) (sym (ends_with end osts))
    (no_feed (codes "end") (tail_words end osts) (subst AreShown (ends_with end osts) (end_shown end osts few)))

pub split_end : (end : End) (osts : ℕ) → osts ≤ 8 → words_of (words (end_words end ++ osts_words osts)) ≡ end_words end ++ osts_words osts
split_end end osts few =
    ap (λ (ws : List (List ℕ)). words_of (words ws)) (ends_with end osts)
    ∙ split_words (codes "end") (tail_words end osts) (subst AreShown (ends_with end osts) (end_shown end osts few))
    ∙ sym (ends_with end osts)

osts_again : (osts : ℕ) → 1 ≤ osts → osts ≤ 8 → osts_of (osts_words osts) ≡ Some osts
osts_again osts some few = by (osts == 1) refl
  where
    other : (osts == 1) ≡ false → osts ≡ 1 → ⊥
    other is same = true≢false (sym (eq-eqb osts 1 same) ∙ is)

    by : (b : Bool) → (osts == 1) ≡ b → osts_of (cond b [] (decimal osts ∷ [])) ≡ Some osts
    by true is = ap (λ (n : ℕ). Some n) (sym (eqb-true osts 1 is))
    by false is =
        let more : 2 ≤ osts = omega (arith, some, other is) in
        ap (λ (o : Option ℕ). o >>? λ n. cond (nat_le 2 n && nat_le n 8) (Some n) None) (number_of-decimal osts (omega (arith, few)))
        ∙ cond-true (nat_le 2 osts && nat_le osts 8) (Some osts) None (and_from _ _ (le-leb 2 osts more) (le-leb osts 8 few))

-- no number's text is a word of letters
not_word : (letter : ℕ) (more : List ℕ) (n : ℕ) → is_digit letter ≡ false → n < 2 ^ 64 → bytes_eq (decimal n) (letter ∷ more) ≡ false
not_word letter more n other small =
    false_from_ne_true (bytes_eq (decimal n) (letter ∷ more)) (λ e.
    let all : Of is_digit (letter ∷ more) = subst (Of is_digit) (bytes_same (decimal n) (letter ∷ more) e) (decimal_of n small) in
    true≢false (sym (All-head (λ b. is_digit b ≡ true) letter more all) ∙ other))

done_again : (osts : ℕ) → 1 ≤ osts → osts ≤ 8 → end_rest (osts_words osts) ≡ Some (Done, osts)
done_again osts some few = by (osts == 1) refl
  where
    fits : osts < 2 ^ 64
    fits = omega (arith, few)

    by : (b : Bool) → (osts == 1) ≡ b → end_rest (cond b [] (decimal osts ∷ [])) ≡ Some (Done, osts)
    by true is = ap (λ (n : ℕ). Some (Done, n)) (sym (eqb-true osts 1 is))
    by false is =
        cond-false (bytes_eq (decimal osts) (codes "limit")) (ended_as Limit [])
        (cond (bytes_eq (decimal osts) (codes "fault")) (ended_as Fault []) (ended_as Done (decimal osts ∷ [])))
        (not_word 108 (105 ∷ 109 ∷ 105 ∷ 116 ∷ []) osts refl fits)
        ∙ cond-false (bytes_eq (decimal osts) (codes "fault")) (ended_as Fault []) (ended_as Done (decimal osts ∷ []))
        (not_word 102 (97 ∷ 117 ∷ 108 ∷ 116 ∷ []) osts refl fits)
        ∙ ap (λ (o : Option ℕ). o >>? λ n. Some (Done, n)) (subst (λ (c : Bool). osts_of (cond c [] (decimal osts ∷ [])) ≡ Some osts) is
        (osts_again osts some few))

-- a last line's words say how the run ended
pub end_again : (end : End) (osts : ℕ) → 1 ≤ osts → osts ≤ 8 → end_of (end_words end ++ osts_words osts) ≡ Some (end, osts)
end_again Done osts some few = done_again osts some few
end_again Limit osts some few = ap (λ (o : Option ℕ). o >>? λ n. Some (Limit, n)) (osts_again osts some few)
end_again Fault osts some few = ap (λ (o : Option ℕ). o >>? λ n. Some (Fault, n)) (osts_again osts some few)

-- what is read of a last line is written so

cond_none : {A : Type 0} (b : Bool) (o : Option A) (x : A) → cond b o None ≡ Some x → (b ≡ true) × (o ≡ Some x)
cond_none true o x e = (refl, e)
cond_none false o x e = absurd cc

osts_read : (ws : List (List ℕ)) (n : ℕ) → osts_of ws ≡ Some n → ws ≡ osts_words n
osts_read [] n e = ap osts_words (some_is 1 n e)
osts_read (word ∷ second ∷ ws) n e = absurd cc
osts_read (word ∷ []) n e =
    let a = then_some (number_of word) (λ m. cond (nat_le 2 m && nat_le m 8) (Some m) None) n e in
    let b = cond_none (nat_le 2 a.0 && nat_le a.0 8) (Some a.0) n a.2 in
    let low = leb-true 2 a.0 (and_parts (nat_le 2 a.0) (nat_le a.0 8) b.0).0 in
    let is = (number_of-read word a.0 a.1).0 in
    ap (λ (w : List ℕ). w ∷ []) is
    ∙ sym (cond-false (a.0 == 1) [] (decimal a.0 ∷ []) (ne_eqb a.0 1 (λ same. omega (arith, low, same))))
    ∙ ap osts_words (some_is a.0 n b.1)

abbrev last_of_words : End × ℕ → List (List ℕ)
last_of_words last = tail_words last.0 last.1

ended_read : (end : End) (before ws : List (List ℕ)) (last : End × ℕ) → ((n : ℕ) → before ++ osts_words n ≡ tail_words end n)
    → ended_as end ws ≡ Some last → before ++ ws ≡ last_of_words last
ended_read end before ws last tail e =
    let a = then_some (osts_of ws) (λ n. Some (end, n)) last e in
    ap (λ (vs : List (List ℕ)). before ++ vs) (osts_read ws a.0 a.1) ∙ tail a.0 ∙ ap last_of_words (some_is (end, a.0) last a.2)

rest_read : (ws : List (List ℕ)) (last : End × ℕ) → end_rest ws ≡ Some last → ws ≡ last_of_words last
rest_read [] last e = ended_read Done [] [] last (λ n. refl) e
rest_read (word ∷ ws) last e = by (bytes_eq word (codes "limit")) (bytes_eq word (codes "fault")) refl refl e
  where
    by : (b c : Bool) → bytes_eq word (codes "limit") ≡ b → bytes_eq word (codes "fault") ≡ c
        → cond b (ended_as Limit ws) (cond c (ended_as Fault ws) (ended_as Done (word ∷ ws))) ≡ Some last → word ∷ ws ≡ last_of_words last
    by true c is other read = ap (λ (w : List ℕ). w ∷ ws) (bytes_same word (codes "limit") is)
        ∙ ended_read Limit (codes "limit" ∷ []) ws last (λ n. refl) read
    by false true other is read = ap (λ (w : List ℕ). w ∷ ws) (bytes_same word (codes "fault") is)
        ∙ ended_read Fault (codes "fault" ∷ []) ws last (λ n. refl) read
    by false false other more read = ended_read Done [] (word ∷ ws) last (λ n. refl) read

pub end_read : (ws : List (List ℕ)) (last : End × ℕ) → end_of ws ≡ Some last → ws ≡ end_words last.0 ++ osts_words last.1
end_read [] last e = absurd cc
end_read (word ∷ ws) last e =
    let b = cond_none (bytes_eq word (codes "end")) (end_rest ws) last e in
    ap (λ (w : List ℕ). w ∷ ws) (bytes_same word (codes "end") b.0) ∙ ap (λ (vs : List (List ℕ)). codes "end" ∷ vs) (rest_read ws last b.1)
    ∙ sym (ends_with last.0 last.1)

-- the text of a last line, of what is read of its words
pub end_text_read : (text : List ℕ) (last : End × ℕ) → end_of (words_of text) ≡ Some last → words (end_words last.0 ++ osts_words last.1)
    ≡ text
end_text_read text last e = ap words (sym (end_read (words_of text) last e)) ∙ join_with_byte-slice_split 32 text

-- no line's text is that of a last line
pub line_no_end : (line : Line) (end : End) (osts : ℕ) → IsLine line → osts ≤ 8 → line_text line ≢ words (end_words end ++ osts_words osts)
line_no_end line end osts is few same =
    let parts : line_words line ≡ codes "end" ∷ tail_words end osts =
    sym (split_words (decimal line.at.stamp.0) (node_text line.at.node ∷ entry_words line.entry) (line_shown line is))
    ∙ ap words_of (sym (line_spelled line) ∙ same) ∙ split_end end osts few ∙ ends_with end osts in
    let head : decimal line.at.stamp.0 ≡ codes "end" = cc parts in
    let all : Of is_digit (codes "end") = subst (Of is_digit) head (decimal_of line.at.stamp.0 is.0.0) in
    true≢false (sym (All-head (λ b. is_digit b ≡ true) 101 (110 ∷ 100 ∷ []) all))
