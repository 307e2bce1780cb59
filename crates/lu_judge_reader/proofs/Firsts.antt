-- The first lines of texts, and which line is the first bad one.
use Rattle.std.proofs.Common.{◌≡◌, ◌≢◌, ℕ, suc, ◌+◌, ◌≤◌, ◌==◌, false, List, [], ◌∷◌, ◌++◌, length, map, refl, sym, ap, subst, ◌∙◌, arith}
use Rattle.std.proofs.Common.{append_assoc, lit≤}
use Rattle.std.specs.Prelude.{All}
use Rattle.std.proofs.lemmas.Bool.{true≢false, cond-false}
use Rattle.std.proofs.lemmas.List.Elements.{All-head, All-tail}
use Rattle.lu_trace.specs.declared.entries.Line.{Line}
use Rattle.lu_trace.specs.declared.traces.Trace.{Trace}
use Rattle.lu_trace.specs.declared.traces.End.{End}
use Rattle.lu_trace.specs.declared.traces.End.TheVariants.{Done}
use Rattle.lu_trace.specs.Words.{words}
use Rattle.lu_trace.specs.Entries.{line_text}
use Rattle.lu_trace.specs.Traces.{end_words, osts_words, lines_text, trace_text}
use Rattle.lu_trace.specs.WellFormed.{IsLine}
use Rattle.lu_judge_reader.specs.Reads.{first_lines, BeginsTrace, IsFirstBad, HasNoFeed, unlines}
use Rattle.lu_judge_reader.proofs.ListsAgain.{map_all}
use Rattle.lu_judge_reader.proofs.LinesAgain.{line_no_feed, end_no_feed, line_no_end}

-- the first line, and the lines after it
first_line : (l rest : List ℕ) (n : ℕ) → HasNoFeed l → first_lines (suc n) (l ++ 10 ∷ rest) ≡ l ++ 10 ∷ first_lines n rest
first_line [] rest n free = refl
first_line (b ∷ l) rest n free =
    ap (λ (t : List ℕ). b ∷ t)
    (cond-false (b == 10) (first_lines n (l ++ 10 ∷ rest)) (first_lines (suc n) (l ++ 10 ∷ rest))
    (All-head (λ c. (c == 10) ≡ false) b l free)
    ∙ first_line l rest n (All-tail (λ c. (c == 10) ≡ false) b l free))

-- a text without a line feed is one line
first_all : (l : List ℕ) (n : ℕ) → HasNoFeed l → first_lines (suc n) l ≡ l
first_all [] n free = refl
first_all (b ∷ l) n free =
    ap (λ (t : List ℕ). b ∷ t)
    (cond-false (b == 10) (first_lines n l) (first_lines (suc n) l) (All-head (λ c. (c == 10) ≡ false) b l free)
    ∙ first_all l n (All-tail (λ c. (c == 10) ≡ false) b l free))

-- what stands before the first line feed, and behind it
pub cut_same : (k l r s : List ℕ) → HasNoFeed k → HasNoFeed l → k ++ 10 ∷ r ≡ l ++ 10 ∷ s → (k ≡ l) × (r ≡ s)
cut_same [] [] r s one two e = (refl, cc e)
cut_same [] (b ∷ l) r s one two e =
    let same : 10 ≡ b = cc e in absurd (true≢false (ap (λ (c : ℕ). c == 10) same ∙ All-head (λ c. (c == 10) ≡ false) b l two))
cut_same (b ∷ k) [] r s one two e =
    let same : b ≡ 10 = cc e in absurd (true≢false (sym (ap (λ (c : ℕ). c == 10) same) ∙ All-head (λ c. (c == 10) ≡ false) b k one))
cut_same (b ∷ k) (c ∷ l) r s one two e =
    let head : b ≡ c = cc e in
    let tail : k ++ 10 ∷ r ≡ l ++ 10 ∷ s = cc e in
    let both = cut_same k l r s (All-tail (λ d. (d == 10) ≡ false) b k one) (All-tail (λ d. (d == 10) ≡ false) c l two) tail in
    (ap (λ (d : ℕ). d ∷ k) head ∙ ap (λ (t : List ℕ). c ∷ t) both.0, both.1)

no_feed_there : (k r text : List ℕ) → HasNoFeed text → k ++ 10 ∷ r ≡ text → ⊥
no_feed_there [] r [] free e = absurd cc
no_feed_there [] r (b ∷ text) free e =
    let same : 10 ≡ b = cc e in true≢false (ap (λ (c : ℕ). c == 10) same ∙ All-head (λ c. (c == 10) ≡ false) b text free)
no_feed_there (b ∷ k) r [] free e = absurd cc
no_feed_there (b ∷ k) r (c ∷ text) free e =
    let tail : k ++ 10 ∷ r ≡ text = cc e in no_feed_there k r text (All-tail (λ d. (d == 10) ≡ false) c text free) tail

-- so many lines after these
abbrev after : List (List ℕ) → ℕ → ℕ
after [] n = n
after (k ∷ ks) n = suc (after ks n)

after_is : (ks : List (List ℕ)) (n : ℕ) → after ks n ≡ length ks + n
after_is [] n = omega arith
after_is (k ∷ ks) n = let more = after_is ks n in omega (arith, more)

first_after : (ks : List (List ℕ)) (n : ℕ) (rest : List ℕ) → All HasNoFeed ks → first_lines (after ks n) (unlines ks ++ rest) ≡ unlines ks
    ++ first_lines n rest
first_after [] n rest free = refl
first_after (k ∷ ks) n rest free =
    ap (λ (t : List ℕ). first_lines (suc (after ks n)) t) (append_assoc k (10 ∷ unlines ks) rest)
    ∙ first_line k (unlines ks ++ rest) (after ks n) (All-head HasNoFeed k ks free)
    ∙ ap (λ (t : List ℕ). k ++ 10 ∷ t) (first_after ks n rest (All-tail HasNoFeed k ks free))
    ∙ sym (append_assoc k (10 ∷ unlines ks) (first_lines n rest))

-- a trace's text, line by line

abbrev pub last_text : End → ℕ → List ℕ
last_text end osts = words (end_words end ++ osts_words osts)

lines_are : (entries : List Line) → lines_text entries ≡ unlines (map line_text entries)
lines_are [] = refl
lines_are (l ∷ ls) = append_assoc (line_text l) (10 ∷ []) (lines_text ls) ∙ ap (λ (t : List ℕ). line_text l ++ 10 ∷ t) (lines_are ls)

pub trace_is : (trace : Trace) (end : End) → trace_text trace end ≡ unlines (map line_text trace.entries)
    ++ (last_text end trace.osts ++ 10 ∷ [])
trace_is trace end = ap (λ (t : List ℕ). t ++ (last_text end trace.osts ++ 10 ∷ [])) (lines_are trace.entries)

-- the text of entries and a last line
abbrev pub spelled : List Line → List ℕ → List ℕ
spelled entries last = unlines (map line_text entries) ++ (last ++ 10 ∷ [])

pub spelled_more : (l : Line) (ls : List Line) (last : List ℕ) → spelled (l ∷ ls) last ≡ line_text l ++ 10 ∷ spelled ls last
spelled_more l ls last = append_assoc (line_text l) (10 ∷ unlines (map line_text ls)) (last ++ 10 ∷ [])

-- what is left after lines that aren't last ones
abbrev pub Left : ℕ → List ℕ → List ℕ → Type 0
Left n rest last = (entries : List Line) × All IsLine entries × (first_lines n rest ≡ first_lines n (spelled entries last))

walk : (ks : List (List ℕ)) (n : ℕ) (rest : List ℕ) (entries : List Line) (last : List ℕ) → All HasNoFeed ks → All (λ k. k ≢ last) ks
    → All IsLine entries → HasNoFeed last
    → unlines ks ++ first_lines n rest ≡ first_lines (after ks n) (spelled entries last) → Left n rest last
walk [] n rest entries last free other are none e = (entries, are, e)
walk (k ∷ ks) n rest [] last free other are none e =
    let same = cut_same k last (unlines ks ++ first_lines n rest) (first_lines (after ks n) []) (All-head HasNoFeed k ks free) none
    (sym (append_assoc k (10 ∷ unlines ks) (first_lines n rest)) ∙ e ∙ first_line last [] (after ks n) none) in
    absurd (All-head (λ j. j ≢ last) k ks other same.0)
walk (k ∷ ks) n rest (l ∷ ls) last free other are none e =
    let same = cut_same k (line_text l) (unlines ks ++ first_lines n rest) (first_lines (after ks n) (spelled ls last))
    (All-head HasNoFeed k ks free) (line_no_feed l (All-head IsLine l ls are))
    (sym (append_assoc k (10 ∷ unlines ks) (first_lines n rest)) ∙ e
    ∙ ap (λ (t : List ℕ). first_lines (suc (after ks n)) t) (spelled_more l ls last)
    ∙ first_line (line_text l) (spelled ls last) (after ks n) (line_no_feed l (All-head IsLine l ls are))) in
    walk ks n rest ls last (All-tail HasNoFeed k ks free) (All-tail (λ j. j ≢ last) k ks other) (All-tail IsLine l ls are) none same.1

-- entries that are read, and what follows them

free_lines : (es : List Line) → All IsLine es → All HasNoFeed (map line_text es)
free_lines es are = map_all line_text IsLine HasNoFeed line_no_feed es are

other_lines : (es : List Line) (end : End) (osts : ℕ) → osts ≤ 8 → All IsLine es → All (λ k. k ≢ last_text end osts) (map line_text es)
other_lines es end osts few are = map_all line_text IsLine (λ k. k ≢ last_text end osts) (λ l is. line_no_end l end osts is few) es are

-- the lines of entries begin a trace
begins : (es : List Line) (rest : List ℕ) → All IsLine es → BeginsTrace (after (map line_text es) 0) (unlines (map line_text es) ++ rest)
begins es rest are =
    let ks = map line_text es in
    let free = free_lines es are in (
      record { osts = 1; entries = es },
      Done,
      record { some_osts = lit≤ tt; few_osts = lit≤ tt; lines = are },
      first_after ks 0 rest free ∙ sym (first_after ks 0 (last_text Done 1 ++ 10 ∷ []) free)
          ∙ ap (first_lines (after ks 0)) (sym (trace_is (record { osts = 1; entries = es }) Done)),
    )

-- what is left of a trace whose first lines these are
left_of : (es : List Line) (n : ℕ) (rest : List ℕ) → All IsLine es
    → BeginsTrace (after (map line_text es) n) (unlines (map line_text es) ++ rest)
    → (end : End) × (osts : ℕ) × (1 ≤ osts) × (osts ≤ 8) × Left n rest (last_text end osts)
left_of es n rest are (trace, end, well, same) =
    let ks = map line_text es in
    let few = well.few_osts in (
      end,
      trace.osts,
      well.some_osts,
      few,
      walk ks n rest trace.entries (last_text end trace.osts) (free_lines es are) (other_lines es end trace.osts few are) well.lines
          (end_no_feed end trace.osts few)
          (sym (first_after ks n rest (free_lines es are)) ∙ same ∙ ap (first_lines (after ks n)) (trace_is trace end)),
    )

-- a line that is neither an entry's nor a last one
abbrev pub IsNoLine : List ℕ → Type 0
IsNoLine text = ((l : Line) → IsLine l → line_text l ≢ text) × ((end : End) (osts : ℕ) → 1 ≤ osts → osts ≤ 8 → last_text end osts ≢ text)

none_left : (text more : List ℕ) (end : End) (osts : ℕ) → HasNoFeed text → IsNoLine text → 1 ≤ osts → osts ≤ 8
    → Left 1 (text ++ 10 ∷ more) (last_text end osts) → ⊥
none_left text more end osts free other some few ([], are, e) =
    other.1 end osts some few (sym (cut_same text (last_text end osts) [] [] free (end_no_feed end osts few)
    (sym (first_line text more 0 free) ∙ e ∙ first_line (last_text end osts) [] 0 (end_no_feed end osts few))).0)
none_left text more end osts free other some few (l ∷ ls, are, e) =
    let is = All-head IsLine l ls are in
    other.0 l is (sym (cut_same text (line_text l) [] [] free (line_no_feed l is)
    (sym (first_line text more 0 free) ∙ e ∙ ap (first_lines 1) (spelled_more l ls (last_text end osts))
    ∙ first_line (line_text l) (spelled ls (last_text end osts)) 0 (line_no_feed l is))).0)

pub bad_line : (es : List Line) (text more : List ℕ) → All IsLine es → HasNoFeed text → IsNoLine text
    → IsFirstBad (unlines (map line_text es) ++ (text ++ 10 ∷ more)) (length (map line_text es) + 1)
bad_line es text more are free other =
    let ks = map line_text es in
    let none = after_is ks 0 in
    let one = after_is ks 1 in
    let rest = text ++ 10 ∷ more in
    record {
      before = after ks 0;
      place = omega (arith, none);
      good = begins es rest are;
      bad = λ begun.
          let left = left_of es 1 rest are (subst (λ (n : ℕ). BeginsTrace n (unlines ks ++ rest)) (sym one) begun) in
          none_left text more left.0 left.1 free other left.2 left.3 left.4;
    }

-- a text that ends too early

missing_left : (last : List ℕ) (end : End) (osts : ℕ) → HasNoFeed last → osts ≤ 8 → Left 1 last (last_text end osts) → ⊥
missing_left last end osts free few ([], are, e) =
    no_feed_there (last_text end osts) [] last free (sym (first_line (last_text end osts) [] 0 (end_no_feed end osts few)) ∙ sym e
    ∙ first_all last 0 free)
missing_left last end osts free few (l ∷ ls, are, e) =
    no_feed_there (line_text l) [] last free
    (sym (first_line (line_text l) (spelled ls (last_text end osts)) 0 (line_no_feed l (All-head IsLine l ls are)))
    ∙ sym (ap (first_lines 1) (spelled_more l ls (last_text end osts))) ∙ sym e ∙ first_all last 0 free)

pub missing_line : (es : List Line) (last : List ℕ) → All IsLine es → HasNoFeed last
    → IsFirstBad (unlines (map line_text es) ++ last) (length (map line_text es) + 1)
missing_line es last are free =
    let ks = map line_text es in
    let none = after_is ks 0 in
    let one = after_is ks 1 in
    record {
      before = after ks 0;
      place = omega (arith, none);
      good = begins es last are;
      bad = λ begun.
          let left = left_of es 1 last are (subst (λ (n : ℕ). BeginsTrace n (unlines ks ++ last)) (sym one) begun) in
          missing_left last left.0 left.1 free left.3 left.4;
    }

-- a text that goes on after the last line

first_some : (b : ℕ) (more : List ℕ) → first_lines 1 (b ∷ more) ≢ []
first_some b more none = cc none

further_left : (end end_read : End) (osts osts_read : ℕ) (b : ℕ) (more : List ℕ) → osts ≤ 8 → osts_read ≤ 8
    → Left 2 (last_text end_read osts_read ++ 10 ∷ b ∷ more) (last_text end osts) → ⊥
further_left end end_read osts osts_read b more few small ([], are, e) =
    let here = end_no_feed end_read osts_read small in
    let there = end_no_feed end osts few in
    first_some b more (cut_same (last_text end_read osts_read) (last_text end osts) (first_lines 1 (b ∷ more)) [] here there
    (sym (first_line (last_text end_read osts_read) (b ∷ more) 1 here) ∙ e ∙ first_line (last_text end osts) [] 1 there)).1
further_left end end_read osts osts_read b more few small (l ∷ ls, are, e) =
    let here = end_no_feed end_read osts_read small in
    let is = All-head IsLine l ls are in
    line_no_end l end_read osts_read is small (sym (cut_same (last_text end_read osts_read) (line_text l) (first_lines 1 (b ∷ more))
    (first_lines 1 (spelled ls (last_text end osts))) here (line_no_feed l is)
    (sym (first_line (last_text end_read osts_read) (b ∷ more) 1 here) ∙ e ∙ ap (first_lines 2) (spelled_more l ls (last_text end osts))
    ∙ first_line (line_text l) (spelled ls (last_text end osts)) 1 (line_no_feed l is))).0)

pub further_line : (es : List Line) (end : End) (osts : ℕ) (b : ℕ) (more : List ℕ) → All IsLine es → 1 ≤ osts → osts ≤ 8
    → IsFirstBad (unlines (map line_text es) ++ (last_text end osts ++ 10 ∷ b ∷ more)) (length (map line_text es) + 2)
further_line es end osts b more are some few =
    let ks = map line_text es in
    let free = free_lines es are in
    let one = after_is ks 1 in
    let two = after_is ks 2 in
    let here = end_no_feed end osts few in
    let rest = last_text end osts ++ 10 ∷ b ∷ more in
    record {
      before = after ks 1;
      place = omega (arith, one);
      good = (
        record { osts = osts; entries = es },
        end,
        record { some_osts = some; few_osts = few; lines = are },
        first_after ks 1 rest free ∙ ap (λ (t : List ℕ). unlines ks ++ t)
            (first_line (last_text end osts) (b ∷ more) 0 here ∙ sym (first_line (last_text end osts) [] 0 here))
            ∙ sym (first_after ks 1 (last_text end osts ++ 10 ∷ []) free)
            ∙ ap (first_lines (after ks 1)) (sym (trace_is (record { osts = osts; entries = es }) end)),
      );
      bad = λ begun.
          let left = left_of es 2 rest are (subst (λ (n : ℕ). BeginsTrace n (unlines ks ++ rest)) (sym two) begun) in
          further_left left.0 end left.1 osts b more left.3 few left.4;
    }
