-- What is answered: a well formed trace, or the first bad line.
use Rattle.std.proofs.Common.{◌≡◌, ◌≢◌, ℕ, zero, suc, ◌+◌, ◌<◌, ◌≤◌, Bool, true, false, List, [], ◌∷◌, ◌++◌, length, map, take, drop}
use Rattle.std.proofs.Common.{get_or, Result, Ok, Err, refl, sym, ap, subst, ◌∙◌, arith, append_assoc, inl, inr}
use Rattle.std.specs.Prelude.{All, IfOk, ◌⊎◌}
use Rattle.std.proofs.lemmas.Bool.{true≢false}
use Rattle.std.proofs.lemmas.List.{drop_more, take-append-drop, take_all, map-append, length-drop, length-map, get_or-map}
use Rattle.std.proofs.lemmas.List.Elements.{All-head, All-tail}
use Rattle.std.proofs.Math.Seq.{take-suc}
use Rattle.std.proofs.Math.Numerals.{add-one}
use Rattle.lu_trace.specs.declared.entries.Line.{Line}
use Rattle.lu_trace.specs.declared.traces.Trace.{Trace}
use Rattle.lu_trace.specs.declared.traces.End.{End}
use Rattle.lu_trace.specs.Words.{words}
use Rattle.lu_trace.specs.Entries.{line_text}
use Rattle.lu_trace.specs.Traces.{end_words, osts_words, trace_text}
use Rattle.lu_trace.specs.WellFormed.{IsLine, IsWellFormed, TextDetermines}
use Rattle.lu_judge_reader.specs.declared.faults.LineFault.{LineFault}
use Rattle.lu_judge_reader.specs.declared.faults.LineFault.TheVariants as line_faults
use Rattle.lu_judge_reader.specs.declared.faults.ReadFault.{ReadFault}
use Rattle.lu_judge_reader.specs.declared.faults.ReadFault.TheVariants as faults
use Rattle.lu_judge_reader.specs.Entries.{said, words_of, end_of}
use Rattle.lu_judge_reader.specs.Reads.{first_lines, IsFirstBad, HasNoFeed, unlines, IsOutcome, AreRead, closed}
use Rattle.lu_judge_reader.proofs.Alls.{some_is, fits_more}
use Rattle.lu_judge_reader.proofs.LinesAgain.{said_again, line_no_feed, end_no_feed, line_no_end, end_again, split_end}
use Rattle.lu_judge_reader.proofs.Firsts.{trace_is, bad_line, missing_line, further_line, last_text, spelled, spelled_more, cut_same}

-- one text is that of one trace

same_line : (l m : Line) → IsLine l → IsLine m → line_text l ≡ line_text m → l ≡ m
same_line l m one two e = some_is l m (sym (said_again l one) ∙ ap said e ∙ said_again m two)

same_end : (end other : End) (osts n : ℕ) → 1 ≤ osts → osts ≤ 8 → 1 ≤ n → n ≤ 8 → last_text end osts ≡ last_text other n
    → ◌≡◌ {A = End × ℕ} (end, osts) (other, n)
same_end end other osts n some few more less e =
    some_is (end, osts) (other, n)
    (sym (end_again end osts some few) ∙ ap end_of (sym (split_end end osts few) ∙ ap words_of e ∙ split_end other n less)
    ∙ end_again other n more less)

same_entries : (es fs : List Line) (end other : End) (osts n : ℕ) → osts ≤ 8 → n ≤ 8 → All IsLine es → All IsLine fs
    → spelled es (last_text end osts) ≡ spelled fs (last_text other n) → (es ≡ fs) × (last_text end osts ≡ last_text other n)
same_entries [] [] end other osts n few less are more e = (
  refl,
  (cut_same (last_text end osts) (last_text other n) [] [] (end_no_feed end osts few) (end_no_feed other n less) e).0,
)
same_entries [] (m ∷ ms) end other osts n few less are more e =
    let is = All-head IsLine m ms more in
    absurd (line_no_end m end osts is few (sym (cut_same (last_text end osts) (line_text m) [] (spelled ms (last_text other n))
    (end_no_feed end osts few) (line_no_feed m is) (e ∙ spelled_more m ms (last_text other n))).0))
same_entries (l ∷ ls) [] end other osts n few less are more e =
    let is = All-head IsLine l ls are in
    absurd (line_no_end l other n is less (cut_same (line_text l) (last_text other n) (spelled ls (last_text end osts)) []
    (line_no_feed l is) (end_no_feed other n less) (sym (spelled_more l ls (last_text end osts)) ∙ e)).0)
same_entries (l ∷ ls) (m ∷ ms) end other osts n few less are more e =
    let one = All-head IsLine l ls are in
    let two = All-head IsLine m ms more in
    let both = cut_same (line_text l) (line_text m) (spelled ls (last_text end osts)) (spelled ms (last_text other n)) (line_no_feed l one)
    (line_no_feed m two)
    (sym (spelled_more l ls (last_text end osts)) ∙ e ∙ spelled_more m ms (last_text other n)) in
    let rest = same_entries ls ms end other osts n few less (All-tail IsLine l ls are) (All-tail IsLine m ms more) both.1 in
    (ap (λ (k : Line). k ∷ ls) (same_line l m one two both.0) ∙ ap (λ (ks : List Line). m ∷ ks) rest.0, rest.1)

-- two well formed traces never have one text
pub determined : (a b : Trace) (e f : End) → IsWellFormed a → IsWellFormed b → trace_text a e ≡ trace_text b f → (a ≡ b) × (e ≡ f)
determined a b e f one two same =
    let both = same_entries a.entries b.entries e f a.osts b.osts one.few_osts two.few_osts one.lines two.lines
    (sym (trace_is a e) ∙ same ∙ trace_is b f) in
    let ends = same_end e f a.osts b.osts one.some_osts one.few_osts two.some_osts two.few_osts both.1 in
    (ap (λ (n : ℕ). of n a.entries) (ap (λ (p : End × ℕ). p.1) ends) ∙ ap (of b.osts) both.0, ap (λ (p : End × ℕ). p.0) ends)
  where
    of : ℕ → List Line → Trace
    of n es = record { osts = n; entries = es }

-- what is said of an outcome

pub outcome_read : (text : List ℕ) (r : Result (Trace × End) ReadFault) → IsOutcome text r
    → IfOk r (λ p. IsWellFormed p.0 × (trace_text p.0 p.1 ≡ text))
outcome_read text (Ok p) is = is
outcome_read text (Err fault) is = tt

pub outcome_bad : (text : List ℕ) (r : Result (Trace × End) ReadFault) → IsOutcome text r → (n : ℕ) → r ≡ Err (faults.Line n)
    → IsFirstBad text n
outcome_bad text r is n e = subst (IsOutcome text) e is

pub outcome_only : (text : List ℕ) (r : Result (Trace × End) ReadFault) → IsOutcome text r
    → (trace : Trace) (end : End) → IsWellFormed trace → trace_text trace end ≡ text → (r ≡ Ok (trace, end)) ⊎ (r ≡ Err faults.Memory)
outcome_only text (Ok p) is trace end well same =
    let both = determined p.0 trace p.1 end is.0 well (is.1 ∙ sym same) in
    inl (ap (λ (t : Trace). Ok (t, p.1)) both.0 ∙ ap (λ (f : End). Ok (trace, f)) both.1)
outcome_only text (Err faults.Memory) is trace end well same = inr refl
outcome_only text (Err (faults.Line n)) is trace end well same =
    absurd (is.bad (trace, end, well, ap (λ (t : List ℕ). first_lines n t) (sym same)))

-- lines before a place, the line there, and those after it

unlines-append : (xs ys : List (List ℕ)) → unlines (xs ++ ys) ≡ unlines xs ++ unlines ys
unlines-append [] ys = refl
unlines-append (x ∷ xs) ys = ap (λ (t : List ℕ). x ++ 10 ∷ t) (unlines-append xs ys) ∙ sym (append_assoc x (10 ∷ unlines xs) (unlines ys))

all_at : (P : List ℕ → Type 0) (ls : List (List ℕ)) (i : ℕ) (d : List ℕ) → i < length ls → All P ls → P (get_or ls i d)
all_at P [] i d within are = absurd (omega (arith, within))
all_at P (l ∷ ls) zero d within are = All-head P l ls are
all_at P (l ∷ ls) (suc i) d within are = all_at P ls i d (omega (arith, within)) (All-tail P l ls are)

length_take : (ls : List (List ℕ)) (i : ℕ) → i < length ls → length (take i ls) ≡ i
length_take [] i within = absurd (omega (arith, within))
length_take (l ∷ ls) zero within = refl
length_take (l ∷ ls) (suc i) within = let more = length_take ls i (omega (arith, within)) in omega (arith, more)

cut_text : (ls : List (List ℕ)) (i : ℕ) (d last : List ℕ) → i < length ls
    → unlines ls ++ last ≡ unlines (take i ls) ++ (get_or ls i d ++ 10 ∷ (unlines (drop (i + 1) ls) ++ last))
cut_text ls i d last within =
    let here = get_or ls i d in
    let more = drop (i + 1) ls in
    ap (λ (ks : List (List ℕ)). unlines ks ++ last) (sym (take-append-drop i ls)
    ∙ ap (λ (ks : List (List ℕ)). take i ls ++ ks) (drop_more ls i d within))
    ∙ ap (λ (t : List ℕ). t ++ last) (unlines-append (take i ls) (here ∷ more))
    ∙ append_assoc (unlines (take i ls)) (here ++ 10 ∷ unlines more) last
    ∙ ap (λ (t : List ℕ). unlines (take i ls) ++ t) (append_assoc here (10 ∷ unlines more) last)

-- one more line is read
pub read_more : {B : Type 0} (now : B → List ℕ) (ls : List B) (i : ℕ) (d : B) (es fs : List Line) (l : Line) → i < length ls
    → AreRead es (map now (take i ls)) → IsLine l × (line_text l ≡ now (get_or ls i d)) → fs ≡ es ++ l ∷ []
    → AreRead fs (map now (take (i + 1) ls))
read_more {B} now ls i d es fs l within before is added = (
  ap (map line_text) added ∙ map-append line_text es (l ∷ []) ∙ ap (λ (t : List ℕ). map line_text es ++ t ∷ []) is.1
      ∙ ap (λ (ks : List (List ℕ)). ks ++ now (get_or ls i d) ∷ []) before.0
      ∙ sym (map-append now (take i ls) (get_or ls i d ∷ []))
      ∙ ap (map now) (sym (take-suc ls i d within) ∙ ap (λ (k : ℕ). take k ls) (sym (add-one i))),
  fits_more IsLine es fs l before.1 is.0 added,
)

-- what the line at the place is
pub record IsRead (text : List ℕ) (r : Result (End × ℕ) LineFault) : Type 0 where
  pub read : IfOk r (λ last. words (end_words last.0 ++ osts_words last.1) ≡ text)
  pub some : IfOk r (λ last. 1 ≤ last.1)
  pub few : IfOk r (λ last. last.1 ≤ 8)
  pub none : r ≡ Err line_faults.Unread → (end : End) (osts : ℕ) → 1 ≤ osts → osts ≤ 8 → words (end_words end ++ osts_words osts) ≢ text

beyond : (es : List Line) (end : End) (osts i : ℕ) (more : List ℕ) → more ≢ [] → All IsLine es → 1 ≤ osts → osts ≤ 8
    → length (map line_text es) ≡ i
    → IsFirstBad (unlines (map line_text es) ++ (last_text end osts ++ 10 ∷ more)) (i + 2)
beyond es end osts i [] some are least most count = absurd (some refl)
beyond es end osts i (b ∷ more) some are least most count =
    subst (λ (k : ℕ). IsFirstBad (unlines (map line_text es) ++ (last_text end osts ++ 10 ∷ b ∷ more)) (k + 2)) count
    (further_line es end osts b more are least most)

not_all : (ls : List (List ℕ)) (i : ℕ) (last : List ℕ) → i < length ls → ((i + 1 ≡ length ls) × (last ≡ []) → ⊥) → unlines (drop (i + 1) ls)
    ++ last ≢ []
not_all ls i last within other none = by (drop (i + 1) ls) refl none
  where
    by : (ks : List (List ℕ)) → drop (i + 1) ls ≡ ks → unlines ks ++ last ≡ [] → ⊥
    by [] is nil =
        let count = length-drop {A = List ℕ} (i + 1) ls in
        let zero_is : length (drop (i + 1) ls) ≡ 0 = ap length is in
        other (omega (arith, count, zero_is, within), nil)
    by ([] ∷ ks) is nil = cc nil
    by ((b ∷ k) ∷ ks) is nil = cc nil

all_done : (ls : List (List ℕ)) (i : ℕ) (last : List ℕ) → i + 1 ≡ length ls → last ≡ [] → unlines (drop (i + 1) ls) ++ last ≡ []
all_done ls i last all nil = by (drop (i + 1) ls) refl
  where
    by : (ks : List (List ℕ)) → drop (i + 1) ls ≡ ks → unlines (drop (i + 1) ls) ++ last ≡ []
    by [] is = ap (λ (ks : List (List ℕ)). unlines ks ++ last) is ∙ nil
    by (k ∷ ks) is =
        let count = length-drop {A = List ℕ} (i + 1) ls in
        let more : length (drop (i + 1) ls) ≡ length (k ∷ ks) = ap length is in
        absurd (omega (arith, count, more, all))

-- the answer at the first line that is no entry's
pub close_outcome : (es : List Line) (ls : List (List ℕ)) (i : ℕ) (d last : List ℕ) (r : Result (End × ℕ) LineFault) (is_last : Bool)
    → i < length ls
    → AreRead es (take i ls) → All HasNoFeed ls → HasNoFeed last → ((l : Line) → IsLine l → line_text l ≢ get_or ls i d)
    → IsRead (get_or ls i d) r
    → (is_last ≡ true → (i + 1 ≡ length ls) × (last ≡ [])) → ((i + 1 ≡ length ls) × (last ≡ []) → is_last ≡ true)
    → IsOutcome (unlines ls ++ last) (closed es is_last i r)
close_outcome es ls i d last (Err line_faults.Memory) is_last within before free last_free no_line end only all = tt
close_outcome es ls i d last (Err line_faults.Unread) is_last within before free last_free no_line end only all =
    let here = get_or ls i d in
    let more = unlines (drop (i + 1) ls) ++ last in
    let count : length (map line_text es) ≡ i = ap length before.0 ∙ length_take ls i within in
    subst (λ (t : List ℕ). IsFirstBad t (i + 1))
    (ap (λ (ks : List (List ℕ)). unlines ks ++ (here ++ 10 ∷ more)) before.0 ∙ sym (cut_text ls i d last within))
    (subst (λ (k : ℕ). IsFirstBad (unlines (map line_text es) ++ (here ++ 10 ∷ more)) (k + 1)) count
    (bad_line es here more before.1 (all_at HasNoFeed ls i d within free) (no_line, end.none refl)))
close_outcome es ls i d last (Ok p) false within before free last_free no_line end only all =
    let more = unlines (drop (i + 1) ls) ++ last in
    let count : length (map line_text es) ≡ i = ap length before.0 ∙ length_take ls i within in
    subst (λ (t : List ℕ). IsFirstBad t (i + 2))
    (ap (λ (ks : List (List ℕ)). unlines ks ++ (last_text p.0 p.1 ++ 10 ∷ more)) before.0
    ∙ ap (λ (t : List ℕ). unlines (take i ls) ++ (t ++ 10 ∷ more)) end.read ∙ sym (cut_text ls i d last within))
    (beyond es p.0 p.1 i more (not_all ls i last within (λ both. true≢false (sym (all both)))) before.1 end.some end.few count)
close_outcome es ls i d last (Ok p) true within before free last_free no_line end only all =
    let both = only refl in (
      record { some_osts = end.some; few_osts = end.few; lines = before.1 },
      trace_is (record { osts = p.1; entries = es }) p.0
          ∙ ap (λ (ks : List (List ℕ)). unlines ks ++ (last_text p.0 p.1 ++ 10 ∷ [])) before.0
          ∙ ap (λ (t : List ℕ). unlines (take i ls) ++ (t ++ 10 ∷ [])) end.read
          ∙ ap (λ (t : List ℕ). unlines (take i ls) ++ (get_or ls i d ++ 10 ∷ t)) (sym (all_done ls i last both.0 both.1))
          ∙ sym (cut_text ls i d last within),
    )

-- the answer where all lines are those of entries
pub missing_outcome : (es : List Line) (ls : List (List ℕ)) (last : List ℕ) → AreRead es ls → HasNoFeed last
    → IsFirstBad (unlines ls ++ last) (length ls + 1)
missing_outcome es ls last are free = subst (λ (ks : List (List ℕ)). IsFirstBad (unlines ks ++ last) (length ks + 1)) are.0
    (missing_line es last are.1 free)

-- the same, where the lines are shown as others

take_map : {B : Type 0} (now : B → List ℕ) (bs : List B) (i : ℕ) → take i (map now bs) ≡ map now (take i bs)
take_map now [] zero = refl
take_map now [] (suc i) = refl
take_map now (b ∷ bs) zero = refl
take_map now (b ∷ bs) (suc i) = ap (λ (ks : List (List ℕ)). now b ∷ ks) (take_map now bs i)

pub close_lines : {B : Type 0} (now : B → List ℕ) (bs : List B) (i : ℕ) (d : B) (es : List Line) (last : List ℕ)
    (r : Result (End × ℕ) LineFault) (answer : Result (Trace × End) ReadFault) (is_last : Bool)
    → i < length bs → AreRead es (map now (take i bs)) → All HasNoFeed (map now bs) → HasNoFeed last
    → ((l : Line) → IsLine l → line_text l ≢ now (get_or bs i d)) → IsRead (now (get_or bs i d)) r
    → (is_last ≡ true → (i + 1 ≡ length bs) × (last ≡ [])) × ((i + 1 ≡ length bs) × (last ≡ []) → is_last ≡ true)
    → answer ≡ closed es is_last i r → IsOutcome (unlines (map now bs) ++ last) answer
close_lines now bs i d es last r answer is_last within before free last_free no_line end test is =
    let here : get_or (map now bs) i (now d) ≡ now (get_or bs i d) = get_or-map now bs i d (now d) within in
    let count : length (map now bs) ≡ length bs = length-map bs now in
    subst (IsOutcome (unlines (map now bs) ++ last)) (sym is)
    (close_outcome es (map now bs) i (now d) last r is_last (omega (arith, within, count)) (before.0 ∙ sym (take_map now bs i), before.1)
    free last_free
    (λ l is_line same. no_line l is_line (same ∙ here)) (subst (λ (t : List ℕ). IsRead t r) (sym here) end)
    (λ yes_last. let both = test.0 yes_last in let one = both.0 in (omega (arith, one, count), both.1))
    (λ both. let one = both.0 in test.1 (omega (arith, one, count), both.1)))

pub missing_lines : {B : Type 0} (now : B → List ℕ) (bs : List B) (i : ℕ) (es : List Line) (last : List ℕ) → length bs ≤ i
    → AreRead es (map now (take i bs)) → HasNoFeed last
    → IsFirstBad (unlines (map now bs) ++ last) (length bs + 1)
missing_lines {B} now bs i es last past before free =
    subst (λ (n : ℕ). IsFirstBad (unlines (map now bs) ++ last) (n + 1)) (length-map bs now)
    (missing_outcome es (map now bs) last (before.0 ∙ ap (λ (cs : List B). map now cs) (take_all i bs past), before.1) free)

-- two well formed traces never have one text, as lu_trace states it
pub text_determines : TextDetermines
text_determines a b e f one two same = determined a b e f one two same
