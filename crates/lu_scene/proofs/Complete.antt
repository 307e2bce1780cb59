-- Each scenario is read, as it is.
use Rattle.std.proofs.Common.{◌≡◌, ℕ, ◌+◌, ◌^◌, ◌<◌, ◌≤◌, ◌==◌, Bool, true, false, not, cond, ◌||◌, List, [], ◌∷◌, ◌++◌, length, map}
use Rattle.std.proofs.Common.{Option, None, Result, Ok, Err, refl, sym, ap, subst, ◌∙◌, append_assoc, append-nil, decimal, arith, inl, inr}
use Rattle.std.proofs.Common.{lit<, lit≤}
use Rattle.std.specs.Prelude.{filter, fold, count_by, All}
use Rattle.std.specs.List.{AllPass}
use Rattle.std.proofs.lemmas.Bool.{true≢false, eq-eqb, ne_eqb, and_parts, and_from, not-true, or_from, false_from_ne_true, cases_Bool}
use Rattle.std.proofs.lemmas.List.Elements.{All-head, All-tail}
use Rattle.std.proofs.lemmas.List.Sums.{sum_by-append}
use Rattle.lu_scene.specs.declared.faults.Fault.{Fault}
use Rattle.lu_scene.specs.declared.faults.Fault.TheVariants as faults
use Rattle.lu_scene.specs.declared.reader.Progress.{Progress}
use Rattle.lu_scene.specs.declared.scene.Head.{Head}
use Rattle.lu_scene.specs.declared.scene.SceneLine.{SceneLine}
use Rattle.lu_scene.specs.declared.words.Header.{Header}
use Rattle.lu_scene.specs.declared.words.Header.TheVariants as headers
use Rattle.lu_scene.specs.declared.words.Verb.{Verb}
use Rattle.lu_scene.specs.Words.{header_text, verb_text, verb_of}
use Rattle.lu_scene.specs.Fields.{◌>>=◌}
use Rattle.lu_scene.specs.Lines.{words_of, is_plain, is_comment, least_of, most_of, default_head, with_number, place_of, is_given}
use Rattle.lu_scene.specs.Lines.{one_number, line_of, said_after, words_after, line_after, lines_after, nothing}
use Rattle.lu_scene.specs.Print.{header_words}
use Rattle.lu_scene.specs.Grammar.{Setting, SettingFits, setting_words, head_of, StandOnce, AreLines, says, sayings, Spells, progress_of}
use Rattle.lu_scene.proofs.Going.{passes, no_lines}
use Rattle.lu_scene.proofs.Readings.{number_in-again}
use Rattle.lu_scene.proofs.LineForms.{IsSmall, header_of-again, verb_of-again, no_header, line_of-again}
use Rattle.lu_scene.proofs.Reached.{one_if, count-cons, progress_more}

-- heads are small

small_with : (header : Header) (n : ℕ) (head : Head) → IsSmall head → n ≤ most_of header → IsSmall (with_number header n head)
small_with headers.Clients n head small most = record { clients = most; osts = small.osts }
small_with headers.Osts n head small most = record { clients = small.clients; osts = most }
small_with headers.Expire n head small most = record { clients = small.clients; osts = small.osts }
small_with headers.Dirty n head small most = record { clients = small.clients; osts = small.osts }
small_with headers.Unused n head small most = record { clients = small.clients; osts = small.osts }
small_with headers.Rounds n head small most = record { clients = small.clients; osts = small.osts }
small_with headers.Flight n head small most = record { clients = small.clients; osts = small.osts }

small_fold : (settings : List Setting) (head : Head) → IsSmall head → All SettingFits settings
    → IsSmall (fold (λ h s. with_number s.header s.number h) head settings)
small_fold [] head small fit = small
small_fold (s ∷ ss) head small fit =
    small_fold ss (with_number s.header s.number head) (small_with s.header s.number head small (All-head SettingFits s ss fit).1)
    (All-tail SettingFits s ss fit)

pub small_head : (settings : List Setting) → All SettingFits settings → IsSmall (head_of settings)
small_head settings fit = small_fold settings default_head (record { clients = lit≤ tt; osts = lit≤ tt }) fit

most_small : (header : Header) → most_of header < 2 ^ 64
most_small headers.Clients = lit< tt
most_small headers.Osts = lit< tt
most_small headers.Expire = lit< tt
most_small headers.Dirty = lit< tt
most_small headers.Unused = lit< tt
most_small headers.Rounds = lit< tt
most_small headers.Flight = lit< tt

-- what a line makes

silent : (p : Progress) (line : List ℕ) → is_plain line ≡ true → says line ≡ false → line_after p line ≡ Ok p
unfolding line_after
silent p line plain none = by (is_comment line) refl (words_of line) refl
  where
    by : (d : Bool) → is_comment line ≡ d → (ws : List (List ℕ)) → words_of line ≡ ws
        → cond (not (is_plain line)) (Err faults.Line) (cond (is_comment line) (Ok p) (words_after p (words_of line))) ≡ Ok p
    by true comment ws parted =
        ap (λ (b : Bool). cond (not b) (Err faults.Line) (cond (is_comment line) (Ok p) (words_after p (words_of line)))) plain
        ∙ ap (λ (b : Bool). cond b (Ok p) (words_after p (words_of line))) comment
    by false comment [] parted =
        ap (λ (b : Bool). cond (not b) (Err faults.Line) (cond (is_comment line) (Ok p) (words_after p (words_of line)))) plain
        ∙ ap (λ (b : Bool). cond b (Ok p) (words_after p (words_of line))) comment
        ∙ ap (words_after p) parted
    by false comment (w ∷ ws) parted =
        let some : says line ≡ true = and_from _ _ (ap not comment)
        (ap (λ (vs : List (List ℕ)). not (length vs == 0)) parted ∙ ap not (ne_eqb (length (w ∷ ws)) 0 (λ e. omega arith))) in
        absurd (true≢false (sym some ∙ none))

spoken : (p : Progress) (line : List ℕ) → is_plain line ≡ true → says line ≡ true → line_after p line ≡ words_after p (words_of line)
unfolding line_after
spoken p line plain some =
    let parts = and_parts (not (is_comment line)) (not (length (words_of line) == 0)) some in
    ap (λ (b : Bool). cond (not b) (Err faults.Line) (cond (is_comment line) (Ok p) (words_after p (words_of line)))) plain
    ∙ ap (λ (b : Bool). cond b (Ok p) (words_after p (words_of line))) (not-true (is_comment line) parts.0)

verb_again : (settings : List Setting) (said : List SceneLine) (verb : Verb) (more : List (List ℕ)) (line : SceneLine)
    → line_of (head_of settings) verb more ≡ Ok line
    → words_after (progress_of settings said) (verb_text verb ∷ more) ≡ Ok (progress_of settings (said ++ line ∷ []))
verb_again settings said verb more line read =
    let p = progress_of settings said in
    ap (λ (h : Option Header). said_after p h (verb_of (verb_text verb)) more) (no_header verb)
    ∙ ap (λ (v : Option Verb). said_after p None v more) (verb_of-again verb)
    ∙ ap (λ (r : Result SceneLine Fault). r >>= λ next. Ok (record p { lines = said ++ next ∷ [] })) read

header_again : (settings : List Setting) (header : Header) (n : ℕ) → is_given header (map (λ s. s.header) settings) ≡ false
    → least_of header ≤ n → n ≤ most_of header
    → words_after (progress_of settings []) (header_words header n)
    ≡ Ok (progress_of (settings ++ record { header = header; number = n } ∷ []) [])
header_again settings header n new low high =
    let p = progress_of settings [] in
    let go : Result ℕ Fault → Result Progress Fault = λ r. r >>=
    λ m. Ok (record p { head = with_number header m p.head; given = p.given ++ header ∷ [] }) in
    ap (λ (h : Option Header). said_after p h (verb_of (header_text header)) (decimal n ∷ [])) (header_of-again header)
    ∙ ap (λ (b : Bool). cond (b || not (length p.lines == 0)) (Err faults.Header)
    (go (one_number (least_of header) (most_of header) (decimal n ∷ [])))) new
    ∙ ap go (number_in-again (least_of header) (most_of header) n low high (most_small header))
    ∙ ap (λ (q : Progress). Ok q) (progress_more settings header n [] refl)

-- sayings, from the front

pub says_first : (line : List ℕ) (text : List (List ℕ)) → says line ≡ true → sayings (line ∷ text) ≡ words_of line ∷ sayings text
says_first line text e = ap (λ (b : Bool). map words_of (cond b (line ∷ filter says text) (filter says text))) e

pub says_later : (line : List ℕ) (text : List (List ℕ)) → says line ≡ false → sayings (line ∷ text) ≡ sayings text
says_later line text e = ap (λ (b : Bool). map words_of (cond b (line ∷ filter says text) (filter says text))) e

heads_are : (v w : List (List ℕ)) (vs ws : List (List (List ℕ))) → v ∷ vs ≡ w ∷ ws → (v ≡ w) × (vs ≡ ws)
heads_are v w vs ws e = (cc e, cc e)

-- a line that isn't of the head, and those after it
spoken_body : (number : ℕ) (text : List (List ℕ)) (settings : List Setting) (said : List SceneLine) (line : List ℕ)
    (rest : List (List (List ℕ))) (more : List SceneLine)
    → ((next : SceneLine) (ws : List (List (List ℕ))) (ls : List SceneLine) → sayings text ≡ ws → AreLines (head_of settings) ws ls
    → lines_after (number + 1) (progress_of settings (said ++ next ∷ [])) text ≡ Ok (progress_of settings ((said ++ next ∷ []) ++ ls)))
    → is_plain line ≡ true → says line ≡ true → words_of line ∷ sayings text ≡ rest → IsSmall (head_of settings)
    → AreLines (head_of settings) rest more
    → lines_after number (progress_of settings said) (line ∷ text) ≡ Ok (progress_of settings (said ++ more))
spoken_body number text settings said line [] more onward plain some parts small are = absurd (cc parts)
spoken_body number text settings said line (w ∷ ws) [] onward plain some parts small are = absurd are
spoken_body number text settings said line (w ∷ ws) (l ∷ ls) onward plain some parts small are =
    let p = progress_of settings said in
    let both = heads_are (words_of line) w (sayings text) ws parts in
    let read = line_of-again (head_of settings) w l small are.0 in
    let step : line_after p line ≡ Ok (progress_of settings (said ++ l ∷ [])) =
    spoken p line plain some ∙ ap (words_after p) (both.0 ∙ read.2) ∙ verb_again settings said read.0 read.1 l read.3 in
    passes number p (progress_of settings (said ++ l ∷ [])) line text step ∙ onward l ws ls both.1 are.1
    ∙ ap (λ (xs : List SceneLine). Ok (progress_of settings xs)) (append_assoc said (l ∷ []) ls)

-- lines that aren't of the head
body : (number : ℕ) (text : List (List ℕ)) (settings : List Setting) (said : List SceneLine) (rest : List (List (List ℕ)))
    (more : List SceneLine) → AllPass is_plain text
    → sayings text ≡ rest → IsSmall (head_of settings) → AreLines (head_of settings) rest more
    → lines_after number (progress_of settings said) text ≡ Ok (progress_of settings (said ++ more))
body number [] settings said [] [] plain parts small are = no_lines number (progress_of settings said)
    ∙ ap (λ (ls : List SceneLine). Ok (progress_of settings ls)) (sym (append-nil said))
body number [] settings said [] (l ∷ ls) plain parts small are = absurd are
body number [] settings said (w ∷ ws) more plain parts small are = absurd (cc parts)
body number (line ∷ text) settings said rest more plain parts small are =
    let p = progress_of settings said in
    let first = All-head (λ l. is_plain l ≡ true) line text plain in
    let others = All-tail (λ l. is_plain l ≡ true) line text plain in
    elim (cases_Bool (says line)) [
      | inl some ↦ spoken_body number text settings said line rest more
          (λ next ws ls tail are_tail. body (number + 1) text settings (said ++ next ∷ []) ws ls others tail small are_tail) first some
          (sym (says_first line text some) ∙ parts) small are
      | inr none ↦ passes number p p line text (silent p line first none)
          ∙ body (number + 1) text settings said rest more others (sym (says_later line text none) ∙ parts) small are
    ]

-- where a header has no line yet, it isn't given
given_none : (header : Header) (settings : List Setting) → count_by (λ s. place_of s.header == place_of header) settings ≡ 0
    → is_given header (map (λ s. s.header) settings) ≡ false
given_none header [] e = refl
given_none header (s ∷ ss) e =
    let sum = count-cons (λ (t : Setting). place_of t.header == place_of header) s ss in
    or_from (place_of s.header == place_of header) (is_given header (map (λ t. t.header) ss))
    (false_from_ne_true (place_of s.header == place_of header) (λ same. let first : one_if (place_of s.header == place_of header) ≡ 1 =
    ap one_if same in omega (arith, sum, e, first)))
    (given_none header ss (omega (arith, sum, e)))

new_header : (before after : List Setting) (s : Setting) → StandOnce (before ++ s ∷ after) → is_given s.header (map (λ t. t.header) before)
    ≡ false
new_header before after s once =
    let test : Setting → Bool = λ t. place_of t.header == place_of s.header in
    let sum : count_by test (before ++ s ∷ after) ≡ count_by test before + count_by test (s ∷ after) =
    sum_by-append (λ t. one_if (test t)) before (s ∷ after) in
    let cons = count-cons test s after in
    let one : one_if (place_of s.header == place_of s.header) ≡ 1 = ap one_if (eq-eqb (place_of s.header) (place_of s.header) refl) in
    let most = once s.header in
    given_none s.header before (omega (arith, sum, cons, one, most))

-- the lines of the head, and then the others
heads : (number : ℕ) (text : List (List ℕ)) (before after : List Setting) (rest : List (List (List ℕ))) (said : List SceneLine)
    → AllPass is_plain text
    → sayings text ≡ map setting_words after ++ rest → StandOnce (before ++ after) → All SettingFits after
    → IsSmall (head_of (before ++ after))
    → AreLines (head_of (before ++ after)) rest said → lines_after number (progress_of before []) text
    ≡ Ok (progress_of (before ++ after) said)
heads number text before [] rest said plain parts once fit small are =
    let same = append-nil before in
    subst (λ (ss : List Setting). lines_after number (progress_of before []) text ≡ Ok (progress_of ss said)) (sym same)
    (body number text before [] rest said plain parts (subst (λ (ss : List Setting). IsSmall (head_of ss)) same small)
    (subst (λ (ss : List Setting). AreLines (head_of ss) rest said) same are))
heads number [] before (s ∷ ss) rest said plain parts once fit small are = absurd (cc parts)
heads number (line ∷ text) before (s ∷ ss) rest said plain parts once fit small are =
    let p = progress_of before [] in
    let first = All-head (λ l. is_plain l ≡ true) line text plain in
    let others = All-tail (λ l. is_plain l ≡ true) line text plain in
    let same = append_assoc before (s ∷ []) ss in
    elim (cases_Bool (says line)) [
      | inl some ↦
          let both = heads_are (words_of line) (setting_words s) (sayings text) (map setting_words ss ++ rest)
          (sym (says_first line text some) ∙ parts) in
          let fits = All-head SettingFits s ss fit in
          let step : line_after p line ≡ Ok (progress_of (before ++ s ∷ []) []) =
          spoken p line first some ∙ ap (words_after p) both.0 ∙ header_again before s.header s.number (new_header before ss s once) fits.0
          fits.1 in
          passes number p (progress_of (before ++ s ∷ []) []) line text step
          ∙ heads (number + 1) text (before ++ s ∷ []) ss rest said others both.1 (subst StandOnce (sym same) once)
          (All-tail SettingFits s ss fit)
          (subst (λ (ts : List Setting). IsSmall (head_of ts)) (sym same) small)
          (subst (λ (ts : List Setting). AreLines (head_of ts) rest said) (sym same) are)
          ∙ ap (λ (ts : List Setting). Ok (progress_of ts said)) same
      | inr none ↦ passes number p p line text (silent p line first none)
          ∙ heads (number + 1) text before (s ∷ ss) rest said others (sym (says_later line text none) ∙ parts) once fit small are
    ]

-- the lines of a scenario are read as the scenario
pub all_again : (text : List (List ℕ)) (settings : List Setting) (said : List SceneLine) → Spells text settings said
    → lines_after 1 nothing text ≡ Ok (progress_of settings said)
all_again text settings said spells =
    heads 1 text [] settings spells.rest said spells.plain spells.parts spells.once spells.fit (small_head settings spells.fit)
    spells.lines_are
