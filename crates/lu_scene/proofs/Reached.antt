-- One more line: what is read after good lines is good.
use Rattle.std.proofs.Common.{◌≡◌, ℕ, ◌+◌, ◌≤◌, ◌==◌, Bool, true, false, not, cond, ◌&&◌, ◌||◌, List, [], ◌∷◌, ◌++◌, length, map, Option}
use Rattle.std.proofs.Common.{Some, None, Result, Ok, Err, refl, sym, ap, subst, ◌∙◌, append_assoc, append-nil, zero-add, arith, inl, inr}
use Rattle.std.proofs.Common.{◌⊎◌, lit≤}
use Rattle.std.specs.Prelude.{filter, count_by}
use Rattle.std.proofs.lemmas.Bool.{eqb-true, and_from, not-false, ne_eqb, or_parts}
use Rattle.std.proofs.lemmas.List.{map-append, length-append, nil_from_length}
use Rattle.std.proofs.lemmas.List.Elements.{All-nil, All-push, filter-append}
use Rattle.std.proofs.lemmas.List.Sums.{fold-append, sum_by-append}
use Rattle.lu_scene.specs.declared.faults.Fault.{Fault}
use Rattle.lu_scene.specs.declared.faults.Fault.TheVariants as faults
use Rattle.lu_scene.specs.declared.faults.SceneFault.{SceneFault}
use Rattle.lu_scene.specs.declared.faults.SceneFault.TheVariants.{Bad}
use Rattle.lu_scene.specs.declared.reader.Progress.{Progress}
use Rattle.lu_scene.specs.declared.scene.Head.{Head}
use Rattle.lu_scene.specs.declared.scene.SceneLine.{SceneLine}
use Rattle.lu_scene.specs.declared.words.Header.{Header}
use Rattle.lu_scene.specs.declared.words.Verb.{Verb}
use Rattle.lu_scene.specs.Words.{header_text, header_of, verb_text, verb_of}
use Rattle.lu_scene.specs.Fields.{◌>>=◌}
use Rattle.lu_scene.specs.Lines.{words_of, is_plain, is_comment, least_of, most_of, default_head, with_number, place_of, is_given}
use Rattle.lu_scene.specs.Lines.{one_number, line_of, header_after, said_after, words_after, line_after, lines_after}
use Rattle.lu_scene.specs.Print.{header_words}
use Rattle.lu_scene.specs.Grammar.{Setting, SettingFits, setting_words, head_of, StandOnce, IsLine, AreLines, says, sayings, Spells}
use Rattle.lu_scene.specs.Grammar.{progress_of, IsFirstFault}
use Rattle.lu_scene.proofs.Options.{bind_ok, ok_is}
use Rattle.lu_scene.proofs.Going.{passes, breaks, no_lines}
use Rattle.lu_scene.proofs.LineForms.{header_of-read, verb_of-read, one_number-read, line_of-read}

-- lists

pub sayings-append : (xs ys : List (List ℕ)) → sayings (xs ++ ys) ≡ sayings xs ++ sayings ys
sayings-append xs ys = ap (map words_of) (filter-append says xs ys) ∙ map-append words_of (filter says xs) (filter says ys)

pub says_one : (line : List ℕ) → says line ≡ true → sayings (line ∷ []) ≡ words_of line ∷ []
says_one line e = ap (λ (b : Bool). map words_of (cond b (line ∷ []) [])) e

pub says_nothing : (line : List ℕ) → says line ≡ false → sayings (line ∷ []) ≡ []
says_nothing line e = ap (λ (b : Bool). map words_of (cond b (line ∷ []) [])) e

pub AreLines-push : (head : Head) (rest : List (List (List ℕ))) (said : List SceneLine) (words : List (List ℕ)) (line : SceneLine)
    → AreLines head rest said → IsLine head words line
    → AreLines head (rest ++ words ∷ []) (said ++ line ∷ [])
AreLines-push head [] [] words line are is = (is, tt)
AreLines-push head [] (l ∷ ls) words line are is = absurd are
AreLines-push head (w ∷ ws) [] words line are is = absurd are
AreLines-push head (w ∷ ws) (l ∷ ls) words line are is = (are.0, AreLines-push head ws ls words line are.1 is)

pub no_rest : (head : Head) (rest : List (List (List ℕ))) (said : List SceneLine) → said ≡ [] → AreLines head rest said → rest ≡ []
no_rest head [] said none are = refl
no_rest head (w ∷ ws) [] none are = absurd are
no_rest head (w ∷ ws) (l ∷ ls) none are = absurd (cc none)

abbrev pub one_if : Bool → ℕ
one_if b = cond b 1 0

count-append : {X : Type 0} (p : X → Bool) (xs : List X) (y : X) → count_by p (xs ++ y ∷ []) ≡ count_by p xs + one_if (p y)
count-append p xs y = sum_by-append (λ x. one_if (p x)) xs (y ∷ []) ∙ ap (λ (n : ℕ). count_by p xs + n) (zero-add (one_if (p y)))

pub count-cons : {X : Type 0} (p : X → Bool) (y : X) (xs : List X) → count_by p (y ∷ xs) ≡ one_if (p y) + count_by p xs
count-cons p y xs = sum_by-append (λ x. one_if (p x)) (y ∷ []) xs ∙ ap (λ (n : ℕ). n + count_by p xs) (zero-add (one_if (p y)))

-- a header that isn't given has no line yet
none_given : (header : Header) (settings : List Setting) → is_given header (map (λ s. s.header) settings) ≡ false
    → count_by (λ s. place_of s.header == place_of header) settings ≡ 0
none_given header [] e = refl
none_given header (s ∷ ss) e =
    let parts = or_parts (place_of s.header == place_of header) (is_given header (map (λ t. t.header) ss)) e in
    let more = none_given header ss parts.1 in
    let first : one_if (place_of s.header == place_of header) ≡ 0 = ap one_if parts.0 in
    let sum = count-cons (λ (t : Setting). place_of t.header == place_of header) s ss in
    omega (arith, more, first, sum)

-- one more line of the head, of another kind
pub once_more : (settings : List Setting) (header : Header) (n : ℕ) → StandOnce settings → is_given header (map (λ s. s.header) settings)
    ≡ false
    → StandOnce (settings ++ record { header = header; number = n } ∷ [])
once_more settings header n once new other =
    let test = λ (s : Setting). place_of s.header == place_of other in
    let both = count-append test settings (record { header = header; number = n }) in
    by (place_of header == place_of other) refl both
  where
    by : (b : Bool) → (place_of header == place_of other) ≡ b
        → count_by (λ s. place_of s.header == place_of other) (settings ++ record { header = header; number = n } ∷ [])
        ≡ count_by (λ s. place_of s.header == place_of other) settings + one_if (place_of header == place_of other)
        → count_by (λ s. place_of s.header == place_of other) (settings ++ record { header = header; number = n } ∷ []) ≤ 1
    by true is both =
        let same : count_by (λ s. place_of s.header == place_of other) settings ≡ 0 =
        subst (λ (p : ℕ). count_by (λ s. place_of s.header == p) settings ≡ 0) (eqb-true (place_of header) (place_of other) is)
        (none_given header settings new) in
        let last : one_if (place_of header == place_of other) ≡ 1 = ap one_if is in
        omega (arith, both, same, last)
    by false is both =
        let last : one_if (place_of header == place_of other) ≡ 0 = ap one_if is in
        let before = once other in
        omega (arith, both, last, before)

-- steps

-- good lines, with what stands after them
abbrev pub Good : List (List ℕ) → Progress → Type 0
Good text p = (settings : List Setting) × (said : List SceneLine) × Spells text settings said × (p ≡ progress_of settings said)

-- a line that says nothing
quiet : (text : List (List ℕ)) (settings : List Setting) (said : List SceneLine) (line : List ℕ) → is_plain line ≡ true → says line ≡ false
    → Spells text settings said
    → Spells (text ++ line ∷ []) settings said
quiet text settings said line plain none good = record {
  plain = All-push (λ l. is_plain l ≡ true) text line good.plain plain;
  once = good.once;
  fit = good.fit;
  rest = good.rest;
  parts = sayings-append text (line ∷ []) ∙ ap (λ (ws : List (List (List ℕ))). sayings text ++ ws) (says_nothing line none)
      ∙ append-nil (sayings text) ∙ good.parts;
  lines_are = good.lines_are;
}

-- a line of the head
headed : (text : List (List ℕ)) (settings : List Setting) (said : List SceneLine) (line : List ℕ) (header : Header) (n : ℕ) → is_plain line
    ≡ true → says line ≡ true
    → words_of line ≡ header_words header n → said ≡ [] → is_given header (map (λ s. s.header) settings) ≡ false → least_of header ≤ n
    → n ≤ most_of header
    → Spells text settings said → Spells (text ++ line ∷ []) (settings ++ record { header = header; number = n } ∷ []) []
headed text settings said line header n plain some words none new low high good =
    let s : Setting = record { header = header; number = n } in
    let no = no_rest (head_of settings) good.rest said none good.lines_are in
    record {
      plain = All-push (λ l. is_plain l ≡ true) text line good.plain plain;
      once = once_more settings header n good.once new;
      fit = All-push SettingFits settings s good.fit (low, high);
      rest = [];
      parts =
          sayings-append text (line ∷ []) ∙ ap (λ (ws : List (List (List ℕ))). sayings text ++ ws)
          (says_one line some ∙ ap (λ (w : List (List ℕ)). w ∷ []) words)
          ∙ ap (λ (ws : List (List (List ℕ))). ws ++ header_words header n ∷ [])
          (good.parts ∙ ap (λ (r : List (List (List ℕ))). map setting_words settings ++ r) no ∙ append-nil (map setting_words settings))
          ∙ sym (map-append setting_words settings (s ∷ [])) ∙ sym (append-nil (map setting_words (settings ++ s ∷ [])));
      lines_are = tt;
    }

-- another line
more_said : (text : List (List ℕ)) (settings : List Setting) (said : List SceneLine) (line : List ℕ) (next : SceneLine) → is_plain line
    ≡ true → says line ≡ true
    → IsLine (head_of settings) (words_of line) next → Spells text settings said → Spells (text ++ line ∷ []) settings (said ++ next ∷ [])
more_said text settings said line next plain some is good = record {
  plain = All-push (λ l. is_plain l ≡ true) text line good.plain plain;
  once = good.once;
  fit = good.fit;
  rest = good.rest ++ words_of line ∷ [];
  parts =
      sayings-append text (line ∷ []) ∙ ap (λ (ws : List (List (List ℕ))). sayings text ++ ws) (says_one line some)
      ∙ ap (λ (ws : List (List (List ℕ))). ws ++ words_of line ∷ []) good.parts
      ∙ append_assoc (map setting_words settings) good.rest (words_of line ∷ []);
  lines_are = AreLines-push (head_of settings) good.rest said (words_of line) next good.lines_are is;
}

-- the head with one more line
pub head_more : (settings : List Setting) (s : Setting) → head_of (settings ++ s ∷ []) ≡ with_number s.header s.number (head_of settings)
head_more settings s = fold-append (λ head t. with_number t.header t.number head) default_head settings (s ∷ [])

-- what stands after one more line of the head
pub progress_more : (settings : List Setting) (header : Header) (n : ℕ) (said : List SceneLine) → said ≡ []
    → record (progress_of settings said) {
      head = with_number header n (head_of settings);
      given = map (λ s. s.header) settings ++ header
          ∷ [];
    }
    ≡ progress_of (settings ++ record { header = header; number = n } ∷ []) []
progress_more settings header n said none =
    let s : Setting = record { header = header; number = n } in
    let make : Head → List Header → List SceneLine → Progress = λ h g l. record { head = h; given = g; lines = l } in
    ap (λ (h : Head). make h (map (λ t. t.header) settings ++ header ∷ []) said) (sym (head_more settings s))
    ∙ ap (λ (g : List Header). make (head_of (settings ++ s ∷ [])) g said) (sym (map-append (λ (t : Setting). t.header) settings (s ∷ [])))
    ∙ ap (λ (l : List SceneLine). make (head_of (settings ++ s ∷ [])) (map (λ t. t.header) (settings ++ s ∷ [])) l) none

-- a test that passed
unless_ok : {A : Type 0} (b : Bool) (d : Fault) (r : Result A Fault) (y : A) → cond b (Err d) r ≡ Ok y → (b ≡ false) × (r ≡ Ok y)
unless_ok true d r y e = absurd cc
unless_ok false d r y e = (refl, e)

-- words that begin as a line of the head
header_step : (text : List (List ℕ)) (settings : List Setting) (said : List SceneLine) (line : List ℕ) (first : List ℕ)
    (words : List (List ℕ)) (header : Header) (q : Progress)
    → is_plain line ≡ true → says line ≡ true → words_of line ≡ first ∷ words → header_of first ≡ Some header → Spells text settings said
    → header_after (progress_of settings said) header words ≡ Ok q → Good (text ++ line ∷ []) q
header_step text settings said line first words header q plain some parted is good e =
    let p = progress_of settings said in
    let passed = unless_ok (is_given header p.given || not (length said == 0)) faults.Header
    (one_number (least_of header) (most_of header) words >>= λ n. Ok
    (record p { head = with_number header n p.head; given = p.given ++ header ∷ [] })) q e in
    let tests = or_parts (is_given header p.given) (not (length said == 0)) passed.0 in
    let none : said ≡ [] = nil_from_length said (eqb-true (length said) 0 (not-false (length said == 0) tests.1)) in
    let b = bind_ok (one_number (least_of header) (most_of header) words)
    (λ n. Ok (record p { head = with_number header n p.head; given = p.given ++ header ∷ [] })) q passed.1 in
    let number = one_number-read (least_of header) (most_of header) words b.0 b.1 in
    let spelled : words_of line ≡ header_words header b.0 =
    parted ∙ ap (λ (w : List ℕ). w ∷ words) (header_of-read first header is) ∙ ap (λ (ws : List (List ℕ)). header_text header ∷ ws) number.0
    in (
      settings ++ record { header = header; number = b.0 } ∷ [],
      [],
      headed text settings said line header b.0 plain some spelled none tests.0 number.1 number.2 good,
      sym (ok_is (record p { head = with_number header b.0 p.head; given = p.given ++ header ∷ [] }) q b.2)
          ∙ progress_more settings header b.0 said none,
    )

-- words that begin as another line
verb_step : (text : List (List ℕ)) (settings : List Setting) (said : List SceneLine) (line : List ℕ) (first : List ℕ)
    (words : List (List ℕ)) (verb : Verb) (q : Progress)
    → is_plain line ≡ true → says line ≡ true → words_of line ≡ first ∷ words → verb_of first ≡ Some verb → Spells text settings said
    → said_after (progress_of settings said) None (Some verb) words ≡ Ok q → Good (text ++ line ∷ []) q
verb_step text settings said line first words verb q plain some parted is good e =
    let p = progress_of settings said in
    let b = bind_ok (line_of (head_of settings) verb words) (λ next. Ok (record p { lines = said ++ next ∷ [] })) q e in
    let was = line_of-read (head_of settings) verb words b.0 b.1 in
    let spelled : verb_text verb ∷ words ≡ words_of line = ap (λ (w : List ℕ). w ∷ words) (sym (verb_of-read first verb is)) ∙ sym parted
    in (
      settings,
      said ++ b.0 ∷ [],
      more_said text settings said line b.0 plain some (subst (λ (ws : List (List ℕ)). IsLine (head_of settings) ws b.0) spelled was) good,
      sym (ok_is (record p { lines = said ++ b.0 ∷ [] }) q b.2),
    )

-- words
words_step : (text : List (List ℕ)) (settings : List Setting) (said : List SceneLine) (line : List ℕ) (words : List (List ℕ)) (q : Progress)
    → is_plain line ≡ true → is_comment line ≡ false → words_of line ≡ words → Spells text settings said
    → words_after (progress_of settings said) words ≡ Ok q → Good (text ++ line ∷ []) q
words_step text settings said line [] q plain shown parted good e =
    let none : says line ≡ false = ap (λ (ws : List (List ℕ)). not (is_comment line) && not (length ws == 0)) parted
    ∙ ap (λ (b : Bool). not b && false) shown in
    (settings, said, quiet text settings said line plain none good, sym (ok_is (progress_of settings said) q e))
words_step text settings said line (first ∷ words) q plain shown parted good e = by (header_of first) refl (verb_of first) refl e
  where
    some : says line ≡ true
    some =
        and_from _ _ (ap not shown) (ap (λ (ws : List (List ℕ)). not (length ws == 0)) parted
        ∙ ap not (ne_eqb (length (first ∷ words)) 0 (λ none. omega arith)))

    by : (h : Option Header) → header_of first ≡ h → (v : Option Verb) → verb_of first ≡ v
        → said_after (progress_of settings said) h v words ≡ Ok q → Good (text ++ line ∷ []) q
    by (Some header) is v is_verb read = header_step text settings said line first words header q plain some parted is good read
    by None is (Some verb) is_verb read = verb_step text settings said line first words verb q plain some parted is_verb good read
    by None is None is_verb read = absurd (cc read)

-- a line
pub line_step : (text : List (List ℕ)) (settings : List Setting) (said : List SceneLine) (line : List ℕ) (q : Progress)
    → Spells text settings said
    → line_after (progress_of settings said) line ≡ Ok q → Good (text ++ line ∷ []) q
unfolding line_after
line_step text settings said line q good e = by (is_plain line) refl (is_comment line) refl e
  where
    by : (b : Bool) → is_plain line ≡ b → (d : Bool) → is_comment line ≡ d
        → cond (not b) (Err faults.Line) (cond d (Ok (progress_of settings said)) (words_after (progress_of settings said) (words_of line)))
        ≡ Ok q → Good (text ++ line ∷ []) q
    by false plain d comment read = absurd (cc read)
    by true plain true comment read =
        let none : says line ≡ false = ap (λ (b : Bool). not b && not (length (words_of line) == 0)) comment in
        (settings, said, quiet text settings said line plain none good, sym (ok_is (progress_of settings said) q read))
    by true plain false comment read = words_step text settings said line (words_of line) q plain comment refl good read

-- no lines
pub begun : Spells [] [] []
begun = record {
  plain = All-nil (λ l. is_plain l ≡ true);
  once = λ header. lit≤ tt;
  fit = All-nil SettingFits;
  rest = [];
  parts = refl;
  lines_are = tt;
}

abbrev done : Progress → Result Progress SceneFault
done x = Ok x

same_done : (x y : Progress) → done x ≡ done y → x ≡ y
same_done x y e = cc

-- either a value or a fault
cases_result : {A E : Type 0} (r : Result A E) → ((x : A) × (r ≡ Ok x)) ⊎ ((e : E) × (r ≡ Err e))
cases_result (Ok x) = inl (x, refl)
cases_result (Err e) = inr (e, refl)

never : {A : Type 0} (p : Progress) (e : SceneFault) → done p ≡ Err e → A
never p e is = absurd (cc is)

-- lines after good ones
pub all_good : (number : ℕ) (before : List (List ℕ)) (settings : List Setting) (said : List SceneLine) (lines : List (List ℕ))
    (q : Progress) → Spells before settings said
    → lines_after number (progress_of settings said) lines ≡ Ok q → Good (before ++ lines) q
all_good number before settings said [] q good e = (
  settings,
  said,
  subst (λ (ls : List (List ℕ)). Spells ls settings said) (sym (append-nil before)) good,
  sym (same_done (progress_of settings said) q (sym (no_lines number (progress_of settings said)) ∙ e)),
)
all_good number before settings said (line ∷ lines) q good e =
    let p = progress_of settings said in
    elim (cases_result (line_after p line)) [
      | inl (next, is) ↦
          let step = line_step before settings said line next good is in
          let rest = sym (passes number p next line lines is) ∙ e in
          let all = all_good (number + 1) (before ++ line ∷ []) step.0 step.1 lines q step.2
          (subst (λ (r : Progress). lines_after (number + 1) r lines ≡ Ok q) step.3 rest) in
          subst (λ (ls : List (List ℕ)). Good ls q) (append_assoc before (line ∷ []) lines) all
      | inr (fault, is) ↦ never q (Bad number fault) (sym e ∙ breaks number p line lines fault is)
    ]

abbrev err_at : ℕ → Fault → Result Progress SceneFault
err_at n f = Err (Bad n f)

place_is : (m n : ℕ) (f g : Fault) → err_at m f ≡ err_at n g → (m ≡ n) × (f ≡ g)
place_is m n f g e = (cc e, cc e)

-- the first bad line after good ones
pub first_fault : (number : ℕ) (before : List (List ℕ)) (settings : List Setting) (said : List SceneLine) (lines : List (List ℕ))
    (place : ℕ) (fault : Fault) → Spells before settings said
    → number ≡ length before + 1 → lines_after number (progress_of settings said) lines ≡ Err (Bad place fault)
    → IsFirstFault (before ++ lines) place fault
first_fault number before settings said [] place fault good count e =
    never (progress_of settings said) (Bad place fault) (sym (no_lines number (progress_of settings said)) ∙ e)
first_fault number before settings said (line ∷ lines) place fault good count e =
    let p = progress_of settings said in
    elim (cases_result (line_after p line)) [
      | inl (next, is) ↦
          let step = line_step before settings said line next good is in
          let rest = sym (passes number p next line lines is) ∙ e in
          let longer : number + 1 ≡ length (before ++ line ∷ []) + 1 = omega (arith, count, length-append before (line ∷ [])) in
          let all = first_fault (number + 1) (before ++ line ∷ []) step.0 step.1 lines place fault step.2 longer
          (subst (λ (r : Progress). lines_after (number + 1) r lines ≡ Err (Bad place fault)) step.3 rest) in
          subst (λ (ls : List (List ℕ)). IsFirstFault ls place fault) (append_assoc before (line ∷ []) lines) all
      | inr (found, is) ↦
          let same = place_is number place found fault (sym (breaks number p line lines found is) ∙ e) in
          record {
            before = before;
            bad = line;
            after = lines;
            parts = refl;
            place = sym same.0 ∙ count;
            settings = settings;
            said = said;
            good = good;
            wrong = is ∙ ap (λ (f : Fault). Err f) same.1;
          }
    ]
