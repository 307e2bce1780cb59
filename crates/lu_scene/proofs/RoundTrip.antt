-- What is printed is the scenario that was printed.
use Rattle.std.proofs.Common.{◌≡◌, ◌≢◌, ℕ, ◌^◌, ◌<◌, ◌≤◌, ◌==◌, Bool, true, false, cond, ◌&&◌, List, [], ◌∷◌, ◌++◌, length, map, replicate}
use Rattle.std.proofs.Common.{refl, sym, ap, subst, ◌∙◌, decimal, arith, inl, inr, lit<, lit≤}
use Rattle.std.specs.Prelude.{nat_lt, All}
use Rattle.std.specs.List.{list_all}
use Rattle.std.specs.Str.Parse.{digits_value}
use Rattle.std.proofs.lemmas.Bool.{eqb-true, and_parts, agree_below_at}
use Rattle.std.proofs.lemmas.Fmt.{length-decimal-le}
use Rattle.std.proofs.lemmas.List.{length-append}
use Rattle.std.proofs.lemmas.List.Elements.{All-nil, All-cons, All-head, All-tail, All-append, All-from_recursion}
use Rattle.hex.specs.Hex.{IsBytes, encode_lower}
use Rattle.std.specs.Fmt.{digits}
use Rattle.lu_base.specs.Values.{octal_text}
use Rattle.lu_base.specs.Texts.{is_repeated, repeated_text, bytes_text, IsDataText}
use Rattle.lu_msg.specs.declared.calls.Call.{Call}
use Rattle.lu_msg.specs.declared.calls.Call.TheVariants as calls
use Rattle.lu_scene.specs.declared.scene.Head.{Head}
use Rattle.lu_scene.specs.declared.scene.Scene.{Scene}
use Rattle.lu_scene.specs.declared.scene.SceneLine.{SceneLine}
use Rattle.lu_scene.specs.declared.scene.SceneLine.TheVariants as lines
use Rattle.lu_scene.specs.declared.words.Header.{Header}
use Rattle.lu_scene.specs.declared.words.Header.TheVariants as headers
use Rattle.lu_scene.specs.Words.{header_text}
use Rattle.lu_scene.specs.Fields.{is_octal}
use Rattle.lu_scene.specs.Lines.{most_of, is_comment}
use Rattle.lu_trace.specs.Words.{words}
use Rattle.lu_trace.specs.Calls.{call_words}
use Rattle.lu_scene.specs.Print.{header_words, head_words, line_words, scene_words, scene_text}
use Rattle.lu_scene.specs.Grammar.{CallFits, LineFits, Setting, SettingFits, head_of, StandOnce, IsModeText, IsCall, IsForm, AreLines}
use Rattle.lu_scene.specs.Grammar.{Spells, IsScene, HeadFits, SceneFits, HasShortLines}
use Rattle.lu_scene.proofs.LineForms.{IsSmall}
use Rattle.lu_scene.proofs.Graphic.{header_line, said_words}
use Rattle.lu_scene.proofs.Splitting.{Neat, lines_back, all_plain, sayings_back}

-- forms

-- a printed mode writes the mode
mode_text : (mode : ℕ) → mode < 4096 → IsModeText (octal_text mode) mode
unfolding digits
mode_text mode small =
    let all : (is_octal (octal_text mode) && mode == digits_value 8 (octal_text mode)) ≡ true =
    agree_below_at (λ (m : ℕ). is_octal (octal_text m) && m == digits_value 8 (octal_text m)) (λ (m : ℕ). true) 4096 mode refl small in
    let parts = and_parts (is_octal (octal_text mode)) (mode == digits_value 8 (octal_text mode)) all in
    (parts.0, eqb-true mode (digits_value 8 (octal_text mode)) parts.1)

-- equal bytes are one byte, as often as there are
all_same : (byte : ℕ) (rest : List ℕ) → list_all (λ other. other == byte) rest ≡ true → rest ≡ replicate (length rest) byte
all_same byte [] same = refl
all_same byte (b ∷ more) same =
    let parts = and_parts (b == byte) (list_all (λ other. other == byte) more) same in
    ap (λ (d : ℕ). d ∷ more) (eqb-true b byte parts.0) ∙ ap (λ (ds : List ℕ). byte ∷ ds) (all_same byte more parts.1)

-- printed data is its text
data_text : (bytes : List ℕ) → IsBytes bytes → 1 ≤ length bytes → length bytes ≤ 65536 → IsDataText (bytes_text bytes) bytes
data_text [] fit some few = absurd (omega (arith, some))
data_text (b ∷ more) fit some few = by (is_repeated (b ∷ more)) refl
  where
    by : (v : Bool) → is_repeated (b ∷ more) ≡ v → IsDataText (cond v (repeated_text b (length (b ∷ more))) (encode_lower (b ∷ more)))
        (b ∷ more)
    by true same =
        let parts = and_parts (nat_lt 0 (length more)) (list_all (λ other. other == b) more) same in
        inr (b, length (b ∷ more), fit 0, some, few, refl, ap (λ (ds : List ℕ). b ∷ ds) (all_same b more parts.1))
    by false other = inl (refl, λ none. cc none)

call_form : (call : Call) → CallFits call → IsCall (call_words call) call
call_form (calls.Lookup path) fits = refl
call_form (calls.Stat path) fits = refl
call_form (calls.List path) fits = refl
call_form (calls.Layout path) fits = refl
call_form (calls.Mkdir path) fits = refl
call_form (calls.Create path stripes) fits = refl
call_form (calls.Link old new) fits = refl
call_form (calls.Unlink path) fits = refl
call_form (calls.Rmdir path) fits = refl
call_form (calls.Rename old new) fits = refl
call_form (calls.Chmod path mode) fits = (octal_text mode, mode_text mode fits.1, refl)
call_form (calls.Open handle path) fits = refl
call_form (calls.Close handle) fits = refl
call_form (calls.Read handle offset size) fits = refl
call_form (calls.Write handle offset bytes) fits = (bytes_text bytes, data_text bytes fits.1 fits.2 fits.3, refl)
call_form (calls.Cut handle size) fits = refl
call_form (calls.Flush handle) fits = refl
call_form (calls.Glimpse handle) fits = refl

line_form : (head : Head) (line : SceneLine) → LineFits head line → IsForm (line_words line) line
line_form head (lines.Call client slot call) fits = (call_words call, call_form call fits.2, refl)
line_form head lines.Run fits = refl
line_form head (lines.RunSome turns) fits = refl
line_form head (lines.Deliver number) fits = refl
line_form head (lines.Lose number) fits = refl
line_form head (lines.Tick node) fits = refl
line_form head (lines.Commit target) fits = refl
line_form head (lines.CommitSome target count) fits = refl
line_form head (lines.Crash target) fits = refl
line_form head (lines.Boot target) fits = refl
line_form head (lines.Close target) fits = refl
line_form head (lines.Die client) fits = refl

lines_are : (head : Head) (said : List SceneLine) → All (LineFits head) said → AreLines head (map line_words said) said
lines_are head [] fit = tt
lines_are head (l ∷ ls) fit =
    let first = All-head (LineFits head) l ls fit in
    ((first, line_form head l first), lines_are head ls (All-tail (LineFits head) l ls fit))

-- the head

-- the lines of a head, all seven
abbrev settings_of : Head → List Setting
settings_of head =
    record { header = headers.Clients; number = head.clients } ∷ record { header = headers.Osts; number = head.osts }
    ∷ record { header = headers.Expire; number = head.expire }
    ∷ record { header = headers.Dirty; number = head.dirty } ∷ record { header = headers.Unused; number = head.unused }
    ∷ record { header = headers.Rounds; number = head.rounds }
    ∷ record { header = headers.Flight; number = head.flight } ∷ []

head_back : (head : Head) → head ≡ head_of (settings_of head)
head_back head = refl

stand_once : (head : Head) → StandOnce (settings_of head)
stand_once head headers.Clients = lit≤ tt
stand_once head headers.Osts = lit≤ tt
stand_once head headers.Expire = lit≤ tt
stand_once head headers.Dirty = lit≤ tt
stand_once head headers.Unused = lit≤ tt
stand_once head headers.Rounds = lit≤ tt
stand_once head headers.Flight = lit≤ tt

settings_fit : (head : Head) → HeadFits head → All SettingFits (settings_of head)
settings_fit head fits =
    All-from_recursion SettingFits (settings_of head) (fits.0, (fits.1, (fits.2, (fits.3, (fits.4, (fits.5, (fits.6, tt)))))))

-- lines are neat

number_short : (n : ℕ) → n < 10 ^ 10 → length (decimal n) ≤ 10
number_short n small = length-decimal-le 10 n (lit< tt) small (omega (arith, small))

header_length : (header : Header) → length (header_text header) ≤ 7
header_length headers.Clients = lit≤ tt
header_length headers.Osts = lit≤ tt
header_length headers.Expire = lit≤ tt
header_length headers.Dirty = lit≤ tt
header_length headers.Unused = lit≤ tt
header_length headers.Rounds = lit≤ tt
header_length headers.Flight = lit≤ tt

header_start : (header : Header) (n : ℕ) → is_comment (words (header_words header n)) ≡ false
header_start headers.Clients n = refl
header_start headers.Osts n = refl
header_start headers.Expire n = refl
header_start headers.Dirty n = refl
header_start headers.Unused n = refl
header_start headers.Rounds n = refl
header_start headers.Flight n = refl

most_number : (header : Header) → most_of header < 10 ^ 10
most_number headers.Clients = lit< tt
most_number headers.Osts = lit< tt
most_number headers.Expire = lit< tt
most_number headers.Dirty = lit< tt
most_number headers.Unused = lit< tt
most_number headers.Rounds = lit< tt
most_number headers.Flight = lit< tt

header_neat : (header : Header) (n : ℕ) → n ≤ most_of header → Neat (header_words header n)
header_neat header n most =
    let large = most_number header in
    let small : n < 10 ^ 10 = omega (arith, most, large) in
    let digits = number_short n small in
    let text = header_length header in
    record {
      are = header_line header n (omega (arith, small));
      some = λ none. cc none;
      plain_start = header_start header n;
      short = omega (arith, digits, text, length-append (header_text header) (32 ∷ decimal n));
    }

head_neat : (head : Head) → HeadFits head → All Neat (head_words head)
head_neat head fits =
    All-from_recursion Neat (head_words head) (
      header_neat headers.Clients head.clients fits.0.1,
      (
        header_neat headers.Osts head.osts fits.1.1,
        (
          header_neat headers.Expire head.expire fits.2.1,
          (
            header_neat headers.Dirty head.dirty fits.3.1,
            (
              header_neat headers.Unused head.unused fits.4.1,
              (
                header_neat headers.Rounds head.rounds fits.5.1,
                (header_neat headers.Flight head.flight fits.6.1, tt),
              ),
            ),
          ),
        ),
      ),
    )

line_start : (line : SceneLine) → is_comment (words (line_words line)) ≡ false
line_start (lines.Call client slot call) = refl
line_start lines.Run = refl
line_start (lines.RunSome turns) = refl
line_start (lines.Deliver number) = refl
line_start (lines.Lose number) = refl
line_start (lines.Tick node) = refl
line_start (lines.Commit target) = refl
line_start (lines.CommitSome target count) = refl
line_start (lines.Crash target) = refl
line_start (lines.Boot target) = refl
line_start (lines.Close target) = refl
line_start (lines.Die client) = refl

line_some : (line : SceneLine) → line_words line ≢ []
line_some (lines.Call client slot call) none = cc none
line_some lines.Run none = cc none
line_some (lines.RunSome turns) none = cc none
line_some (lines.Deliver number) none = cc none
line_some (lines.Lose number) none = cc none
line_some (lines.Tick node) none = cc none
line_some (lines.Commit target) none = cc none
line_some (lines.CommitSome target count) none = cc none
line_some (lines.Crash target) none = cc none
line_some (lines.Boot target) none = cc none
line_some (lines.Close target) none = cc none
line_some (lines.Die client) none = cc none

said_neat : (head : Head) (said : List SceneLine) → IsSmall head → All (LineFits head) said
    → All (λ line. length (words (line_words line)) ≤ 2000) said → All Neat (map line_words said)
said_neat head [] small fit short = All-nil Neat
said_neat head (l ∷ ls) small fit short =
    All-cons Neat (line_words l) (map line_words ls)
    (record {
      are = said_words head l small (All-head (LineFits head) l ls fit);
      some = line_some l;
      plain_start = line_start l;
      short = All-head (λ line. length (words (line_words line)) ≤ 2000) l ls short;
    })
    (said_neat head ls small (All-tail (LineFits head) l ls fit) (All-tail (λ line. length (words (line_words line)) ≤ 2000) l ls short))

-- the text of a scenario is the scenario
pub text_is_scene : (scene : Scene) → SceneFits scene → HasShortLines scene → IsScene (scene_text scene) scene
text_is_scene scene fits short =
    let small : IsSmall scene.head = record { clients = fits.head.0.1; osts = fits.head.1.1 } in
    let neat : All Neat (scene_words scene) =
    All-append Neat (head_words scene.head) (map line_words scene.lines) (head_neat scene.head fits.head)
    (said_neat scene.head scene.lines small fits.lines_fit short) in
    let split = lines_back (scene_words scene) neat in
    let spells : Spells (map words (scene_words scene) ++ [] ∷ []) (settings_of scene.head) scene.lines = record {
      plain = all_plain (scene_words scene) neat;
      once = stand_once scene.head;
      fit = settings_fit scene.head fits.head;
      rest = map line_words scene.lines;
      parts = sayings_back (scene_words scene) neat;
      lines_are = lines_are scene.head scene.lines fits.lines_fit;
    } in (
      settings_of scene.head,
      subst (λ (ls : List (List ℕ)). Spells ls (settings_of scene.head) scene.lines) (sym split) spells,
      head_back scene.head,
    )
