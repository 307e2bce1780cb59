-- The language of scenarios: which texts are scenarios, and of what.
use Rattle.std.specs.Prelude.{◌≡◌, ℕ, ◌+◌, ◌^◌, ◌<◌, ◌≤◌, ◌==◌, ◌&&◌, not, Bool, List, [], ◌∷◌, ◌++◌, length, map, filter, fold, count_by}
use Rattle.std.specs.Prelude.{decimal, Option, Some, None, Err, ℤ, pos, negsuc, IsTrue, All}
use Rattle.std.specs.List.{AllPass}
use Rattle.std.specs.Str.Parse.{digits_value}
use Rattle.hex.specs.Hex.{IsBytes}
use Rattle.lu_base.specs.Texts.{path_text, IsPath, IsDataText}
use Rattle.lu_base.specs.declared.ids.Node.{Node}
use Rattle.lu_base.specs.declared.ids.Node.TheVariants.{Client, Target}
use Rattle.lu_msg.specs.declared.calls.Call.{Call}
use Rattle.lu_msg.specs.declared.calls.Call.TheVariants as calls
use Rattle.lu_scene.specs.declared.faults.Fault.{Fault}
use Rattle.lu_scene.specs.declared.scene.Head.{Head}
use Rattle.lu_scene.specs.declared.scene.Scene.{Scene}
use Rattle.lu_scene.specs.declared.scene.SceneLine.{SceneLine}
use Rattle.lu_scene.specs.declared.scene.SceneLine.TheVariants as lines
use Rattle.lu_scene.specs.declared.reader.Progress.{Progress}
use Rattle.lu_scene.specs.declared.words.Header.{Header}
use Rattle.lu_scene.specs.declared.words.Header.TheVariants as headers
use Rattle.lu_scene.specs.declared.words.Verb.TheVariants as verbs
use Rattle.lu_scene.specs.declared.words.CallName.TheVariants as names
use Rattle.lu_scene.specs.Words.{verb_text, name_text}
use Rattle.lu_scene.specs.Fields.{is_octal}
use Rattle.lu_scene.specs.Lines.{lines_of, words_of, is_plain, is_comment, least_of, most_of, default_head, with_number, place_of}
use Rattle.lu_scene.specs.Lines.{line_after}
use Rattle.lu_trace.specs.Words.{words}
use Rattle.lu_trace.specs.Calls.{call_words}
use Rattle.lu_scene.specs.Print.{header_words, slot_text, line_words}

-- The limits of numbers, nodes and paths.

-- a number of stripes: up to 1000, or -1
abbrev pub CountFits : ℤ → Type 0
CountFits (pos n) = n ≤ 1000
CountFits (negsuc n) = n ≡ 0

abbrev pub StripesFit : Option (ℕ × ℤ) → Type 0
StripesFit None = Unit {0}
StripesFit (Some stripes) = (stripes.0 ≤ 2 ^ 32) × CountFits stripes.1

-- a call keeps the limits
abbrev pub CallFits : Call → Type 0
CallFits (calls.Lookup path) = IsPath path
CallFits (calls.Stat path) = IsPath path
CallFits (calls.List path) = IsPath path
CallFits (calls.Layout path) = IsPath path
CallFits (calls.Mkdir path) = IsPath path
CallFits (calls.Create path stripes) = IsPath path × StripesFit stripes
CallFits (calls.Link old new) = IsPath old × IsPath new
CallFits (calls.Unlink path) = IsPath path
CallFits (calls.Rmdir path) = IsPath path
CallFits (calls.Rename old new) = IsPath old × IsPath new
CallFits (calls.Chmod path mode) = IsPath path × (mode < 4096)
CallFits (calls.Open handle path) = (handle ≤ 15) × IsPath path
CallFits (calls.Close handle) = handle ≤ 15
CallFits (calls.Read handle offset size) = (handle ≤ 15) × (1 ≤ size) × (size ≤ 65536) × (offset + size ≤ 2 ^ 40)
CallFits (calls.Write handle offset bytes) =
    (handle ≤ 15) × IsBytes bytes × (1 ≤ length bytes) × (length bytes ≤ 65536) × (offset + length bytes ≤ 2 ^ 40)
CallFits (calls.Cut handle size) = (handle ≤ 15) × (size ≤ 2 ^ 40)
CallFits (calls.Flush handle) = handle ≤ 15
CallFits (calls.Glimpse handle) = handle ≤ 15

-- a node of a scenario with this head
abbrev pub NodeFits : Head → Node → Type 0
NodeFits head (Client client) = client < head.clients
NodeFits head (Target target) = target ≤ head.osts

-- a line keeps the limits, in a scenario with this head
abbrev pub LineFits : Head → SceneLine → Type 0
LineFits head (lines.Call client slot call) = (client < head.clients) × (slot ≤ 3) × CallFits call
LineFits head lines.Run = Unit {0}
LineFits head (lines.RunSome turns) = (1 ≤ turns) × (turns ≤ 65536)
LineFits head (lines.Deliver number) = (1 ≤ number) × (number ≤ 1000000)
LineFits head (lines.Lose number) = (1 ≤ number) × (number ≤ 1000000)
LineFits head (lines.Tick node) = NodeFits head node
LineFits head (lines.Commit target) = target.0 ≤ head.osts
LineFits head (lines.CommitSome target count) = (target.0 ≤ head.osts) × (1 ≤ count) × (count ≤ 65536)
LineFits head (lines.Crash target) = target.0 ≤ head.osts
LineFits head (lines.Boot target) = target.0 ≤ head.osts
LineFits head (lines.Close target) = target.0 ≤ head.osts
LineFits head (lines.Die client) = client < head.clients

-- a line of the head: which, and its number
pub record Setting : Type 0 where
  pub header : Header
  pub number : ℕ

-- its number is in its range
abbrev pub SettingFits : Setting → Type 0
SettingFits setting = (least_of setting.header ≤ setting.number) × (setting.number ≤ most_of setting.header)

abbrev pub setting_words : Setting → List (List ℕ)
setting_words setting = header_words setting.header setting.number

-- the default head, with what its lines say
abbrev pub head_of : List Setting → Head
head_of settings = fold (λ head setting. with_number setting.header setting.number head) default_head settings

-- no line of the head stands twice
abbrev pub StandOnce : List Setting → Type 0
StandOnce settings = (header : Header) → count_by (λ setting. place_of setting.header == place_of header) settings ≤ 1

-- The forms of lines. They are the printed ones; but a mode may have zeros before it, and data has two forms.

-- octal digits and the mode that they write
abbrev pub IsModeText : List ℕ → ℕ → Type 0
IsModeText text mode = IsTrue (is_octal text) × (mode ≡ digits_value 8 text)

abbrev pub IsCall : List (List ℕ) → Call → Type 0
IsCall parts (calls.Chmod path mode) =
    (text : List ℕ) × IsModeText text mode × (parts ≡ name_text names.Chmod ∷ path_text path ∷ text ∷ [])
IsCall parts (calls.Write handle offset bytes) =
    (text : List ℕ) × IsDataText text bytes × (parts ≡ name_text names.Write ∷ decimal handle ∷ decimal offset ∷ text ∷ [])
IsCall parts call = parts ≡ call_words call

abbrev pub IsForm : List (List ℕ) → SceneLine → Type 0
IsForm parts (lines.Call client slot call) =
    (further : List (List ℕ)) × IsCall further call × (parts ≡ verb_text verbs.Call ∷ slot_text client slot ∷ further)
IsForm parts line = parts ≡ line_words line

-- words are a line of a scenario with this head
abbrev pub IsLine : Head → List (List ℕ) → SceneLine → Type 0
IsLine head parts line = LineFits head line × IsForm parts line

-- each of the lines is of its words
abbrev pub AreLines : Head → List (List (List ℕ)) → List SceneLine → Type 0
AreLines head [] [] = Unit {0}
AreLines head [] (line ∷ lines) = ⊥
AreLines head (parts ∷ more) [] = ⊥
AreLines head (parts ∷ more) (line ∷ lines) = IsLine head parts line × AreLines head more lines

-- a line that isn't a comment, and has a word
abbrev pub says : List ℕ → Bool
says line = not (is_comment line) && not (length (words_of line) == 0)

-- the words of the lines that say something
abbrev pub sayings : List (List ℕ) → List (List (List ℕ))
sayings lines = map words_of (filter says lines)

-- lines of text are these lines of the head, and then these lines
pub record Spells (text : List (List ℕ)) (settings : List Setting) (said : List SceneLine) : Type 0 where
  pub plain : AllPass is_plain text
  pub once : StandOnce settings
  pub fit : All SettingFits settings
  pub rest : List (List (List ℕ))
  pub parts : sayings text ≡ map setting_words settings ++ rest
  pub lines_are : AreLines (head_of settings) rest said

-- a text is a scenario: this one
abbrev pub IsScene : List ℕ → Scene → Type 0
IsScene text scene = (settings : List Setting) × Spells (lines_of text) settings scene.lines × (scene.head ≡ head_of settings)

-- what stands when these lines of the head and these lines were read
abbrev pub progress_of : List Setting → List SceneLine → Progress
progress_of settings said = record { head = head_of settings; given = map (λ setting. setting.header) settings; lines = said }

-- of the lines of a text, those before the one of this number, from 1, are good, and that one has the fault
pub record IsFirstFault (text : List (List ℕ)) (number : ℕ) (fault : Fault) : Type 0 where
  pub before : List (List ℕ)
  pub bad : List ℕ
  pub after : List (List ℕ)
  pub parts : text ≡ before ++ bad ∷ after
  pub place : number ≡ length before + 1
  pub settings : List Setting
  pub said : List SceneLine
  pub good : Spells before settings said
  pub wrong : line_after (progress_of settings said) bad ≡ Err fault

-- a scenario keeps the limits
abbrev pub HeadFits : Head → Type 0
HeadFits head =
    SettingFits (record { header = headers.Clients; number = head.clients })
    × SettingFits (record { header = headers.Osts; number = head.osts })
    × SettingFits (record { header = headers.Expire; number = head.expire })
    × SettingFits (record { header = headers.Dirty; number = head.dirty })
    × SettingFits (record { header = headers.Unused; number = head.unused })
    × SettingFits (record { header = headers.Rounds; number = head.rounds })
    × SettingFits (record { header = headers.Flight; number = head.flight })

pub record SceneFits (scene : Scene) : Type 0 where
  pub head : HeadFits scene.head
  pub lines_fit : All (LineFits scene.head) scene.lines

-- each line, as it is printed, has at most 2,000 bytes
abbrev pub HasShortLines : Scene → Type 0
HasShortLines scene = All (λ line. length (words (line_words line)) ≤ 2000) scene.lines
