-- How a scenario is printed: each line as words with one space between them. A call is written as in a trace.
use Rattle.std.specs.Prelude.{ℕ, List, [], ◌∷◌, ◌++◌, map, decimal}
use Rattle.lu_base.specs.Values.{client_text, target_text, node_text}
use Rattle.lu_trace.specs.Words.{words}
use Rattle.lu_trace.specs.Calls.{call_words}
use Rattle.lu_scene.specs.declared.scene.Head.{Head}
use Rattle.lu_scene.specs.declared.scene.Scene.{Scene}
use Rattle.lu_scene.specs.declared.scene.SceneLine.{SceneLine}
use Rattle.lu_scene.specs.declared.scene.SceneLine.TheVariants as lines
use Rattle.lu_scene.specs.declared.words.Header.{Header}
use Rattle.lu_scene.specs.declared.words.Header.TheVariants as headers
use Rattle.lu_scene.specs.declared.words.Verb.TheVariants as verbs
use Rattle.lu_scene.specs.Words.{header_text, verb_text}

-- lines, each ended by a line feed
abbrev pub lines_text : List (List (List ℕ)) → List ℕ
lines_text [] = []
lines_text (line ∷ more) = words line ++ 10 ∷ lines_text more

-- a line of the head
abbrev pub header_words : Header → ℕ → List (List ℕ)
header_words header n = header_text header ∷ decimal n ∷ []

-- the seven lines of the head
abbrev pub head_words : Head → List (List (List ℕ))
head_words head =
    header_words headers.Clients head.clients ∷ header_words headers.Osts head.osts ∷ header_words headers.Expire head.expire
    ∷ header_words headers.Dirty head.dirty ∷ header_words headers.Unused head.unused ∷ header_words headers.Rounds head.rounds
    ∷ header_words headers.Flight head.flight ∷ []

-- a client and its slot
abbrev pub slot_text : ℕ → ℕ → List ℕ
slot_text client slot = decimal client ++ 46 ∷ decimal slot

-- a line that isn't of the head
abbrev pub line_words : SceneLine → List (List ℕ)
line_words (lines.Call client slot call) = verb_text verbs.Call ∷ slot_text client slot ∷ call_words call
line_words lines.Run = verb_text verbs.Run ∷ []
line_words (lines.RunSome turns) = verb_text verbs.Run ∷ decimal turns ∷ []
line_words (lines.Deliver number) = verb_text verbs.Deliver ∷ decimal number ∷ []
line_words (lines.Lose number) = verb_text verbs.Lose ∷ decimal number ∷ []
line_words (lines.Tick node) = verb_text verbs.Tick ∷ node_text node ∷ []
line_words (lines.Commit target) = verb_text verbs.Commit ∷ target_text target.0 ∷ []
line_words (lines.CommitSome target count) = verb_text verbs.Commit ∷ target_text target.0 ∷ decimal count ∷ []
line_words (lines.Crash target) = verb_text verbs.Crash ∷ target_text target.0 ∷ []
line_words (lines.Boot target) = verb_text verbs.Boot ∷ target_text target.0 ∷ []
line_words (lines.Close target) = verb_text verbs.Close ∷ target_text target.0 ∷ []
line_words (lines.Die client) = verb_text verbs.Die ∷ client_text client ∷ []

-- the lines of a scenario: its head's, and its own
abbrev pub scene_words : Scene → List (List (List ℕ))
scene_words scene = head_words scene.head ++ map line_words scene.lines

-- the text of a scenario
abbrev pub scene_text : Scene → List ℕ
scene_text scene = lines_text (scene_words scene)
