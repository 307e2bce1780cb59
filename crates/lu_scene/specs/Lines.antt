-- What a line of a scenario says, or its first fault, and the lines of a text one after the other.
use Rattle.std.specs.Prelude.{ℕ, ◌+◌, ◌==◌, ◌&&◌, ◌||◌, not, nat_le, Bool, if◌then◌else◌, List, [], ◌∷◌, ◌++◌, length, slice_index, filter}
use Rattle.std.specs.Prelude.{Option, Some, None, Result, Ok, Err}
use Rattle.std.specs.List.{list_all, list_any, slice_split}
use Rattle.lu_base.specs.declared.ids.TargetId.{TargetId}
use Rattle.lu_scene.specs.declared.faults.Fault.{Fault}
use Rattle.lu_scene.specs.declared.faults.Fault.TheVariants as faults
use Rattle.lu_scene.specs.declared.faults.SceneFault.{SceneFault}
use Rattle.lu_scene.specs.declared.faults.SceneFault.TheVariants.{Bad}
use Rattle.lu_scene.specs.declared.scene.Head.{Head}
use Rattle.lu_scene.specs.declared.scene.SceneLine.{SceneLine}
use Rattle.lu_scene.specs.declared.scene.SceneLine.TheVariants as lines
use Rattle.lu_scene.specs.declared.reader.Progress.{Progress}
use Rattle.lu_scene.specs.declared.words.Header.{Header}
use Rattle.lu_scene.specs.declared.words.Header.TheVariants as headers
use Rattle.lu_scene.specs.declared.words.Verb.{Verb}
use Rattle.lu_scene.specs.declared.words.Verb.TheVariants as verbs
use Rattle.lu_scene.specs.Words.{header_of, verb_of, call_name_of}
use Rattle.lu_scene.specs.Fields.{◌>>=◌, or_fault, number_in, client_at, target_at, node_at, slot_at}
use Rattle.lu_scene.specs.Calls.{call_of}

-- the lines of a text; what follows the last line feed is one more, which says nothing where it is empty
abbrev pub lines_of : List ℕ → List (List ℕ)
lines_of text = slice_split (λ b. b == 10) text

-- the words of a line: what stands between spaces
abbrev pub words_of : List ℕ → List (List ℕ)
words_of line = filter (λ word. not (length word == 0)) (slice_split (λ b. b == 32) line)

-- at most 2,000 bytes, each from 32 to 126
abbrev pub is_plain : List ℕ → Bool
is_plain line = nat_le (length line) 2000 && list_all (λ b. nat_le 32 b && nat_le b 126) line

-- the first byte is `#`
abbrev pub is_comment : List ℕ → Bool
is_comment line = slice_index line 0 == 35

-- the least and the greatest number of each line of the head
abbrev pub least_of : Header → ℕ
least_of headers.Dirty = 4096
least_of _ = 1

abbrev pub most_of : Header → ℕ
most_of headers.Clients = 16
most_of headers.Osts = 8
most_of headers.Expire = 1000
most_of headers.Dirty = 1073741824
most_of headers.Unused = 100000
most_of headers.Rounds = 1000000
most_of headers.Flight = 8

-- the head where nothing is said
abbrev pub default_head : Head
default_head = record { clients = 1; osts = 1; expire = 8; dirty = 1048576; unused = 64; rounds = 1000000; flight = 1 }

-- the head with the number of one of its lines
abbrev pub with_number : Header → ℕ → Head → Head
with_number headers.Clients n head = record head { clients = n }
with_number headers.Osts n head = record head { osts = n }
with_number headers.Expire n head = record head { expire = n }
with_number headers.Dirty n head = record head { dirty = n }
with_number headers.Unused n head = record head { unused = n }
with_number headers.Rounds n head = record head { rounds = n }
with_number headers.Flight n head = record head { flight = n }

-- one number
abbrev pub one_number : ℕ → ℕ → List (List ℕ) → Result ℕ Fault
one_number least most (word ∷ []) = number_in least most word
one_number least most _ = Err faults.Fields

-- one target
abbrev pub one_target : ℕ → List (List ℕ) → Result TargetId Fault
one_target osts (word ∷ []) = target_at osts word
one_target osts _ = Err faults.Fields

abbrev pub call_line : Head → List (List ℕ) → Result SceneLine Fault
call_line head (place ∷ word ∷ words) = do
  slot ← slot_at head.clients place
  name ← or_fault faults.UnknownCall (call_name_of word)
  call ← call_of name words
  Ok (lines.Call slot.0 slot.1 call)
call_line head _ = Err faults.Fields

abbrev pub run_line : List (List ℕ) → Result SceneLine Fault
run_line [] = Ok lines.Run
run_line (word ∷ words) = do
  turns ← one_number 1 65536 (word ∷ words)
  Ok (lines.RunSome turns)

abbrev pub tick_line : Head → List (List ℕ) → Result SceneLine Fault
tick_line head (word ∷ []) = do
  node ← node_at head.clients head.osts word
  Ok (lines.Tick node)
tick_line head _ = Err faults.Fields

abbrev pub commit_line : Head → List (List ℕ) → Result SceneLine Fault
commit_line head (word ∷ []) = do
  target ← target_at head.osts word
  Ok (lines.Commit target)
commit_line head (word ∷ second ∷ []) = do
  target ← target_at head.osts word
  count ← number_in 1 65536 second
  Ok (lines.CommitSome target count)
commit_line head _ = Err faults.Fields

abbrev pub die_line : Head → List (List ℕ) → Result SceneLine Fault
die_line head (word ∷ []) = do
  client ← client_at head.clients word
  Ok (lines.Die client)
die_line head _ = Err faults.Fields

-- the line that begins so, with these words after its first
abbrev pub line_of : Head → Verb → List (List ℕ) → Result SceneLine Fault
line_of head verbs.Call words = call_line head words
line_of head verbs.Run words = run_line words
line_of head verbs.Deliver words = one_number 1 1000000 words >>= λ number. Ok (lines.Deliver number)
line_of head verbs.Lose words = one_number 1 1000000 words >>= λ number. Ok (lines.Lose number)
line_of head verbs.Tick words = tick_line head words
line_of head verbs.Commit words = commit_line head words
line_of head verbs.Crash words = one_target head.osts words >>= λ target. Ok (lines.Crash target)
line_of head verbs.Boot words = one_target head.osts words >>= λ target. Ok (lines.Boot target)
line_of head verbs.Close words = one_target head.osts words >>= λ target. Ok (lines.Close target)
line_of head verbs.Die words = die_line head words

-- the place of a line of the head among all
abbrev pub place_of : Header → ℕ
place_of headers.Clients = 0
place_of headers.Osts = 1
place_of headers.Expire = 2
place_of headers.Dirty = 3
place_of headers.Unused = 4
place_of headers.Rounds = 5
place_of headers.Flight = 6

-- whether a line of the head stands before
abbrev pub is_given : Header → List Header → Bool
is_given header given = list_any (λ other. place_of other == place_of header) given

-- what was read, and a line of the head after it
abbrev pub header_after : Progress → Header → List (List ℕ) → Result Progress Fault
header_after progress header words =
    if is_given header progress.given || not (length progress.lines == 0) then Err faults.Header else (do
      n ← one_number (least_of header) (most_of header) words
      Ok (record progress { head = with_number header n progress.head; given = progress.given ++ header ∷ [] }))

-- what was read, and a line after it that begins as the head, or as another line
abbrev pub said_after : Progress → Option Header → Option Verb → List (List ℕ) → Result Progress Fault
said_after progress (Some header) verb words = header_after progress header words
said_after progress None (Some verb) words = do
  line ← line_of progress.head verb words
  Ok (record progress { lines = progress.lines ++ line ∷ [] })
said_after progress None None words = Err faults.UnknownLine

-- what was read, and a line of these words after it
abbrev pub words_after : Progress → List (List ℕ) → Result Progress Fault
words_after progress [] = Ok progress
words_after progress (first ∷ words) = said_after progress (header_of first) (verb_of first) words

-- what was read, and a line after it
unfoldable pub line_after : Progress → List ℕ → Result Progress Fault
line_after progress line =
    if not (is_plain line) then Err faults.Line
    else (if is_comment line then Ok progress else words_after progress (words_of line))

-- nothing was read yet
abbrev pub nothing : Progress
nothing = record { head = default_head; given = []; lines = [] }

-- a fault with the number of its line
abbrev pub numbered : {A : Type 0} → ℕ → Result A Fault → Result A SceneFault
numbered number (Ok x) = Ok x
numbered number (Err fault) = Err (Bad number fault)

-- what was read, and lines after it, the first of which has this number; or the first fault
unfoldable pub lines_after : ℕ → Progress → List (List ℕ) → Result Progress SceneFault
lines_after number progress [] = Ok progress
lines_after number progress (line ∷ lines) = do
  next ← numbered number (line_after progress line)
  lines_after (number + 1) next lines
