-- Which texts are those of traces, and which line is the first that none has there.
use Rattle.std.specs.Prelude.{◌≡◌, ℕ, zero, suc, ◌+◌, ◌==◌, Bool, true, false, if◌then◌else◌, List, [], ◌∷◌, ◌++◌, map, All, Result, Ok}
use Rattle.std.specs.Prelude.{Err}
use Rattle.lu_trace.specs.declared.entries.Line.{Line}
use Rattle.lu_trace.specs.Entries.{line_text}
use Rattle.lu_trace.specs.declared.traces.Trace.{Trace}
use Rattle.lu_trace.specs.declared.traces.End.{End}
use Rattle.lu_trace.specs.Traces.{trace_text}
use Rattle.lu_trace.specs.WellFormed.{IsLine, IsWellFormed}
use Rattle.lu_judge_reader.specs.declared.faults.LineFault.{LineFault}
use Rattle.lu_judge_reader.specs.declared.faults.LineFault.TheVariants as line_faults
use Rattle.lu_judge_reader.specs.declared.faults.ReadFault.{ReadFault}
use Rattle.lu_judge_reader.specs.declared.faults.ReadFault.TheVariants as faults

-- the first n lines of a text, with their line feeds; all of it where there are no more. What follows
-- the last line feed is a line that isn't ended.
abbrev pub first_lines : ℕ → List ℕ → List ℕ
first_lines zero text = []
first_lines (suc n) [] = []
first_lines (suc n) (b ∷ text) = b ∷ (if b == 10 then first_lines n text else first_lines (suc n) text)

-- the first n lines of a text are the first n lines of the text of a well formed trace
abbrev pub BeginsTrace : ℕ → List ℕ → Type 0
BeginsTrace n text = (trace : Trace) × (end : End) × IsWellFormed trace × (first_lines n text ≡ first_lines n (trace_text trace end))

-- line n, from 1, is the first that no text of a well formed trace has there
pub record IsFirstBad (text : List ℕ) (n : ℕ) : Type 0 where
  pub before : ℕ
  pub place : n ≡ suc before
  pub good : BeginsTrace before text
  pub bad : BeginsTrace n text → ⊥

-- no line feed
abbrev pub HasNoFeed : List ℕ → Type 0
HasNoFeed text = All (λ b. (b == 10) ≡ false) text

-- lines, each with a line feed
abbrev pub unlines : List (List ℕ) → List ℕ
unlines [] = []
unlines (line ∷ lines) = line ++ 10 ∷ unlines lines

-- what is answered for a text of these lines and of what follows the last line feed
abbrev pub IsOutcome : List ℕ → Result (Trace × End) ReadFault → Type 0
IsOutcome text (Ok read) = IsWellFormed read.0 × (trace_text read.0 read.1 ≡ text)
IsOutcome text (Err (faults.Line n)) = IsFirstBad text n
IsOutcome text (Err faults.Memory) = Unit {0}

-- entries that are read of lines
abbrev pub AreRead : List Line → List (List ℕ) → Type 0
AreRead entries lines = (map line_text entries ≡ lines) × All IsLine entries

-- what is answered where the lines before a place are read, and the line there is no entry's
abbrev pub closed : List Line → Bool → ℕ → Result (End × ℕ) LineFault → Result (Trace × End) ReadFault
closed entries true place (Ok last) = Ok (record { osts = last.1; entries = entries }, last.0)
closed entries false place (Ok last) = Err (faults.Line (place + 2))
closed entries is_last place (Err line_faults.Memory) = Err faults.Memory
closed entries is_last place (Err line_faults.Unread) = Err (faults.Line (place + 1))
