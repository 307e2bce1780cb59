-- The text of a trace: its lines and a last one that says how the run ended, each with a line feed.
use Rattle.std.specs.Prelude.{ℕ, ◌==◌, if◌then◌else◌, List, [], ◌∷◌, ◌++◌, codes, decimal}
use Rattle.std.specs.List.{flat_map}
use Rattle.lu_trace.specs.declared.entries.Line.{Line}
use Rattle.lu_trace.specs.declared.traces.Trace.{Trace}
use Rattle.lu_trace.specs.declared.traces.End.{End}
use Rattle.lu_trace.specs.declared.traces.End.TheVariants.{Done, Limit, Fault}
use Rattle.lu_trace.specs.Words.{words}
use Rattle.lu_trace.specs.Entries.{line_text}

-- how the run ended
abbrev pub end_words : End → List (List ℕ)
end_words Done = codes "end" ∷ []
end_words Limit = codes "end" ∷ codes "limit" ∷ []
end_words Fault = codes "end" ∷ codes "fault" ∷ []

-- the number of object storage targets, where it isn't 1
abbrev pub osts_words : ℕ → List (List ℕ)
osts_words osts = if osts == 1 then [] else (decimal osts ∷ [])

-- a line and its line feed
abbrev pub ended : List ℕ → List ℕ
ended line = line ++ 10 ∷ []

abbrev pub lines_text : List Line → List ℕ
lines_text = flat_map (λ line. ended (line_text line))

abbrev pub trace_text : Trace → End → List ℕ
trace_text trace end = lines_text trace.entries ++ ended (words (end_words end ++ osts_words trace.osts))
