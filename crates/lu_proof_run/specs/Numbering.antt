-- The numbers that messages get when a turn is recorded.
use Rattle.std.specs.Prelude.{ℕ, ◌+◌, List, [], ◌∷◌}
use Rattle.lu_trace.specs.declared.entries.Entry.{Entry}
use Rattle.lu_trace.specs.declared.entries.Entry.TheVariants as entry
use Rattle.lu_trace.specs.declared.entries.Line.{Line}

-- ---- messages that are sent: each has the next number

-- the number of the last message, after an entry
abbrev pub last_after : ℕ → Entry → ℕ
last_after last (entry.Send number to message) = last + 1
last_after last _ = last

abbrev pub numbered_entry : ℕ → Entry → Entry
numbered_entry last (entry.Send number to message) = entry.Send (last + 1) to message
numbered_entry last entry = entry

abbrev pub numbered_line : ℕ → Line → Line
numbered_line last line = record { at = line.at; entry = numbered_entry last line.entry }

-- the number of the last message, after these lines
abbrev pub last_after_all : ℕ → List Line → ℕ
last_after_all last [] = last
last_after_all last (line ∷ lines) = last_after_all (last_after last line.entry) lines

-- the lines with the numbers of what they send, after a message of this number
abbrev pub numbered_sends : ℕ → List Line → List Line
numbered_sends last [] = []
numbered_sends last (line ∷ lines) = numbered_line last line ∷ numbered_sends (last_after last line.entry) lines

-- ---- the message that is taken: its line is the first

abbrev pub taken_entry : ℕ → Entry → Entry
taken_entry taken (entry.Take number) = entry.Take taken
taken_entry taken entry = entry

-- the first line alone has the number of what was taken
abbrev pub with_taken : ℕ → List Line → List Line
with_taken taken [] = []
with_taken taken (line ∷ lines) = record { at = line.at; entry = taken_entry taken line.entry } ∷ lines

-- the lines of a turn in which a message of this number came, if one did
abbrev pub numbered_step : ℕ → ℕ → List Line → List Line
numbered_step last taken lines = numbered_sends last (with_taken taken lines)
