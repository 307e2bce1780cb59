-- What a node gives of a turn: its lines, in which messages have no number yet, and the messages that it sends.
use Rattle.std.specs.Prelude.{List, [], ◌∷◌, Option, Some, None}
use Rattle.lu_base.specs.declared.ids.At.{At}
use Rattle.lu_msg.specs.declared.messages.Post.{Post}
use Rattle.lu_trace.specs.declared.entries.Entry.{Entry as PrintedEntry}
use Rattle.lu_trace.specs.declared.entries.Line.{Line as PrintedLine}
use Rattle.lu_trace.specs.declared.traces.Step.{Step}
use Rattle.lu_trace.specs.Turns.{Making, then_step}
use Rattle.lu_spec_entries.specs.Words.{Entry, Send}
use Rattle.lu_spec_entries.specs.Printed.{printed_entry}

abbrev pub line_of : At → Option PrintedEntry → List PrintedLine → List PrintedLine
line_of at None lines = lines
line_of at (Some e) lines = record { at = at; entry = e } ∷ lines

abbrev pub step_lines : At → List Entry → List PrintedLine
step_lines at [] = []
step_lines at (e ∷ es) = line_of at (printed_entry 0 e) (step_lines at es)

abbrev pub posts_with : Entry → List Post → List Post
posts_with (Send to m) posts = record { to = to; message = m } ∷ posts
posts_with _ posts = posts

abbrev pub step_posts : List Entry → List Post
step_posts [] = []
step_posts (e ∷ es) = posts_with e (step_posts es)

abbrev pub step_of : At → List Entry → Step
step_of at es = record { sends = step_posts es; entries = step_lines at es }

-- a turn in the making, and after what was given in it what these entries give
abbrev pub giving : Making → List Entry → Making
giving turn es = record { at = turn.at; step = then_step turn.step (step_of turn.at es) }
