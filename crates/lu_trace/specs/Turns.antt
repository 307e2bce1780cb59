-- A turn in the making, and what each call adds to what its node gives.
use Rattle.std.specs.Prelude.{List, [], ◌∷◌, ◌++◌}
use Rattle.lu_base.specs.declared.ids.At.{At}
use Rattle.lu_msg.specs.declared.messages.Post.{Post}
use Rattle.lu_trace.specs.declared.entries.Entry.{Entry}
use Rattle.lu_trace.specs.declared.entries.Entry.TheVariants.{Send}
use Rattle.lu_trace.specs.declared.traces.Step.{Step}

-- which turn it is, and what its node has given in it so far
pub record Making : Type 0 where
  pub at : At
  pub step : Step

-- nothing
abbrev pub no_step : Step
no_step = record { sends = []; entries = [] }

-- a step, and after it a line of the turn
abbrev pub with_line : At → Step → Entry → Step
with_line at step entry = record { sends = step.sends; entries = step.entries ++ record { at = at; entry = entry } ∷ [] }

-- lines of the turn, in order
abbrev pub with_lines : At → Step → List Entry → Step
with_lines at step [] = step
with_lines at step (entry ∷ entries) = with_lines at (with_line at step entry) entries

-- a step, and after it a message and its line: the number of the message isn't known yet, and is 0
abbrev pub with_post : At → Step → Post → Step
with_post at step post =
    record {
      sends = step.sends ++ post ∷ [];
      entries = step.entries ++ record { at = at; entry = Send 0 post.to post.message } ∷ [];
    }

-- a step, and after it what another gives
abbrev pub then_step : Step → Step → Step
then_step step more = record { sends = step.sends ++ more.sends; entries = step.entries ++ more.entries }
