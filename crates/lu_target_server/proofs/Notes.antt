-- A line that is noted is what its entry gives.
use Rattle.std.proofs.Common.{◌≡◌, List, [], ◌∷◌, ◌++◌, refl, sym, ap, ◌∙◌}
use Rattle.lu_base.specs.declared.ids.At.{At}
use Rattle.lu_msg.specs.declared.messages.Post.{Post}
use Rattle.lu_trace.specs.declared.entries.Entry.{Entry as PrintedEntry}
use Rattle.lu_trace.specs.declared.traces.Step.{Step}
use Rattle.lu_trace.specs.Turns.{Making, with_line, then_step}
use Rattle.lu_spec_entries.specs.Given.{step_of, giving}
use Rattle.lu_spec_entries.specs.Words.{Entry}
use Rattle.lu_target_server.proofs.Composing.{giving_more, nothing_more}

-- the step of one line
abbrev pub line_step : At → PrintedEntry → Step
line_step at line = record { sends = []; entries = record { at = at; entry = line } ∷ [] }

pub noted : (e : Entry) (line : PrintedEntry) (before now : Making) → step_of before.at (e ∷ []) ≡ line_step before.at line → now.at
    ≡ before.at
    → now.step ≡ with_line before.at before.step line → now ≡ giving before (e ∷ [])
noted e line before now prints same added =
    let whole : now.step ≡ then_step before.step (step_of before.at (e ∷ [])) =
    added
    ∙ ap (λ (posts : List Post). record { sends = posts; entries = before.step.entries ++ record { at = before.at; entry = line } ∷ [] })
    (sym (nothing_more before.step.sends))
    ∙ ap (then_step before.step) (sym prints) in
    ap (λ (at : At). record { at = at; step = now.step }) same ∙ ap (λ (step : Step). record { at = before.at; step = step }) whole

-- and then more is given
pub noted_more : (e : Entry) (es : List Entry) (line : PrintedEntry) (before between now : Making) → step_of before.at (e ∷ [])
    ≡ line_step before.at line → between.at ≡ before.at
    → between.step ≡ with_line before.at before.step line → now ≡ giving between es → now ≡ giving before (e ∷ es)
noted_more e es line before between now prints same added more =
    more ∙ ap (λ (making : Making). giving making es) (noted e line before between prints same added) ∙ giving_more before (e ∷ []) es
