use Rattle.std.proofs.Common.{◌≡◌, map, take}
use Rattle.lu_spec_laws.specs.Words.Pasts.{Past}
use Rattle.lu_spec_laws.specs.Words.Lost.{is_lost}
use Rattle.lu_judge_windows.specs.Windows.{ShowsWindows}
use Rattle.lu_judge_names.specs.Contents.{remarked}
use Rattle.lu_judge_names.specs.Events.{marked_of}
use Rattle.lu_judge_names.proofs.contents.Contents.is_current.Given as goal

-- each of the events so far is as it was
abbrev pub invariant-loop-event : goal.invariant-loop-event
invariant-loop-event l =
    (past : Past) → ShowsWindows l.windows past
    → map (remarked (is_lost past 0)) (map marked_of (take l.event-index l.event-items)) ≡ map marked_of (take l.event-index l.event-items)
