use Rattle.std.proofs.Common.{◌≡◌, map, take}
use Rattle.std.specs.Prelude.{reverse}
use Rattle.lu_spec_laws.specs.Words.Pasts.{Past}
use Rattle.lu_spec_laws.specs.Words.Lost.{is_lost}
use Rattle.lu_judge_windows.specs.Windows.{ShowsWindows}
use Rattle.lu_judge_names.specs.Contents.{remarked}
use Rattle.lu_judge_names.specs.Events.{marked_of}
use Rattle.lu_judge_names.specs.Names.{names_of}
use Rattle.lu_judge_names.proofs.contents.Contents.rebuild.Given as goal

-- the events so far, marked anew, and the names that they leave
abbrev pub invariant-loop-event : goal.invariant-loop-event
invariant-loop-event l = record {
  names : l.names ≡ names_of l.fn.self.names.tree.osts (map marked_of (reverse l.events.items));
  marked : (past : Past) → ShowsWindows l.windows past
      → map marked_of l.events.items ≡ map (remarked (is_lost past 0)) (map marked_of (take l.event-index l.event-items));
}
