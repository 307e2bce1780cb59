use Rattle.std.proofs.Common.{◌≡◌, ◌≤◌, ◌-◌, length, drop, map}
use Rattle.std.specs.List.{list_any}
use Rattle.lu_spec_laws.specs.Words.Pasts.{Past}
use Rattle.lu_spec_laws.specs.Laws.Acts.{is_notice}
use Rattle.lu_judge_pass.specs.Tables.{sending_of}
use Rattle.lu_judge_acts.specs.Shown.{ShowsActs}
use Rattle.lu_judge_acts.proofs.acts.Acts.has_notice.Given as goal

abbrev pub invariant-loop-place : goal.invariant-loop-place
invariant-loop-place l = record {
  within : l.place ≤ length l.sendings;
  none : (past : Past) → ShowsActs l.self past
      → list_any (λ s. is_notice past l.who s.from s.message) (map sending_of l.sendings)
      ≡ list_any (λ s. is_notice past l.who s.from s.message) (map sending_of (drop l.place l.sendings));
}

abbrev pub decreases-loop-place : goal.decreases-loop-place
decreases-loop-place l = length l.sendings - l.place
