use Rattle.std.proofs.Common.{◌≡◌, not, take}
use Rattle.std.specs.Prelude.{filter}
use Rattle.lu_spec_laws.specs.Words.Pasts.{Past}
use Rattle.lu_spec_laws.specs.Words.Lost.{is_lost}
use Rattle.lu_judge_windows.specs.Windows.{ShowsWindows}
use Rattle.lu_judge_names.proofs.seen.standing.Given as goal

-- those of the numbers so far that stand
abbrev pub invariant-loop-number : goal.invariant-loop-number
invariant-loop-number l =
    (past : Past) → ShowsWindows l.windows past → l.kept ≡ filter (λ n. not (is_lost past l.target n)) (take l.number-index l.number-items)
