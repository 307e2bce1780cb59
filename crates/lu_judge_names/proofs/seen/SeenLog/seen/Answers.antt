use Rattle.std.proofs.Common.{ℕ, ◌∙◌, not, ap}
use Rattle.std.specs.Prelude.{filter}
use Rattle.std.proofs.lemmas.Result.{IfOk-weaker}
use Rattle.lu_spec_laws.specs.Words.Lost.{is_lost}
use Rattle.lu_judge_names.specs.Logs.{seen_by}
use Rattle.lu_judge_names.specs.Seen.{logged}
use Rattle.lu_judge_names.proofs.LogLines.{seen_shown}
use Rattle.lu_judge_names.proofs.seen.SeenLog.seen.Goals as goal

pub returns : goal.returns
returns c = record {
  seen = IfOk-weaker c.standing.result _ _
      (λ kept is. λ osts past windows shows.
      is past windows
      ∙ ap (filter (λ n. not (is_lost past c.args.target n)))
      (c.in_ok-numbers.ensures ∙ ap (λ (above : ℕ). seen_by above c.args.touched.now (logged c.args.self.now c.args.target))
      (c.committed.ensures.committed past windows))
      ∙ seen_shown osts c.args.target (logged c.args.self.now c.args.target) past (is_lost past c.args.target) c.args.touched.now
      (shows c.args.target))
      c.standing.ensures;
}
