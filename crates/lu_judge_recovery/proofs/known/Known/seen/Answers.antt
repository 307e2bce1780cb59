use Rattle.std.proofs.lemmas.Result.{IfOk-weaker}
use Rattle.lu_judge_recovery.proofs.known.Known.seen.Goals as goal

pub returns : goal.returns
returns c = record {
  seen = IfOk-weaker c.seen.result _ _ (λ numbers seen past shown. seen c.args.self.now.osts past shown.windows
      shown.written) c.seen.ensures.seen;
}
