use Rattle.std.proofs.Common.{◌∷◌, subst}
use Rattle.std.proofs.lemmas.Result.{on_ok_weaker}
use Rattle.lu_trace.specs.declared.entries.Line.{Line}
use Rattle.lu_judge_recovery.specs.Callbacks.{ShowsCallbacks}
use Rattle.lu_judge_recovery.proofs.Lines.{line_is}
use Rattle.lu_judge_recovery.proofs.callbacks.Callbacks.step.Goals as goal

pub returns-in-Grant : goal.returns-in-Grant
returns-in-Grant c = record {
  shows = on_ok_weaker c.note.result
      (λ notes past shown. subst (λ (l : Line). ShowsCallbacks c.note.new.self (l ∷ past))
      (line_is c.args.line.now c.in-Target.target c.in-Target.is) (notes past shown)) c.note.ensures.shows;
}
