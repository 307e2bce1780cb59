use Rattle.std.proofs.Common.{◌∷◌, subst}
use Rattle.std.proofs.lemmas.Result.{on_ok_weaker}
use Rattle.lu_trace.specs.declared.entries.Line.{Line}
use Rattle.lu_judge_recovery.specs.Clients.{count_of}
use Rattle.lu_judge_recovery.specs.Closings.{ShowsClosings}
use Rattle.lu_judge_recovery.proofs.Lines.{line_is}
use Rattle.lu_judge_recovery.proofs.Closed.{client_closings}
use Rattle.lu_judge_recovery.proofs.closings.Closings.step.Goals as goal

pub returns-in-Target : goal.returns-in-Target
returns-in-Target c = record {
  shows = on_ok_weaker c.add.result
      (λ adds past ledger windows shown.
      subst (λ (l : Line). ShowsClosings c.add.new.self c.args.failing.now (count_of c.args.greatest) (l ∷ past))
      (line_is c.args.line.now c.in-Target.target c.in-Target.is)
      (adds past ledger windows shown))
      c.add.ensures.shows;
}

pub returns-in-Client : goal.returns-in-Client
returns-in-Client c = record {
  shows = λ past ledger windows shown. client_closings c.args.self.now c.args.failing.now (count_of c.args.greatest) past c.args.line.now _
      c.in-Client.is shown;
}
