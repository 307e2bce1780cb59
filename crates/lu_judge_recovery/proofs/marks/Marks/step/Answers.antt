use Rattle.std.proofs.lemmas.Result.{on_ok_weaker}
use Rattle.lu_judge_recovery.proofs.Marking.{client_marks, target_marks}
use Rattle.lu_judge_recovery.proofs.marks.Marks.step.Goals as goal

pub returns-in-Client : goal.returns-in-Client
returns-in-Client c = record {
  shows = λ past shown. client_marks c.args.self.now past c.args.line.now _ c.in-Client.is shown;
}

pub returns-in-Target : goal.returns-in-Target
returns-in-Target c = record {
  shows = on_ok_weaker c.mark.result (λ marked past shown. target_marks c.args.self.now c.mark.new.self past c.args.line.now
      c.in-Target.target c.in-Target.is marked shown) c.mark.ensures.marked;
}
