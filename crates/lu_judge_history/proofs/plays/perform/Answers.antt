-- Under no number an operation on names changes nothing.
use Rattle.std.proofs.Common.{sym, subst}
use Rattle.lu_spec_machine.specs.Machine.{next}
use Rattle.lu_posix.specs.Shown.{Shows}
use Rattle.lu_judge_history.specs.declared.asked.Asked.{Asked}
use Rattle.lu_judge_history.specs.Deeds.{act_asked}
use Rattle.lu_judge_history.proofs.Asking.{names_idle}
use Rattle.lu_judge_history.proofs.plays.perform.Goals as goal

pub returns-in-Names : goal.returns-in-Names
returns-in-Names c = record {
  next = λ osts m who shown within. names_idle osts m who c.args.machine.now c.args.asked.now _ c.in-Names.is
      shown;
}

pub returns-in_ok-call-in-Data : goal.returns-in_ok-call-in-Data
returns-in_ok-call-in-Data c = record {
  next = λ osts m who shown within.
      subst (λ (a : Asked). Shows osts c.call.new.self (next osts m (act_asked who a))) (sym c.in-Data.is)
      (c.in_ok-call-in-Data.ensures.next osts m shown);
}
