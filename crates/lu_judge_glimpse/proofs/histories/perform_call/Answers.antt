use Rattle.std.proofs.Common.{sym, subst}
use Rattle.lu_msg.specs.declared.calls.Call.{Call}
use Rattle.lu_spec_machine.specs.Machine.{changed_bytes, data_change}
use Rattle.lu_posix.specs.Shown.{Shows}
use Rattle.lu_posix.proofs.Showing.{idle_shown}
use Rattle.lu_judge_glimpse.proofs.Few.{few_called}
use Rattle.lu_judge_glimpse.proofs.histories.perform_call.Goals as goal

pub returns-in-Read : goal.returns-in-Read
returns-in-Read c = record {
  next = λ osts m some most shown. (
    subst (λ (x : Call). Shows osts c.args.machine.now (changed_bytes m c.args.fid (data_change m c.args.fid x))) (sym c.in-Read.is)
        (idle_shown osts c.args.machine.now m shown.0 c.args.fid),
    few_called osts c.args.machine.now m some most shown.0 shown.1 c.args.fid c.args.call.now,
  );
}

pub returns-in-Flush : goal.returns-in-Flush
returns-in-Flush c = record {
  next = λ osts m some most shown. (
    subst (λ (x : Call). Shows osts c.args.machine.now (changed_bytes m c.args.fid (data_change m c.args.fid x))) (sym c.in-Flush.is)
        (idle_shown osts c.args.machine.now m shown.0 c.args.fid),
    few_called osts c.args.machine.now m some most shown.0 shown.1 c.args.fid c.args.call.now,
  );
}

pub returns-in_ok-call-in_default : goal.returns-in_ok-call-in_default
returns-in_ok-call-in_default c = record {
  next = λ osts m some most shown. (
    c.in_ok-call-in_default.ensures.next osts m shown.0,
    few_called osts c.args.machine.now m some most shown.0 shown.1 c.args.fid c.args.call.now,
  );
}
