-- What a read gives; other calls on bytes are done.
use Rattle.std.proofs.Common.{◌≡◌, sym, ap, ◌∙◌}
use Rattle.lu_msg.specs.declared.answers.Answer.TheVariants.{Content, Refused}
use Rattle.lu_msg.specs.declared.answers.Errno.TheVariants.{EBADF}
use Rattle.lu_msg.specs.declared.calls.Call.{Call}
use Rattle.lu_spec_machine.specs.Machine.{Machine, data_answer}
use Rattle.lu_posix.specs.Shown.{Shows}
use Rattle.lu_posix.proofs.Showing.{quiet}
use Rattle.lu_posix.proofs.machines.Machine.would_tell.Goals as goal

pub returns-in_ok-bytes-in-Read : goal.returns-in_ok-bytes-in-Read
returns-in_ok-bytes-in-Read c = record {
  answer = λ osts m shown.
      ap Content (c.in_ok-bytes-in-Read.ensures.read osts m shown) ∙ sym (ap (λ (x : Call). data_answer m c.args.fid x) c.in-Read.is);
}

pub returns-in_default : goal.returns-in_default
returns-in_default c =
    record {
      answer = λ osts m shown. (quiet osts c.args.self.now m shown c.args.fid c.args.call.now c.in_default.not-Read
          c.in_default.not-Write c.in_default.not-Cut c.in_default.not-Flush).0;
    }
