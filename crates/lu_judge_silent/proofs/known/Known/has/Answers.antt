use Rattle.std.proofs.Common.{sym}
use Rattle.lu_spec_laws.specs.Words.Repeats.{known}
use Rattle.lu_judge_silent.proofs.Questions.{other_known}
use Rattle.lu_judge_silent.proofs.known.Known.has.Goals as goal

pub returns-in-None : goal.returns-in-None
returns-in-None c = record {
  known = λ past shown. sym (other_known c.args.call.now (known c.args.who past) c.in-None.ensures.none);
}
