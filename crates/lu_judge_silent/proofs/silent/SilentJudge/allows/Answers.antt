use Rattle.std.proofs.Common.{refl}
use Rattle.lu_judge_silent.proofs.Begins.{says_nothing}
use Rattle.lu_judge_silent.proofs.silent.SilentJudge.allows.Goals as goal

pub returns-in_default : goal.returns-in_default
returns-in_default c = record {
  decided = λ past shown placed. (
    λ yes. says_nothing past c.args.line.now.at c.args.later.now c.args.line.now.entry c.in_default.not-Begin,
    λ law. refl,
  );
}
