use Rattle.std.proofs.lemmas.Result.{IfOk-weaker}
use Rattle.lu_judge.specs.declared.verdicts.Verdict.TheVariants.{Lawful, Broken}
use Rattle.lu_judge.proofs.Only.{exactly}
use Rattle.lu_judge.proofs.verdicts.judge.Goals as goal

pub returns-clause-lawful : goal.returns-clause-lawful
returns-clause-lawful c =
    IfOk-weaker c.verdict_on.result _ _ (λ verdict is. exactly c.args.trace.now verdict Lawful is) c.verdict_on.ensures

pub returns-clause-broken : goal.returns-clause-broken
returns-clause-broken c =
    IfOk-weaker c.verdict_on.result _ _
    (λ verdict is law line. exactly c.args.trace.now verdict (Broken law line) is) c.verdict_on.ensures
