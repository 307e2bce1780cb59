-- The clauses of an outcome.
use Rattle.lu_judge_reader.proofs.Outcomes.{outcome_only}
use Rattle.lu_judge_reader.proofs.reader.read_trace.Goals as goal

pub returns-clause-only : goal.returns-clause-only
returns-clause-only c = outcome_only c.args.text.now c.read_text.result c.read_text.ensures.outcome
