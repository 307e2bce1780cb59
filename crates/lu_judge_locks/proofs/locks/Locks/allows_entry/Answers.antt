-- Of other lines the law asks nothing.
use Rattle.std.proofs.Common.{rules}
use Rattle.lu_judge_locks.proofs.Decided.{quiet_law}
use Rattle.lu_judge_locks.proofs.locks.Locks.allows_entry.Goals as goal

pub returns-in_default : goal.returns-in_default
returns-in_default c = λ past shown ordered follows. quiet_law c.args.self.now.osts past c.args.at c.args.entry.now (search rules)
