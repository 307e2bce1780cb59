use Rattle.std.proofs.Common.{rules}
use Rattle.lu_core.proofs.Telling.{says_told}
use Rattle.lu_core.proofs.players.says_fail.Goals as goal

pub returns : goal.returns
returns c = record { told = says_told c.any.result c.as_slice.result.now c.args.step.now c.as_slice.ensures.same (search rules) }
