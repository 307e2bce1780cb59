use Rattle.std.proofs.Common.{drop}
use Rattle.lu_core.proofs.Performing.{LeavesAll}
use Rattle.lu_core.proofs.players.Player.perform_all.Given as goal

-- the other lines are left
abbrev pub invariant-loop-line : goal.invariant-loop-line
invariant-loop-line g l = LeavesAll l.initial.self l.lines l.self (drop l.line-index l.lines)
