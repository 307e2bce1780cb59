-- No held lock guards one of the parts so far.
use Rattle.std.proofs.Common.{◌≡◌, false, take}
use Rattle.lu_spec_laws.specs.Words.Pasts.{Past}
use Rattle.lu_judge_locks.specs.Guarded.{is_guarded}
use Rattle.lu_judge_locks.specs.Shown.{Shown}
use Rattle.lu_judge_locks.proofs.locks.Locks.is_guarded.Given as goal

abbrev pub invariant-loop-part : goal.invariant-loop-part
invariant-loop-part l = (past : Past) → Shown l.self past → is_guarded past l.who (take l.part-index l.parts) ≡ false
