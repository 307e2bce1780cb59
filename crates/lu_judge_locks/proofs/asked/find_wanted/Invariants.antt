-- None of the wanted locks so far is for it.
use Rattle.std.proofs.Common.{◌≡◌, take}
use Rattle.std.specs.Prelude.{find, None}
use Rattle.lu_spec_laws.specs.Words.Asked.{is_for, wanted_lock}
use Rattle.lu_judge_locks.proofs.asked.find_wanted.Given as goal

abbrev pub invariant-loop-want : goal.invariant-loop-want
invariant-loop-want l = find (λ want. is_for l.lock (wanted_lock l.lock.cookie l.who want)) (take l.want-index l.wants) ≡ None
