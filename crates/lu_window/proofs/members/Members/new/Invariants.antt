-- The lives so far.
use Rattle.std.proofs.Common.{◌≡◌, [], take}
use Rattle.std.specs.Prelude.{fold}
use Rattle.lu_spec_target.specs.Lives.{with_life}
use Rattle.lu_window.proofs.members.Members.new.Given as goal

abbrev pub invariant-loop-who : goal.invariant-loop-who
invariant-loop-who l = l.members.keys ≡ fold (λ lives who. with_life who lives) [] (take l.who-index l.lives)
