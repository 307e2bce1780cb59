-- What was asked so far, and what is left.
use Rattle.std.proofs.Common.{◌≡◌, ◌++◌}
use Rattle.lu_callback.specs.Filed.{all_asked}
use Rattle.lu_callback.proofs.callbacks.all.Given as goal

abbrev pub invariant-loop-holder : goal.invariant-loop-holder
invariant-loop-holder l = l.asked.items ++ all_asked l.holder-iterator ≡ all_asked l.holders.entries
