use Rattle.std.proofs.Common.{◌≡◌}
use Rattle.std.specs.List.{range_with_len}
use Rattle.lu_spec_client.specs.Wants.{wants_on}
use Rattle.lu_call.specs.Views.{kind_of}
use Rattle.lu_call.proofs.wants.wants_of.Given as goal

abbrev pub invariant-loop-stripe : goal.invariant-loop-stripe
invariant-loop-stripe l = l.wants.items ≡ wants_on l.layout l.fid (kind_of l.kind) (range_with_len 0 l.stripe)
