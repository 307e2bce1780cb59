-- The places of the parts so far.
use Rattle.std.proofs.Common.{◌≡◌, take}
use Rattle.lu_judge_names.specs.Indexes.{gathered}
use Rattle.lu_judge_names.proofs.index.Index.candidates.Given as goal

abbrev pub invariant-loop-part : goal.invariant-loop-part
invariant-loop-part l = l.places.items ≡ gathered l.self (take l.part-index l.part-items)
