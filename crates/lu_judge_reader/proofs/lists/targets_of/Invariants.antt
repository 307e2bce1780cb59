-- What the words so far say.
use Rattle.std.proofs.Common.{◌≡◌, map, take, Some}
use Rattle.std.specs.Prelude.{All}
use Rattle.lu_trace.specs.WellFormed.{Fits}
use Rattle.lu_judge_reader.specs.Values.{small_of}
use Rattle.lu_judge_reader.specs.Lists.{all_of}
use Rattle.lu_judge_reader.proofs.lists.targets_of.Given as goal

abbrev pub invariant-loop-word : goal.invariant-loop-word
invariant-loop-word l = (all_of (small_of 16) (map (λ word. word.now) (take l.word-index l.words)) ≡ Some l.targets)
    × All (Fits 16) l.targets
