-- What the words so far say.
use Rattle.std.proofs.Common.{◌≡◌, map, take, Some}
use Rattle.std.specs.Prelude.{All}
use Rattle.lu_trace.specs.WellFormed.{Fits}
use Rattle.lu_judge_reader.specs.Values.{pair_of}
use Rattle.lu_judge_reader.specs.Lists.{all_of}
use Rattle.lu_judge_reader.proofs.lists.pairs_of.Given as goal

abbrev pub invariant-loop-word : goal.invariant-loop-word
invariant-loop-word l = (all_of pair_of (map (λ word. word.now) (take l.word-index l.words)) ≡ Some l.pairs) × All (Fits 64) l.pairs
