-- What the words so far say.
use Rattle.std.proofs.Common.{◌≡◌, map, take, Some}
use Rattle.std.specs.Prelude.{All}
use Rattle.lu_base.specs.Texts.{IsName}
use Rattle.lu_judge_reader.specs.Values.{name_of}
use Rattle.lu_judge_reader.specs.Lists.{all_of}
use Rattle.lu_judge_reader.proofs.lists.all_names.Given as goal

abbrev pub invariant-loop-word : goal.invariant-loop-word
invariant-loop-word l = (all_of name_of (map (λ word. word.now) (take l.word-index l.words)) ≡ Some l.names) × All IsName l.names
