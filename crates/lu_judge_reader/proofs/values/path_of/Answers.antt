-- What a reader of paths answers is the path.
use Rattle.std.proofs.Common.{◌∙◌}
use Rattle.lu_scene.proofs.PathWords.{path_of-answered}
use Rattle.lu_judge_reader.proofs.values.path_of.Goals as goal

pub returns-in-Some-clause-read : goal.returns-in-Some-clause-read
returns-in-Some-clause-read c = path_of-answered c.in_ok-path.field-0 c.args.word.now c.in_ok-path.ensures.some c.in_ok-path.ensures.none
    ∙ c.in-Some.is

pub returns-in-None-clause-read : goal.returns-in-None-clause-read
returns-in-None-clause-read c = path_of-answered c.in_ok-path.field-0 c.args.word.now c.in_ok-path.ensures.some c.in_ok-path.ensures.none
    ∙ c.in-None.is
