-- What a reader of numbers answers is the number.
use Rattle.std.proofs.Common.{sym, ◌∙◌}
use Rattle.lu_scene.proofs.Numerals.{number_of-answered}
use Rattle.lu_judge_reader.proofs.values.number_of.Goals as goal

pub returns-in-Some-clause-read : goal.returns-in-Some-clause-read
returns-in-Some-clause-read c =
    sym (number_of-answered c.read_number.result c.args.word.now c.read_number.ensures.some c.read_number.ensures.fits
    c.read_number.ensures.none) ∙ c.in-Some.is

pub returns-in-None-clause-read : goal.returns-in-None-clause-read
returns-in-None-clause-read c =
    sym (number_of-answered c.read_number.result c.args.word.now c.read_number.ensures.some c.read_number.ensures.fits
    c.read_number.ensures.none) ∙ c.in-None.is
