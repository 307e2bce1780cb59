-- What a reader of data answers is the data.
use Rattle.std.proofs.Common.{◌∙◌}
use Rattle.lu_scene.proofs.DataWords.{data_of-answered}
use Rattle.lu_judge_reader.proofs.data.data_of.Goals as goal

pub returns-in-Some : goal.returns-in-Some
returns-in-Some c = record {
  read = data_of-answered c.in_ok-bytes.field-0 c.args.word.now c.in_ok-bytes.ensures.bytes c.in_ok-bytes.ensures.some
      c.in_ok-bytes.ensures.none ∙ c.in-Some.is;
}

pub returns-in-None : goal.returns-in-None
returns-in-None c = record {
  read = data_of-answered c.in_ok-bytes.field-0 c.args.word.now c.in_ok-bytes.ensures.bytes c.in_ok-bytes.ensures.some
      c.in_ok-bytes.ensures.none ∙ c.in-None.is;
}
