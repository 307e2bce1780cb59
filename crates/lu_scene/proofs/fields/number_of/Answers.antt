use Rattle.lu_scene.proofs.Numerals.{number_of-answered}
use Rattle.lu_scene.proofs.fields.number_of.Goals as goal

pub returns : goal.returns
returns c = record {
  number = number_of-answered c.read_number.result c.args.text.now c.read_number.ensures.some c.read_number.ensures.fits
      c.read_number.ensures.none;
}
