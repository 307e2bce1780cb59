use Rattle.std.proofs.Common.{ap, ◌∙◌}
use Rattle.lu_scene.specs.declared.faults.Fault.TheVariants as faults
use Rattle.lu_scene.specs.Fields.{or_fault}
use Rattle.lu_scene.proofs.DataWords.{data_of-answered}
use Rattle.lu_scene.proofs.fields.any_data_at.Goals as goal

pub returns-in-Some : goal.returns-in-Some
returns-in-Some c = record {
  «data» = ap (or_fault faults.Data) (data_of-answered c.in_ok-bytes.field-0 c.args.word.now c.in_ok-bytes.ensures.bytes
      c.in_ok-bytes.ensures.some c.in_ok-bytes.ensures.none ∙ c.in-Some.is);
}

pub returns-in-None : goal.returns-in-None
returns-in-None c = record {
  «data» = ap (or_fault faults.Data) (data_of-answered c.in_ok-bytes.field-0 c.args.word.now c.in_ok-bytes.ensures.bytes
      c.in_ok-bytes.ensures.some c.in_ok-bytes.ensures.none ∙ c.in-None.is);
}
