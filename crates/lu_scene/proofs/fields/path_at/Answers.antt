use Rattle.std.proofs.Common.{ap, ◌∙◌}
use Rattle.lu_scene.specs.declared.faults.Fault.TheVariants as faults
use Rattle.lu_scene.specs.Fields.{or_fault}
use Rattle.lu_scene.proofs.PathWords.{path_of-answered}
use Rattle.lu_scene.proofs.fields.path_at.Goals as goal

pub returns-in-Some : goal.returns-in-Some
returns-in-Some c = record {
  path = ap (or_fault faults.Path) (path_of-answered c.in_ok-path.field-0 c.args.word.now c.in_ok-path.ensures.some
      c.in_ok-path.ensures.none ∙ c.in-Some.is);
}

pub returns-in-None : goal.returns-in-None
returns-in-None c = record {
  path = ap (or_fault faults.Path) (path_of-answered c.in_ok-path.field-0 c.args.word.now c.in_ok-path.ensures.some
      c.in_ok-path.ensures.none ∙ c.in-None.is);
}
