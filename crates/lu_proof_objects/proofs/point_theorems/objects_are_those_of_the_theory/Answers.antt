use Rattle.lu_proof_objects.proofs.point_theorems.objects_are_those_of_the_theory.Goals as goal
use Rattle.lu_proof_objects.proofs.Objects.{object_changed}

pub returns-clause-changed : goal.returns-clause-changed
returns-clause-changed c = object_changed
