use Rattle.lu_proof_objects.proofs.point_theorems.patches_are_those_of_the_theory.Goals as goal
use Rattle.lu_proof_objects.proofs.Patches.{patch_made, patch_taken, bytes_acked}

pub returns-clause-made : goal.returns-clause-made
returns-clause-made c = patch_made

pub returns-clause-taken : goal.returns-clause-taken
returns-clause-taken c = patch_taken

pub returns-clause-bytes_acked : goal.returns-clause-bytes_acked
returns-clause-bytes_acked c = bytes_acked
