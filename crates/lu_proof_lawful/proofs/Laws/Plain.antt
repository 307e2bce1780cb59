-- A user is told an answer as it is, but for a file's attributes, and of an open the file alone.
use Rattle.std.proofs.Common.{◌≡◌, refl}
use Rattle.lu_msg.specs.declared.answers.Answer.{Answer}
use Rattle.lu_msg.specs.declared.answers.Answer.TheVariants as told
use Rattle.lu_spec_machine.specs.Machine.{Machine, as_told}
use Rattle.lu_proof_lawful.proofs.Invariants.OnNames.{IsPlain, told_so}

pub told_plain : (m : Machine) (a : Answer) → IsPlain a → as_told m a ≡ told_so a
told_plain m (told.FileStat fid mode links layout) p = absurd p
told_plain m a p = refl
