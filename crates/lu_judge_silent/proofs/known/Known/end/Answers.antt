use Rattle.std.proofs.Common.{refl}
use Rattle.lu_judge_pass.proofs.Shown.{taken}
use Rattle.lu_judge_silent.specs.Tables.{stood_of}
use Rattle.lu_judge_silent.proofs.known.Known.end.Goals as goal

pub returns-clause-moves : goal.returns-clause-moves
returns-clause-moves c = λ w. record {
  disturbed = refl;
  rebound = λ h. refl;
  standing = λ s. taken stood_of _ _ _ _ (c.remove.ensures.updates.0 (w, s)) refl;
  told = λ q. refl;
}
