use Rattle.std.proofs.lemmas.Slice.Eq.{slice_eq-Decides, bytes_eq-Decides}
use Rattle.lu_judge_calls.proofs.operations.same_path.Goals as goal

pub returns : goal.returns
returns c = record { same = slice_eq-Decides bytes_eq-Decides _ _ _ c.eq.ensures }
