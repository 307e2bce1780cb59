-- Lists of names are compared name by name.
use Rattle.std.proofs.lemmas.Slice.Eq.{slice_eq-Decides, bytes_eq-Decides}
use Rattle.lu_judge_history.proofs.same.same_names.Goals as goal

pub returns : goal.returns
returns c = record { same = slice_eq-Decides bytes_eq-Decides _ _ _ c.eq.ensures }
