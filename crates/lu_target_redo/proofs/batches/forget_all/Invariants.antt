-- Once the opens of those that are left are gone, all are.
use Rattle.std.proofs.Common.{◌≡◌, drop}
use Rattle.lu_target_refines.specs.Contents.{all_forgotten}
use Rattle.lu_target_redo.proofs.batches.forget_all.Given as goal

abbrev pub invariant-loop-who : goal.invariant-loop-who
invariant-loop-who g l =
    all_forgotten g.S.Service.acts (drop l.who-index l.gone) (g.S.Service.contents l.service)
    ≡ all_forgotten g.S.Service.acts l.gone (g.S.Service.contents l.initial.service)
