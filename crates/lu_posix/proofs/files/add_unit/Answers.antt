-- The bytes of a unit are a run of its stripe's object.
use Rattle.std.proofs.Common.{◌++◌, ℕ, List, ap, ◌∙◌}
use Rattle.std.proofs.lemmas.Result.{on_ok_weaker}
use Rattle.lu_posix.proofs.Units.{unit_read}
use Rattle.lu_posix.proofs.files.add_unit.Goals as goal

pub returns : goal.returns
returns c =
    record {
      added =
          on_ok_weaker c.add_run.result
          (λ made. made ∙ ap (λ (bs : List ℕ). c.args.bytes.now ++ bs)
          (unit_read c.args.layout.now c.args.fid c.args.objects.now c.args.position c.args.count c.place-stripe.result.0
          c.place-stripe.result.1 c.requires.unit c.place-stripe.ensures.stripe c.place-stripe.ensures.offset))
          c.add_run.ensures.added;
    }
