-- One batch more.
use Rattle.std.proofs.Common.{◌+◌, sym, subst}
use Rattle.std.proofs.lemmas.Result.{on_ok_weaker}
use Rattle.lu_test_target.specs.Told.{AreNext}
use Rattle.lu_test_target.proofs.Told.{batch_more}
use Rattle.lu_test_target.proofs.batches.add.Goals as goal

pub returns : goal.returns
returns c =
    let number = c.args.number in
    record {
      more = on_ok_weaker c.push.result
          (λ is. subst (AreNext (number + 1)) (sym is) (batch_more number c.args.batches.now c.in_ok-batch_of.field-0 c.requires.below
          c.in_ok-batch_of.ensures.next)) c.push.ensures.added;
    }
