-- One replay more.
use Rattle.std.proofs.Common.{◌+◌, sym, subst}
use Rattle.std.proofs.lemmas.Result.{on_ok_weaker}
use Rattle.lu_window.specs.declared.outcomes.KeptReplay.{KeptReplay}
use Rattle.lu_test_target.specs.Kept.{AreKept}
use Rattle.lu_test_target.proofs.More.{one_more}
use Rattle.lu_test_target.proofs.redone.add.Goals as goal

pub returns : goal.returns
returns c =
    let kept = c.args.kept.now in
    let number = c.args.number in
    let k : KeptReplay = record {
      who = c.args.row.0;
      replay = record { number = record { 0 = number }; xid = record { 0 = 1 }; tag = 3; seen = c.new.result; op = c.in_ok-op.field-0 };
    } in
    record {
      more = on_ok_weaker c.push.result (λ is. subst (AreKept (number + 1)) (sym is)
          (one_more kept k c.requires.below c.in_ok-op.ensures.named)) c.push.ensures.added;
    }
