use Rattle.std.proofs.Common.{◌≡◌, false, true, sym, subst, ap, ◌∙◌}
use Rattle.std.proofs.lemmas.Result.{on_ok_weaker}
use Rattle.lu_spec_machine.specs.Machine.{Machine}
use Rattle.lu_spec_laws.specs.Words.Lives.{is_gone}
use Rattle.lu_spec_laws.specs.Words.Lost.{is_lost}
use Rattle.lu_judge_glimpse.specs.declared.items.Item.{Item}
use Rattle.lu_judge_glimpse.specs.Items.{Keeps, act_if}
use Rattle.lu_judge_glimpse.specs.Histories.{ShowsPlain}
use Rattle.lu_judge_glimpse.proofs.Few.{few_reached}
use Rattle.lu_judge_glimpse.proofs.Standing.{piece_done, told_done}
use Rattle.lu_judge_glimpse.proofs.histories.perform.Goals as goal

pub returns-then-has : goal.returns-then-has
returns-then-has c = record {
  next = on_ok_weaker c.reach.result (λ reached. λ past osts m some most gone windows shown.
      subst (λ (x : Machine). ShowsPlain osts c.reach.new.self x)
      (sym (piece_done (is_gone past) (is_lost past) osts m c.args.item.now c.in-Txn.target c.in-Txn.number c.in-Txn.who c.in-Txn.op.now
      (ap (λ (i : Item). act_if (is_gone past) (is_lost past) i) c.in-Txn.is)
      (sym (c.is_lost.ensures.lost past windows) ∙ c.if-is_lost.false)
      c.if-target-eq0.false
      (sym (c.has.ensures.gone ∙ gone c.in-Txn.who) ∙ c.if-has.true)))
      (reached osts m shown.0, few_reached m c.in-Txn.op.now (subst Keeps c.in-Txn.is c.requires.kept) shown.1)) c.reach.ensures.next;
}

pub returns-else-has-2 : goal.returns-else-has-2
returns-else-has-2 c = record {
  next = on_ok_weaker c.perform_call.result (λ called. λ past osts m some most gone windows shown.
      subst (λ (x : Machine). ShowsPlain osts c.perform_call.new.machine x)
      (sym (told_done (is_gone past) (is_lost past) osts m c.args.item.now c.in-Told.who c.in-Told.fid c.in-Told.call.now
      (ap (λ (i : Item). act_if (is_gone past) (is_lost past) i) c.in-Told.is)
      (sym (c.has-in-Told.ensures.gone ∙ gone c.in-Told.who) ∙ c.if-has-2.false)))
      (called osts m some most shown)) c.perform_call.ensures.next;
}
