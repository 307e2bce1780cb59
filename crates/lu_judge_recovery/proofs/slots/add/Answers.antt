use Rattle.std.proofs.Common.{◌≡◌, ◌++◌, sym, ap, ◌∙◌}
use Rattle.std.proofs.lemmas.Result.{on_ok_weaker}
use Rattle.lu_spec_laws.specs.Words.Slots.{has_slot}
use Rattle.lu_judge_recovery.proofs.Slotted.{one_kept, left_out}
use Rattle.lu_judge_recovery.proofs.slots.add.Goals as goal

pub returns-then-has_slot : goal.returns-then-has_slot
returns-then-has_slot c = record {
  added = on_ok_weaker c.push.result
      (λ pushed past ledger windows.
      pushed ∙ ap (λ xs. c.args.lives.now ++ xs) (sym (one_kept (has_slot c.args.target past) c.args.who
      (sym (c.has_slot.ensures.slot past ledger windows) ∙ c.if-has_slot.true))))
      c.push.ensures.added;
}

pub returns : goal.returns
returns c = record {
  added = λ past ledger windows. left_out (has_slot c.args.target past) c.args.who c.args.lives.now
      (sym (c.has_slot.ensures.slot past ledger windows) ∙ c.if-has_slot.false);
}
