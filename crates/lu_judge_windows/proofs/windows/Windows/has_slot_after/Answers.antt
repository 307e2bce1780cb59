use Rattle.std.proofs.Common.{ap, sym, ◌∙◌}
use Rattle.std.specs.Prelude.{◌==◌, ◌||◌, not}
use Rattle.lu_spec_machine.specs.Tree.{same_life}
use Rattle.lu_spec_laws.specs.Words.Pasts.{is_target}
use Rattle.lu_spec_laws.specs.Words.Lives.{is_evicted}
use Rattle.lu_spec_laws.specs.Words.Slots.{has_joined}
use Rattle.lu_judge_windows.proofs.SlotLines.{slot_joined, slot_other, slot_gone, slot_kept, slot_default}
use Rattle.lu_judge_windows.proofs.windows.Windows.has_slot_after.Goals as goal

pub returns-then-is_joined : goal.returns-then-is_joined
returns-then-is_joined c = record {
  slot = λ past at here ledger shown.
      rw c.in-Joined.is
      (ap not (c.has.ensures.evicted ∙ ledger.evictions c.args.target c.args.who)
      ∙ slot_joined (c.args.who.life == 1) (same_life c.in-Joined.joined c.args.who) (is_target c.args.target at.node)
      (has_joined c.args.target past c.args.who) (is_evicted c.args.target past c.args.who)
      (sym c.is_same-is_joined.ensures ∙ c.if-is_joined.true) here);
}

pub returns-else-is_joined : goal.returns-else-is_joined
returns-else-is_joined c = record {
  slot = λ past at here ledger shown.
      rw c.in-Joined.is
      (c.has_slot.ensures.slot past ledger shown
      ∙ slot_other (c.args.who.life == 1) (same_life c.in-Joined.joined c.args.who) (is_target c.args.target at.node)
      (has_joined c.args.target past c.args.who) (is_evicted c.args.target past c.args.who)
      (sym c.is_same-is_joined.ensures ∙ c.if-is_joined.false));
}

pub returns-then-is_gone : goal.returns-then-is_gone
returns-then-is_gone c = record {
  slot = λ past at here ledger shown.
      rw c.in-Evict.is
      (slot_gone (c.args.who.life == 1 || has_joined c.args.target past c.args.who) (same_life c.in-Evict.gone c.args.who)
      (is_target c.args.target at.node) (is_evicted c.args.target past c.args.who) (sym c.is_same-is_gone.ensures ∙ c.if-is_gone.true)
      here);
}

pub returns-else-is_gone : goal.returns-else-is_gone
returns-else-is_gone c = record {
  slot = λ past at here ledger shown.
      rw c.in-Evict.is
      (c.has_slot-in-Evict.ensures.slot past ledger shown
      ∙ slot_kept (c.args.who.life == 1 || has_joined c.args.target past c.args.who) (same_life c.in-Evict.gone c.args.who)
      (is_target c.args.target at.node) (is_evicted c.args.target past c.args.who)
      (sym c.is_same-is_gone.ensures ∙ c.if-is_gone.false));
}

pub returns-in_default : goal.returns-in_default
returns-in_default c = record {
  slot = λ past at here ledger shown.
      c.has_slot-in_default.ensures.slot past ledger shown
      ∙ slot_default c.args.target c.args.who past at c.args.entry.now c.in_default.not-Joined c.in_default.not-Evict;
}
