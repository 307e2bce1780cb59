use Rattle.std.proofs.Common.{◌≡◌, Bool, ap, sym, ◌∙◌}
use Rattle.std.specs.Prelude.{◌&&◌, is_none, is_some}
use Rattle.lu_spec_laws.specs.Words.Closes.{cause_at}
use Rattle.lu_judge_recovery.proofs.Deeds.{twice_not}
use Rattle.lu_judge_recovery.proofs.closing.Causes.stays.Goals as goal

pub returns-then-not-has_slot : goal.returns-then-not-has_slot
returns-then-not-has_slot c = record {
  stays = λ t past lives knows causes.
      ap (λ (b : Bool). b && is_none (cause_at t past c.args.who))
      (sym (sym (c.has_slot.ensures.slot t past knows) ∙ c.if-not-has_slot.true));
}

pub returns : goal.returns
returns c = record {
  stays = λ t past lives knows causes.
      twice_not c.is_none.result (is_some c.cause.result) c.is_none.ensures ∙ ap is_none (c.cause.ensures.cause t past lives knows causes)
      ∙ ap (λ (b : Bool). b && is_none (cause_at t past c.args.who))
      (sym (sym (c.has_slot.ensures.slot t past knows) ∙ c.if-not-has_slot.false));
}
