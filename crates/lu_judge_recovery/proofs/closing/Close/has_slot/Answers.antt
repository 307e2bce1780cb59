use Rattle.std.proofs.Common.{ℕ, ap, ◌∙◌}
use Rattle.lu_spec_laws.specs.Words.Slots.{has_slot}
use Rattle.lu_judge_recovery.proofs.closing.Close.has_slot.Goals as goal

pub returns : goal.returns
returns c = record {
  slot = λ t past knows. c.has_slot.ensures.slot past knows.ledger knows.windows
      ∙ ap (λ (u : ℕ). has_slot u past c.args.who) knows.target;
}
