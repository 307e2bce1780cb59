use Rattle.std.proofs.Common.{◌∷◌, Bool, ap, sym, ◌∙◌}
use Rattle.std.specs.Prelude.{◌&&◌}
use Rattle.lu_spec_laws.specs.Words.Boots.{boot}
use Rattle.lu_spec_laws.specs.Words.Handed.{handed, has_all}
use Rattle.lu_judge_windows.proofs.SlotLines.{elsewhere}
use Rattle.lu_judge_windows.proofs.windows.Windows.is_back_after.Goals as goal

pub returns-then-not-is_at : goal.returns-then-not-is_at
returns-then-not-is_at c = record {
  back = λ past ledger shown.
      c.is_back.ensures.back past ledger shown
      ∙ sym (elsewhere c.args.target c.args.who past c.args.line.now (sym c.is_at.ensures ∙ c.if-not-is_at.true));
}

pub returns-then-not-has_slot_after : goal.returns-then-not-has_slot_after
returns-then-not-has_slot_after c = record {
  back = λ past ledger shown.
      let now = c.args.line.now ∷ past in
      sym (ap (λ (b : Bool). b && has_all (boot c.args.target now) c.args.who (handed c.args.target now))
      (sym (c.has_slot_after.ensures.slot past c.args.line.now.at (sym c.is_at.ensures ∙ c.if-not-is_at.false) ledger shown)
      ∙ c.if-not-has_slot_after.true));
}

pub returns : goal.returns
returns c = record {
  back = λ past ledger shown.
      let now = c.args.line.now ∷ past in
      let here = sym c.is_at.ensures ∙ c.if-not-is_at.false in
      c.has_all_after.ensures.all past c.args.line.now.at here ledger shown
      ∙ sym (ap (λ (b : Bool). b && has_all (boot c.args.target now) c.args.who (handed c.args.target now))
      (sym (c.has_slot_after.ensures.slot past c.args.line.now.at here ledger shown) ∙ c.if-not-has_slot_after.false));
}
