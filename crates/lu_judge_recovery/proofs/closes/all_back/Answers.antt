use Rattle.std.proofs.Common.{◌≡◌, ◌<◌, true, length, sym, ◌∙◌, arith}
use Rattle.std.specs.Prelude.{◌||◌}
use Rattle.lu_base.specs.declared.ids.Who.{Who}
use Rattle.lu_spec_laws.specs.Words.Handed.{is_back, has_newer}
use Rattle.lu_judge_recovery.proofs.Checks.{fails_at, holds_at, holds_all}
use Rattle.lu_judge_recovery.proofs.closes.all_back.Goals as goal

pub loop-place-preserved : goal.loop-place-preserved
loop-place-preserved c = record {
  within = omega arith;
  back = λ past ledger windows.
      let below : c.loop-place.place < length c.args.lives.now = omega arith in
      holds_at (λ (who : Who). (is_back c.args.target past who || has_newer c.args.target past who) ≡ true) c.args.lives.now
      c.loop-place.place (record { client = 0; life = 0 }) c.is_met.result below
      ((λ yes. sym (c.is_met.ensures.met past ledger windows) ∙ yes, λ met. c.is_met.ensures.met past ledger windows ∙ met))
      c.if-not-is_met.false (c.loop-place.invariant.back past ledger windows);
}

pub returns-then-not-is_met : goal.returns-then-not-is_met
returns-then-not-is_met c = record {
  back = λ past ledger windows.
      let below : c.loop-place.place < length c.args.lives.now = omega arith in
      fails_at (λ (who : Who). (is_back c.args.target past who || has_newer c.args.target past who) ≡ true) c.args.lives.now
      c.loop-place.place (record { client = 0; life = 0 }) c.is_met.result below
      ((λ yes. sym (c.is_met.ensures.met past ledger windows) ∙ yes, λ met. c.is_met.ensures.met past ledger windows ∙ met))
      c.if-not-is_met.true;
}

pub returns : goal.returns
returns c = record {
  back = λ past ledger windows. holds_all (λ (who : Who).
      (is_back c.args.target past who || has_newer c.args.target past who) ≡ true) c.args.lives.now c.loop-place.place (omega arith)
      (c.loop-place.invariant.back past ledger windows);
}
