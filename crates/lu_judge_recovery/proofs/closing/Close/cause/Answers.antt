use Rattle.std.proofs.Common.{ℕ, true, false, ap, sym, ◌∙◌}
use Rattle.lu_spec_laws.specs.Words.Handed.{is_back, has_newer}
use Rattle.lu_judge_recovery.proofs.Deeds.{away_is, newer_is, stayed_is}
use Rattle.lu_judge_recovery.proofs.closing.Close.cause.Goals as goal

pub returns-then-not-is_back : goal.returns-then-not-is_back
returns-then-not-is_back c = record {
  cause = λ t past knows. away_is t past c.args.who
      (ap (λ (u : ℕ). is_back u past c.args.who) (sym knows.target) ∙ sym (c.is_back.ensures.back past knows.ledger knows.windows)
      ∙ c.if-not-is_back.true);
}

pub returns-then-has_newer : goal.returns-then-has_newer
returns-then-has_newer c = record {
  cause = λ t past knows. newer_is t past c.args.who
      (ap (λ (u : ℕ). has_newer u past c.args.who) (sym knows.target) ∙ sym (c.has_newer.ensures.newer past knows.windows)
      ∙ c.if-has_newer.true);
}

pub returns-then-rests : goal.returns-then-rests
returns-then-rests c = record {
  cause = λ t past knows.
      stayed_is t past c.args.who true (ap (λ (u : ℕ). is_back u past c.args.who) (sym knows.target)
      ∙ sym (c.is_back.ensures.back past knows.ledger knows.windows) ∙ c.if-not-is_back.false)
      (ap (λ (u : ℕ). has_newer u past c.args.who) (sym knows.target) ∙ sym (c.has_newer.ensures.newer past knows.windows)
      ∙ c.if-has_newer.false) (sym (c.rests.ensures.rests t past knows) ∙ c.if-rests.true);
}

pub returns-else-rests : goal.returns-else-rests
returns-else-rests c = record {
  cause = λ t past knows.
      stayed_is t past c.args.who false (ap (λ (u : ℕ). is_back u past c.args.who) (sym knows.target)
      ∙ sym (c.is_back.ensures.back past knows.ledger knows.windows) ∙ c.if-not-is_back.false)
      (ap (λ (u : ℕ). has_newer u past c.args.who) (sym knows.target) ∙ sym (c.has_newer.ensures.newer past knows.windows)
      ∙ c.if-has_newer.false) (sym (c.rests.ensures.rests t past knows) ∙ c.if-rests.false);
}
