use Rattle.std.proofs.Common.{◌≡◌, refl, sym, ◌∙◌}
use Rattle.lu_judge_recovery.proofs.Judging.{refused}
use Rattle.lu_judge_recovery.proofs.backs.allows_back.Goals as goal

pub returns-then-not-is_recovering : goal.returns-then-not-is_recovering
returns-then-not-is_recovering c = record {
  decided = λ past windows marks returns. refused (λ back. absurd
      (cc (sym (sym (c.is_recovering.ensures.recovering past windows) ∙ c.if-not-is_recovering.true) ∙ back.recovering)));
}

pub returns-then-has_back : goal.returns-then-has_back
returns-then-has_back c = record {
  decided = λ past windows marks returns.
      refused (λ back. absurd (cc (sym (sym (c.has_back.ensures.back ∙ marks.back c.args.turn.stamp c.args.turn.target c.args.who)
      ∙ c.if-has_back.true) ∙ back.once)));
}

pub returns : goal.returns
returns c = record {
  decided = λ past windows marks returns.
      let came = c.has.ensures.returned ∙ returns c.args.turn.stamp c.args.turn.target c.args.who in (
        λ yes. record {
          recovering = sym (c.is_recovering.ensures.recovering past windows) ∙ c.if-not-is_recovering.false;
          came = sym came ∙ yes;
          once = sym (c.has_back.ensures.back ∙ marks.back c.args.turn.stamp c.args.turn.target c.args.who) ∙ c.if-has_back.false;
        },
        λ back. came ∙ back.came,
      );
}
