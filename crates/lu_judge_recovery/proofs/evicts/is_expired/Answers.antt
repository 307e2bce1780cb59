use Rattle.std.proofs.Common.{◌≡◌, refl, sym, ◌∙◌}
use Rattle.lu_judge_recovery.proofs.Calling.{called_is}
use Rattle.lu_judge_recovery.proofs.Judging.{refused}
use Rattle.lu_judge_recovery.proofs.evicts.is_expired.Goals as goal

pub returns-then-not-has_ticked : goal.returns-then-not-has_ticked
returns-then-not-has_ticked c = record {
  expired = λ past marks callbacks.
      refused (λ expired. absurd (cc (sym (sym (c.has_ticked.ensures.ticked ∙ marks.ticked c.args.turn.stamp c.args.turn.target)
      ∙ c.if-not-has_ticked.true) ∙ expired.ticks)));
}

pub returns : goal.returns
returns c = record {
  expired = λ past marks callbacks.
      let called = c.was_called.ensures.called ∙ called_is c.args.callbacks.now past c.args.turn.stamp c.args.turn.target c.args.who
      callbacks in (
        λ yes. record {
          ticks = sym (c.has_ticked.ensures.ticked ∙ marks.ticked c.args.turn.stamp c.args.turn.target) ∙ c.if-not-has_ticked.false;
          called = sym called ∙ yes;
        },
        λ expired. called ∙ expired.called,
      );
}
