use Rattle.std.proofs.Common.{◌≡◌, false, true, sym, ap, ◌∙◌, subst}
use Rattle.std.specs.Prelude.{Some, None}
use Rattle.lu_judge_recovery.specs.Turns.{turn_at}
use Rattle.lu_judge_recovery.proofs.Judging.{evict_line, evict_no_slot, evict_no_commit}
use Rattle.lu_judge_recovery.proofs.evicts.allows_evict.Goals as goal

pub returns-then-not-has_slot : goal.returns-then-not-has_slot
returns-then-not-has_slot c = record {
  decided = λ clients past later below known marks callbacks ordered follows fits.
      evict_no_slot c.args.turn.target (turn_at c.args.turn.stamp c.args.turn.target) past later c.args.who c.args.cause
      (sym (c.has_slot.ensures.slot past known.ledger known.windows) ∙ c.if-not-has_slot.true);
}

pub returns-then-not-has_committed : goal.returns-then-not-has_committed
returns-then-not-has_committed c = record {
  decided = λ clients past later below known marks callbacks ordered follows fits.
      evict_no_commit c.args.turn.target (turn_at c.args.turn.stamp c.args.turn.target) past later c.args.who c.args.cause
      (sym (c.has_committed.ensures.committed ∙ marks.committed c.args.turn.stamp c.args.turn.target) ∙ c.if-not-has_committed.true);
}

pub returns-in-Some : goal.returns-in-Some
returns-in-Some c = record {
  decided = λ clients past later below known marks callbacks ordered follows fits.
      evict_line (Some c.in-Some.closing.now) clients c.args.turn.target (turn_at c.args.turn.stamp c.args.turn.target) past later
      c.args.who c.args.cause c.is_decided.result below
      (sym (c.has_slot.ensures.slot past known.ledger known.windows) ∙ c.if-not-has_slot.false)
      (sym (c.has_committed.ensures.committed ∙ marks.committed c.args.turn.stamp c.args.turn.target) ∙ c.if-not-has_committed.false)
      (rw c.in-Some.is at fits) c.is_decided.ensures.decided;
}

pub returns-in-None : goal.returns-in-None
returns-in-None c = record {
  decided = λ clients past later below known marks callbacks ordered follows fits.
      evict_line None clients c.args.turn.target (turn_at c.args.turn.stamp c.args.turn.target) past later c.args.who c.args.cause
      c.is_evicted_by.result below
      (sym (c.has_slot.ensures.slot past known.ledger known.windows) ∙ c.if-not-has_slot.false)
      (sym (c.has_committed.ensures.committed ∙ marks.committed c.args.turn.stamp c.args.turn.target) ∙ c.if-not-has_committed.false)
      (rw c.in-None.is at fits) (c.is_evicted_by.ensures.decided past known.ledger ordered follows marks callbacks);
}
