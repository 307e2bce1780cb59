use Rattle.std.proofs.Common.{◌≡◌, false, true, sym, ◌∙◌, subst}
use Rattle.std.specs.Prelude.{Option}
use Rattle.lu_judge_recovery.specs.Clients.{count_of}
use Rattle.lu_judge_recovery.specs.Failing.{is_failing}
use Rattle.lu_judge_recovery.specs.Closings.{FitsDecided, closing_of}
use Rattle.lu_judge_recovery.specs.Turns.{turn_at}
use Rattle.lu_judge_recovery.specs.declared.closings.Closing.{Closing}
use Rattle.lu_judge_recovery.proofs.Deciding.{fits_failing, fits_sound}
use Rattle.lu_judge_recovery.proofs.judge.Recovery.decided.Goals as goal

pub returns-then-has : goal.returns-then-has
returns-then-has c = record {
  decided = λ past later shown is.
      fits_failing (count_of c.args.self.now.greatest) c.args.turn.target (turn_at c.args.turn.stamp c.args.turn.target) past later
      (sym is ∙ sym c.has.ensures.failing ∙ c.if-has.true);
}

pub returns : goal.returns
returns c = record {
  decided = λ past later shown is.
      let sound : is_failing c.args.self.now.failing c.args.turn.stamp c.args.turn.target ≡ false = sym c.has.ensures.failing
      ∙ c.if-has.false in
      subst (λ (o : Option Closing). FitsDecided o (count_of c.args.self.now.greatest) c.args.turn.target
      (turn_at c.args.turn.stamp c.args.turn.target) past later) (sym c.get.ensures.closing)
      (fits_sound (closing_of c.args.self.now.closings c.args.turn.stamp c.args.turn.target) (count_of c.args.self.now.greatest)
      c.args.turn.target (turn_at c.args.turn.stamp c.args.turn.target) past later
      (sym is ∙ sound) (shown.closings c.args.turn.stamp c.args.turn.target sound));
}
