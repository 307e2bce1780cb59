use Rattle.std.proofs.Common.{◌∙◌, sym, subst}
use Rattle.lu_spec_machine.specs.Tree.{same_life}
use Rattle.lu_judge_silent.specs.declared.ups.Ups.{Ups}
use Rattle.lu_judge_silent.specs.Tables.{marks_of, calm_at}
use Rattle.lu_judge_silent.specs.Shown.{ShowsUps}
use Rattle.lu_judge_silent.proofs.Lives.{begins, ends, drops, alike_twice}
use Rattle.lu_judge_silent.proofs.Lines.{followed, at_entry, quiet, quiet_else, nothing_taken}
use Rattle.lu_judge_silent.proofs.Moves.{own_ready, own_calm}
use Rattle.lu_judge_silent.proofs.known.Known.follow.Goals as goal

pub returns-in_ok-begin-in-Begin : goal.returns-in_ok-begin-in-Begin
returns-in_ok-begin-in-Begin c = record {
  follows = λ past own ledger shown.
      at_entry _ past c.args.line.now _ c.in-Begin.is
      (followed c.args.self.now c.begin.new.self past _ c.in_ok-begin-in-Begin.ensures.clock shown
      (subst (λ (ups : Ups). ShowsUps ups past) (sym c.in_ok-begin-in-Begin.ensures.ups) shown.ups)
      (λ w. begins c.args.self.now.clock (marks_of c.args.self.now w) (marks_of c.begin.new.self w) w past c.args.line.now.at
      (same_life c.args.who w) c.in-Begin.slot c.in-Begin.call c.is_ready-is_ready.result (own w)
      (λ e. own_ready c.args.who w past c.is_ready-is_ready.result (c.is_ready-is_ready.ensures.ready past shown.ups) e) (shown.lives w)
      (c.in_ok-begin-in-Begin.ensures.moves w)));
}

pub returns-in_ok-learn-in-Told : goal.returns-in_ok-learn-in-Told
returns-in_ok-learn-in-Told c = record {
  follows = λ past own ledger shown.
      at_entry _ past c.args.line.now _ c.in-Told.is
      (followed c.args.self.now c.end.new.self past _ (c.end.ensures.clock ∙ c.in_ok-learn-in-Told.ensures.clock) shown
      (subst (λ (ups : Ups). ShowsUps ups past) (sym (c.end.ensures.ups ∙ c.in_ok-learn-in-Told.ensures.ups)) shown.ups)
      (λ w. ends c.args.self.now.clock (marks_of c.args.self.now w) (marks_of c.end.new.self w) w past c.args.line.now.at
      (same_life c.args.who w) c.in-Told.slot _ c.in-Told.answer
      (calm_at (marks_of c.args.self.now c.args.who) c.in-Told.slot) (own w) (λ e. own_calm c.args.self.now c.args.who w c.in-Told.slot e)
      (shown.lives w)
      (alike_twice (same_life c.args.who w) c.in-Told.slot _ (marks_of c.learn.new.self w) (marks_of c.end.new.self w)
      (c.in_ok-learn-in-Told.ensures.moves w) (c.end.ensures.moves w))));
}

pub returns-in_ok-take-in-Some : goal.returns-in_ok-take-in-Some
returns-in_ok-take-in-Some c = record {
  follows = λ past own ledger shown.
      at_entry _ past c.args.line.now _ c.in-Take.is
      (c.in_ok-take-in-Some.ensures.takes past c.args.line.now.at c.in-Take.number own
      (sym (c.in-Some.ensures.sending ∙ ledger.sendings c.in-Take.number)) shown);
}

pub returns-in-None : goal.returns-in-None
returns-in-None c = record {
  follows = λ past own ledger shown.
      at_entry _ past c.args.line.now _ c.in-Take.is
      (nothing_taken c.args.self.now past c.args.line.now.at c.in-Take.number (c.in-None.ensures.sending ∙ ledger.sendings c.in-Take.number)
      shown);
}

pub returns-in_ok-disturb-in-Drop : goal.returns-in_ok-disturb-in-Drop
returns-in_ok-disturb-in-Drop c = record {
  follows = λ past own ledger shown.
      at_entry _ past c.args.line.now _ c.in-Drop.is
      (followed c.args.self.now c.disturb.new.self past _ c.in_ok-disturb-in-Drop.ensures.clock shown
      (subst (λ (ups : Ups). ShowsUps ups past) (sym c.in_ok-disturb-in-Drop.ensures.ups) shown.ups)
      (λ w. drops c.args.self.now.clock (marks_of c.args.self.now w) (marks_of c.disturb.new.self w) w past c.args.line.now.at
      (same_life c.args.who w) _ _ (own w) (shown.lives w) (c.in_ok-disturb-in-Drop.ensures.moves w)));
}

pub returns-in_default : goal.returns-in_default
returns-in_default c = record {
  follows = λ past own ledger shown.
      quiet c.args.self.now past c.args.line.now (quiet_else c.args.line.now.entry c.in_default.not-Begin c.in_default.not-Told
      c.in_default.not-Take c.in_default.not-Drop) shown;
}
