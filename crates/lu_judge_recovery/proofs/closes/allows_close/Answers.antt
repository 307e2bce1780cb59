use Rattle.std.proofs.Common.{◌≡◌, true, false, refl, sym, ◌∙◌, subst}
use Rattle.std.specs.Prelude.{List}
use Rattle.std.proofs.lemmas.Result.{IfOk-weaker}
use Rattle.lu_base.specs.declared.ids.Who.{Who}
use Rattle.lu_spec_machine.specs.Footprint.{Every}
use Rattle.lu_spec_laws.specs.Words.Slots.{slots}
use Rattle.lu_judge_recovery.specs.Clients.{count_of}
use Rattle.lu_judge_recovery.specs.Turns.{turn_at}
use Rattle.lu_judge_recovery.proofs.Judging.{close_shut, close_away, close_failing, close_followed, lives_back}
use Rattle.lu_judge_recovery.proofs.closes.allows_close.Goals as goal

pub returns-then-not-is_recovering : goal.returns-then-not-is_recovering
returns-then-not-is_recovering c = record {
  decided = λ past ledger windows marks order fails.
      close_shut (count_of c.args.greatest) c.args.turn.target past (turn_at c.args.turn.stamp c.args.turn.target) c.args.later.now
      (sym (c.is_recovering.ensures.recovering past windows) ∙ c.if-not-is_recovering.true);
}

pub returns-then-not-are_back : goal.returns-then-not-are_back
returns-then-not-are_back c = record {
  decided = λ past ledger windows marks order fails.
      let back = lives_back (count_of c.args.greatest) c.args.turn.target past (turn_at c.args.turn.stamp c.args.turn.target) _ _
      (c.as_slice.ensures.same ∙ c.in_ok-lives.ensures.slots past ledger windows)
      (c.are_back.ensures.back past ledger windows marks) in
      close_away (count_of c.args.greatest) c.args.turn.target past (turn_at c.args.turn.stamp c.args.turn.target) c.args.later.now
      (λ all. absurd (cc (sym c.if-not-are_back.true ∙ back.1 all)));
}

pub returns-then-has : goal.returns-then-has
returns-then-has c = record {
  decided = λ past ledger windows marks order fails.
      let back = lives_back (count_of c.args.greatest) c.args.turn.target past (turn_at c.args.turn.stamp c.args.turn.target) _ _
      (c.as_slice.ensures.same ∙ c.in_ok-lives.ensures.slots past ledger windows)
      (c.are_back.ensures.back past ledger windows marks) in
      close_failing (count_of c.args.greatest) c.args.turn.target past (turn_at c.args.turn.stamp c.args.turn.target) c.args.later.now
      (sym (c.is_recovering.ensures.recovering past windows) ∙ c.if-not-is_recovering.false) (back.0 c.if-not-are_back.false)
      (sym fails ∙ sym c.has.ensures.failing ∙ c.if-has.true);
}

pub returns : goal.returns
returns c = record {
  decided = IfOk-weaker c.follows.result _ _
      (λ holds decides past ledger windows marks order fails.
      let back = lives_back (count_of c.args.greatest) c.args.turn.target past (turn_at c.args.turn.stamp c.args.turn.target) _ _
      (c.as_slice.ensures.same ∙ c.in_ok-lives.ensures.slots past ledger windows)
      (c.are_back.ensures.back past ledger windows marks) in
      close_followed (count_of c.args.greatest) c.args.turn.target past (turn_at c.args.turn.stamp c.args.turn.target) c.args.later.now
      holds
      (sym (c.is_recovering.ensures.recovering past windows) ∙ c.if-not-is_recovering.false) (back.0 c.if-not-are_back.false)
      (sym fails ∙ sym c.has.ensures.failing ∙ c.if-has.false)
      (decides (count_of c.args.greatest) past ledger windows order
      (c.as_slice-2.ensures.same ∙ c.in_ok-lives.ensures.slots past ledger windows)))
      c.follows.ensures.follows;
}
