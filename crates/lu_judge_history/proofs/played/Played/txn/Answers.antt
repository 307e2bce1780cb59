-- What is lost isn't performed.
use Rattle.std.proofs.Common.{◌≡◌, ℕ, false, sym, subst, ◌∙◌}
use Rattle.std.proofs.lemmas.Result.{on_ok_weaker}
use Rattle.lu_spec_laws.specs.Words.Lives.{is_gone}
use Rattle.lu_spec_laws.specs.Words.Lost.{is_lost}
use Rattle.lu_judge_history.proofs.Playing.{lost_shown}
use Rattle.lu_judge_history.proofs.played.Played.txn.Goals as goal

pub returns-then-has : goal.returns-then-has
returns-then-has c = record {
  shows = λ osts whole past seen said gone lost limited ledger shown.
      lost_shown osts (is_gone whole) (is_lost whole) past c.args.self.now shown c.args.at c.args.who c.args.xid c.args.target c.args.txn
      seen said c.requires.own
      (sym (c.has.ensures.lost whole lost) ∙ c.if-has.true);
}

pub returns-then-target-eq0 : goal.returns-then-target-eq0
returns-then-target-eq0 c = record {
  shows = on_ok_weaker c.execute.result
      (λ is osts whole past seen said gone lost limited ledger shown.
      is osts (is_gone whole) (is_lost whole) past seen said
      (subst (λ (t : ℕ). is_lost whole t c.args.txn.0 ≡ false) c.if-target-eq0.true (sym (c.has.ensures.lost whole lost) ∙ c.if-has.false))
      ledger shown)
      c.execute.ensures.shows;
}

pub returns-else-target-eq0 : goal.returns-else-target-eq0
returns-else-target-eq0 c = record {
  shows = on_ok_weaker c.reach.result
      (λ is osts whole past seen said gone lost limited ledger shown.
      is osts whole past (is_lost whole) c.args.at c.args.txn seen said c.requires.own
      (sym (c.has.ensures.lost whole lost) ∙ c.if-has.false) gone limited ledger shown)
      c.reach.ensures.shows;
}
