use Rattle.std.proofs.Common.{◌≡◌, true, false, ℕ, sym, ap, subst, ◌∙◌}
use Rattle.std.specs.Prelude.{◌==◌}
use Rattle.std.proofs.lemmas.Result.{on_ok_weaker}
use Rattle.lu_spec_machine.specs.Tree.{same_life}
use Rattle.lu_spec_laws.specs.Words.Lost.{is_lost}
use Rattle.lu_spec_laws.specs.Laws.Acts.{standing_count}
use Rattle.lu_judge_acts.specs.Tables.{Counts}
use Rattle.lu_judge_acts.proofs.Counted.{lost_count, standing_one}
use Rattle.lu_judge_acts.proofs.standing.Standing.step.Goals as goal

pub returns-then-has : goal.returns-then-has
returns-then-has c = record {
  shows = λ whole past lost shown t w x.
      let is : is_lost whole c.in-Target.target c.in-Txn.txn.0 ≡ true = sym (c.has.ensures.lost whole lost) ∙ c.if-has.true in
      rw (c.in-Txn.is, c.in-Target.is)
      (subst (λ (n : ℕ). Counts c.args.self.now t w x n)
      (sym (lost_count (is_lost whole) c.in-Target.target t c.in-Txn.txn.0 (same_life c.in-Txn.who w) (c.in-Txn.xid.0 == x)
      (standing_count (is_lost whole) t w x past) is)) (shown t w x));
}

pub returns-else-has : goal.returns-else-has
returns-else-has c = record {
  shows =
      on_ok_weaker c.add.result
      (λ added. λ whole past lost shown t w x.
      let is : is_lost whole c.in-Target.target c.in-Txn.txn.0 ≡ false = sym (c.has.ensures.lost whole lost) ∙ c.if-has.false in
      rw (c.in-Txn.is, c.in-Target.is)
      (subst (λ (n : ℕ). Counts c.add.new.self t w x n)
      (standing_one (is_lost whole) c.in-Target.target t c.in-Txn.txn.0 (same_life c.in-Txn.who w) (c.in-Txn.xid.0 == x)
      (standing_count (is_lost whole) t w x past) is) (added whole past shown t w x)))
      c.add.ensures.added;
}
