use Rattle.std.proofs.Common.{◌≡◌, sym, ◌∙◌}
use Rattle.std.specs.Prelude.{false}
use Rattle.lu_spec_laws.specs.Words.Lost.{is_lost}
use Rattle.lu_spec_laws.specs.Laws.Acts.{acted, made}
use Rattle.lu_judge_acts.specs.Tables.{acted_at, made_at}
use Rattle.lu_judge_acts.proofs.Executing.{key_put, stands_put}
use Rattle.lu_judge_acts.proofs.executed.Executed.step.Goals as goal

pub returns-in_ok-insert-in-Act : goal.returns-in_ok-insert-in-Act
returns-in_ok-insert-in-Act c = record {
  shows = λ whole past lost shown. record {
    acted = λ turn who x.
        rw c.in-Act.is
        (key_put (acted_at c.args.self.now) (acted_at (record { acted = c.insert.new.self; made = c.args.self.now.made })) (acted past)
        c.args.line.now.at c.in-Act.who c.in-Act.xid.0
        (sym c.same_node.ensures ∙ c.if-not-same_node.false) (λ s who x. c.in_ok-insert-in-Act.ensures.updates.0
        (s, ((who.client, who.life), x))) shown.acted turn who x);
    made = λ turn who x. rw c.in-Act.is (shown.made turn who x);
  };
}

pub returns-in_ok-insert-in-Txn : goal.returns-in_ok-insert-in-Txn
returns-in_ok-insert-in-Txn c = record {
  shows = λ whole past lost shown.
      let is : is_lost whole 0 c.in-Txn.txn.0 ≡ false = sym (c.has.ensures.lost whole lost) ∙ c.if-has.false in
      record {
        acted = λ turn who x. rw c.in-Txn.is (shown.acted turn who x);
        made = λ turn who x.
            rw c.in-Txn.is
            (stands_put _ (is_lost whole 0 c.in-Txn.txn.0) (made (is_lost whole) past turn who x) _ is
            (key_put (made_at c.args.self.now) (made_at (record { acted = c.args.self.now.acted; made = c.insert-in-Txn.new.self }))
            (made (is_lost whole) past) c.args.line.now.at c.in-Txn.who c.in-Txn.xid.0
            (sym c.same_node.ensures ∙ c.if-not-same_node.false)
            (λ s who x. c.in_ok-insert-in-Txn.ensures.updates.0 (s, ((who.client, who.life), x))) shown.made turn who x));
      };
}
