use Rattle.std.specs.Prelude.{◌==◌, ◌&&◌}
use Rattle.lu_judge_recovery.specs.Marks.{has_ticked, has_committed, has_taken, has_back}
use Rattle.lu_judge_recovery.proofs.Lines.{marked_here, unmarked}
use Rattle.lu_judge_recovery.proofs.marks.Marks.mark.Goals as goal

pub returns-in_ok-insert-in-Tick : goal.returns-in_ok-insert-in-Tick
returns-in_ok-insert-in-Tick c = record {
  marked = rw c.in-Tick.is
      (record {
        ticked = λ s t. marked_here (c.args.turn.stamp == s && c.args.turn.target == t) _ (has_ticked c.args.self.now s t)
            (c.in_ok-insert-in-Tick.ensures.updates.0 (s, t));
        committed = λ s t. unmarked (c.args.turn.stamp == s && c.args.turn.target == t) (has_committed c.args.self.now s t);
        taken = λ s t. unmarked (c.args.turn.stamp == s && c.args.turn.target == t) (has_taken c.args.self.now s t);
        back = λ s t who. unmarked (c.args.turn.stamp == s && c.args.turn.target == t) (has_back c.args.self.now s t who);
      });
}

pub returns-in_ok-insert-in-Commit : goal.returns-in_ok-insert-in-Commit
returns-in_ok-insert-in-Commit c = record {
  marked = rw c.in-Commit.is
      (record {
        ticked = λ s t. unmarked (c.args.turn.stamp == s && c.args.turn.target == t) (has_ticked c.args.self.now s t);
        committed = λ s t. marked_here (c.args.turn.stamp == s && c.args.turn.target == t) _ (has_committed c.args.self.now s t)
            (c.in_ok-insert-in-Commit.ensures.updates.0 (s, t));
        taken = λ s t. unmarked (c.args.turn.stamp == s && c.args.turn.target == t) (has_taken c.args.self.now s t);
        back = λ s t who. unmarked (c.args.turn.stamp == s && c.args.turn.target == t) (has_back c.args.self.now s t who);
      });
}

pub returns-in_ok-insert-in-Take : goal.returns-in_ok-insert-in-Take
returns-in_ok-insert-in-Take c = record {
  marked = rw c.in-Take.is
      (record {
        ticked = λ s t. unmarked (c.args.turn.stamp == s && c.args.turn.target == t) (has_ticked c.args.self.now s t);
        committed = λ s t. unmarked (c.args.turn.stamp == s && c.args.turn.target == t) (has_committed c.args.self.now s t);
        taken = λ s t. marked_here (c.args.turn.stamp == s && c.args.turn.target == t) _ (has_taken c.args.self.now s t)
            (c.in_ok-insert-in-Take.ensures.updates.0 (s, t));
        back = λ s t who. unmarked (c.args.turn.stamp == s && c.args.turn.target == t) (has_back c.args.self.now s t who);
      });
}

pub returns-in_ok-insert-in-Back : goal.returns-in_ok-insert-in-Back
returns-in_ok-insert-in-Back c = record {
  marked = rw c.in-Back.is
      (record {
        ticked = λ s t. unmarked (c.args.turn.stamp == s && c.args.turn.target == t) (has_ticked c.args.self.now s t);
        committed = λ s t. unmarked (c.args.turn.stamp == s && c.args.turn.target == t) (has_committed c.args.self.now s t);
        taken = λ s t. unmarked (c.args.turn.stamp == s && c.args.turn.target == t) (has_taken c.args.self.now s t);
        back = λ s t who. c.in_ok-insert-in-Back.ensures.updates.0 ((s, t), (who.client, who.life));
      });
}
