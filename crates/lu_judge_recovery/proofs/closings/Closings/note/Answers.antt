use Rattle.std.proofs.Common.{◌≡◌, sym, ◌∙◌}
use Rattle.lu_judge_recovery.proofs.Closed.{noted_closings, unclosed_closings}
use Rattle.lu_judge_recovery.proofs.Lines.{put_back}
use Rattle.lu_judge_recovery.proofs.closings.Closings.note.Goals as goal

pub returns-in_ok-insert-in-Some : goal.returns-in_ok-insert-in-Some
returns-in_ok-insert-in-Some c = record {
  shows = λ failing clients past goes shown.
      noted_closings c.args.self.now (record c.args.self.now { by_turn = c.insert.new.self }) failing clients past c.args.turn.stamp
      c.args.turn.target c.args.entry.now
      _ c.note.new.self goes (sym c.in-Some.ensures.value) c.in_ok-note-in-Some.ensures.noted
      (λ s t. put_back _ _ _ _ _ (c.in_ok-insert-in-Some.ensures.updates.0 (s, t)) (c.remove.ensures.updates.0 (s, t))) shown;
}

pub returns-in-None : goal.returns-in-None
returns-in-None c = record {
  shows = λ failing clients past goes shown.
      unclosed_closings c.args.self.now (record c.args.self.now { by_turn = c.remove.new.self }) failing clients past c.args.turn.stamp
      c.args.turn.target c.args.entry.now
      goes (sym c.in-None.ensures.value) (λ s t. c.remove.ensures.updates.0 (s, t)) shown;
}
