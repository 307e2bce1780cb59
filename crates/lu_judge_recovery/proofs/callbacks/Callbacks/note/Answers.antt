use Rattle.lu_judge_recovery.proofs.Calling.{noted_callbacks}
use Rattle.lu_judge_recovery.proofs.callbacks.Callbacks.note.Goals as goal

pub returns : goal.returns
returns c = record {
  shows = λ past shown.
      noted_callbacks c.args.self.now c.take-here.new.self (record c.take-here.new.self { by_target = c.insert.new.self }) past
      c.args.turn.stamp c.args.turn.target c.args.entry.now c.step.new.self
      c.take-here.ensures.rest (λ t. c.in_ok-insert.ensures.updates.0 t)
      (c.in_ok-step.ensures.shows past (c.take-here.ensures.shows past shown)) shown;
}
