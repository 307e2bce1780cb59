use Rattle.lu_judge_recovery.specs.Callbacks.{target_of}
use Rattle.lu_judge_recovery.proofs.Calling.{taken_shows, new_shows}
use Rattle.lu_judge_recovery.proofs.callbacks.Callbacks.take.Goals as goal

pub returns-in-Some-clause-shows : goal.returns-in-Some-clause-shows
returns-in-Some-clause-shows c = λ past shown. taken_shows (target_of c.args.self.now c.args.target) c.in-Some.here c.args.target past
    c.in-Some.ensures.value (shown c.args.target)

pub returns-in-None-clause-shows : goal.returns-in-None-clause-shows
returns-in-None-clause-shows c = λ past shown.
    new_shows (target_of c.args.self.now c.args.target) c.new.result c.args.target past c.in-None.ensures.value c.new.ensures.held
    c.new.ensures.called (shown c.args.target)
