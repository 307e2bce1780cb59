use Rattle.std.proofs.Common.{sym, subst}
use Rattle.lu_top.specs.Outcomes.{held_by, IsOutcome}
use Rattle.lu_top.specs.declared.status.Status.{Status}
use Rattle.lu_core.proofs.Stated.{all_foreseen}
use Rattle.lu_top.proofs.Runs.{done_of}
use Rattle.lu_top.proofs.performing.perform.Goals as goal

pub returns-in-Ok-clause-done : goal.returns-in-Ok-clause-done
returns-in-Ok-clause-done g c = λ bare quiet calm sound.
    done_of _ c.args.scene.now _ c.in-Ok.played _ _ _ _ c.write.result c.write.ensures.written c.in-Ok.ensures.played calm sound

pub returns-in-Err-Unforeseen-clause-outcome : goal.returns-in-Err-Unforeseen-clause-outcome
returns-in-Err-Unforeseen-clause-outcome g c =
    subst (λ (answer : Status). IsOutcome c.args.performance c.args.scene.now
    (held_by g.D.Disk.batches g.D.Disk.faults c.play.new.disks.items)
    (g.K.Sink.holds c.args.sink.now) (g.K.Sink.holds c.tell.new.sink) (g.K.Sink.faults c.args.sink.now) (g.K.Sink.faults c.tell.new.sink)
    answer)
    (sym c.tell.ensures.status) c.tell.ensures.told

pub returns-in-Err-Unforeseen-clause-done : goal.returns-in-Err-Unforeseen-clause-done
returns-in-Err-Unforeseen-clause-done g c = λ bare quiet calm sound.
    absurd (sound (c.play.ensures.unforeseen (rw c.in-Err-Unforeseen.field-0-is at c.in-Err-Unforeseen.is)
    (all_foreseen c.args.scene.now bare quiet)))
