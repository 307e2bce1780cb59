use Rattle.std.proofs.Common.{sym, subst}
use Rattle.lu_scene.specs.declared.scene.Scene.{Scene}
use Rattle.lu_core.specs.Quiet.{IsBareScene, AsksNoDisk}
use Rattle.lu_core.specs.Played.{SomeRose}
use Rattle.lu_top.specs.Outcomes.{held_by, Tells}
use Rattle.lu_top.specs.declared.status.Status.{Status}
use Rattle.lu_top.specs.declared.scenes.Refusal.TheVariants as refusal
use Rattle.lu_top.proofs.Reading.{that_one, not_bad, limits_of}
use Rattle.lu_top.proofs.Runs.{wrote_storm, disk_failed}
use Rattle.lu_top.proofs.performing.perform_asked.Goals as goal

-- ---- a scenario is performed

pub perform-requires-clause-limits : goal.perform-requires-clause-limits
perform-requires-clause-limits g c = limits_of c.args.performance _ _ c.in-Ok.scene c.in-Ok.ensures.scene

pub returns-in-Ok-clause-storm : goal.returns-in-Ok-clause-storm
returns-in-Ok-clause-storm g c =
    wrote_storm c.args.performance (g.S.Source.left c.args.source.now) (g.S.Source.left c.scene_of.new.source)
    (held_by g.D.Disk.batches g.D.Disk.faults c.perform.new.disks.items)
    (g.K.Sink.holds c.args.sink.now) (g.K.Sink.holds c.perform.new.sink) (g.K.Sink.faults c.args.sink.now)
    (g.K.Sink.faults c.perform.new.sink)
    c.in-Ok.scene c.in-Ok.ensures.scene c.perform.result c.perform.ensures.outcome

pub returns-in-Ok-clause-disk_fault : goal.returns-in-Ok-clause-disk_fault
returns-in-Ok-clause-disk_fault g c =
    disk_failed c.args.performance (g.S.Source.left c.args.source.now) (g.S.Source.left c.scene_of.new.source)
    (held_by g.D.Disk.batches g.D.Disk.faults c.perform.new.disks.items)
    (g.K.Sink.holds c.args.sink.now) (g.K.Sink.holds c.perform.new.sink) (g.K.Sink.faults c.args.sink.now)
    (g.K.Sink.faults c.perform.new.sink)
    c.in-Ok.scene c.in-Ok.ensures.scene c.perform.result c.perform.ensures.outcome

pub returns-in-Ok-clause-done : goal.returns-in-Ok-clause-done
returns-in-Ok-clause-done g c = λ text scene play given is bare quiet calm sound.
    let there = c.scene_of.ensures.only text scene play given is in
    let same = that_one c.scene_of.result c.in-Ok.scene scene refusal.Memory c.in-Ok.is there in
    c.perform.ensures.done (subst IsBareScene same bare) (subst AsksNoDisk same quiet) calm
    (subst (λ (s : Scene). SomeRose s (held_by g.D.Disk.batches g.D.Disk.faults c.perform.new.disks.items) → ⊥) same sound)

-- ---- there is none

pub returns-in-Err-ReadFault-clause-told : goal.returns-in-Err-ReadFault-clause-told
returns-in-Err-ReadFault-clause-told g c =
    subst (λ (answer : Status). Tells (g.K.Sink.holds c.args.sink.now) (g.K.Sink.holds c.tell.new.sink)
    (g.K.Sink.faults c.args.sink.now) (g.K.Sink.faults c.tell.new.sink) answer) (sym c.tell.ensures.status) c.tell.ensures.told

pub returns-in-Err-Bad-clause-performed : goal.returns-in-Err-Bad-clause-performed
returns-in-Err-Bad-clause-performed g c = λ text scene play given is.
    let there = c.scene_of.ensures.only text scene play given is in
    absurd (not_bad c.scene_of.result c.in-Err-Bad.line c.in-Err-Bad.fault scene (rw c.in-Err-Bad.field-0-is at c.in-Err-Bad.is) there)

pub returns-in-Err-Bad-clause-done : goal.returns-in-Err-Bad-clause-done
returns-in-Err-Bad-clause-done g c = λ text scene play given is bare quiet calm sound.
    let there = c.scene_of.ensures.only text scene play given is in
    absurd (not_bad c.scene_of.result c.in-Err-Bad.line c.in-Err-Bad.fault scene (rw c.in-Err-Bad.field-0-is at c.in-Err-Bad.is) there)
