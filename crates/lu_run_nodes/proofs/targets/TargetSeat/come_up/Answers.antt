-- Over an empty disk it begins its run, and over another it boots.
use Rattle.std.proofs.Common.{Err}
use Rattle.lu_run_nodes.proofs.TargetsComing.{boot_failed, has_booted, has_started, may_repeat, may_stand, spent_told, start_failed}
use Rattle.lu_run_nodes.proofs.targets.TargetSeat.come_up.Goals as goal

pub boot-requires : goal.boot-requires
boot-requires g c =
    let batches = g.D.Disk.batches c.args.disk in
    let faults = g.D.Disk.faults c.args.disk in
    record {
      stands = may_stand _ _ c.self.view_is c.requires.down batches faults (g.S.Service.contents c.in-Ok.service) c.in-Ok.ensures.fresh
          c.requires.begins;
      repeatable = may_repeat _ _ c.self.view_is c.requires.down batches faults c.requires.begins;
    }

pub returns-in-Ok-boot-clause-started : goal.returns-in-Ok-boot-clause-started
returns-in-Ok-boot-clause-started g c = λ head t unstarted are.
    has_started _ _ c.self.view_is c.requires.down (g.D.Disk.batches c.args.disk) (g.D.Disk.faults c.args.disk)
    (g.S.Service.contents c.in-Ok.service) c.in-Ok.ensures.fresh
    c.args.stamp c.in-Ok-boot.target c.in-Ok-boot.step c.in-Ok-boot.ensures.ready.0 c.in-Ok-boot.ensures.ready.1 c.args.first.now
    c.in-Ok-boot.ensures.started
    c.in-Ok-boot.ensures.begun head t unstarted are

pub returns-in-Ok-boot-clause-booted : goal.returns-in-Ok-boot-clause-booted
returns-in-Ok-boot-clause-booted g c =
    has_booted _ _ c.self.view_is c.requires.down (g.D.Disk.batches c.args.disk) (g.D.Disk.faults c.args.disk)
    (g.S.Service.contents c.in-Ok.service) c.in-Ok.ensures.fresh
    c.args.stamp c.in-Ok-boot.target c.in-Ok-boot.step c.in-Ok-boot.ensures.ready.0 c.in-Ok-boot.ensures.ready.1 c.in-Ok-boot.ensures.booted
    c.in-Ok-boot.ensures.stored

pub returns-in-Err-boot-clause-start_failed : goal.returns-in-Err-boot-clause-start_failed
returns-in-Err-boot-clause-start_failed g c = λ step failed.
    start_failed _ _ c.self.view_is c.requires.down (g.D.Disk.batches c.args.disk) (g.D.Disk.faults c.args.disk)
    (g.S.Service.contents c.in-Ok.service) c.in-Ok.ensures.fresh
    c.args.stamp c.in-Err-boot.fault (g.D.Disk.batches c.in-Err-boot.disk) (g.D.Disk.faults c.in-Err-boot.disk) c.in-Err-boot.ensures.failed
    (Err c.from-in-Err-boot.result)
    c.from-in-Err-boot.ensures step failed

pub returns-in-Err-boot-clause-boot_failed : goal.returns-in-Err-boot-clause-boot_failed
returns-in-Err-boot-clause-boot_failed g c = λ step failed.
    boot_failed _ _ c.self.view_is c.requires.down (g.D.Disk.batches c.args.disk) (g.D.Disk.faults c.args.disk)
    (g.S.Service.contents c.in-Ok.service) c.in-Ok.ensures.fresh
    c.args.stamp c.in-Err-boot.fault (g.D.Disk.batches c.in-Err-boot.disk) (g.D.Disk.faults c.in-Err-boot.disk) c.in-Err-boot.ensures.failed
    (Err c.from-in-Err-boot.result)
    c.from-in-Err-boot.ensures step failed

pub returns-in-Err-boot-clause-spent : goal.returns-in-Err-boot-clause-spent
returns-in-Err-boot-clause-spent g c = λ failed.
    c.in-Err-boot.ensures.spent (spent_told (Err c.from-in-Err-boot.result) c.in-Err-boot.fault c.from-in-Err-boot.ensures failed)
