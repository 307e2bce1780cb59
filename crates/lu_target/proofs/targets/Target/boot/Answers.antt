-- The disk failed.
use Rattle.lu_target.specs.Targets.{place_of, turn_of}
use Rattle.lu_target.proofs.Beginning.{boot_disk, stops_boot}
use Rattle.lu_target.proofs.targets.Target.boot.Goals as goal

pub returns-in-Err-clause-failed : goal.returns-in-Err-clause-failed
returns-in-Err-clause-failed g c = λ step is.
    let disk = boot_disk c.in-Err.fault c.into_step-in-Err.result step c.boot_fault.result c.boot_fault.ensures.is is in
    let failed = c.in-Err.ensures.failed disk.0 in (
      failed.0,
      stops_boot (place_of c.args.id c.args.expire) g.S.Service.kind (g.S.Service.contents c.args.service) (g.D.Disk.batches c.args.disk)
          (turn_of c.args.id.0 c.args.stamp)
          c.new-turn.result c.begin.new.turn c.into_step-in-Err.result step c.new-turn.ensures.empty c.into_step-in-Err.ensures.step disk.1
          failed.1,
    )
