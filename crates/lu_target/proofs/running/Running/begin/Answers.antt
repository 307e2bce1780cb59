-- The disk failed at a boot, or it was made.
use Rattle.std.proofs.Common.{rules, ◌≢◌, ℕ, [], subst}
use Rattle.lu_base.specs.Faults.{Rose}
use Rattle.lu_target.proofs.Beginning.{stopped_boot, booted_so}
use Rattle.lu_target.proofs.running.Running.begin.Goals as goal

pub returns-in-Err-boot-clause-failed : goal.returns-in-Err-boot-clause-failed
returns-in-Err-boot-clause-failed g c = λ is.
    let failed = c.in-Err-boot.ensures.failed is in
    let some : g.D.Disk.batches c.args.disk ≢ [] = search rules in (
      subst (λ (n : ℕ). Rose n (g.D.Disk.faults c.in-Err-boot.failed.0)) c.in-Ok.ensures.steady failed.0,
      stopped_boot c.args.place g.S.Service.kind (g.S.Service.contents c.args.service) (g.D.Disk.batches c.args.disk)
          (g.D.Disk.batches c.load_disk.new.disk)
          c.args.turn.now c.load_disk.new.turn c.boot.new.turn c.load_disk.ensures.same c.in-Ok.ensures.quiet some failed.1,
    )

pub returns-clause-booted : goal.returns-clause-booted
returns-clause-booted g c = λ some v stands.
    booted_so c.args.place g.S.Service.kind (g.S.Service.contents c.args.service) (g.D.Disk.batches c.args.disk)
    (g.D.Disk.batches c.load_disk.new.disk) c.in-Ok-boot.made.0 c.in-Ok-boot.made.1
    c.args.turn.now c.load_disk.new.turn c.boot.new.turn c.load_disk.ensures.same c.in-Ok.ensures.quiet c.in-Ok-boot.ensures.booted v stands
