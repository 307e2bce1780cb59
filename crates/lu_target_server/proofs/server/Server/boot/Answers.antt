-- What the server of the next boot did as it woke is what the boot made of the disk.
use Rattle.std.proofs.Common.{◌≡◌, Err, refl, ap, ◌∙◌}
use Rattle.lu_target_server.specs.declared.faults.TurnFault.TheVariants as fault
use Rattle.lu_target_server.proofs.Boots.{boot_passes, boot_stops, boot_batches, rose_as}
use Rattle.lu_target_server.proofs.server.Server.boot.Goals as goal

pub returns-in-Ok-clause-booted : goal.returns-in-Ok-clause-booted
returns-in-Ok-clause-booted g c =
    boot_passes c.args.place g.S.Service.kind (g.S.Service.contents c.args.service) (g.D.Disk.batches c.args.disk) c.in_ok-server.server
    c.args.turn.now c.boot_over.new.turn c.wake.new.turn
    c.in_ok-server.ensures.booting c.in_ok-server.ensures.quiet c.wake.new.self c.in-Ok.left c.in-Ok.ensures.passes

pub returns-in-Ok-clause-stored : goal.returns-in-Ok-clause-stored
returns-in-Ok-clause-stored g c =
    boot_batches c.args.place g.S.Service.kind (g.S.Service.contents c.args.service) (g.D.Disk.batches c.args.disk) c.in_ok-server.server
    c.args.turn.now c.boot_over.new.turn c.wake.new.turn
    c.in_ok-server.ensures.booting c.in_ok-server.ensures.quiet c.in_ok-server.server.store.batches c.wake.new.self.store.batches
    c.wake.new.self.store.batches
    c.in_ok-server.ensures.stored refl c.wake.ensures.batches

pub returns-in-Err-clause-failed : goal.returns-in-Err-clause-failed
returns-in-Err-clause-failed g c = λ is.
    let disk : c.in-Err.fault ≡ fault.Disk = cc in
    let failed = c.wake.ensures.failed (c.in-Err.is ∙ ap Err disk) in (
      rose_as c.in_ok-server.server.store.faults c.wake.new.self.store.faults (g.D.Disk.faults c.args.disk)
          (g.D.Disk.faults c.into_disk.result) c.in_ok-server.ensures.steady c.into_disk.ensures.faults failed.0,
      (
        2,
        boot_stops c.args.place g.S.Service.kind (g.S.Service.contents c.args.service) (g.D.Disk.batches c.args.disk) c.in_ok-server.server
            c.args.turn.now c.boot_over.new.turn c.wake.new.turn
            c.in_ok-server.ensures.booting c.in_ok-server.ensures.quiet failed.1,
      ),
    )

pub returns-in-Err-clause-batches : goal.returns-in-Err-clause-batches
returns-in-Err-clause-batches g c =
    boot_batches c.args.place g.S.Service.kind (g.S.Service.contents c.args.service) (g.D.Disk.batches c.args.disk) c.in_ok-server.server
    c.args.turn.now c.boot_over.new.turn c.wake.new.turn
    c.in_ok-server.ensures.booting c.in_ok-server.ensures.quiet c.in_ok-server.server.store.batches c.wake.new.self.store.batches
    (g.D.Disk.batches c.into_disk.result)
    c.in_ok-server.ensures.stored c.into_disk.ensures.batches c.wake.ensures.batches
