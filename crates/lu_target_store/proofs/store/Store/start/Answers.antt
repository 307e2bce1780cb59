-- The first batch is on the disk.
use Rattle.std.proofs.Common.{rules}
use Rattle.lu_target_store.proofs.Begins.{begun, begun_stored}
use Rattle.lu_target_store.proofs.store.Store.start.Goals as goal

pub returns-in-Ok-write-clause-started : goal.returns-in-Ok-write-clause-started
returns-in-Ok-write-clause-started g c =
    λ setting clients lives. begun setting clients c.args.first.now c.in-Ok.journal c.write.new.journal c.new.result
    (g.D.Disk.batches c.args.disk) _ _ lives
    (search rules) (c.in-Ok-write.ensures.committed) c.requires.empty (c.in-Ok-write.ensures.stored) c.new.ensures.none
    (c.in-Ok-write.ensures.sound)

pub returns-in-Ok-write-clause-stored : goal.returns-in-Ok-write-clause-stored
returns-in-Ok-write-clause-stored g c =
    λ clients lives. begun_stored clients c.args.first.now c.in-Ok.journal (g.D.Disk.batches c.args.disk) _ lives (search rules)
    c.requires.empty (c.in-Ok-write.ensures.stored)
