-- The service has what stands on the disk, and the server of the next boot gathers there.
use Rattle.std.proofs.Common.{List, subst, ◌∙◌, sym}
use Rattle.lu_msg.specs.declared.commits.Batch.{Batch}
use Rattle.lu_target_redo.specs.Shown.{ShowsDiskOf}
use Rattle.lu_target_refines.specs.Journals.{AllRising}
use Rattle.lu_target_server.proofs.Boots.{may_load, all_below, is_booting, where_ok}
use Rattle.lu_target_server.proofs.server.Server.boot_over.Goals as goal

pub load-requires-clause-rising : goal.load-requires-clause-rising
load-requires-clause-rising g c =
    subst (λ (batches : List Batch). AllRising (g.S.Service.contents c.args.service).last batches)
    (sym (c.as_slice.ensures.same ∙ c.requires.loaded))
    (may_load c.args.place g.S.Service.kind (g.S.Service.contents c.args.service) (g.D.Disk.batches c.args.disk) c.requires.stands.0
    c.requires.stands.1)

pub boot-requires-clause-below : goal.boot-requires-clause-below
boot-requires-clause-below g c =
    all_below c.args.place g.S.Service.kind (g.S.Service.contents c.args.service) (g.D.Disk.batches c.args.disk) c.requires.stands.0
    c.requires.stands.1

pub returns-in-Ok-clause-booting : goal.returns-in-Ok-clause-booting
returns-in-Ok-clause-booting g c = λ v stands.
    is_booting c.args.place g.S.Service.kind (g.S.Service.contents c.args.service) (g.S.Service.contents c.load.new.service)
    (g.D.Disk.batches c.args.disk) c.boot_number-boot.result c.in-Ok.store c.over.result
    v stands
    (subst (λ (batches : List Batch). ShowsDiskOf g.S.Service.kind batches (g.S.Service.contents c.args.service)
    (g.S.Service.contents c.load.new.service)) (c.as_slice.ensures.same ∙ c.requires.loaded)
    (where_ok c.load.result c.is_err.result c.is_err.ensures.value c.if-is_err.false c.load.ensures.disk))
    c.in-Ok.ensures.booted c.boot_number-boot.ensures.recovering c.over.ensures.over
