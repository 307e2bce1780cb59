-- A write in one unit is a put of its stripe's object.
use Rattle.std.proofs.Common.{List, sym, subst}
use Rattle.std.proofs.lemmas.Result.{on_ok_weaker}
use Rattle.lu_base.specs.declared.locks.Resource.{Resource}
use Rattle.lu_spec_machine.specs.Bytes.{write}
use Rattle.lu_spec_machine.specs.Objects.{Object, put_bytes}
use Rattle.lu_service.specs.Contents.{object_in}
use Rattle.lu_posix.specs.Files.{object, ShowsFile, Others}
use Rattle.lu_posix.proofs.Written.{shows_unit, others_with}
use Rattle.lu_posix.proofs.files.write_unit.Goals as goal

pub returns-clause-written : goal.returns-clause-written
returns-clause-written c =
    on_ok_weaker c.put.result
    (λ made file shows. subst (λ (os : List (Resource × Object)). ShowsFile os c.args.fid
    (write c.args.layout.now c.args.position c.args.bytes.now file)) (sym made)
    (shows_unit c.args.layout.now c.args.position c.args.objects.now c.args.fid c.place-stripe.result.0 c.place-stripe.result.1
    c.args.bytes.now file c.requires.unit c.place-stripe.ensures.stripe c.place-stripe.ensures.offset c.put.ensures.sound.0 shows))
    c.put.ensures.put

pub returns-clause-others : goal.returns-clause-others
returns-clause-others c =
    on_ok_weaker c.put.result
    (λ made. subst (λ (os : List (Resource × Object)). Others c.args.fid c.args.objects.now os) (sym made)
    (others_with c.args.objects.now c.args.fid c.place-stripe.result.0
    (put_bytes c.place-stripe.result.1 c.args.bytes.now (object_in c.args.objects.now (object c.args.fid c.place-stripe.result.0)))))
    c.put.ensures.put
