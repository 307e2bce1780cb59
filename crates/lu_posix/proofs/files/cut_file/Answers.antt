-- One more stripe is cut.
use Rattle.std.proofs.Common.{◌≡◌, ◌+◌, ℕ, List, sym, ap, subst, ◌∙◌}
use Rattle.lu_base.specs.declared.locks.Resource.{Resource}
use Rattle.lu_layout.specs.Raid0.{below_of}
use Rattle.lu_spec_machine.specs.Bytes.{FileBytes}
use Rattle.lu_spec_machine.specs.Objects.{Object, cut_bytes}
use Rattle.lu_service.specs.Contents.{object_in, with_object}
use Rattle.lu_posix.specs.Files.{object, ShowsFile, Others}
use Rattle.lu_posix.proofs.Written.{shows_piece, others_with, others_after, cuts, cuts_more}
use Rattle.lu_posix.proofs.files.cut_file.Goals as goal

pub loop-stripe-preserved : goal.loop-stripe-preserved
loop-stripe-preserved c =
    let fid = c.args.fid in
    let i = c.loop-stripe.stripe in
    let before = c.loop-stripe.objects in
    let r = object fid i in
    let n = below_of c.args.layout.now i c.args.size in
    let made : c.cut.new.self ≡ with_object r (cut_bytes n (object_in before r)) before =
    c.in_ok-cut.ensures.cut ∙ ap (λ (k : ℕ). with_object r (cut_bytes k (object_in before r)) before) c.below-end.ensures.value in
    record {
      cut = λ file shows.
          subst (λ (os : List (Resource × Object)). ShowsFile os fid (cuts c.args.layout.now c.args.size (i + 1) file)) (sym made)
          (subst (λ (f : FileBytes). ShowsFile (with_object r (cut_bytes n (object_in before r)) before) fid f)
          (sym (cuts_more c.args.layout.now c.args.size i file))
          (shows_piece (cut_bytes n) before fid i (cuts c.args.layout.now c.args.size i file) (c.loop-stripe.invariant.cut file shows)));
      others =
          others_after fid c.args.objects.now before c.cut.new.self c.loop-stripe.invariant.others
          (subst (λ (os : List (Resource × Object)). Others fid before os) (sym made)
          (others_with before fid i (cut_bytes n (object_in before r))));
    }
