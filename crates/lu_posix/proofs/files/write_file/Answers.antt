-- One more unit is written.
use Rattle.std.proofs.Common.{◌≡◌, ◌+◌, ◌-◌, ℕ, List, sym, ap, subst, ◌∙◌, take, drop, length, arith, take-add}
use Rattle.std.proofs.lemmas.List.{length-take-le}
use Rattle.lu_spec_machine.specs.Bytes.{FileBytes, write}
use Rattle.lu_posix.specs.Files.{ShowsFile}
use Rattle.lu_posix.proofs.Written.{write_parts, others_after}
use Rattle.lu_posix.proofs.files.write_file.Goals as goal

pub loop-done-preserved : goal.loop-done-preserved
loop-done-preserved c =
    let l = c.args.layout.now in
    let at = c.args.position in
    let bytes = c.args.bytes.now in
    let done = c.loop-done.done in
    let run = c.left_of_unit-run.result in
    let short = c.left_of_unit-run.ensures.within in
    let cut : done + run - done ≡ run = omega arith in
    let count : length (take done bytes) ≡ done = length-take-le done bytes c.loop-done.invariant.within in
    record {
      within = omega (arith, short, c.loop-done.invariant.within);
      written = λ file shows.
          let before : FileBytes = write l at (take done bytes) file in
          let is : write l at (take (done + run) bytes) file ≡ write l (at + done) (take (done + run - done) (drop done bytes)) before =
          ap (λ (bs : List ℕ). write l at bs file) (take-add done run bytes)
          ∙ write_parts l at (take done bytes) (take run (drop done bytes)) file
          ∙ ap (λ (n : ℕ). write l (at + n) (take run (drop done bytes)) before) count
          ∙ ap (λ (n : ℕ). write l (at + done) (take n (drop done bytes)) before) (sym cut) in
          subst (λ (f : FileBytes). ShowsFile c.write_unit.new.objects c.args.fid f) (sym is)
          (c.in_ok-write_unit.ensures.written before (c.loop-done.invariant.written file shows));
      others = others_after c.args.fid c.args.objects.now c.loop-done.objects c.write_unit.new.objects c.loop-done.invariant.others
          c.in_ok-write_unit.ensures.others;
    }
