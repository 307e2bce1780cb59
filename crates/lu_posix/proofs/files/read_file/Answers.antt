-- As many bytes are read as the plain machine reads.
use Rattle.std.proofs.Common.{◌-◌, ℕ, min, ap, ◌∙◌}
use Rattle.std.proofs.lemmas.Result.{IfOk-weaker}
use Rattle.lu_posix.specs.Files.{file_run}
use Rattle.lu_posix.proofs.Units.{least, read_shown}
use Rattle.lu_posix.proofs.files.read_file.Goals as goal

pub returns : goal.returns
returns c =
    let count = c.min.ensures ∙ least c.args.count c.saturating_sub-left.result
    ∙ ap (λ (n : ℕ). min c.args.count n) (c.saturating_sub-left.ensures ∙ ap (λ (n : ℕ). n - c.args.position) c.file_size.ensures.size)
    in
    record {
      read =
          IfOk-weaker c.content.result _ _
          (λ bytes is file shows. is ∙ ap (λ (n : ℕ). file_run c.args.layout.now c.args.fid c.args.objects.now c.args.position n) count
          ∙ read_shown c.args.objects.now c.args.fid file shows c.args.layout.now c.args.position c.args.count)
          c.content.ensures.content;
    }
