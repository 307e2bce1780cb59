-- The stripes so far are cut.
use Rattle.lu_spec_machine.specs.Bytes.{FileBytes}
use Rattle.lu_posix.specs.Files.{ShowsFile, Others}
use Rattle.lu_posix.proofs.Written.{cuts}
use Rattle.lu_posix.proofs.files.cut_file.Given as goal

abbrev pub invariant-loop-stripe : goal.invariant-loop-stripe
invariant-loop-stripe l =
    record {
      cut : (file : FileBytes) → ShowsFile l.fn.objects l.fid file → ShowsFile l.objects l.fid (cuts l.layout l.size l.stripe file);
      others : Others l.fid l.fn.objects l.objects;
    }
