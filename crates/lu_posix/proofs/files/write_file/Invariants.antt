-- The bytes so far are written.
use Rattle.std.proofs.Common.{◌≤◌, ◌-◌, length, take}
use Rattle.lu_spec_machine.specs.Bytes.{FileBytes, write}
use Rattle.lu_posix.specs.Files.{ShowsFile, Others}
use Rattle.lu_posix.proofs.files.write_file.Given as goal

abbrev pub invariant-loop-done : goal.invariant-loop-done
invariant-loop-done l =
    record {
      within : l.done ≤ length l.bytes;
      written : (file : FileBytes) → ShowsFile l.fn.objects l.fid file
          → ShowsFile l.objects l.fid (write l.layout l.position (take l.done l.bytes) file);
      others : Others l.fid l.fn.objects l.objects;
    }

abbrev pub decreases-loop-done : goal.decreases-loop-done
decreases-loop-done l = length l.bytes - l.done
