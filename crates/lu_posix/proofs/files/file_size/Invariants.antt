-- The sizes of the stripes so far.
use Rattle.std.proofs.Common.{◌≡◌, ◌≤◌, ◌^◌, take, length}
use Rattle.std.specs.Prelude.{All}
use Rattle.lu_posix.specs.Files.{sizes_in}
use Rattle.lu_posix.proofs.files.file_size.Given as goal

abbrev pub invariant-loop-stripe : goal.invariant-loop-stripe
invariant-loop-stripe l =
    record {
      room : length l.sizes ≡ 8;
      filled : take l.stripe l.sizes ≡ sizes_in l.objects l.fid l.stripe;
      fits : All (λ n. n ≤ 2 ^ 40) l.sizes;
    }
