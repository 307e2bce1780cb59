use Rattle.std.proofs.Common.{◌≡◌, ℕ, ◌+◌, ◌<◌, ◌≤◌, length, Some}
use Rattle.std.specs.Prelude.{slice_index}
use Rattle.lu_spec_client.specs.Patches.{reads_at}
use Rattle.lu_patch.proofs.patch.Patch.over.Given as goal

abbrev pub invariant-loop-k : goal.invariant-loop-k
invariant-loop-k l =
    record {
      count : length l.into ≡ length l.initial.into;
      reads : (j : ℕ) → j < l.k → Some (slice_index l.into j) ≡ reads_at l.self (l.at + j) (Some (slice_index l.initial.into j));
      rest : (j : ℕ) → l.k ≤ j → slice_index l.into j ≡ slice_index l.initial.into j;
    }
