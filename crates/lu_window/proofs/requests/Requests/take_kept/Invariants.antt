-- What is kept so far, and what is still to come; there is room for all of it.
use Rattle.std.proofs.Common.{◌≡◌, ◌≤◌, ◌+◌, ◌++◌, ℕ, length, map, vec_len, vec_capacity}
use Rattle.lu_spec_target.specs.Windows.{kept_of}
use Rattle.lu_window.specs.Shown.{replayed_of, kept_replay}
use Rattle.lu_window.proofs.requests.Requests.take_kept.Given as goal

abbrev pub invariant-loop-who : goal.invariant-loop-who
invariant-loop-who l =
    record {
      all : map kept_replay l.replays.items ++ kept_of l.kept.keys (map replayed_of l.self-inside.replays)
          ≡ kept_of l.kept.keys (map replayed_of l.initial.self-inside.replays);
      room : vec_len l.replays + length l.self-inside.replays ≤ vec_capacity l.replays;
      places : l.self-inside.alloc ≡ l.initial.self-inside.alloc;
    }

abbrev pub decreases-loop-who : goal.decreases-loop-who
decreases-loop-who l = length l.self-inside.replays
