-- The bytes so far, and those that are still to come.
use Rattle.std.proofs.Common.{◌≡◌, ◌+◌, ◌++◌, drop}
use Rattle.std.specs.Prelude.{unwrap_or}
use Rattle.std.specs.Option.{option_copied}
use Rattle.lu_spec_client.specs.Patches.{clean}
use Rattle.lu_client_store.specs.Runs.{seen_run}
use Rattle.lu_client_store.proofs.content.add_seen.Given as goal

abbrev pub invariant-loop-k : goal.invariant-loop-k
invariant-loop-k l =
    l.bytes ++ seen_run (unwrap_or (option_copied l.patch) clean) (l.offset + l.k) (drop l.k l.known)
    ≡ l.fn.bytes ++ seen_run (unwrap_or (option_copied l.patch) clean) l.offset l.known
