-- What the search finds is what it finds from here on.
use Rattle.std.proofs.Common.{◌≡◌, ◌+◌, ◌-◌, []}
use Rattle.std.specs.Prelude.{unwrap_or}
use Rattle.std.specs.Option.{option_copied}
use Rattle.lu_spec_client.specs.Patches.{clean}
use Rattle.lu_spec_client.specs.Looks.{first_missing}
use Rattle.lu_client_store.proofs.pages.first_missing.Given as goal

abbrev pub invariant-loop-k : goal.invariant-loop-k
invariant-loop-k l =
    first_missing (unwrap_or (option_copied l.known) []) (unwrap_or (option_copied l.patch) clean).dirty l.first l.count
    ≡ first_missing (unwrap_or (option_copied l.known) []) (unwrap_or (option_copied l.patch) clean).dirty (l.first + l.k) (l.count - l.k)
