-- The requests so far, as they are sent again.
use Rattle.std.proofs.Common.{◌≡◌, map, take}
use Rattle.lu_import.specs.Imports.{sent_again}
use Rattle.lu_import.proofs.imports.Import.again.Given as goal

abbrev pub invariant-loop-request : goal.invariant-loop-request
invariant-loop-request l = l.sends ≡ map (sent_again l.self) (take l.request-index l.request-items)
