-- The request isn't among those before.
use Rattle.std.proofs.Common.{◌≡◌, drop}
use Rattle.lu_import.specs.InFlights.{request_of}
use Rattle.lu_import.proofs.requests.request_of.Given as goal

abbrev pub invariant-loop-request : goal.invariant-loop-request
invariant-loop-request l = request_of l.xid.0 l.requests ≡ request_of l.xid.0 (drop l.request-index l.requests)
