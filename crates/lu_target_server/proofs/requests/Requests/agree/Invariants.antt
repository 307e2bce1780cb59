-- If those that are left agree, all do.
use Rattle.std.proofs.Common.{◌≡◌, true, drop}
use Rattle.std.specs.Prelude.{All}
use Rattle.lu_spec_target.specs.Locks.{same_request}
use Rattle.lu_target_server.proofs.requests.Requests.agree.Given as goal

abbrev pub invariant-loop-other : goal.invariant-loop-other
invariant-loop-other l =
    All (λ q. same_request q l.request ≡ true → q.tag ≡ l.request.tag) (drop l.other-index l.other-items)
    → All (λ q. same_request q l.request ≡ true → q.tag ≡ l.request.tag) l.other-items
