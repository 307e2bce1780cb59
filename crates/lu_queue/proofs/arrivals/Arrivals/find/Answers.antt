-- The map's keys are the cookies.
use Rattle.std.proofs.Common.{◌==◌, ◌∙◌, ap, find, arith}
use Rattle.std.proofs.lemmas.Bool.Decides.{nat_tests}
use Rattle.lu_queue.proofs.Keyed.{find_keyed}
use Rattle.lu_queue.proofs.arrivals.Arrivals.find.Goals as goal

pub returns : goal.returns
returns c =
    c.get.ensures.value
    ∙ find_keyed _ c.args.cookie.0 (λ key. grind (arith, nat_tests)) c.self.inside.locks.entries c.self.invariant
    ∙ ap (find (λ lock. lock.cookie.0 == c.args.cookie.0)) c.self.view_is
