-- The map's keys are the cookies.
use Rattle.std.proofs.Common.{◌∙◌, ap, map, is_some, arith}
use Rattle.std.proofs.lemmas.Bool.Decides.{nat_tests}
use Rattle.lu_queue.specs.Queues.{has}
use Rattle.lu_queue.proofs.Keyed.{find_keyed, found_has}
use Rattle.lu_queue.proofs.arrivals.Arrivals.has.Goals as goal

pub returns : goal.returns
returns c =
    c.contains_key.ensures
    ∙ ap is_some (find_keyed _ c.args.cookie.0 (λ key. grind (arith, nat_tests)) c.self.inside.locks.entries c.self.invariant)
    ∙ found_has c.args.cookie.0 (map (λ entry. entry.1) c.self.inside.locks.entries)
    ∙ ap (has c.args.cookie.0) c.self.view_is
