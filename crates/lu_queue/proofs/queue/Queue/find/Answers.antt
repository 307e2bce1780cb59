-- A lock that is granted, or else one that waits.
use Rattle.std.proofs.Common.{rules, ◌≡◌, ◌==◌, Some, None, find, subst}
use Rattle.std.specs.Option.{option_copied}
use Rattle.lu_queue.specs.Queues.{QueueState, lock_of}
use Rattle.lu_queue.proofs.Lists.{found_first, found_next}
use Rattle.lu_queue.proofs.queue.Queue.find.Goals as goal

pub returns-in-Some-clause-lock : goal.returns-in-Some-clause-lock
returns-in-Some-clause-lock c =
    let queue : QueueState = record { granted = c.self.inside.granted; waiting = c.self.inside.waiting } in
    let h : Some c.in-Some.lock.now ≡ find (λ l. l.cookie.0 == c.args.cookie.0) queue.granted = search rules in
    subst (λ q. Some c.in-Some.lock.now ≡ lock_of c.args.cookie.0 q) c.self.view_is (found_first c.args.cookie.0 queue c.in-Some.lock.now h)

pub returns-in-None-clause-lock : goal.returns-in-None-clause-lock
returns-in-None-clause-lock c =
    let queue : QueueState = record { granted = c.self.inside.granted; waiting = c.self.inside.waiting } in
    let none : None ≡ find (λ l. l.cookie.0 == c.args.cookie.0) queue.granted = search rules in
    let h : option_copied c.find-in-None.result ≡ find (λ l. l.cookie.0 == c.args.cookie.0) queue.waiting = search rules in
    subst (λ q. option_copied c.find-in-None.result ≡ lock_of c.args.cookie.0 q) c.self.view_is
    (found_next c.args.cookie.0 queue (option_copied c.find-in-None.result) none h)
