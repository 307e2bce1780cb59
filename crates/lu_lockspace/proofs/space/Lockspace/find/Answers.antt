-- The lock of the cookie is that of its queue.
use Rattle.std.proofs.Common.{◌∙◌, Some, is_some, sym, ap}
use Rattle.std.specs.Option.{option_map}
use Rattle.lu_queue.specs.Queues as queue
use Rattle.lu_lockspace.specs.Spaces.{lock_on}
use Rattle.lu_lockspace.proofs.Places.{lock_at, no_lock, is_found}
use Rattle.lu_lockspace.proofs.space.Lockspace.find.Goals as goal

pub returns-in-Some-clause-lock : goal.returns-in-Some-clause-lock
returns-in-Some-clause-lock c =
    c.lock_in.ensures ∙ ap (λ q. option_map (lock_on c.in-Some.resource) (queue.lock_of c.args.cookie.0 q)) c.in-Some.ensures.queue
    ∙ sym (lock_at c.args.cookie.0 c.args.self.now (Some c.in-Some.resource) c.in-Some.ensures.placed)

pub returns-in-Some-clause-found : goal.returns-in-Some-clause-found
returns-in-Some-clause-found c = ap is_some (returns-in-Some-clause-lock c) ∙ is_found c.args.cookie.0 c.args.self.now

pub returns-in-None-clause-lock : goal.returns-in-None-clause-lock
returns-in-None-clause-lock c = sym (no_lock c.args.cookie.0 c.args.self.now c.in-None.ensures.placed)

pub returns-in-None-clause-found : goal.returns-in-None-clause-found
returns-in-None-clause-found c = ap is_some (returns-in-None-clause-lock c) ∙ is_found c.args.cookie.0 c.args.self.now
