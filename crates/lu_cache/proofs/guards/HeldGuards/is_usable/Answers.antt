-- The lock of that name, of which there is one at most.
use Rattle.lu_cache.proofs.Guarding.{usable_held, usable_none}
use Rattle.lu_cache.proofs.guards.HeldGuards.is_usable.Goals as goal

pub returns-in-Some : goal.returns-in-Some
returns-in-Some c = record {
  usable = usable_held c.args.cookie c.args.self.now.locks c.in-Some.held.now c.held.ensures.sound
      c.in-Some.ensures.held;
}

pub returns-in-None : goal.returns-in-None
returns-in-None c = record { usable = usable_none c.args.cookie c.args.self.now.locks c.in-None.ensures.held }
