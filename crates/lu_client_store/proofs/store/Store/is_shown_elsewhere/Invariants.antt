-- What is found is what is found among the locks from here on.
use Rattle.std.proofs.Common.{◌≡◌, ◌-◌, length, drop}
use Rattle.std.specs.Vec.{vec_len}
use Rattle.lu_held.specs.declared.locks.Wanted.TheVariants.{Holding}
use Rattle.lu_held.specs.Held.{those}
use Rattle.lu_spec_client.specs.Looks.{shown_elsewhere}
use Rattle.lu_client_store.proofs.store.Store.is_shown_elsewhere.Given as goal

abbrev pub invariant-loop-lock : goal.invariant-loop-lock
invariant-loop-lock l =
    shown_elsewhere l.offset l.self.store (those (Holding l.target l.resource l.offset) l.self.store.held)
    ≡ shown_elsewhere l.offset l.self.store (drop (vec_len l.passed) (those (Holding l.target l.resource l.offset) l.self.store.held))

abbrev pub decreases-loop-lock : goal.decreases-loop-lock
decreases-loop-lock l = length (those (Holding l.target l.resource l.offset) l.self.store.held) - vec_len l.passed
