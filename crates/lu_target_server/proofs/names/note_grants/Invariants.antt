-- What is left of the lines comes to what all come to.
use Rattle.std.proofs.Common.{◌≡◌, drop}
use Rattle.lu_spec_entries.specs.Carried.{Deed}
use Rattle.lu_spec_target.specs.Names.{grant_lines}
use Rattle.lu_spec_entries.specs.Given.{giving}
use Rattle.lu_target_server.proofs.names.note_grants.Given as goal

abbrev pub invariant-loop-lock : goal.invariant-loop-lock
invariant-loop-lock l = (d : Deed) → giving l.turn (grant_lines d (drop l.lock-index l.locks))
    ≡ giving l.initial.turn (grant_lines d l.locks)
