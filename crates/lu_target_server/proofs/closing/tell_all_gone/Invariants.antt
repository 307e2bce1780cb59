-- What is left of the lines comes to what all come to.
use Rattle.std.proofs.Common.{◌≡◌, drop}
use Rattle.lu_target_server.specs.Closing.{lines, evict_line}
use Rattle.lu_spec_entries.specs.Given.{giving}
use Rattle.lu_target_server.proofs.closing.tell_all_gone.Given as goal

abbrev pub invariant-loop-eviction : goal.invariant-loop-eviction
invariant-loop-eviction l = giving l.turn (lines (evict_line l.boot) (drop l.eviction-index l.eviction-items))
    ≡ giving l.initial.turn (lines (evict_line l.boot) l.eviction-items)
