-- What is left of the lines comes to what all come to.
use Rattle.std.proofs.Common.{◌≡◌, drop}
use Rattle.lu_target_server.specs.Closing.{lines, stays_line}
use Rattle.lu_spec_entries.specs.Given.{giving}
use Rattle.lu_target_server.proofs.closing.tell_all_stay.Given as goal

abbrev pub invariant-loop-who : goal.invariant-loop-who
invariant-loop-who l = giving l.turn (lines (stays_line l.gone l.boot l.committed.0) (drop l.who-index l.who-items))
    ≡ giving l.initial.turn (lines (stays_line l.gone l.boot l.committed.0) l.who-items)
