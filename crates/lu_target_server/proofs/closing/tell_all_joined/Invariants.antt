-- What is left of the lines comes to what all come to.
use Rattle.std.proofs.Common.{◌≡◌, drop}
use Rattle.lu_target_server.specs.Closing.{lines, joined_line}
use Rattle.lu_spec_entries.specs.Given.{giving}
use Rattle.lu_target_server.proofs.closing.tell_all_joined.Given as goal

abbrev pub invariant-loop-who : goal.invariant-loop-who
invariant-loop-who l = giving l.turn (lines (joined_line l.boot l.committed.0) (drop l.who-index l.who-items))
    ≡ giving l.initial.turn (lines (joined_line l.boot l.committed.0) l.who-items)
