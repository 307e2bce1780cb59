-- What is left of the lines comes to what all come to.
use Rattle.std.proofs.Common.{◌≡◌, drop}
use Rattle.lu_target_server.specs.Closing.{lines, up_line}
use Rattle.lu_spec_entries.specs.Given.{giving}
use Rattle.lu_target_server.proofs.booting.say_all_up.Given as goal

abbrev pub invariant-loop-who : goal.invariant-loop-who
invariant-loop-who l = giving l.turn (lines (up_line l.boot) (drop l.who-index l.who-items))
    ≡ giving l.initial.turn (lines (up_line l.boot) l.who-items)
