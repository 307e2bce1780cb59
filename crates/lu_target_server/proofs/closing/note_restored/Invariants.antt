-- What is left of the lines comes to what all come to.
use Rattle.std.proofs.Common.{◌≡◌, drop}
use Rattle.lu_target_server.specs.Closing.{lines, restore_line}
use Rattle.lu_spec_entries.specs.Given.{giving}
use Rattle.lu_target_server.proofs.closing.note_restored.Given as goal

abbrev pub invariant-loop-lock : goal.invariant-loop-lock
invariant-loop-lock l = giving l.turn (lines restore_line (drop l.lock-index l.lock-items))
    ≡ giving l.initial.turn (lines restore_line l.lock-items)
