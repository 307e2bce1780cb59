-- What is left of the lines comes to what all come to.
use Rattle.std.proofs.Common.{◌≡◌, drop}
use Rattle.lu_target_server.specs.Closing.{lines, kept_line}
use Rattle.lu_spec_entries.specs.Given.{giving}
use Rattle.lu_target_server.proofs.closing.note_kept.Given as goal

abbrev pub invariant-loop-number : goal.invariant-loop-number
invariant-loop-number l = giving l.turn (lines kept_line (drop l.number-index l.number-items))
    ≡ giving l.initial.turn (lines kept_line l.number-items)
