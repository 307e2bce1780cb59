-- One more is told, and in the end all are.
use Rattle.std.proofs.Common.{refl}
use Rattle.lu_trace.specs.declared.entries.Entry.TheVariants as line
use Rattle.lu_spec_entries.specs.Words.{Restore}
use Rattle.lu_target_server.specs.Closing.{restore_line}
use Rattle.lu_target_server.proofs.Itemwise.{lines_more, lines_all}
use Rattle.lu_target_server.proofs.Notes.{noted}
use Rattle.lu_target_server.proofs.closing.note_restored.Goals as goal

pub loop-lock-preserved : goal.loop-lock-preserved
loop-lock-preserved c =
    lines_more restore_line c.as_slice-lock-items.result.now c.loop-lock.lock-index _ c.loop-lock-test.true c.args.turn.now c.loop-lock.turn
    c.note.new.self
    (noted (Restore _) (line.Restore _) c.loop-lock.turn c.note.new.self refl c.in_ok-note.ensures.turn c.in_ok-note.ensures.added)
    c.loop-lock.invariant

pub returns : goal.returns
returns c = record {
  told =
      lines_all restore_line c.as_slice-lock-items.result.now c.args.locks.now c.loop-lock.lock-index c.as_slice-lock-items.ensures.same
      c.loop-lock-test.false c.args.turn.now
      c.loop-lock.turn c.loop-lock.invariant;
}
