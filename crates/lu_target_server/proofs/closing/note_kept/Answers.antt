-- One more is told, and in the end all are.
use Rattle.std.proofs.Common.{refl}
use Rattle.lu_trace.specs.declared.entries.Entry.TheVariants as line
use Rattle.lu_spec_entries.specs.Words.{Kept}
use Rattle.lu_target_server.specs.Closing.{kept_line}
use Rattle.lu_target_server.proofs.Itemwise.{lines_more, lines_all}
use Rattle.lu_target_server.proofs.Notes.{noted}
use Rattle.lu_target_server.proofs.closing.note_kept.Goals as goal

pub loop-number-preserved : goal.loop-number-preserved
loop-number-preserved c =
    lines_more kept_line c.as_slice-number-items.result.now c.loop-number.number-index _ c.loop-number-test.true c.args.turn.now
    c.loop-number.turn c.note.new.self
    (noted (Kept _) (line.Kept _) c.loop-number.turn c.note.new.self refl c.in_ok-note.ensures.turn c.in_ok-note.ensures.added)
    c.loop-number.invariant

pub returns : goal.returns
returns c = record {
  told =
      lines_all kept_line c.as_slice-number-items.result.now c.args.numbers.now c.loop-number.number-index
      c.as_slice-number-items.ensures.same c.loop-number-test.false c.args.turn.now
      c.loop-number.turn c.loop-number.invariant;
}
