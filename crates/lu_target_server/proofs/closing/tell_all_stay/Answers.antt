-- One more is told, and in the end all are.
use Rattle.lu_target_server.specs.Closing.{stays_line}
use Rattle.lu_target_server.proofs.Itemwise.{lines_more, lines_all}
use Rattle.lu_target_server.proofs.closing.tell_all_stay.Goals as goal

pub loop-who-preserved : goal.loop-who-preserved
loop-who-preserved c =
    lines_more (stays_line c.args.gone.now c.args.boot c.args.committed.0) c.as_slice-who-items.result.now c.loop-who.who-index _
    c.loop-who-test.true c.args.turn.now c.loop-who.turn c.tell_stays.new.turn
    c.in_ok-tell_stays.ensures.told c.loop-who.invariant

pub returns : goal.returns
returns c = record {
  told =
      lines_all (stays_line c.args.gone.now c.args.boot c.args.committed.0) c.as_slice-who-items.result.now c.args.lives.now
      c.loop-who.who-index c.as_slice-who-items.ensures.same c.loop-who-test.false c.args.turn.now
      c.loop-who.turn c.loop-who.invariant;
}
