-- One more is told, and in the end all are.
use Rattle.lu_target_server.specs.Closing.{up_line}
use Rattle.lu_target_server.proofs.Itemwise.{lines_more, lines_all}
use Rattle.lu_target_server.proofs.booting.say_all_up.Goals as goal

pub loop-who-preserved : goal.loop-who-preserved
loop-who-preserved c =
    lines_more (up_line c.args.boot) c.as_slice-who-items.result.now c.loop-who.who-index _ c.loop-who-test.true c.args.turn.now
    c.loop-who.turn c.say_up.new.turn
    c.in_ok-say_up.ensures.said c.loop-who.invariant

pub returns : goal.returns
returns c = record {
  told =
      lines_all (up_line c.args.boot) c.as_slice-who-items.result.now c.args.lives.now c.loop-who.who-index
      c.as_slice-who-items.ensures.same c.loop-who-test.false c.args.turn.now
      c.loop-who.turn c.loop-who.invariant;
}
