-- One more is told, and in the end all are.
use Rattle.lu_target_server.specs.Closing.{evict_line}
use Rattle.lu_target_server.proofs.Itemwise.{lines_more, lines_all}
use Rattle.lu_target_server.proofs.closing.tell_all_gone.Goals as goal

pub loop-eviction-preserved : goal.loop-eviction-preserved
loop-eviction-preserved c =
    lines_more (evict_line c.args.boot) c.as_slice-eviction-items.result.now c.loop-eviction.eviction-index _ c.loop-eviction-test.true
    c.args.turn.now c.loop-eviction.turn c.tell_gone.new.turn
    c.in_ok-tell_gone.ensures.told c.loop-eviction.invariant

pub returns : goal.returns
returns c = record {
  told =
      lines_all (evict_line c.args.boot) c.as_slice-eviction-items.result.now c.args.evicted.now c.loop-eviction.eviction-index
      c.as_slice-eviction-items.ensures.same c.loop-eviction-test.false c.args.turn.now
      c.loop-eviction.turn c.loop-eviction.invariant;
}
