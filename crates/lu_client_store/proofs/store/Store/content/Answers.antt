use Rattle.std.proofs.Common.{arith}
use Rattle.lu_client_store.proofs.Contents.{content_more}
use Rattle.lu_client_store.proofs.store.Store.content.Goals as goal

pub loop-done-preserved : goal.loop-done-preserved
loop-done-preserved c = (
  omega (arith, c.left_of_unit-run.ensures.within, c.loop-done-test.true, c.loop-done.invariant.0),
  content_more c.args.layout.now c.args.fid c.args.self.now.store c.args.position c.loop-done.done c.left_of_unit-run.result
      c.loop-done.bytes c.add_unit.new.bytes c.loop-done.invariant.1 c.in_ok-add_unit.ensures.added,
)
