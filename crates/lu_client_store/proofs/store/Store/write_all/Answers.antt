use Rattle.std.proofs.Common.{◌∙◌, arith}
use Rattle.lu_client_store.proofs.Acts.{writes_step}
use Rattle.lu_client_store.proofs.store.Store.write_all.Goals as goal

pub loop-one-preserved : goal.loop-one-preserved
loop-one-preserved c = writes_step c.args.layout.now c.args.position c.args.bytes.now c.args.used.now c.loop-one.one-index _ c.loop-one.self
    c.write_on.new.self (omega (arith, c.loop-one-test.true)) c.in_ok-write_on.ensures.written ∙ c.loop-one.invariant
