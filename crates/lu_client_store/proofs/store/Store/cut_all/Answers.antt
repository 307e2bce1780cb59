use Rattle.std.proofs.Common.{◌∙◌, arith}
use Rattle.lu_client_store.proofs.Acts.{cuts_step}
use Rattle.lu_client_store.proofs.store.Store.cut_all.Goals as goal

pub loop-one-preserved : goal.loop-one-preserved
loop-one-preserved c = cuts_step c.args.layout.now c.args.size c.args.used.now c.loop-one.one-index _ c.loop-one.self c.cut_on.new.self
    (omega (arith, c.loop-one-test.true)) c.in_ok-cut_on.ensures.cut ∙ c.loop-one.invariant
