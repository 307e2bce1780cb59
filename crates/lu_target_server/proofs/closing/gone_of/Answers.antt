-- One life more, and in the end all.
use Rattle.lu_target_server.specs.Closing.{gone_in}
use Rattle.lu_target_server.proofs.Itemwise.{made_more, made_all, gone_more}
use Rattle.lu_target_server.proofs.closing.gone_of.Goals as goal

pub loop-eviction-preserved : goal.loop-eviction-preserved
loop-eviction-preserved c =
    made_more gone_in (λ e. e.who) gone_more c.as_slice-eviction-items.result.now c.loop-eviction.eviction-index _ c.loop-eviction-test.true
    c.loop-eviction.gone c.push.new.self
    c.loop-eviction.invariant c.in_ok-push.ensures.added

pub returns : goal.returns
returns c = record {
  gone =
      made_all gone_in (λ e. e.who) gone_more c.as_slice-eviction-items.result.now c.args.evicted.now c.loop-eviction.eviction-index
      c.as_slice-eviction-items.ensures.same c.loop-eviction-test.false
      c.loop-eviction.gone c.loop-eviction.invariant;
}
