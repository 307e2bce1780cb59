use Rattle.std.proofs.Common.{◌∙◌}
use Rattle.lu_base.proofs.Paths.{further_more}
use Rattle.lu_base.proofs.text.put_further_names.Goals as goal

pub loop-name-preserved : goal.loop-name-preserved
loop-name-preserved c =
    further_more c.args.out.now c.loop-name.out c.push.new.self c.extend.new.self c.args.names.now c.as_slice.result.now
    c.loop-name.name-index c.name-item.result
    c.loop-name-test.true c.loop-name.invariant (c.as_slice.ensures.same ∙ c.name-item.is) c.in_ok-push.ensures.added
    c.in_ok-extend.ensures.added
