use Rattle.std.proofs.Common.{◌≡◌, ◌+◌, ◌-◌, ◌++◌, ◌∙◌, [], sym, arith}
use Rattle.lu_spec_bytes.specs.Runs.{found_run}
use Rattle.lu_spec_bytes.proofs.Rising.{found_step}
use Rattle.lu_page.proofs.place_reads.read_nothing.Goals as goal

pub loop-k-preserved : goal.loop-k-preserved
loop-k-preserved g c = rw c.in_ok-push.ensures.items (found_step c.args.count c.loop-k.k (c.args.at + c.loop-k.k)
    (c.args.at + (c.loop-k.k + 1)) [] c.loop-k.into.items (c.args.into.now.items ++ found_run c.args.count [] c.args.at)
    (omega (arith, c.loop-k-test.true)) (omega arith) c.loop-k.invariant)
