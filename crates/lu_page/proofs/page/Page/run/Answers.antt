use Rattle.std.proofs.Common.{◌≡◌, ◌+◌, ◌-◌, ◌++◌, ◌∙◌, sym, arith}
use Rattle.lu_spec_machine.specs.Places.{inside}
use Rattle.lu_spec_bytes.specs.Runs.{run_at}
use Rattle.lu_spec_bytes.proofs.Rising.{run_ends, run_step}
use Rattle.lu_page.proofs.page.Page.run.Goals as goal

pub returns-in_default : goal.returns-in_default
returns-in_default g c =
    record {
      run = run_ends (c.args.most - c.loop-k.k) (c.args.from + c.loop-k.k) (inside c.args.extent c.args.self.now.here)
          c.loop-k.run.items (run_at c.args.most (inside c.args.extent c.args.self.now.here) c.args.from)
          (sym c.at_inside.ensures.found ∙ c.in_default.is) c.loop-k.invariant;
    }

pub loop-k-preserved : goal.loop-k-preserved
loop-k-preserved g c =
    rw c.in_ok-push.ensures.items (run_step c.args.most c.loop-k.k (c.args.from + c.loop-k.k) (c.args.from + (c.loop-k.k + 1))
    (inside c.args.extent c.args.self.now.here) c.loop-k.run.items c.in-Some.item
    (run_at c.args.most (inside c.args.extent c.args.self.now.here) c.args.from) (omega (arith, c.loop-k-test.true)) (omega arith)
    (sym c.at_inside.ensures.found ∙ c.in-Some.is) c.loop-k.invariant)
