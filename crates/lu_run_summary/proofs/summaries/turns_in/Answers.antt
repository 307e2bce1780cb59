use Rattle.std.proofs.Common.{◌≡◌, ◌≤◌, ◌+◌, ◌∙◌, sym, ap, arith}
use Rattle.lu_run_summary.specs.Summaries.{turns_after, turns_in}
use Rattle.lu_run_summary.proofs.Turns.{begun, same, all, nothing_before}
use Rattle.lu_run_summary.proofs.summaries.turns_in.Goals as goal
use Rattle.lu_run_summary.proofs.summaries.turns_in.Goals.{then-begins, else-begins}

pub loop-line-init : goal.loop-line-init
loop-line-init c = (nothing_before c.args.lines.now, omega arith)

pub overflow_add-turns : goal.overflow_add-turns
overflow_add-turns c =
    let few : c.loop-line.turns ≤ c.loop-line.line-index = c.loop-line.invariant.1 in
    let below = c.loop-line-test.true in
    omega arith

pub loop-line-preserved : goal.loop-line-preserved
loop-line-preserved c =
    let lines = c.args.lines.now in
    let i = c.loop-line.line-index in
    let line = c.line-item.result in
    let few : c.loop-line.turns ≤ i = c.loop-line.invariant.1 in
    elim c.if-begins.branch [
      | then-begins w ↦
          let e = sym c.begins.ensures.begins ∙ w.if-begins.true in
          let is = w.turns-is in (
            rw is (begun lines i c.loop-line.turns c.loop-line.last line c.loop-line-test.true c.line-item.is c.loop-line.invariant.0 e),
            omega (arith, few, is),
          )
      | else-begins w ↦
          let e = sym c.begins.ensures.begins ∙ w.if-begins.false in
          let is = w.turns-is in (
            rw is (same lines i c.loop-line.turns c.loop-line.last line c.loop-line-test.true c.line-item.is c.loop-line.invariant.0 e),
            omega (arith, few, is),
          )
    ]

pub returns : goal.returns
returns c =
    record {
      count = all c.args.lines.now c.loop-line.turns c.loop-line.last c.loop-line.line-index c.loop-line-test.false
          c.loop-line.auto.line-index-end c.loop-line.invariant.0;
    }
