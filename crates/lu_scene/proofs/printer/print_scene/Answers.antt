use Rattle.std.proofs.Common.{◌++◌, ap, sym, subst, ◌∙◌}
use Rattle.lu_trace.specs.Words.{words}
use Rattle.lu_scene.specs.Print.{head_words, line_words}
use Rattle.lu_scene.specs.Grammar.{IsScene}
use Rattle.lu_scene.proofs.Printed.{said_more, all_said}
use Rattle.lu_scene.proofs.RoundTrip.{text_is_scene}
use Rattle.lu_scene.proofs.printer.print_scene.Goals as goal

pub loop-line-preserved : goal.loop-line-preserved
loop-line-preserved c =
    said_more c.loop-line.out c.put_line.new.out c.push.new.self (head_words c.args.scene.now.head) c.as_slice-line-items.result.now
    c.loop-line.line-index c.line-item.result
    c.loop-line-test.true c.loop-line.invariant
    (c.in_ok-put_line.ensures.put ∙ ap (λ line. c.loop-line.out ++ words (line_words line)) c.line-item.is) c.in_ok-push.ensures.added

pub returns-clause-scenario : goal.returns-clause-scenario
returns-clause-scenario c = λ fits short.
    let scene = c.args.scene.now in
    let whole = all_said c.loop-line.out (head_words scene.head) c.as_slice-line-items.result.now scene.lines c.loop-line.line-index
    c.loop-line-test.false c.as_slice-line-items.ensures.same c.loop-line.invariant in
    subst (λ text. IsScene text scene) (sym whole) (text_is_scene scene fits short)
