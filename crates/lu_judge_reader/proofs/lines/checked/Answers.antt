-- The line is printed again, and what is printed is compared with the text.
use Rattle.std.proofs.Common.{sym, ◌∙◌}
use Rattle.lu_judge_reader.proofs.Alls.{some_is}
use Rattle.lu_judge_reader.proofs.LinesRead.{same_text}
use Rattle.lu_judge_reader.proofs.lines.checked.Goals as goal

pub returns-in-Some-clause-same : goal.returns-in-Some-clause-same
returns-in-Some-clause-same c =
    let held = c.taken.ensures.line c.args.line c.in_ok-trace.ensures.alone in
    let same = c.are_same.ensures.same.0 c.if-not-are_same.false in (
      some_is c.in-Some.line c.args.line (sym c.in-Some.is ∙ held),
      same_text c.args.line c.args.text.now c.in_ok-shown.shown c.in_ok-wanted.wanted c.in_ok-trace.trace c.in_ok-trace.ensures.alone
          c.in_ok-shown.ensures.text c.in_ok-wanted.ensures.framed
          (sym c.as_slice.ensures.same ∙ same ∙ c.as_slice-2.ensures.same),
    )

pub returns-clause-other : goal.returns-clause-other
returns-clause-other c = let held = c.taken.ensures.line c.args.line c.in_ok-trace.ensures.alone in absurd (cc (held, c.in-None.is))
