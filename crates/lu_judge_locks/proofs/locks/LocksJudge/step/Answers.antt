use Rattle.std.proofs.Common.{rules, ◌≡◌, ◌<◌, List, ◌∷◌, ◌++◌, length, ap, arith}
use Rattle.std.specs.Prelude.{reverse}
use Rattle.std.proofs.lemmas.List.{length-reverse, length-append}
use Rattle.lu_trace.specs.declared.entries.Line.{Line}
use Rattle.lu_spec_laws.specs.Words.Pasts.{Past}
use Rattle.lu_judge_locks.proofs.locks.LocksJudge.step.Goals as goal

-- the line is one of the whole trace
below : (lines later : List Line) (l : Line) (past : Past) → reverse lines ≡ reverse later ++ l ∷ past → length past < length lines
below lines later l past is =
    omega (arith, length-reverse lines, ap length is, length-append (reverse later) (l ∷ past))

pub returns-clause-shows : goal.returns-clause-shows
returns-clause-shows c = λ past later shown placed law. record {
  place = omega (
    arith,
    c.place_after-self.ensures (omega (
      arith,
      shown.place,
      below c.args.self.now.lines.now later c.args.line.now past placed.whole,
    )),
    shown.place,
  );
  ledger = c.in_ok-step-6.ensures.shows past placed.ordered placed.messages.order shown.ledger;
  windows = c.in_ok-step-4.ensures.shows past placed.ordered placed.messages.order shown.ledger shown.windows;
  contents = c.in_ok-step-5.ensures.shows c.args.self.now.osts past shown.ledger
      (c.in_ok-step-4.ensures.shows past placed.ordered placed.messages.order shown.ledger shown.windows) shown.contents;
  held = c.in_ok-step-3.ensures.shows past shown.ledger shown.held;
  queues = search rules;
  acts = search rules;
}
