-- The lines so far are read, and the answer at the first that is no entry's.
use Rattle.std.proofs.Common.{ℕ, List, Bor}
use Rattle.lu_judge_reader.proofs.Outcomes.{read_more, close_lines, missing_lines}
use Rattle.lu_judge_reader.proofs.reader.read_lines.Goals as goal

pub returns-in-Err-Unread : goal.returns-in-Err-Unread
returns-in-Err-Unread c = record {
  outcome = close_lines (λ (w : Bor (List ℕ)). w.now) c.args.lines.now c.loop-place.place _ c.loop-place.entries c.args.last.now
      c.read_end.result c.close.result c.is_last-is_last.result
      c.loop-place-test.true c.loop-place.invariant c.requires.lines c.requires.last
      (c.read_line.ensures.none (cc (c.in-Err-Unread.is, c.in-Err-Unread.field-0-is)))
      (record {
        read = c.read_end.ensures.read;
        some = c.read_end.ensures.some;
        few = c.read_end.ensures.few;
        none =
            c.read_end.ensures.none;
      })
      c.is_last-is_last.ensures.last c.close.ensures.closed;
}

pub loop-place-preserved : goal.loop-place-preserved
loop-place-preserved c =
    read_more (λ (w : Bor (List ℕ)). w.now) c.args.lines.now c.loop-place.place _ c.loop-place.entries c.push.new.self c.in-Ok.line
    c.loop-place-test.true c.loop-place.invariant c.in-Ok.ensures.read c.in-Ok-push.ensures.added

pub returns : goal.returns
returns c = record {
  outcome = missing_lines (λ (w : Bor (List ℕ)). w.now) c.args.lines.now c.loop-place.place c.loop-place.entries c.args.last.now
      c.loop-place-test.false c.loop-place.invariant c.requires.last;
}
