use Rattle.std.proofs.Common.{◌<◌, ◌∷◌, length, sym, subst, arith}
use Rattle.std.specs.Prelude.{reverse, drop, ◌+◌}
use Rattle.lu_trace.specs.declared.entries.Line.{Line}
use Rattle.lu_spec_laws.specs.Words.Pasts.{Past}
use Rattle.lu_judge_pass.specs.Firsts.{before}
use Rattle.lu_judge_pass.specs.Ledgers.{ShowsLedger}
use Rattle.lu_judge_pass.specs.Places.{PlacedIn, Placed}
use Rattle.lu_judge_pass.proofs.Wholes.{before_more, at_each}
use Rattle.lu_judge_pass.proofs.Placed.{placed}
use Rattle.lu_judge_windows.specs.Windows.{ShowsWindows}
use Rattle.lu_judge_windows.proofs.wholes.lost_in.Goals as goal

pub loop-place-preserved : goal.loop-place-preserved
loop-place-preserved c =
    let lines = c.args.lines.now in
    let below : c.loop-place.place < length lines = omega arith in
    let past = before lines c.loop-place.place in
    let line = c.index-lines-place.result in
    let here : PlacedIn (reverse lines) past line (drop (c.loop-place.place + 1) lines) =
    subst (λ (l : Line). PlacedIn (reverse lines) past l (drop (c.loop-place.place + 1) lines)) (sym c.index-lines-place.is)
    (at_each (Placed (record { osts = 0; whole = reverse lines })) lines (placed 0 (reverse lines) c.loop-place.invariant.messages)
    c.loop-place.place below line) in
    record {
      messages = c.loop-place.invariant.messages;
      within = omega arith;
      ledger =
          subst (λ (past : Past). ShowsLedger c.step-in-loop-place.new.self past) (sym (before_more lines c.loop-place.place line below))
          (subst (λ (l : Line). ShowsLedger c.step-in-loop-place.new.self (l ∷ past)) c.index-lines-place.is
          (c.in_ok-step-2.ensures.shows past here.ordered here.messages.order c.loop-place.invariant.ledger));
      windows =
          subst (λ (past : Past). ShowsWindows c.step.new.self past) (sym (before_more lines c.loop-place.place line below))
          (subst (λ (l : Line). ShowsWindows c.step.new.self (l ∷ past)) c.index-lines-place.is
          (c.in_ok-step.ensures.shows past here.ordered here.messages.order c.loop-place.invariant.ledger
          c.loop-place.invariant.windows));
    }
