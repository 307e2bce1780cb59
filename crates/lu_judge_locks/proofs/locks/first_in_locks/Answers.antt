-- The trace's lines are those of the judge, and each is in its place.
use Rattle.std.proofs.Common.{List, refl, sym, subst}
use Rattle.std.specs.Prelude.{reverse}
use Rattle.lu_trace.specs.declared.entries.Line.{Line}
use Rattle.lu_spec_laws.specs.Holds.{Holds}
use Rattle.lu_spec_laws.specs.Laws.Messages.{Messages}
use Rattle.lu_judge_pass.specs.Places.{Placed}
use Rattle.lu_judge_pass.proofs.Placed.{placed}
use Rattle.lu_judge_locks.proofs.locks.first_in_locks.Goals as goal

pub first_broken-requires : goal.first_broken-requires
first_broken-requires c = λ κs.
    let judge = c.in_ok-judge.judge in
    let lines = c.as_slice-lines.result.now in
    let messages : Holds Messages (reverse c.as_slice-lines.result.now) =
    subst (λ (ls : List Line). Holds Messages (reverse ls)) (sym c.as_slice-lines.ensures.same) c.requires.messages in (
      (refl, tt),
      (
        c.in_ok-judge.ensures.shows,
        subst (λ (ls : List Line). Holds (Placed (record { osts = judge.osts; whole = reverse ls })) (reverse lines))
            (sym c.in_ok-judge.ensures.lines) (placed judge.osts (reverse lines) messages),
      ),
    )
