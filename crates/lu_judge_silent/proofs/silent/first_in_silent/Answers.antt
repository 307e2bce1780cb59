use Rattle.std.proofs.Common.{List, reverse, refl, sym, subst}
use Rattle.lu_trace.specs.declared.entries.Line.{Line}
use Rattle.lu_spec_laws.specs.Holds.{Holds}
use Rattle.lu_spec_laws.specs.Laws.Messages.{Messages}
use Rattle.lu_judge_pass.specs.Places.{Placed}
use Rattle.lu_judge_pass.proofs.Placed.{placed}
use Rattle.lu_judge_silent.proofs.silent.first_in_silent.Goals as goal

pub first_broken-requires : goal.first_broken-requires
first_broken-requires c κs = (
  (refl, tt),
  (
    c.new.ensures.shows,
    subst (λ (lines : List Line). Holds (Placed (record { osts = 0; whole = reverse lines })) (reverse c.as_slice-lines.result.now))
        (sym c.new.ensures.lines)
        (placed 0 (reverse c.as_slice-lines.result.now) (subst (λ (lines : List Line). Holds Messages (reverse lines))
        (sym c.as_slice-lines.ensures.same) c.requires.messages)),
  ),
)
