use Rattle.std.proofs.Common.{List, [], ◌∷◌, reverse, refl}
use Rattle.lu_trace.specs.declared.entries.Line.{Line}
use Rattle.lu_spec_laws.specs.Words.Pasts.{Past}
use Rattle.lu_spec_laws.specs.Holds.{HoldsBefore}
use Rattle.lu_judge_messages.proofs.messages.first_in_messages.Goals as goal

-- nothing is given, which holds of each trace
nothing_given : (later : List Line) (past : Past) → HoldsBefore (λ past l later. Unit {0}) later past
nothing_given later [] = tt
nothing_given later (l ∷ past) = (tt, nothing_given (l ∷ later) past)

pub first_broken-requires : goal.first_broken-requires
first_broken-requires c κs = ((refl, tt), (c.new.ensures, nothing_given [] (reverse c.args.lines.now)))
