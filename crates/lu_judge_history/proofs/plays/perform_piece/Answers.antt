-- The machine performs it.
use Rattle.std.proofs.Common.{sym, subst}
use Rattle.std.specs.Option.{option_map}
use Rattle.lu_posix.specs.Shown.{Shows}
use Rattle.lu_spec_laws.specs.Words.Histories.{piece_act, after_item}
use Rattle.lu_judge_history.proofs.plays.perform_piece.Goals as goal

pub returns-in_ok-reach-in-Some : goal.returns-in_ok-reach-in-Some
returns-in_ok-reach-in-Some c = record {
  next = λ osts m who number shown within.
      subst (λ op. Shows osts c.reach.new.self (after_item osts m (piece_act who number (option_map (λ o. o.now) op)))) (sym c.in-Some.is)
      (c.in_ok-reach-in-Some.ensures.next osts m shown);
}
