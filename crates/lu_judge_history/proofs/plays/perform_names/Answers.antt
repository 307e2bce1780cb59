-- The machine performs it.
use Rattle.std.proofs.Common.{sym, subst}
use Rattle.std.specs.Option.{option_map}
use Rattle.lu_posix.specs.Shown.{Shows}
use Rattle.lu_spec_laws.specs.Words.Histories.{names_act, after_item}
use Rattle.lu_judge_history.proofs.plays.perform_names.Goals as goal

pub returns-in_ok-perform-in-Some-clause-next : goal.returns-in_ok-perform-in-Some-clause-next
returns-in_ok-perform-in-Some-clause-next c = λ osts m shown.
    subst (λ op. Shows osts c.perform.new.self (after_item osts m (names_act c.args.who c.args.number (option_map (λ o. o.now) op))))
    (sym c.in-Some.is)
    (c.in_ok-perform-in-Some.ensures.next osts m shown)
