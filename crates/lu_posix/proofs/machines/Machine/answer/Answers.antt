-- One kind of act after another.
use Rattle.std.proofs.Common.{sym, ap, subst, ◌∙◌}
use Rattle.std.proofs.lemmas.Result.{IfOk-weaker, on_ok_weaker}
use Rattle.lu_spec_machine.specs.declared.acts.Deed.{Deed}
use Rattle.lu_spec_machine.specs.Machine.{answer_to, next_after}
use Rattle.lu_posix.specs.Shown.{Shows}
use Rattle.lu_posix.proofs.machines.Machine.answer.Goals as goal

pub returns-in-Data-clause-answer : goal.returns-in-Data-clause-answer
returns-in-Data-clause-answer c =
    IfOk-weaker c.call.result _ _
    (λ told is osts m shown. is osts m shown ∙ sym (ap (λ (d : Deed). answer_to osts m c.args.act.now d) c.in-Data.is))
    c.call.ensures.answer

pub returns-in-Data-clause-next : goal.returns-in-Data-clause-next
returns-in-Data-clause-next c =
    on_ok_weaker c.call.result
    (λ is osts m shown. subst (λ (d : Deed). Shows osts c.call.new.self (next_after osts m c.args.act.now d)) (sym c.in-Data.is)
    (is osts m shown))
    c.call.ensures.next

pub returns-in_ok-reach-in-Piece-clause-next : goal.returns-in_ok-reach-in-Piece-clause-next
returns-in_ok-reach-in-Piece-clause-next c = λ osts m shown.
    subst (λ (d : Deed). Shows osts c.reach.new.self (next_after osts m c.args.act.now d)) (sym c.in-Piece.is)
    (c.in_ok-reach-in-Piece.ensures.next osts m shown)
