-- The call of a life that isn't gone is performed.
use Rattle.std.proofs.Common.{◌≡◌, Option, Some, sym, ap, subst, ◌∙◌}
use Rattle.std.specs.Option.{option_map}
use Rattle.std.proofs.lemmas.Result.{on_ok_weaker}
use Rattle.lu_spec_machine.specs.declared.acts.Act.{Act as ActOf}
use Rattle.lu_spec_laws.specs.Words.Lives.{who_is, is_gone}
use Rattle.lu_spec_laws.specs.Words.Calls.{open_call}
use Rattle.lu_spec_laws.specs.Words.Histories.{after_item, machine_of}
use Rattle.lu_posix.specs.Shown.{Shows}
use Rattle.lu_judge_calls.specs.Tables.{begun_of}
use Rattle.lu_judge_calls.specs.Marks.{IsWithin}
use Rattle.lu_judge_history.specs.Deeds.{deed_asked, AreWithin}
use Rattle.lu_judge_history.proofs.Limits.{OfBegun, call_within}
use Rattle.lu_judge_history.proofs.Telling.{who_at, act_none_gone, act_none_call, act_none_deed, act_is}
use Rattle.lu_judge_history.proofs.played.Played.tell.Goals as goal

pub returns-then-has-clause-shows : goal.returns-then-has-clause-shows
returns-then-has-clause-shows c = λ osts whole past lost gone limited ledger calls machine.
    subst (λ (o : Option ActOf). Shows osts c.args.self.now.machine (after_item osts (machine_of (is_gone whole) lost osts past) o))
    (sym (act_none_gone (is_gone whole) past c.args.client c.args.slot
    (ap (is_gone whole) (sym (c.who-who.ensures.who ∙ who_at c.args.ledger.now.lives past ledger.lives c.args.client)) ∙ sym (gone _)
    ∙ sym c.has.ensures.gone ∙ c.if-has.true)))
    machine

pub returns-in_default-clause-shows : goal.returns-in_default-clause-shows
returns-in_default-clause-shows c = λ osts whole past lost gone limited ledger calls machine.
    subst (λ (o : Option ActOf). Shows osts c.args.self.now.machine (after_item osts (machine_of (is_gone whole) lost osts past) o))
    (sym (act_none_call (is_gone whole) past c.args.client c.args.slot
    (sym (c.call.ensures.call past calls) ∙ ap (option_map begun_of) c.in_default.is)))
    machine

pub returns-in-None-clause-shows : goal.returns-in-None-clause-shows
returns-in-None-clause-shows c = λ osts whole past lost gone limited ledger calls machine.
    subst (λ (o : Option ActOf). Shows osts c.args.self.now.machine (after_item osts (machine_of (is_gone whole) lost osts past) o))
    (sym (act_none_deed (is_gone whole) past c.args.client c.args.slot (begun_of c.in-Some.begun)
    (sym (ap (option_map begun_of) c.in-Some.is) ∙ c.call.ensures.call past calls)
    (sym (ap (option_map deed_asked) c.in-None.is) ∙ c.in_ok-asked.ensures.deed)))
    machine

pub returns-in-Some-asked-clause-shows : goal.returns-in-Some-asked-clause-shows
returns-in-Some-asked-clause-shows c =
    on_ok_weaker c.perform.result
    (λ next osts whole past lost gone limited ledger calls machine.
    let whose : c.who-who.result ≡ who_is c.args.client past = c.who-who.ensures.who
    ∙ who_at c.args.ledger.now.lives past ledger.lives c.args.client in
    let begun : Some (begun_of c.in-Some.begun) ≡ open_call c.args.client c.args.slot past = sym (ap (option_map begun_of) c.in-Some.is)
    ∙ c.call.ensures.call past calls in
    let within : IsWithin c.in-Some.begun.call.now = subst OfBegun (sym begun) (call_within past limited c.args.client c.args.slot) in
    subst (λ (o : Option ActOf). Shows osts c.perform.new.machine (after_item osts (machine_of (is_gone whole) lost osts past) o))
    (sym (act_is (is_gone whole) past c.args.client c.args.slot c.who-who.result (begun_of c.in-Some.begun) c.in-Some-asked.asked whose
    (ap (is_gone whole) (sym whose) ∙ sym (gone _) ∙ sym c.has.ensures.gone ∙ c.if-has.false)
    begun
    (sym (ap (option_map deed_asked) c.in-Some-asked.is) ∙ c.in_ok-asked.ensures.deed)))
    (next osts _ c.who-who.result machine (subst AreWithin c.in-Some-asked.is (c.in_ok-asked.ensures.within within))))
    c.perform.ensures.next
