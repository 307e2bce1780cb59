-- The locks of the lives are taken away, resource by resource, and their places forgotten.
use Rattle.std.proofs.Common.{◌≡◌, ◌∙◌, sym, subst, rules}
use Rattle.std.specs.Map.{keys_of}
use Rattle.lu_lockspace.specs.Spaces.{IsSpace, AreCancelled}
use Rattle.lu_lockspace.proofs.Laws.{lawful}
use Rattle.lu_lockspace.specs.Entries.{all_of, changed, IsIndexed}
use Rattle.lu_lockspace.specs.Ending.{AllThere, AreGone, taken_on_all}
use Rattle.lu_lockspace.proofs.Ended.{changed_there, cancelled, indexed_ended, all_fewer}
use Rattle.lu_lockspace.proofs.space.Lockspace.cancel_all.Goals as goal

pub replace_all-requires-clause-there : goal.replace_all-requires-clause-there
replace_all-requires-clause-there c =
    let same : keys_of c.in_ok-queues.queues.items ≡ changed c.args.lives.now c.self.inside.queues = search rules in
    subst (AllThere c.self.inside.queues) (sym same) (changed_there c.args.lives.now c.self.inside.queues c.self.invariant.rising)

pub replace_all-requires-clause-fewer : goal.replace_all-requires-clause-fewer
replace_all-requires-clause-fewer c = all_fewer c.args.lives.now c.self.inside.queues c.in_ok-queues.queues.items c.in_ok-queues.grants
    c.in_ok-queues.ensures.ended

pub replace_all-requires-clause-rising : goal.replace_all-requires-clause-rising
replace_all-requires-clause-rising c = c.self.invariant.rising

pub invariant_of-self : goal.invariant_of-self
invariant_of-self c =
    let before = c.self.inside.queues in
    let lives = c.args.lives.now in
    let same : keys_of c.in_ok-queues.queues.items ≡ changed lives before = search rules in
    let cookies : c.in_ok-cookies.cookies.items ≡ taken_on_all lives (changed lives before) before = search rules in
    subst (λ es. IsIndexed es c.forget.new.places.entries) (sym c.tidy_all.ensures)
    (indexed_ended lives before c.replace_all.new.queues c.in_ok-queues.queues.items c.in_ok-queues.grants c.self.inside.places.entries
    c.forget.new.places.entries c.self.invariant
    c.replace_all.ensures.rising same c.in_ok-queues.ensures.ended c.replace_all.ensures.replaced c.forget.ensures.ordered
    (subst (λ cs. AreGone cs c.self.inside.places.entries c.forget.new.places.entries) (c.deref-5.ensures.value ∙ cookies)
    c.forget.ensures.gone))

pub returns-clause-granted : goal.returns-clause-granted
returns-clause-granted c =
    let same : keys_of c.in_ok-queues.queues.items ≡ changed c.args.lives.now c.self.inside.queues = search rules in
    subst (λ es. AreCancelled c.args.lives.now c.args.self.now c.in_ok-queues.grants (all_of es)) (sym c.tidy_all.ensures)
    (subst (λ s. AreCancelled c.args.lives.now s c.in_ok-queues.grants (all_of c.replace_all.new.queues)) c.self.view_is
    (cancelled c.args.lives.now c.self.inside.queues c.replace_all.new.queues c.in_ok-queues.queues.items c.in_ok-queues.grants
    c.self.invariant.rising same c.in_ok-queues.ensures.ended c.replace_all.ensures.replaced))

pub returns-clause-lawful : goal.returns-clause-lawful
returns-clause-lawful c = lawful c.tidy_all.new.self c.forget.new.places.entries (invariant_of-self c)

pub returns-in_err-stays-clause-lawful : goal.returns-in_err-stays-clause-lawful
returns-in_err-stays-clause-lawful c = subst IsSpace c.self.view_is
    (lawful c.self.inside.queues c.self.inside.places.entries c.self.invariant)

pub returns-in_err-resources-clause-lawful : goal.returns-in_err-resources-clause-lawful
returns-in_err-resources-clause-lawful c = subst IsSpace c.self.view_is
    (lawful c.self.inside.queues c.self.inside.places.entries c.self.invariant)

pub returns-in_err-cookies-clause-lawful : goal.returns-in_err-cookies-clause-lawful
returns-in_err-cookies-clause-lawful c = subst IsSpace c.self.view_is
    (lawful c.self.inside.queues c.self.inside.places.entries c.self.invariant)

pub returns-in_err-queues-clause-lawful : goal.returns-in_err-queues-clause-lawful
returns-in_err-queues-clause-lawful c = subst IsSpace c.self.view_is
    (lawful c.self.inside.queues c.self.inside.places.entries c.self.invariant)
