-- The queue is written at its seat.
use Rattle.std.proofs.Common.{◌≡◌, ◌∙◌, None, Some, sym, ap, subst}
use Rattle.std.specs.Prelude.{IsSome}
use Rattle.lu_lockspace.specs.Entries.{entry_of}
use Rattle.lu_lockspace.specs.Seats.{seat_of}
use Rattle.lu_lockspace.proofs.Seats.{not_unseated, whole_with, at_with, keeps_with}
use Rattle.lu_lockspace.proofs.queues.Queues.put.Goals as goal

pub returns-in_default-clause-here : goal.returns-in_default-clause-here
returns-in_default-clause-here c =
    let none : seat_of c.args.resource c.self.inside.seats.entries ≡ None = sym c.in_default.ensures.value in
    absurd (not_unseated c.args.resource c.self.inside.seats.entries c.self.inside.queues none
    (subst (λ entries. IsSome (entry_of c.args.resource entries)) (sym c.self.view_is) c.requires))

pub index_mut-requires : goal.index_mut-requires
index_mut-requires c = c.self.invariant.there c.args.resource c.in-Some.seat.now (sym c.in-Some.ensures.value)

pub invariant_of-self : goal.invariant_of-self
invariant_of-self c = whole_with c.args.resource c.self.inside.seats.entries c.self.inside.queues c.in-Some.seat.now c.args.queue c.self.invariant
    (sym c.in-Some.ensures.value)

pub returns-clause-here : goal.returns-clause-here
returns-clause-here c = at_with c.args.resource c.self.inside.seats.entries c.self.inside.queues c.in-Some.seat.now c.args.queue c.self.invariant
    (sym c.in-Some.ensures.value)

pub returns-clause-others : goal.returns-clause-others
returns-clause-others c =
    let seat : seat_of c.args.resource c.self.inside.seats.entries ≡ Some c.in-Some.seat.now = sym c.in-Some.ensures.value in
    λ other differ. keeps_with c.args.resource c.self.inside.seats.entries c.self.inside.queues c.in-Some.seat.now c.args.queue c.self.invariant
    seat other differ ∙ ap (entry_of other) c.self.view_is
