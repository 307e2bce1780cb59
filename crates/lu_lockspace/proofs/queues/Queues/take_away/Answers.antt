-- The queue is written at its seat.
use Rattle.std.proofs.Common.{rules, ◌≡◌, ◌∙◌, Some, sym, ap, subst}
use Rattle.std.specs.Prelude.{IfOk}
use Rattle.slab.specs.Slab.{with_value}
use Rattle.lu_queue.specs.Queues.{IsTakenAway, IsQueue}
use Rattle.lu_lockspace.specs.Entries.{entry_of, at, AreRising}
use Rattle.lu_lockspace.specs.Seats.{seat_of, seated}
use Rattle.lu_lockspace.proofs.Seats.{at_seated, rising_seated, at_with, keeps_with}
use Rattle.lu_lockspace.proofs.queues.Queues.take_away.Goals as goal

pub index_mut-requires : goal.index_mut-requires
index_mut-requires c = c.self.invariant.there c.args.resource c.in-Some.seat.now (sym c.in-Some.ensures.value)

pub returns-in-Some-clause-granted : goal.returns-in-Some-clause-granted
returns-in-Some-clause-granted c =
    let seat : seat_of c.args.resource c.self.inside.seats.entries ≡ Some c.in-Some.seat.now = sym c.in-Some.ensures.value in
    let start : c.index_mut.result.now ≡ at c.args.resource c.args.self.now =
    sym (at_seated c.args.resource c.self.inside.seats.entries c.self.inside.queues c.in-Some.seat.now c.index_mut.result.now c.self.invariant seat
    c.index_mut.ensures.value) ∙ ap (at c.args.resource) c.self.view_is in
    let new = with_value c.self.inside.queues c.in-Some.seat.now c.cancel.new.self in
    let end : at c.args.resource (seated c.self.inside.seats.entries new) ≡ c.cancel.new.self =
    at_with c.args.resource c.self.inside.seats.entries c.self.inside.queues c.in-Some.seat.now c.cancel.new.self c.self.invariant seat in
    subst (λ q. IfOk c.cancel.result (λ grants.
    IsTakenAway c.args.cookie.0 q grants (at c.args.resource (seated c.self.inside.seats.entries new)))) start
    (subst (λ q. IfOk c.cancel.result (λ grants. IsTakenAway c.args.cookie.0 c.index_mut.result.now grants q)) (sym end)
    c.cancel.ensures.granted)

pub returns-in-Some-clause-others : goal.returns-in-Some-clause-others
returns-in-Some-clause-others c =
    let seat : seat_of c.args.resource c.self.inside.seats.entries ≡ Some c.in-Some.seat.now = sym c.in-Some.ensures.value in
    λ other differ. keeps_with c.args.resource c.self.inside.seats.entries c.self.inside.queues c.in-Some.seat.now c.cancel.new.self
    c.self.invariant seat other differ ∙ ap (entry_of other) c.self.view_is

pub returns-in-Some-clause-lawful : goal.returns-in-Some-clause-lawful
returns-in-Some-clause-lawful c =
    let seat : seat_of c.args.resource c.self.inside.seats.entries ≡ Some c.in-Some.seat.now = sym c.in-Some.ensures.value in
    let new = with_value c.self.inside.queues c.in-Some.seat.now c.cancel.new.self in
    let end : at c.args.resource (seated c.self.inside.seats.entries new) ≡ c.cancel.new.self =
    at_with c.args.resource c.self.inside.seats.entries c.self.inside.queues c.in-Some.seat.now c.cancel.new.self c.self.invariant seat in
    let lawful : IsQueue (at c.args.resource (seated c.self.inside.seats.entries new)) = subst IsQueue (sym end) c.cancel.ensures.lawful in
    search rules

pub returns-in-Some-clause-rising : goal.returns-in-Some-clause-rising
returns-in-Some-clause-rising c = rising_seated c.self.inside.seats.entries
    (with_value c.self.inside.queues c.in-Some.seat.now c.cancel.new.self) c.self.invariant.rising

pub returns-clause-rising : goal.returns-clause-rising
returns-clause-rising c = subst AreRising c.self.view_is
    (rising_seated c.self.inside.seats.entries c.self.inside.queues c.self.invariant.rising)
