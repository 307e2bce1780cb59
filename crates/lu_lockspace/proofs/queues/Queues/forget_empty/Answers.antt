-- A resource without locks loses its seat, and its queue goes.
use Rattle.std.proofs.Common.{◌≡◌, ◌∙◌, Some, sym, ap, subst}
use Rattle.lu_lockspace.specs.Entries.{entry_of, AreRising}
use Rattle.lu_lockspace.specs.Seats.{seat_of}
use Rattle.lu_lockspace.proofs.Seats.{rising_seated, keeps_left, seated_left, at_left}
use Rattle.lu_lockspace.proofs.queues.Queues.forget_empty.Goals as goal

pub returns-then-not-is_empty-clause-rising : goal.returns-then-not-is_empty-clause-rising
returns-then-not-is_empty-clause-rising c = subst AreRising c.self.view_is
    (rising_seated c.self.inside.seats.entries c.self.inside.queues c.self.invariant.rising)

pub remove-requires-in-Some : goal.remove-requires-in-Some
remove-requires-in-Some c = c.self.invariant.there c.args.resource c.in-Some.seat (sym c.in-Some.ensures.value)

pub invariant_of-self : goal.invariant_of-self
invariant_of-self c = seated_left c.args.resource c.self.inside.seats.entries c.remove.new.self.entries c.self.inside.queues
    c.remove-in-Some.new.self c.in-Some.seat c.self.invariant (sym c.in-Some.ensures.value) c.remove-in-Some.ensures.updates.others
    c.in-Some.ensures.ordered c.in-Some.ensures.updates.0 c.remove-in-Some.ensures.len c.in-Some.ensures.len

pub returns-in-Some-clause-here : goal.returns-in-Some-clause-here
returns-in-Some-clause-here c = at_left c.args.resource c.self.inside.seats.entries c.remove.new.self.entries c.remove-in-Some.new.self
    c.in-Some.ensures.updates.0 ∙ sym (c.is_empty.ensures c.if-not-is_empty.false)

pub returns-in-Some-clause-others : goal.returns-in-Some-clause-others
returns-in-Some-clause-others c =
    let seat : seat_of c.args.resource c.self.inside.seats.entries ≡ Some c.in-Some.seat = sym c.in-Some.ensures.value in
    λ other differ. keeps_left c.args.resource c.self.inside.seats.entries c.remove.new.self.entries c.self.inside.queues
    c.remove-in-Some.new.self c.in-Some.seat c.self.invariant seat c.remove-in-Some.ensures.updates.others
    c.in-Some.ensures.updates.0 other differ ∙ ap (entry_of other) c.self.view_is

pub returns-in-Some-clause-rising : goal.returns-in-Some-clause-rising
returns-in-Some-clause-rising c = rising_seated c.remove.new.self.entries c.remove-in-Some.new.self c.in-Some.ensures.ordered

pub returns-in_default-clause-rising : goal.returns-in_default-clause-rising
returns-in_default-clause-rising c = rising_seated c.remove.new.self.entries c.self.inside.queues c.in_default.ensures.ordered
