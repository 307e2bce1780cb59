-- The queue is written at its seat, or begun.
use Rattle.std.proofs.Common.{rules, ◌≡◌, ◌∙◌, Some, sym, ap, subst}
use Rattle.std.specs.Prelude.{IfOk, OnOk}
use Rattle.slab.specs.Slab.{with_value}
use Rattle.lu_queue.specs.Queues.{empty, lock_under, may_restore, restored, QueueState, IsQueue}
use Rattle.lu_lockspace.specs.Entries.{entry_of, at, AreRising}
use Rattle.lu_lockspace.specs.Seats.{seat_of, seated}
use Rattle.lu_lockspace.proofs.Seats.{none_seated, at_seated, at_unseated, rising_seated, at_with, keeps_with}
use Rattle.lu_lockspace.proofs.queues.Queues.restore.Goals as goal

pub index_mut-requires : goal.index_mut-requires
index_mut-requires c = c.self.invariant.there c.args.resource c.in-Some.seat.now (sym c.in-Some.ensures.value)

pub restore-requires-clause-quiet : goal.restore-requires-clause-quiet
restore-requires-clause-quiet c =
    let seat : seat_of c.args.resource c.self.inside.seats.entries ≡ Some c.in-Some.seat.now = sym c.in-Some.ensures.value in
    let start : c.index_mut.result.now ≡ at c.args.resource c.args.self.now =
    sym (at_seated c.args.resource c.self.inside.seats.entries c.self.inside.queues c.in-Some.seat.now c.index_mut.result.now c.self.invariant seat
    c.index_mut.ensures.value) ∙ ap (at c.args.resource) c.self.view_is in
    ap (λ (q : QueueState). q.waiting) start ∙ c.requires.quiet

pub returns-in-Some-clause-restored : goal.returns-in-Some-clause-restored
returns-in-Some-clause-restored c =
    let seat : seat_of c.args.resource c.self.inside.seats.entries ≡ Some c.in-Some.seat.now = sym c.in-Some.ensures.value in
    let start : c.index_mut.result.now ≡ at c.args.resource c.args.self.now =
    sym (at_seated c.args.resource c.self.inside.seats.entries c.self.inside.queues c.in-Some.seat.now c.index_mut.result.now c.self.invariant seat
    c.index_mut.ensures.value) ∙ ap (at c.args.resource) c.self.view_is in
    subst (λ q. IfOk c.restore.result (λ answer. answer ≡ may_restore (lock_under c.args.cookie c.args.ask) q)) start c.restore.ensures.restored

pub returns-in-Some-clause-added : goal.returns-in-Some-clause-added
returns-in-Some-clause-added c =
    let lock = lock_under c.args.cookie c.args.ask in
    let seat : seat_of c.args.resource c.self.inside.seats.entries ≡ Some c.in-Some.seat.now = sym c.in-Some.ensures.value in
    let start : c.index_mut.result.now ≡ at c.args.resource c.args.self.now =
    sym (at_seated c.args.resource c.self.inside.seats.entries c.self.inside.queues c.in-Some.seat.now c.index_mut.result.now c.self.invariant seat
    c.index_mut.ensures.value) ∙ ap (at c.args.resource) c.self.view_is in
    let new = with_value c.self.inside.queues c.in-Some.seat.now c.restore.new.self in
    let end : at c.args.resource (seated c.self.inside.seats.entries new) ≡ c.restore.new.self =
    at_with c.args.resource c.self.inside.seats.entries c.self.inside.queues c.in-Some.seat.now c.restore.new.self c.self.invariant seat in
    subst (λ q. OnOk c.restore.result (at c.args.resource (seated c.self.inside.seats.entries new) ≡ restored lock q)) start
    (subst (λ q. OnOk c.restore.result (q ≡ restored lock c.index_mut.result.now)) (sym end) c.restore.ensures.added)

pub returns-in-Some-clause-others : goal.returns-in-Some-clause-others
returns-in-Some-clause-others c =
    let seat : seat_of c.args.resource c.self.inside.seats.entries ≡ Some c.in-Some.seat.now = sym c.in-Some.ensures.value in
    λ other differ. keeps_with c.args.resource c.self.inside.seats.entries c.self.inside.queues c.in-Some.seat.now c.restore.new.self
    c.self.invariant seat other differ ∙ ap (entry_of other) c.self.view_is

pub returns-in-Some-clause-lawful : goal.returns-in-Some-clause-lawful
returns-in-Some-clause-lawful c =
    let seat : seat_of c.args.resource c.self.inside.seats.entries ≡ Some c.in-Some.seat.now = sym c.in-Some.ensures.value in
    let new = with_value c.self.inside.queues c.in-Some.seat.now c.restore.new.self in
    let end : at c.args.resource (seated c.self.inside.seats.entries new) ≡ c.restore.new.self =
    at_with c.args.resource c.self.inside.seats.entries c.self.inside.queues c.in-Some.seat.now c.restore.new.self c.self.invariant seat in
    let lawful : IsQueue (at c.args.resource (seated c.self.inside.seats.entries new)) = subst IsQueue (sym end) c.restore.ensures.lawful in
    search rules

pub returns-in-Some-clause-rising : goal.returns-in-Some-clause-rising
returns-in-Some-clause-rising c = rising_seated c.self.inside.seats.entries
    (with_value c.self.inside.queues c.in-Some.seat.now c.restore.new.self) c.self.invariant.rising

pub returns-in_err-restored-clause-rising : goal.returns-in_err-restored-clause-rising
returns-in_err-restored-clause-rising c = subst AreRising c.self.view_is
    (rising_seated c.self.inside.seats.entries c.self.inside.queues c.self.invariant.rising)

pub begin-requires : goal.begin-requires
begin-requires c = sym (ap (entry_of c.args.resource) c.self.view_is)
    ∙ none_seated c.args.resource c.self.inside.seats.entries c.self.inside.queues (sym c.in_default.ensures.value)

pub returns-clause-restored : goal.returns-clause-restored
returns-clause-restored c =
    let none : at c.args.resource c.args.self.now ≡ empty = sym (ap (at c.args.resource) c.self.view_is)
    ∙ at_unseated c.args.resource c.self.inside.seats.entries c.self.inside.queues (sym c.in_default.ensures.value) in
    c.in_ok-restored.ensures.restored ∙ ap (may_restore (lock_under c.args.cookie c.args.ask)) (c.new-queue.ensures.empty ∙ sym none)

pub returns-clause-added : goal.returns-clause-added
returns-clause-added c =
    let none : at c.args.resource c.args.self.now ≡ empty = sym (ap (at c.args.resource) c.self.view_is)
    ∙ at_unseated c.args.resource c.self.inside.seats.entries c.self.inside.queues (sym c.in_default.ensures.value) in
    c.in_ok-begin.ensures.here ∙ c.in_ok-restored.ensures.added
    ∙ ap (restored (lock_under c.args.cookie c.args.ask)) (c.new-queue.ensures.empty ∙ sym none)
