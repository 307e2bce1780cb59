-- The resource gets a seat of its own, and the queue is put there.
use Rattle.std.proofs.Common.{◌≡◌, ◌∙◌, ℕ, ◌+◌, length, cond, Option, None, Some, is_some, sym, ap, subst}
use Rattle.slab.specs.Slab.{get, slab_len, Updates}
use Rattle.lu_lockspace.specs.Entries.{entry_of}
use Rattle.lu_lockspace.specs.Seats.{seat_of}
use Rattle.lu_lockspace.proofs.Seats.{unseated, rising_seated, seated_room, begun}
use Rattle.lu_lockspace.proofs.queues.Queues.begin.Goals as goal

pub returns-in_err-reserve-clause-rising : goal.returns-in_err-reserve-clause-rising
returns-in_err-reserve-clause-rising c = rising_seated c.self.inside.seats.entries c.reserve.new.self c.self.invariant.rising

pub returns-in_err-insert-clause-rising : goal.returns-in_err-insert-clause-rising
returns-in_err-insert-clause-rising c = rising_seated c.insert.new.self.entries c.reserve.new.self c.insert.ensures.ordered

pub invariant_of-self-2 : goal.invariant_of-self-2
invariant_of-self-2 c =
    let room = seated_room c.self.inside.seats.entries c.self.inside.queues c.reserve.new.self
    (λ k. ap (λ s. get s k) c.reserve.ensures.rest_kept) (ap slab_len c.reserve.ensures.rest_kept) c.self.invariant in
    let same : c.insert_reserved.result ≡ c.vacant_key.result = c.insert_reserved.ensures.key ∙ sym c.vacant_key.ensures.value in
    let now : Updates c.reserve.new.self c.insert_reserved.new.self c.vacant_key.result (Some c.args.queue) =
    subst (λ k. Updates c.reserve.new.self c.insert_reserved.new.self k (Some c.args.queue)) same c.insert_reserved.ensures.updates in
    let none : seat_of c.args.resource c.self.inside.seats.entries ≡ None =
    unseated c.args.resource c.self.inside.seats.entries c.self.inside.queues
    (ap (entry_of c.args.resource) c.self.view_is ∙ c.requires) in
    let longer : length c.insert.new.self.entries ≡ length c.self.inside.seats.entries + 1 = c.in_ok-insert.ensures.len
    ∙ ap (λ (o : Option ℕ). length c.self.inside.seats.entries + cond (is_some o) 0 1) (c.in_ok-insert.ensures.old ∙ none) in
    let both = begun c.args.resource c.self.inside.seats.entries c.insert.new.self.entries c.reserve.new.self c.insert_reserved.new.self
    c.vacant_key.result c.args.queue room.0 c.vacant_key.ensures.vacant now c.in_ok-insert.ensures.ordered c.in_ok-insert.ensures.updates.0
    c.insert_reserved.ensures.len longer in
    both.0

pub returns-clause-here : goal.returns-clause-here
returns-clause-here c =
    let room = seated_room c.self.inside.seats.entries c.self.inside.queues c.reserve.new.self
    (λ k. ap (λ s. get s k) c.reserve.ensures.rest_kept) (ap slab_len c.reserve.ensures.rest_kept) c.self.invariant in
    let same : c.insert_reserved.result ≡ c.vacant_key.result = c.insert_reserved.ensures.key ∙ sym c.vacant_key.ensures.value in
    let now : Updates c.reserve.new.self c.insert_reserved.new.self c.vacant_key.result (Some c.args.queue) =
    subst (λ k. Updates c.reserve.new.self c.insert_reserved.new.self k (Some c.args.queue)) same c.insert_reserved.ensures.updates in
    let none : seat_of c.args.resource c.self.inside.seats.entries ≡ None =
    unseated c.args.resource c.self.inside.seats.entries c.self.inside.queues
    (ap (entry_of c.args.resource) c.self.view_is ∙ c.requires) in
    let longer : length c.insert.new.self.entries ≡ length c.self.inside.seats.entries + 1 = c.in_ok-insert.ensures.len
    ∙ ap (λ (o : Option ℕ). length c.self.inside.seats.entries + cond (is_some o) 0 1) (c.in_ok-insert.ensures.old ∙ none) in
    let both = begun c.args.resource c.self.inside.seats.entries c.insert.new.self.entries c.reserve.new.self c.insert_reserved.new.self
    c.vacant_key.result c.args.queue room.0 c.vacant_key.ensures.vacant now c.in_ok-insert.ensures.ordered c.in_ok-insert.ensures.updates.0
    c.insert_reserved.ensures.len longer in
    both.1.here

pub returns-clause-others : goal.returns-clause-others
returns-clause-others c =
    let room = seated_room c.self.inside.seats.entries c.self.inside.queues c.reserve.new.self
    (λ k. ap (λ s. get s k) c.reserve.ensures.rest_kept) (ap slab_len c.reserve.ensures.rest_kept) c.self.invariant in
    let same : c.insert_reserved.result ≡ c.vacant_key.result = c.insert_reserved.ensures.key ∙ sym c.vacant_key.ensures.value in
    let now : Updates c.reserve.new.self c.insert_reserved.new.self c.vacant_key.result (Some c.args.queue) =
    subst (λ k. Updates c.reserve.new.self c.insert_reserved.new.self k (Some c.args.queue)) same c.insert_reserved.ensures.updates in
    let none : seat_of c.args.resource c.self.inside.seats.entries ≡ None =
    unseated c.args.resource c.self.inside.seats.entries c.self.inside.queues
    (ap (entry_of c.args.resource) c.self.view_is ∙ c.requires) in
    let longer : length c.insert.new.self.entries ≡ length c.self.inside.seats.entries + 1 = c.in_ok-insert.ensures.len
    ∙ ap (λ (o : Option ℕ). length c.self.inside.seats.entries + cond (is_some o) 0 1) (c.in_ok-insert.ensures.old ∙ none) in
    let both = begun c.args.resource c.self.inside.seats.entries c.insert.new.self.entries c.reserve.new.self c.insert_reserved.new.self
    c.vacant_key.result c.args.queue room.0 c.vacant_key.ensures.vacant now c.in_ok-insert.ensures.ordered c.in_ok-insert.ensures.updates.0
    c.insert_reserved.ensures.len longer in
    λ other differ. both.1.others other differ ∙ ap (entry_of other) (room.1 ∙ c.self.view_is)

pub returns-clause-rising : goal.returns-clause-rising
returns-clause-rising c = rising_seated c.insert.new.self.entries c.insert_reserved.new.self c.in_ok-insert.ensures.ordered
