-- The queue of a resource is that at its seat.
use Rattle.std.proofs.Common.{◌≡◌, ◌∙◌, None, Some, sym, ap}
use Rattle.std.specs.Option.{option_copied}
use Rattle.lu_lockspace.specs.Entries.{entry_of}
use Rattle.lu_lockspace.specs.Seats.{seat_of}
use Rattle.lu_lockspace.proofs.Seats.{found_seated, none_seated}
use Rattle.lu_lockspace.proofs.queues.Queues.of.Goals as goal

pub returns-in_err-seat : goal.returns-in_err-seat
returns-in_err-seat c =
    let none : seat_of c.args.resource c.self.inside.seats.entries ≡ None = sym c.in_err-seat.ensures.value in
    record {
      found = ap option_copied c.from_residual.ensures ∙ sym (none_seated c.args.resource c.self.inside.seats.entries c.self.inside.queues none)
          ∙ ap (entry_of c.args.resource) c.self.view_is;
    }

pub index-requires : goal.index-requires
index-requires c = c.self.invariant.there c.args.resource c.in_ok-seat.seat.now (sym c.in_ok-seat.ensures.value)

pub returns : goal.returns
returns c =
    let seat : seat_of c.args.resource c.self.inside.seats.entries ≡ Some c.in_ok-seat.seat.now = sym c.in_ok-seat.ensures.value in
    record {
      found = sym (found_seated c.args.resource c.self.inside.seats.entries c.self.inside.queues c.in_ok-seat.seat.now c.self.invariant seat
          ∙ c.index.ensures) ∙ ap (entry_of c.args.resource) c.self.view_is;
    }
