-- The way leads to the one note of the object and lock.
use Rattle.std.proofs.Common.{◌≡◌, Some, None, ap, sym, ◌∙◌}
use Rattle.lu_spec_machine.specs.Places.{found_at}
use Rattle.lu_spec_client.specs.Caches.{noted}
use Rattle.lu_cache.specs.Numbered.{first_number}
use Rattle.lu_cache.specs.Kept.{is_of}
use Rattle.lu_cache.proofs.Falling.{looked_up, number_found, not_both}
use Rattle.lu_cache.proofs.Noting.{noted_none, noted_some}
use Rattle.lu_cache.proofs.notes.Notes.of.Goals as goal

pub returns-in_err-place : goal.returns-in_err-place
returns-in_err-place c =
    let log = c.self.inside.log.entries in
    let none : first_number (is_of c.args.resource c.args.cookie) log ≡ None = sym (c.self.invariant.places c.args.resource c.args.cookie)
    ∙ sym c.in_err-place.ensures.number in
    record {
      noted = c.from_residual.ensures ∙ sym (noted_none c.args.resource c.args.cookie log none)
          ∙ ap (noted c.args.resource c.args.cookie) c.self.view_is;
    }

pub returns-in_err-note : goal.returns-in_err-note
returns-in_err-note c =
    let log = c.self.inside.log.entries in
    let first : first_number (is_of c.args.resource c.args.cookie) log ≡ Some c.in_ok-place.place =
    sym (c.self.invariant.places c.args.resource c.args.cookie) ∙ sym c.in_ok-place.ensures.number in
    let (x, found, passes) = number_found (is_of c.args.resource c.args.cookie) 0 c.in_ok-place.place log c.self.invariant.rising first in
    not_both x _ (c.in_err-note.ensures.value ∙ looked_up c.in_ok-place.place log ∙ found)

pub returns : goal.returns
returns c =
    let log = c.self.inside.log.entries in
    let first : first_number (is_of c.args.resource c.args.cookie) log ≡ Some c.in_ok-place.place =
    sym (c.self.invariant.places c.args.resource c.args.cookie) ∙ sym c.in_ok-place.ensures.number in
    let found : found_at log c.in_ok-place.place ≡ Some c.in_ok-note.note.now =
    sym (c.in_ok-note.ensures.value ∙ looked_up c.in_ok-place.place log) in
    record {
      noted = sym (noted_some c.args.resource c.args.cookie 0 c.in_ok-place.place c.in_ok-note.note.now log c.self.invariant.rising
          first found) ∙ ap (noted c.args.resource c.args.cookie) c.self.view_is;
    }
