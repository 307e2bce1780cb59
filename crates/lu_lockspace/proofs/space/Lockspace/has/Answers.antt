-- A cookie has a place where a lock has it.
use Rattle.std.proofs.Common.{◌≡◌, ◌∙◌, is_some, sym, subst}
use Rattle.lu_lockspace.specs.Spaces.{is_in, IsSpace}
use Rattle.lu_lockspace.specs.Entries.{all_of, place_of}
use Rattle.lu_lockspace.proofs.Places.{in_at}
use Rattle.lu_lockspace.proofs.Laws.{placed_at, lawful}
use Rattle.lu_lockspace.proofs.space.Lockspace.has.Goals as goal

pub returns-clause-found : goal.returns-clause-found
returns-clause-found c =
    let cookie = c.args.cookie.0 in
    let entries = c.self.inside.queues in
    let places = c.self.inside.places.entries in
    let found : is_in cookie (all_of entries) ≡ is_some (place_of cookie places) =
    in_at cookie (all_of entries) (place_of cookie places) (placed_at entries places c.self.invariant cookie) in
    c.contains_key.ensures ∙ sym (subst (λ s. is_in cookie s ≡ is_some (place_of cookie places)) c.self.view_is found)

pub returns-clause-lawful : goal.returns-clause-lawful
returns-clause-lawful c = subst IsSpace c.self.view_is (lawful c.self.inside.queues c.self.inside.places.entries c.self.invariant)
