-- The marked names in order lead to the marked locks.
use Rattle.std.proofs.Common.{◌∙◌, ap, map, filter, refl}
use Rattle.std.specs.Prelude.{vec_capacity}
use Rattle.lu_held.specs.declared.locks.Wanted.TheVariants.{Marked}
use Rattle.std.specs.Map.{values_of}
use Rattle.lu_held.specs.Kept.{is_asked}
use Rattle.lu_held.specs.Held.{those}
use Rattle.lu_held.proofs.Looks.{cookies_of}
use Rattle.lu_held.proofs.Marks.{looked_marked}
use Rattle.lu_held.proofs.held.Held.marked.Goals as goal

pub returns-clause-marked : goal.returns-clause-marked
returns-clause-marked c =
    let wanted = Marked c.args.target in
    c.from.ensures ∙ c.in_ok-cookies.ensures
    ∙ ap (λ names. map (λ name. name.cookie) (filter (is_asked wanted c.self.inside.uses.entries) names)) c.as_slice.ensures.value
    ∙ ap (map (λ name. name.cookie)) (looked_marked wanted c.self.inside.names.keys c.self.inside.uses.entries c.self.inside.marked.items
    (vec_capacity c.self.inside.marked) c.self.inside.free refl c.self.invariant.kept c.self.invariant.indexed)
    ∙ cookies_of (those wanted (values_of c.self.inside.uses.entries))
    ∙ ap (λ state. map (λ held. held.lock.cookie) (those wanted state.locks)) c.self.view_is
