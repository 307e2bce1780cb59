-- The names in order lead to the locks that are looked for.
use Rattle.std.proofs.Common.{◌≡◌, true, ◌∙◌, ap, filter, rules}
use Rattle.std.specs.Prelude.{slice_get, option_map, vec_capacity}
use Rattle.lu_held.specs.Locks.{name_of}
use Rattle.lu_held.specs.Held.{those}
use Rattle.lu_held.specs.Kept.{of_marked, is_asked}
use Rattle.lu_held.proofs.Marks.{looked_at_marked}
use Rattle.lu_held.proofs.AtTarget.{asked_for}
use Rattle.lu_held.proofs.Looks.{looked_at}
use Rattle.lu_held.proofs.held.Held.name_at.Goals as goal

pub returns-then-is_of_marked-clause-name : goal.returns-then-is_of_marked-clause-name
returns-then-is_of_marked-clause-name c =
    let of : of_marked c.args.wanted ≡ true = search rules in
    c.marked_among.ensures
    ∙ ap (λ names. slice_get (filter (is_asked c.args.wanted c.self.inside.uses.entries) names) c.args.at) c.as_slice.ensures.value
    ∙ looked_at_marked c.args.wanted c.self.inside.names.keys c.self.inside.uses.entries c.self.inside.marked.items
    (vec_capacity c.self.inside.marked) c.self.inside.free c.args.at of c.self.invariant.kept c.self.invariant.indexed
    ∙ ap (λ state. option_map name_of (slice_get (those c.args.wanted state.locks) c.args.at)) c.self.view_is

pub returns-clause-name : goal.returns-clause-name
returns-clause-name c =
    c.name_among.ensures
    ∙ ap (λ names. slice_get names c.args.at) (asked_for c.args.wanted c.self.inside.uses.entries c.self.inside.names.keys
    c.self.invariant.kept.keyed)
    ∙ looked_at c.args.wanted c.self.inside.names.keys c.self.inside.uses.entries c.args.at c.self.invariant.kept
    ∙ ap (λ state. option_map name_of (slice_get (those c.args.wanted state.locks) c.args.at)) c.self.view_is
