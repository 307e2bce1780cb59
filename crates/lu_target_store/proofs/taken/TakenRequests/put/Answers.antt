-- The map is changed at this key alone.
use Rattle.std.proofs.Common.{Some, ap, subst, ◌∙◌}
use Rattle.std.specs.Prelude.{if◌then◌else◌}
use Rattle.lu_target_refines.proofs.Slots.{place_back}
use Rattle.lu_target_store.specs.Taken.{newest_of, IsPut}
use Rattle.lu_target_store.proofs.taken.TakenRequests.put.Goals as goal

pub returns : goal.returns
returns c =
    let who = c.args.who in
    let tag = c.args.tag in
    let is : IsPut who tag c.args.newest c.self.inside.by_tag.entries c.insert.new.self.entries =
    (λ w t. c.in_ok-insert.ensures.updates.0 (w, t) ∙ ap (λ here. if here then Some c.args.newest
    else newest_of c.self.inside.by_tag.entries w t) (place_back who w tag t)) in
    record { put = subst (λ old. IsPut who tag c.args.newest old c.insert.new.self.entries) c.self.view_is is }
