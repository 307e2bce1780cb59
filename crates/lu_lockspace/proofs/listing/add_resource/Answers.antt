-- The new one wasn't there.
use Rattle.std.proofs.Common.{◌≡◌, false, sym, subst, rules}
use Rattle.lu_lockspace.specs.Guarded.{is_listed, AreApart}
use Rattle.lu_lockspace.proofs.Guarded.{apart_more}
use Rattle.lu_lockspace.proofs.listing.add_resource.Goals as goal

pub returns-clause-once : goal.returns-clause-once
returns-clause-once c =
    let old = c.args.resources.now.items in
    let new : is_listed c.args.resource old ≡ false = search rules in
    λ apart. subst AreApart (sym c.in_ok-push.ensures.items) (apart_more old c.args.resource apart new)
