use Rattle.lu_layout.proofs.Fields.{position_of-fields}
use Rattle.lu_layout.proofs.Places.{stripe_of-position_of, offset_of-position_of, position_of-rising}
use Rattle.lu_layout.proofs.layout.Layout.position.Goals as goal

pub returns-clause-value : goal.returns-clause-value
returns-clause-value c = rw (← c.self.view_is) (position_of-fields c.self.inside c.args.stripe c.args.offset c.self.invariant)

pub returns-clause-same_stripe : goal.returns-clause-same_stripe
returns-clause-same_stripe c =
    let here = rw (← c.self.view_is) at c.requires.stripe in
    rw (← c.self.view_is, position_of-fields c.self.inside c.args.stripe c.args.offset c.self.invariant)
    (stripe_of-position_of _ c.args.stripe c.args.offset c.self.invariant.layout here)

pub returns-clause-same_offset : goal.returns-clause-same_offset
returns-clause-same_offset c =
    let here = rw (← c.self.view_is) at c.requires.stripe in
    rw (← c.self.view_is, position_of-fields c.self.inside c.args.stripe c.args.offset c.self.invariant)
    (offset_of-position_of _ c.args.stripe c.args.offset c.self.invariant.layout here)

pub returns-clause-rising : goal.returns-clause-rising
returns-clause-rising c other =
    rw (← c.self.view_is, position_of-fields c.self.inside c.args.stripe c.args.offset c.self.invariant)
    (position_of-rising _ c.args.stripe other c.args.offset c.self.invariant.layout)
