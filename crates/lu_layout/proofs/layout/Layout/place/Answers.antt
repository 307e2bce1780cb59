use Rattle.lu_layout.proofs.Fields.{stripe_of-fields, offset_of-fields}
use Rattle.lu_layout.proofs.Places.{position_of-place}
use Rattle.lu_layout.proofs.layout.Layout.place.Goals as goal

pub returns-clause-stripe : goal.returns-clause-stripe
returns-clause-stripe c = rw (← c.self.view_is) (stripe_of-fields c.self.inside c.args.position c.self.invariant)

pub returns-clause-offset : goal.returns-clause-offset
returns-clause-offset c = rw (← c.self.view_is) (offset_of-fields c.self.inside c.args.position c.self.invariant)

pub returns-clause-inverse : goal.returns-clause-inverse
returns-clause-inverse c =
    rw (
      ← c.self.view_is,
      stripe_of-fields c.self.inside c.args.position c.self.invariant,
      offset_of-fields c.self.inside c.args.position c.self.invariant,
    )
    (position_of-place _ c.args.position c.self.invariant.layout)
