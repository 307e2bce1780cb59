use Rattle.std.proofs.Common.{◌+◌, ◌-◌, ◌%◌, ap, subst, arith}
use Rattle.lu_layout.specs.Raid0.{Raid0}
use Rattle.lu_layout.specs.Sound.{IsLayout}
use Rattle.lu_layout.proofs.Below.{IsCount, IsCount-is, IsCount-le, before_reached, at_reached, after_reached, rest-le-offset_of}
use Rattle.lu_layout.proofs.layout.Layout.below.Goals as goal

pub overflow_sub-round : goal.overflow_sub-round
overflow_sub-round c =
    rest-le-offset_of c.args.self.now c.args.n c.place-reached.result.1 c.self.inside.unit
    (ap (λ (l : Raid0). l.size) c.self.view_is)
    c.place-reached.ensures.offset

pub returns-then-stripe-reached : goal.returns-then-stripe-reached
returns-then-stripe-reached c =
    let good : IsLayout c.args.self.now = subst IsLayout c.self.view_is c.self.invariant.layout in
    let count : IsCount c.args.self.now c.args.stripe c.args.n (c.place-reached.result.1 - c.args.n % c.self.inside.unit +
    c.self.inside.unit) =
    before_reached c.args.self.now c.args.stripe c.args.n c.place-reached.result.0 c.place-reached.result.1 c.self.inside.unit good
    (ap (λ (l : Raid0). l.size) c.self.view_is) c.place-reached.ensures.stripe c.place-reached.ensures.offset c.if-stripe-reached.true in
    record { value = IsCount-is _ _ _ _ good c.requires.stripe count; below = count.counts; within = IsCount-le _ _ _ _ good count }

pub returns-then-stripe-reached-2 : goal.returns-then-stripe-reached-2
returns-then-stripe-reached-2 c =
    let good : IsLayout c.args.self.now = subst IsLayout c.self.view_is c.self.invariant.layout in
    let count : IsCount c.args.self.now c.args.stripe c.args.n c.place-reached.result.1 =
    at_reached c.args.self.now c.args.stripe c.args.n c.place-reached.result.0 c.place-reached.result.1 good
    c.place-reached.ensures.stripe c.place-reached.ensures.offset c.if-stripe-reached-2.true in
    record { value = IsCount-is _ _ _ _ good c.requires.stripe count; below = count.counts; within = IsCount-le _ _ _ _ good count }

pub returns-else-stripe-reached-2 : goal.returns-else-stripe-reached-2
returns-else-stripe-reached-2 c =
    let good : IsLayout c.args.self.now = subst IsLayout c.self.view_is c.self.invariant.layout in
    let count : IsCount c.args.self.now c.args.stripe c.args.n (c.place-reached.result.1 - c.args.n % c.self.inside.unit) =
    after_reached c.args.self.now c.args.stripe c.args.n c.place-reached.result.0 c.place-reached.result.1 c.self.inside.unit good
    (ap (λ (l : Raid0). l.size) c.self.view_is) c.place-reached.ensures.stripe c.place-reached.ensures.offset (omega arith)
    c.requires.stripe in
    record { value = IsCount-is _ _ _ _ good c.requires.stripe count; below = count.counts; within = IsCount-le _ _ _ _ good count }
