-- What is granted is the lock as it grows, and the laws of growth hold of it.
use Rattle.std.proofs.Common.{◌≡◌, ◌≤◌, ◌∙◌, refl, subst, arith}
use Rattle.lu_base.specs.declared.locks.Policy.TheVariants.{Range}
use Rattle.lu_lock.specs.Overlap.{IsRange}
use Rattle.lu_lock.specs.Growth.{granted_policy}
use Rattle.lu_lock.proofs.GrowthLaws.{granted_as_asked, granted_apart}
use Rattle.lu_lock.proofs.growth.grow.Goals as goal

pub returns-clause-as_asked : goal.returns-clause-as_asked
returns-clause-as_asked c = λ met.
    let same : Range c.extended.result ≡ granted_policy c.args.ask.now c.args.granted.now c.args.waiting.now =
    rw (c.in-Range.is, c.extended.ensures.grown) refl in
    same ∙ granted_as_asked c.args.ask.now c.args.granted.now c.args.waiting.now met

pub returns-clause-ordered : goal.returns-clause-ordered
returns-clause-ordered c =
    let in_order : c.in-Range.asked.first ≤ c.in-Range.asked.last = subst IsRange c.in-Range.is c.requires in
    let holds = c.extended.ensures.holds in
    omega arith

pub returns-clause-beside_granted : goal.returns-clause-beside_granted
returns-clause-beside_granted c =
    (granted_apart c.args.ask.now c.args.granted.now c.args.waiting.now (rw c.in-Range.is (subst IsRange c.in-Range.is c.requires))).0

pub returns-clause-beside_waiting : goal.returns-clause-beside_waiting
returns-clause-beside_waiting c =
    (granted_apart c.args.ask.now c.args.granted.now c.args.waiting.now (rw c.in-Range.is (subst IsRange c.in-Range.is c.requires))).1
