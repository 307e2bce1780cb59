-- Sorted cookies, none of which is there twice, rise.
use Rattle.std.proofs.Common.{rules, map, filter, subst, arith, IsPermutation}
use Rattle.lu_queue.specs.Queues.{same_who}
use Rattle.lu_lockspace.specs.Spaces.{AreCookiesOf, IsSpace}
use Rattle.lu_lockspace.specs.Entries.{all_of}
use Rattle.lu_lockspace.proofs.Lists.{rising_locks}
use Rattle.lu_lockspace.proofs.Laws.{lawful}
use Rattle.lu_lockspace.proofs.space.Lockspace.of.Goals as goal

pub returns-clause-cookies : goal.returns-clause-cookies
returns-clause-cookies c =
    let space = all_of c.self.inside.queues in
    let moved : IsPermutation (map (λ lock. lock.cookie) (filter (λ lock. same_who lock.ask.who c.args.who) space.granted))
    c.sorted.result = search rules in
    subst (λ s. AreCookiesOf (λ lock. same_who lock.ask.who c.args.who) s.granted c.sorted.result) c.self.view_is
    (record {
      all = moved;
      rising = rising_locks _ space.granted c.sorted.result
          (λ n. let once = (lawful c.self.inside.queues c.self.inside.places.entries c.self.invariant).once n in omega arith) moved
          c.sorted.ensures.rising;
    })

pub returns-in_err-of_life-clause-lawful : goal.returns-in_err-of_life-clause-lawful
returns-in_err-of_life-clause-lawful c = subst IsSpace c.self.view_is
    (lawful c.self.inside.queues c.self.inside.places.entries c.self.invariant)

pub returns-clause-lawful : goal.returns-clause-lawful
returns-clause-lawful c = subst IsSpace c.self.view_is (lawful c.self.inside.queues c.self.inside.places.entries c.self.invariant)
