-- Sorted cookies, none of which is there twice, rise.
use Rattle.std.proofs.Common.{map, filter, subst, arith, IsPermutation}
use Rattle.std.specs.List.{list_any}
use Rattle.lu_lockspace.specs.Spaces.{AreCookiesOf, IsSpace, is_guarded}
use Rattle.lu_lockspace.specs.Entries.{all_of}
use Rattle.std.proofs.lemmas.List.Sorted.{IsPermutation-trans}
use Rattle.lu_lockspace.proofs.Lists.{rising_locks}
use Rattle.lu_lockspace.proofs.Laws.{lawful}
use Rattle.lu_lockspace.proofs.space.Lockspace.clash.Goals as goal

pub clashing-requires : goal.clashing-requires
clashing-requires c = c.self.invariant.rising

pub returns-clause-cookies : goal.returns-clause-cookies
returns-clause-cookies c =
    let space = all_of c.self.inside.queues in
    let moved : IsPermutation (map (λ lock. lock.cookie) (filter (λ lock. list_any (λ part. is_guarded part lock) c.args.parts.now)
    space.granted)) c.sorted.result =
    subst (λ parts. IsPermutation (map (λ lock. lock.cookie) (filter (λ lock. list_any (λ part. is_guarded part lock) parts) space.granted))
    c.sorted.result) c.as_slice.ensures.same
    (IsPermutation-trans _ _ _ c.in_ok-clashing.ensures c.sorted.ensures.same) in
    subst (λ s. AreCookiesOf (λ lock. list_any (λ part. is_guarded part lock) c.args.parts.now) s.granted c.sorted.result) c.self.view_is
    (record {
      all = moved;
      rising = rising_locks _ space.granted c.sorted.result
          (λ n. let once = (lawful c.self.inside.queues c.self.inside.places.entries c.self.invariant).once n in omega arith) moved
          c.sorted.ensures.rising;
    })

pub returns-in_err-clashing-clause-lawful : goal.returns-in_err-clashing-clause-lawful
returns-in_err-clashing-clause-lawful c = subst IsSpace c.self.view_is
    (lawful c.self.inside.queues c.self.inside.places.entries c.self.invariant)

pub returns-clause-lawful : goal.returns-clause-lawful
returns-clause-lawful c = subst IsSpace c.self.view_is (lawful c.self.inside.queues c.self.inside.places.entries c.self.invariant)
