-- One note more; and none is left at the end.
use Rattle.std.proofs.Common.{◌≡◌, true, sym, subst, arith}
use Rattle.std.specs.List.{list_any}
use Rattle.std.proofs.lemmas.List.{take_all}
use Rattle.lu_lockspace.specs.Spaces.{same_resource}
use Rattle.lu_lockspace.proofs.NotedLives.{more_resources}
use Rattle.lu_lockspace.proofs.stays.resources_of.Goals as goal

pub loop-stay-preserved : goal.loop-stay-preserved
loop-stay-preserved c =
    more_resources c.args.stays.now c.loop-stay.stay-index _ c.loop-stay.resources.keys c.insert.new.self.keys c.loop-stay-test.true
    c.loop-stay.invariant (λ r. c.in_ok-insert.ensures.updates.0 r)

pub returns : goal.returns
returns c = λ r h. c.loop-stay.invariant r
    (subst (λ stays. list_any (λ stay. same_resource r stay.resource) stays ≡ true)
    (sym (take_all _ _ (omega (arith, c.loop-stay-test.false)))) h)
