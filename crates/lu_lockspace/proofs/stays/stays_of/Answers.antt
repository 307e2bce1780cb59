-- One life more; and none is left at the end.
use Rattle.std.proofs.Common.{rules, ◌≡◌, ◌+◌, ◌++◌, take, sym, subst, arith}
use Rattle.std.proofs.lemmas.List.{take_all}
use Rattle.lu_lockspace.specs.Notes.{AllNoted}
use Rattle.lu_lockspace.proofs.NotedLives.{noted_more_lives}
use Rattle.lu_lockspace.proofs.stays.stays_of.Goals as goal

pub loop-who-preserved : goal.loop-who-preserved
loop-who-preserved c =
    let i = c.loop-who.who-index in
    let more = c.in_ok-stays_in.field-0.items in
    let e : c.extend_from_slice.new.self.items ≡ c.loop-who.some.items ++ more = search rules in
    subst (AllNoted (take (i + 1) c.args.lives.now) c.args.stays.now.keys) (sym e)
    (noted_more_lives c.args.lives.now i _ c.args.stays.now.keys c.loop-who.some.items more c.loop-who-test.true c.loop-who.invariant
    c.in_ok-stays_in.ensures)

pub returns : goal.returns
returns c = subst (λ lives. AllNoted lives c.args.stays.now.keys c.loop-who.some.items)
    (take_all _ _ (omega (arith, c.loop-who-test.false))) c.loop-who.invariant
