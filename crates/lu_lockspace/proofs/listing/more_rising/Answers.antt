-- Sorted cookies, none of which is there twice, rise.
use Rattle.std.proofs.Common.{rules, IsPermutation}
use Rattle.lu_lockspace.specs.Spaces.{blocking_more}
use Rattle.lu_lockspace.proofs.Lists.{rising_grants}
use Rattle.lu_lockspace.proofs.listing.more_rising.Goals as goal

pub returns-clause-rising : goal.returns-clause-rising
returns-clause-rising c =
    let moved : IsPermutation (blocking_more c.args.ask.now c.args.granted.now c.args.told.now) c.sorted.result = search rules in
    rising_grants _ c.args.granted.now c.sorted.result c.requires moved c.sorted.ensures.rising
