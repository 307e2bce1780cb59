-- The chain over the row gives those that may be used, in order.
use Rattle.std.proofs.Common.{◌∙◌, rules}
use borrow.Author.Tests.{tests}
use Rattle.std.proofs.lemmas.Iterator.Consumers.{nth_from_yields_List, YieldsList-from_filter, YieldsList-from_rest}
use Rattle.lu_cache.proofs.log.first_usable.Goals as goal

pub returns-clause-first : goal.returns-clause-first
returns-clause-first g c =
    nth_from_yields_List c.nth.result c.nth.new.self 0 c.nth.ensures.ran
    (YieldsList-from_filter _ (λ e. g.G.Guards.may_use c.args.guards.now e.0)
    (YieldsList-from_rest c.args.cookies.now.entries (c.filter.ensures.source ∙ c.iter.ensures.rest)) c.filter.ensures.closure
    (λ x b q k. search (rules, tests)))
