-- The chain over the names gives those that are asked for, in order.
use Rattle.std.proofs.Common.{◌∙◌, rules}
use borrow.Author.Tests.{tests}
use Rattle.std.proofs.lemmas.Iterator.Consumers.{nth_from_yields_List, YieldsList-from_filter, YieldsList-from_rest}
use Rattle.lu_held.specs.Kept.{is_asked, names_for}
use Rattle.lu_held.proofs.held.name_among.Goals as goal

pub returns : goal.returns
returns c =
    c.copied.ensures
    ∙ nth_from_yields_List c.nth.result c.nth.new.self c.args.at c.nth.ensures.ran
    (YieldsList-from_filter _ (is_asked c.args.wanted c.args.uses.now.entries)
    (YieldsList-from_rest (names_for c.args.wanted c.args.names.now.keys) (c.filter.ensures.source ∙ c.names_for.ensures))
    c.filter.ensures.closure (λ x b q k. search (rules, tests)))
