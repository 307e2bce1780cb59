-- The chain over the names gives those that are asked for, in order.
use Rattle.std.proofs.Common.{◌∙◌, ap, rules}
use borrow.Author.Tests.{tests}
use Rattle.std.specs.Slice.Iter.{iter_rest}
use Rattle.std.proofs.lemmas.Iterator.{YieldsList-from_slice}
use Rattle.std.proofs.lemmas.Iterator.Consumers.{nth_from_yields_List, YieldsList-from_filter}
use Rattle.lu_held.specs.Kept.{is_asked}
use Rattle.lu_held.proofs.held.marked_among.Goals as goal

pub returns : goal.returns
returns c =
    c.copied.ensures
    ∙ nth_from_yields_List c.nth.result c.nth.new.self c.args.at c.nth.ensures.ran
    (YieldsList-from_filter _ (is_asked c.args.wanted c.args.uses.now.entries)
    (YieldsList-from_slice c.args.names.now (ap iter_rest c.filter.ensures.source ∙ c.iter.ensures.rest)) c.filter.ensures.closure
    (λ x b q k. search (rules, tests)))
