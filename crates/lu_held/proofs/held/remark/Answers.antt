-- All other names stay.
use Rattle.std.proofs.Common.{◌≡◌, filter, rules}
use borrow.Author.Tests.{tests}
use Rattle.std.proofs.lemmas.Fn.{filter_same}
use Rattle.lu_held.proofs.NameLaws.{others}
use Rattle.lu_held.proofs.held.remark.Goals as goal

pub returns-in-true-false-clause-names : goal.returns-in-true-false-clause-names
returns-in-true-false-clause-names c =
    let left : c.retain.new.self.items ≡ filter (others c.args.name) c.args.marked.now.items =
    filter_same _ (others c.args.name) _ (λ x b q k. search (rules, tests)) _ _ c.retain.ensures.filtered in
    rw (c.in-true-false.is-0, c.in-true-false.is-1) left
