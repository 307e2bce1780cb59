-- No life has handed in more than there is in all.
use Rattle.std.proofs.Common.{◌≡◌, ◌≤◌, ◌∙◌, length, filter, ap, arith}
use Rattle.lu_replay.specs.declared.handed.Key.{Key}
use Rattle.lu_replay.specs.Handed.{same_life}
use Rattle.lu_replay.proofs.Items.{few}
use Rattle.lu_replay.proofs.handed.Handed.count.Goals as goal

pub returns-clause-count : goal.returns-clause-count
returns-clause-count g c =
    let entries = c.self.inside.items.entries in
    let counted : c.count_in-count.result ≡ length (filter (λ item. same_life item.0.who c.args.who) entries) = c.count_in-count.ensures
    ∙ c.self.invariant c.args.who in
    let bound : length (filter (λ item. same_life item.0.who c.args.who) entries) ≤ length entries =
    few (λ item. same_life item.0.who c.args.who) entries in
    let same : c.min.result ≡ length (filter (λ item. same_life item.0.who c.args.who) entries) =
    grind (arith, c.min.ensures, counted, bound, c.len.ensures.len) in
    same ∙ ap (λ items. length (filter (λ item. same_life item.0.who c.args.who) items)) c.self.view_is
