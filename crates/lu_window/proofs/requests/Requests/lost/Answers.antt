-- The lost numbers, of the replays as contracts see them.
use Rattle.std.proofs.Common.{◌∙◌, ◌&&◌, ap, map, filter, not, nat_lt}
use Rattle.std.specs.Map.{keys_of}
use Rattle.lu_spec_target.specs.Windows.{has_number, lost_of}
use Rattle.lu_window.proofs.Lists.{numbers_lost}
use Rattle.lu_window.proofs.requests.Requests.lost.Goals as goal

pub returns : goal.returns
returns c =
    c.from.ensures
    ∙ c.in_ok-lost.ensures
    ∙ ap (λ items. map (λ key. key.number) (filter (λ key. nat_lt c.args.committed key.number
    && not (has_number key.number c.args.kept.now.keys)) (keys_of items))) c.by_key.ensures.same
    ∙ numbers_lost c.args.committed c.args.kept.now.keys c.self.inside.replays
    ∙ ap (lost_of c.args.committed c.args.kept.now.keys) c.self.view_is
