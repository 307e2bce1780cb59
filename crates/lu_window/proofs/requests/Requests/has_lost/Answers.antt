-- Whether a life lost one, of the replays as contracts see them.
use Rattle.std.proofs.Common.{◌∙◌, ◌&&◌, ap, not, nat_lt}
use Rattle.std.specs.List.{list_any}
use Rattle.std.specs.Map.{keys_of}
use Rattle.lu_spec_entries.specs.Words.{same_life}
use Rattle.lu_spec_target.specs.Windows.{has_number, has_lost}
use Rattle.lu_window.proofs.Lists.{one_lost}
use Rattle.lu_window.proofs.requests.Requests.has_lost.Goals as goal

pub returns : goal.returns
returns c =
    c.has_lost.ensures
    ∙ ap (λ items. list_any (λ key. same_life key.who c.args.who
    && (nat_lt c.args.committed key.number && not (has_number key.number c.args.kept.now.keys))) (keys_of items)) c.by_key.ensures.same
    ∙ one_lost c.args.committed c.args.kept.now.keys c.args.who c.self.inside.replays
    ∙ ap (λ replays. has_lost c.args.committed c.args.kept.now.keys replays c.args.who) c.self.view_is
