-- The count is that of the replays as contracts see them.
use Rattle.std.proofs.Common.{◌∙◌, length, filter, ap, sym}
use Rattle.lu_spec_entries.specs.Words.{same_life}
use Rattle.lu_window.specs.Shown.{replayed_of}
use Rattle.lu_window.proofs.Maps.{count_map}
use Rattle.lu_window.proofs.requests.Requests.count.Goals as goal

pub returns : goal.returns
returns c =
    c.count.ensures.count
    ∙ sym (count_map replayed_of (λ r. same_life r.who c.args.who) c.self.inside.replays)
    ∙ ap (λ replays. length (filter (λ r. same_life r.who c.args.who) replays)) c.self.view_is
