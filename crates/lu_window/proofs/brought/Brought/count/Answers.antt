-- The count is that of the locks as contracts see them.
use Rattle.std.proofs.Common.{◌∙◌, length, filter, ap, sym}
use Rattle.lu_spec_entries.specs.Words.{same_life}
use Rattle.lu_window.specs.Shown.{lock_of}
use Rattle.lu_window.proofs.Maps.{count_map}
use Rattle.lu_window.proofs.brought.Brought.count.Goals as goal

pub returns : goal.returns
returns c =
    c.count.ensures.count
    ∙ sym (count_map lock_of (λ lock. same_life lock.ask.who c.args.who) c.self.inside.locks)
    ∙ ap (λ locks. length (filter (λ lock. same_life lock.ask.who c.args.who) locks)) c.self.view_is
