-- The locks of the lives that stay, as contracts see them.
use Rattle.std.proofs.Common.{◌∙◌, ap, map, filter, not}
use Rattle.std.specs.List.{list_any}
use Rattle.lu_spec_entries.specs.Words.{same_life}
use Rattle.lu_spec_target.specs.Windows.{staying}
use Rattle.lu_window.specs.Shown.{gone, lock_of}
use Rattle.lu_window.proofs.Lists.{locks_staying}
use Rattle.lu_window.proofs.brought.Brought.staying.Goals as goal

pub returns : goal.returns
returns c =
    c.from.ensures
    ∙ c.in_ok-locks.ensures
    ∙ ap (λ items. map lock_of (filter (λ item. not (list_any (λ eviction. same_life item.0.who eviction.who) c.args.evicted.now)) items))
    c.by_key.ensures.same
    ∙ locks_staying c.args.evicted.now c.self.inside.locks
    ∙ ap (staying (map gone c.args.evicted.now)) c.self.view_is
