-- Those of the noted resources on which a lock waits.
use Rattle.std.proofs.Common.{◌∙◌, ap}
use Rattle.lu_lockspace.specs.Spaces.{some_waits}
use Rattle.lu_lockspace.specs.Entries.{waited_on}
use Rattle.lu_lockspace.proofs.Kept.{kept_is}
use Rattle.lu_lockspace.proofs.Waited.{none_waits}
use Rattle.lu_lockspace.proofs.noted.Noted.waited_on.Goals as goal

pub returns-clause-resources : goal.returns-clause-resources
returns-clause-resources c =
    c.in_ok-resources.ensures.resources
    ∙ kept_is some_waits none_waits c.self.inside.queues c.self.inside.waited.keys c.self.invariant.rising c.waiting_among.ensures.ordered
    c.self.invariant.waits
    ∙ ap waited_on c.self.view_is
