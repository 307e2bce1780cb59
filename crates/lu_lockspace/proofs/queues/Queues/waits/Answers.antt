-- No lock waits where there is none.
use Rattle.std.proofs.Common.{rules, ◌≡◌, ◌∙◌, None, sym, ap}
use Rattle.lu_lockspace.specs.Spaces.{some_waits}
use Rattle.lu_lockspace.specs.Entries.{entry_of}
use Rattle.lu_lockspace.proofs.Laws.{at_none}
use Rattle.lu_lockspace.proofs.Waited.{none_waits}
use Rattle.lu_lockspace.proofs.queues.Queues.waits.Goals as goal

pub returns-in-None : goal.returns-in-None
returns-in-None c =
    let none : entry_of c.args.resource c.args.self.now ≡ None = search rules in
    sym (ap some_waits (at_none c.args.resource c.args.self.now none) ∙ none_waits)
