-- The test is the one of the definition.
use Rattle.std.proofs.Common.{if◌then◌else◌, sym, ap, ◌∙◌}
use Rattle.lu_tree.proofs.ends.last_used.Goals as goal

pub returns-then-changes : goal.returns-then-changes
returns-then-changes c = λ osts t who. sym (ap (λ v. if v then c.args.number.0 else c.args.last)
    (sym (c.changes.ensures osts t c.args.number who) ∙ c.if-changes.true))

pub returns-else-changes : goal.returns-else-changes
returns-else-changes c = λ osts t who. sym (ap (λ v. if v then c.args.number.0 else c.args.last)
    (sym (c.changes.ensures osts t c.args.number who) ∙ c.if-changes.false))
