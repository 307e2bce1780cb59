use Rattle.std.proofs.Common.{sym, ◌∙◌}
use Rattle.lu_base.proofs.Outcomes.{some_items}
use Rattle.lu_base.proofs.Paths.{path_text-further}
use Rattle.lu_base.proofs.text.put_names.Goals as goal

pub returns-clause-put : goal.returns-clause-put
returns-clause-put c =
    rw (path_text-further c.args.names.now (some_items c.args.names.now (sym c.is_empty.ensures ∙ c.if-is_empty.false)))
    c.put_further_names.ensures.put
