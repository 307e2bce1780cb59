-- A range without bounds leaves none out.
use Rattle.std.proofs.Common.{◌∙◌}
use Rattle.lu_held.proofs.AtTarget.{all_between}
use Rattle.lu_held.proofs.held.all_names.Goals as goal

pub returns : goal.returns
returns c = c.range.ensures.between tt ∙ all_between c.args.names.now.keys
