-- The map inserts in the order of names.
use Rattle.std.proofs.Common.{ap, ◌∙◌}
use Rattle.lu_spec_machine.specs.Change.{put_name}
use Rattle.lu_spec_machine.specs.Tree.{Directory}
use Rattle.lu_tree.proofs.Maps.{name_put}
use Rattle.lu_tree.proofs.folders.Folder.put.Goals as goal

pub returns-clause-put : goal.returns-clause-put
returns-clause-put c =
    let es = c.self.inside.entries.entries in
    ap (λ xs. record { mode = c.self.inside.mode; entries = xs })
    (c.in_ok-insert.ensures.entries ∙ name_put c.args.name c.args.child es c.self.invariant)
    ∙ ap (λ (x : Directory). record { mode = x.mode; entries = put_name c.args.name c.args.child x.entries }) c.self.view_is
