-- The map loses the name.
use Rattle.std.proofs.Common.{ap, ◌∙◌}
use Rattle.lu_spec_machine.specs.Entries.{without}
use Rattle.lu_spec_machine.specs.Name.{same_name}
use Rattle.lu_spec_machine.specs.Tree.{Directory}
use Rattle.lu_tree.proofs.Maps.{name_gone}
use Rattle.lu_tree.proofs.folders.Folder.remove.Goals as goal

pub returns : goal.returns
returns c =
    let es = c.self.inside.entries.entries in
    record {
      gone =
          ap (λ xs. record { mode = c.self.inside.mode; entries = xs })
          (c.remove.ensures.entries ∙ name_gone c.args.name.now es c.self.invariant)
          ∙ ap (λ (x : Directory). record { mode = x.mode; entries = without (same_name c.args.name.now) x.entries }) c.self.view_is;
    }
