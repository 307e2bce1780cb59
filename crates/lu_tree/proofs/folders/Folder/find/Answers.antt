-- The map finds by the order what the definition finds by sameness.
use Rattle.std.proofs.Common.{ap, ◌∙◌}
use Rattle.std.specs.Map.{lookup}
use Rattle.lu_spec_machine.specs.Name.{same_name}
use Rattle.lu_spec_machine.specs.Tree.{Directory}
use Rattle.lu_tree.proofs.Maps.{name_found}
use Rattle.lu_tree.proofs.folders.Folder.find.Goals as goal

pub returns : goal.returns
returns c =
    record {
      found =
          c.copied.ensures ∙ c.get.ensures.value ∙ name_found c.args.name.now c.self.inside.entries.entries
          ∙ ap (λ (x : Directory). lookup (same_name c.args.name.now) x.entries) c.self.view_is;
    }
