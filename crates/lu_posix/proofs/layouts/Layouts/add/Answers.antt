-- The map finds what was added.
use Rattle.std.proofs.Common.{◌∙◌, ap}
use Rattle.std.specs.Prelude.{if◌then◌else◌, Some, List}
use Rattle.std.specs.Map.{lookup}
use Rattle.lu_base.specs.declared.ids.Fid.{Fid}
use Rattle.lu_layout.specs.Raid0.{Raid0}
use Rattle.lu_spec_machine.specs.Tree.{same_fid}
use Rattle.lu_posix.proofs.Added.{added}
use Rattle.lu_posix.proofs.layouts.Layouts.add.Goals as goal

pub returns : goal.returns
returns c = record {
  added = λ f.
      ap (λ (es : List (Fid × Raid0)). lookup (same_fid f) es) c.in_ok-insert.ensures.entries
      ∙ added c.args.fid c.args.layout c.self.inside.entries.entries f
      ∙ ap (λ (es : List (Fid × Raid0)). if same_fid c.args.fid f then Some c.args.layout else lookup (same_fid f) es) c.self.view_is;
}
