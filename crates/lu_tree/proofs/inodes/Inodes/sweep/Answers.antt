-- What is kept are the files that have a name or an open.
use Rattle.std.proofs.Common.{◌≡◌, ap, ◌∙◌, rules}
use Rattle.std.proofs.lemmas.Map.Made.{filter_same_pairs}
use Rattle.lu_spec_machine.specs.Trim.{living, trim}
use Rattle.lu_tree.proofs.Views.{tree_of}
use Rattle.lu_tree.proofs.inodes.Inodes.sweep.Goals as goal

pub returns : goal.returns
returns c =
    let kept : c.retain.new.self.entries ≡ living c.as_slice-opens.result.now c.self.inside.files.entries =
    filter_same_pairs _ _ _ (λ k v b w f' h. search rules) _ _ c.retain.ensures.filtered in
    record {
      swept =
          ap (λ fs. record (tree_of c.self.inside) { files = fs })
          (kept ∙ ap (λ os. living os c.self.inside.files.entries) c.as_slice-opens.ensures.value)
          ∙ ap trim c.self.view_is;
    }
