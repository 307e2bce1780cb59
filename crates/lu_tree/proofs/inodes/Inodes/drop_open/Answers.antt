-- What is kept are the other opens.
use Rattle.std.proofs.Common.{◌≡◌, ap, ◌∙◌, rules}
use Rattle.std.proofs.lemmas.Fn.{filter_same}
use Rattle.lu_spec_machine.specs.Change.{Closes, change, closed}
use Rattle.lu_spec_machine.specs.Tree.{Tree}
use Rattle.lu_tree.proofs.Views.{tree_of}
use Rattle.lu_tree.proofs.inodes.Inodes.drop_open.Goals as goal

pub returns : goal.returns
returns c =
    let kept : c.retain.new.self.items ≡ closed c.args.number c.args.who c.self.inside.opens.items =
    filter_same _ _ _ (λ x b f' k. search rules) _ _ c.retain.ensures.filtered in
    record {
      gone =
          ap (λ os. record (tree_of c.self.inside) { opens = os }) kept
          ∙ ap (λ (t : Tree). change t (Closes c.args.number c.args.who)) c.self.view_is;
    }
