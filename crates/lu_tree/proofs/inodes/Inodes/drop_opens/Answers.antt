-- What is kept are the opens of other lives.
use Rattle.std.proofs.Common.{◌≡◌, not, ap, ◌∙◌, rules}
use Rattle.std.specs.List.{filter}
use Rattle.std.proofs.lemmas.Fn.{filter_same}
use Rattle.lu_spec_machine.specs.Footprint.{forget}
use Rattle.lu_spec_machine.specs.Tree.{Tree, same_life}
use Rattle.lu_tree.proofs.Views.{tree_of}
use Rattle.lu_tree.proofs.inodes.Inodes.drop_opens.Goals as goal

pub returns : goal.returns
returns c =
    let kept : c.retain.new.self.items ≡ filter (λ o. not (same_life o.life c.args.who)) c.self.inside.opens.items =
    filter_same _ _ _ (λ x b f' k. search rules) _ _ c.retain.ensures.filtered in
    record {
      gone =
          ap (λ os. record (tree_of c.self.inside) { opens = os }) kept
          ∙ ap (λ (t : Tree). forget t c.args.who) c.self.view_is;
    }
