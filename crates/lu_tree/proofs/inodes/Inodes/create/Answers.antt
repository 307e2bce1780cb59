-- Where the name found no memory, the file goes again.
use Rattle.std.proofs.Common.{ap, ◌∙◌}
use Rattle.lu_spec_machine.specs.Change.{new_file}
use Rattle.lu_spec_machine.specs.Table.{made_by}
use Rattle.lu_spec_machine.specs.Tree.{Tree}
use Rattle.lu_tree.specs.Lives.{without_file}
use Rattle.lu_tree.proofs.Dirs.{unmade_file}
use Rattle.lu_tree.proofs.inodes.Inodes.create.Goals as goal

pub returns-in-Err-clause-kept : goal.returns-in-Err-clause-kept
returns-in-Err-clause-kept c =
    c.drop_file.ensures.gone ∙ ap (λ (t : Tree). without_file t (made_by c.args.number))
    (c.in-Err.ensures.kept ∙ c.in_ok-make_file.ensures.made)
    ∙ unmade_file c.args.self.now (made_by c.args.number) (new_file c.args.layout) c.requires.unused
