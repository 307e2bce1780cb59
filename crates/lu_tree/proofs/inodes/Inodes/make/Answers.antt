-- Where the name found no memory, the directory goes again.
use Rattle.std.proofs.Common.{ap, ◌∙◌}
use Rattle.lu_spec_machine.specs.Tree.{Tree, listing}
use Rattle.lu_spec_machine.specs.Change.{Leaves, change}
use Rattle.lu_spec_machine.specs.Table.{made_by}
use Rattle.lu_tree.proofs.Dirs.{unmade, made_empty}
use Rattle.lu_tree.proofs.inodes.Inodes.make.Goals as goal

pub leave-requires : goal.leave-requires
leave-requires c = ap (λ (t : Tree). listing t (made_by c.args.number)) (c.in-Err.ensures.kept ∙ c.in_ok-make_dir.ensures.made)
    ∙ made_empty c.args.self.now (made_by c.args.number)

pub returns-in-Err-clause-kept : goal.returns-in-Err-clause-kept
returns-in-Err-clause-kept c =
    c.leave.ensures.gone ∙ ap (λ (t : Tree). change t (Leaves (made_by c.args.number)))
    (c.in-Err.ensures.kept ∙ c.in_ok-make_dir.ensures.made)
    ∙ unmade c.args.self.now (made_by c.args.number) c.requires.unused
