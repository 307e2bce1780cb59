-- The inode is as it was before the name went.
use Rattle.std.proofs.Common.{sym, ap, subst, ◌∙◌}
use Rattle.lu_spec_machine.specs.Change.{Drops, change}
use Rattle.lu_spec_machine.specs.Tree.{Tree}
use Rattle.lu_spec_machine.specs.Trim.{trim}
use Rattle.lu_tree.specs.Ends.{MayLeave, leaving}
use Rattle.lu_tree.specs.Lives.{IsThere}
use Rattle.lu_tree.proofs.Replaced.{leaving_with, may_leave_dropped, there_with}
use Rattle.lu_tree.proofs.inodes.Inodes.lose_name.Goals as goal

pub lose-requires-clause-there : goal.lose-requires-clause-there
lose-requires-clause-there c =
    let t = c.args.self.now in
    let u = change t (Drops c.args.old.dir c.args.old.name.now) in
    subst (λ (u : Tree). IsThere u c.args.gone) (sym c.unlead.ensures.gone) (there_with t u.dirs c.args.gone c.requires.there)

pub lose-requires-clause-empty : goal.lose-requires-clause-empty
lose-requires-clause-empty c =
    subst (λ (u : Tree). MayLeave u c.args.gone) (sym c.unlead.ensures.gone)
    (may_leave_dropped c.args.self.now c.args.old.dir c.args.old.name.now c.args.gone c.requires.empty)

pub returns : goal.returns
returns c =
    let t = c.args.self.now in
    let g = c.args.gone in
    let u = change t (Drops c.args.old.dir c.args.old.name.now) in
    record {
      gone = c.lose.ensures.gone ∙ ap (λ (u : Tree). trim (change u (leaving u g))) c.unlead.ensures.gone
          ∙ ap (λ x. trim (change u x)) (leaving_with t u.dirs g);
    }
