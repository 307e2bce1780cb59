-- The row of what the new name leads to.
use Rattle.std.proofs.Common.{sym, ap, ◌++◌, ◌∙◌}
use Rattle.lu_msg.specs.declared.answers.Errno.TheVariants.{EBUSY}
use Rattle.lu_spec_machine.specs.Table.{root, row_rename}
use Rattle.lu_tree.specs.Walks.{looks, trail}
use Rattle.lu_tree.proofs.Reached.{last_is}
use Rattle.lu_tree.proofs.RowEnds.{last_row, last_row_looks}
use Rattle.lu_tree.proofs.inodes.Inodes.rename_to.Goals as goal

pub returns-in-Err-clause-ends : goal.returns-in-Err-clause-ends
returns-in-Err-clause-ends c = λ osts number who.
    last_row c.args.self.now EBUSY c.args.path.now c.in-Some.front.now c.in-Some.name.now _
    (row_rename c.args.old.dir c.args.old.name.now c.args.moved) c.in-Some.ensures.cases.0 c.in-Err.ensures.found

pub returns-in-Err-clause-looks : goal.returns-in-Err-clause-looks
returns-in-Err-clause-looks c =
    last_row_looks c.args.self.now EBUSY c.args.path.now c.in-Some.front.now c.in-Some.name.now _
    (row_rename c.args.old.dir c.args.old.name.now c.args.moved) c.in-Some.ensures.cases.0 c.in-Err.ensures.found

pub returns-in-Ok-clause-ends : goal.returns-in-Ok-clause-ends
returns-in-Ok-clause-ends c = λ osts number who.
    last_row c.args.self.now EBUSY c.args.path.now c.in-Some.front.now c.in-Some.name.now _
    (row_rename c.args.old.dir c.args.old.name.now c.args.moved) c.in-Some.ensures.cases.0 c.in-Ok.ensures.found
    ∙ c.rename_row.ensures.ends osts number who (trail c.args.self.now root c.in-Some.front.now) c.passes-inside.ensures.passes

pub returns-in-Ok-clause-looks : goal.returns-in-Ok-clause-looks
returns-in-Ok-clause-looks c =
    last_row_looks c.args.self.now EBUSY c.args.path.now c.in-Some.front.now c.in-Some.name.now _
    (row_rename c.args.old.dir c.args.old.name.now c.args.moved) c.in-Some.ensures.cases.0 c.in-Ok.ensures.found
    ∙ ap (λ ps. looks c.args.self.now root c.args.path.now ++ ps)
    (c.rename_row.ensures.looks (trail c.args.self.now root c.in-Some.front.now) c.passes-inside.ensures.passes)

pub returns-in-Ok-clause-seen : goal.returns-in-Ok-clause-seen
returns-in-Ok-clause-seen c = λ osts named.
    let h = last_is c.args.self.now c.in-Some.front.now c.in-Some.name.now c.in-Ok.field-0 (sym c.in-Ok.ensures.found) in
    c.rename_row.ensures.seen osts named (sym h.1) h.0
