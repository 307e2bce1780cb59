-- The row of what the last name leads to.
use Rattle.std.proofs.Common.{sym, ap, ◌++◌, ◌∙◌}
use Rattle.lu_spec_machine.specs.Table.{root}
use Rattle.lu_tree.specs.Rows.{last_row_of, no_last}
use Rattle.lu_tree.specs.Walks.{looks}
use Rattle.lu_tree.proofs.Reached.{last_is}
use Rattle.lu_tree.proofs.RowEnds.{last_row, last_row_looks}
use Rattle.lu_tree.proofs.inodes.Inodes.last_end.Goals as goal

pub returns-in-Err-clause-ends : goal.returns-in-Err-clause-ends
returns-in-Err-clause-ends c = λ number who.
    last_row c.args.self.now (no_last c.args.ask) c.args.path.now c.in-Some.front.now c.in-Some.name.now _
    (λ cs. last_row_of c.args.osts number c.args.ask) c.in-Some.ensures.cases.0 c.in-Err.ensures.found

pub returns-in-Err-clause-looks : goal.returns-in-Err-clause-looks
returns-in-Err-clause-looks c = λ number.
    last_row_looks c.args.self.now (no_last c.args.ask) c.args.path.now c.in-Some.front.now c.in-Some.name.now _
    (λ cs. last_row_of c.args.osts number c.args.ask) c.in-Some.ensures.cases.0 c.in-Err.ensures.found

pub returns-in-Ok-clause-ends : goal.returns-in-Ok-clause-ends
returns-in-Ok-clause-ends c = λ number who.
    last_row c.args.self.now (no_last c.args.ask) c.args.path.now c.in-Some.front.now c.in-Some.name.now _
    (λ cs. last_row_of c.args.osts number c.args.ask) c.in-Some.ensures.cases.0 c.in-Ok.ensures.found
    ∙ c.last_row.ensures.ends number who

pub returns-in-Ok-clause-looks : goal.returns-in-Ok-clause-looks
returns-in-Ok-clause-looks c = λ number.
    last_row_looks c.args.self.now (no_last c.args.ask) c.args.path.now c.in-Some.front.now c.in-Some.name.now _
    (λ cs. last_row_of c.args.osts number c.args.ask) c.in-Some.ensures.cases.0 c.in-Ok.ensures.found
    ∙ ap (λ ps. looks c.args.self.now root c.args.path.now ++ ps) (c.last_row.ensures.looks number)

pub returns-in-Ok-clause-seen : goal.returns-in-Ok-clause-seen
returns-in-Ok-clause-seen c =
    let h = last_is c.args.self.now c.in-Some.front.now c.in-Some.name.now c.in-Ok.field-0 (sym c.in-Ok.ensures.found) in
    λ askable. c.last_row.ensures.seen askable h.0 (sym h.1)
