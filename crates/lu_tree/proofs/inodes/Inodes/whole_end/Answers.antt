-- The row of what the whole path leads to.
use Rattle.std.proofs.Common.{inl, refl, sym, ap, ◌++◌, ◌∙◌}
use Rattle.lu_spec_machine.specs.Plan.{outcome, looked}
use Rattle.lu_spec_machine.specs.Table.{root, last_of}
use Rattle.lu_tree.specs.Rows.{row_of}
use Rattle.lu_tree.specs.Walks.{looks, trail}
use Rattle.lu_tree.proofs.Reached.{last_trail, reach_is}
use Rattle.lu_tree.proofs.RowEnds.{whole_row, whole_row_looks}
use Rattle.lu_tree.proofs.inodes.Inodes.whole_end.Goals as goal

pub returns-in-Err-clause-ends : goal.returns-in-Err-clause-ends
returns-in-Err-clause-ends c = λ osts number who. whole_row c.args.self.now c.args.path.now _
    (λ cs. row_of number who c.args.ask cs (last_of root cs)) c.in-Err.ensures.reached

pub returns-in-Err-clause-looks : goal.returns-in-Err-clause-looks
returns-in-Err-clause-looks c = λ number who. whole_row_looks c.args.self.now c.args.path.now _
    (λ cs. row_of number who c.args.ask cs (last_of root cs)) c.in-Err.ensures.reached

pub returns-in-Ok-clause-ends : goal.returns-in-Ok-clause-ends
returns-in-Ok-clause-ends c = λ osts number who.
    let t = c.args.self.now in
    let cs = trail t root c.args.path.now in
    whole_row t c.args.path.now _ (λ cs. row_of number who c.args.ask cs (last_of root cs)) c.in-Ok.ensures.reached
    ∙ ap (λ b. outcome t (row_of number who c.args.ask cs b)) (last_trail t root c.args.path.now c.in-Ok.at (sym c.in-Ok.ensures.reached))
    ∙ c.row.ensures.ends osts number who cs

pub returns-in-Ok-clause-looks : goal.returns-in-Ok-clause-looks
returns-in-Ok-clause-looks c = λ number who.
    let t = c.args.self.now in
    let cs = trail t root c.args.path.now in
    whole_row_looks t c.args.path.now _ (λ cs. row_of number who c.args.ask cs (last_of root cs)) c.in-Ok.ensures.reached
    ∙ ap (λ ps. looks t root c.args.path.now ++ ps)
    (ap (λ b. looked t (row_of number who c.args.ask cs b)) (last_trail t root c.args.path.now c.in-Ok.at (sym c.in-Ok.ensures.reached))
    ∙ c.row.ensures.looks number who cs)

pub returns-in-Ok-clause-seen : goal.returns-in-Ok-clause-seen
returns-in-Ok-clause-seen c = λ osts. c.row.ensures.seen osts (reach_is c.args.self.now root c.args.path.now c.in-Ok.at (inl refl)
    (sym c.in-Ok.ensures.reached))
