-- The new name comes after the old one, if that leads to a file.
use Rattle.std.proofs.Common.{inl, refl, sym, ap, subst, [], ◌++◌, ◌∙◌, append-nil, append_assoc}
use Rattle.std.specs.declared.result.Result.TheVariants.{Ok}
use Rattle.lu_spec_machine.specs.Plan.{outcome, looked}
use Rattle.lu_spec_machine.specs.Table.{root, last_of, row_link}
use Rattle.lu_tree.specs.Ends.{names_after, looked_of, IsReached}
use Rattle.lu_tree.specs.Walks.{looks}
use Rattle.lu_tree.proofs.Reached.{last_trail, reach_is}
use Rattle.lu_tree.proofs.RowEnds.{whole_row, whole_row_looks}
use Rattle.lu_tree.proofs.inodes.Inodes.link_end.Goals as goal

pub returns-in-Err-clause-ends : goal.returns-in-Err-clause-ends
returns-in-Err-clause-ends c = λ number who. whole_row c.args.self.now c.args.old.now _ (λ cs. row_link c.args.new.now (last_of root cs))
    c.in-Err.ensures.reached

pub returns-in-Err-clause-looks : goal.returns-in-Err-clause-looks
returns-in-Err-clause-looks c =
    let t = c.args.self.now in
    let ps = looks t root c.args.old.now in
    whole_row_looks t c.args.old.now _ (λ cs. row_link c.args.new.now (last_of root cs)) c.in-Err.ensures.reached
    ∙ sym (append-nil (ps ++ []))
    ∙ ap (λ qs. ps ++ qs ++ []) (ap (names_after t c.args.new.now) c.in-Err.ensures.reached)

pub returns-in-Dir-clause-ends : goal.returns-in-Dir-clause-ends
returns-in-Dir-clause-ends c = λ number who.
    let t = c.args.self.now in
    whole_row t c.args.old.now _ (λ cs. row_link c.args.new.now (last_of root cs)) c.in-Ok.ensures.reached
    ∙ ap (λ b. outcome t (row_link c.args.new.now b)) (last_trail t root c.args.old.now c.in-Ok.at (sym c.in-Ok.ensures.reached)
    ∙ c.in-Dir.is)

pub returns-in-Dir-clause-looks : goal.returns-in-Dir-clause-looks
returns-in-Dir-clause-looks c =
    let t = c.args.self.now in
    let ps = looks t root c.args.old.now in
    whole_row_looks t c.args.old.now _ (λ cs. row_link c.args.new.now (last_of root cs)) c.in-Ok.ensures.reached
    ∙ ap (λ qs. ps ++ qs) (ap (λ b. looked t (row_link c.args.new.now b))
    (last_trail t root c.args.old.now c.in-Ok.at (sym c.in-Ok.ensures.reached) ∙ c.in-Dir.is))
    ∙ sym (append-nil (ps ++ [])) ∙ ap (λ qs. ps ++ qs ++ []) (ap (names_after t c.args.new.now)
    (ap Ok (sym c.in-Dir.is) ∙ c.in-Ok.ensures.reached))

pub returns-in-File-clause-ends : goal.returns-in-File-clause-ends
returns-in-File-clause-ends c = λ number who.
    let t = c.args.self.now in
    whole_row t c.args.old.now _ (λ cs. row_link c.args.new.now (last_of root cs)) c.in-Ok.ensures.reached
    ∙ ap (λ b. outcome t (row_link c.args.new.now b)) (last_trail t root c.args.old.now c.in-Ok.at (sym c.in-Ok.ensures.reached)
    ∙ c.in-File.is) ∙ c.last_end.ensures.ends number who

pub returns-in-File-clause-looks : goal.returns-in-File-clause-looks
returns-in-File-clause-looks c =
    let t = c.args.self.now in
    let ps = looks t root c.args.old.now in
    let qs = looks t root c.args.new.now in
    whole_row_looks t c.args.old.now _ (λ cs. row_link c.args.new.now (last_of root cs)) c.in-Ok.ensures.reached
    ∙ ap (λ xs. ps ++ xs)
    (ap (λ b. looked t (row_link c.args.new.now b)) (last_trail t root c.args.old.now c.in-Ok.at (sym c.in-Ok.ensures.reached)
    ∙ c.in-File.is) ∙ c.last_end.ensures.looks (record { 0 = 0 }))
    ∙ sym (append_assoc ps qs (looked_of c.last_end.result))
    ∙ ap (λ xs. ps ++ xs ++ looked_of c.last_end.result) (ap (names_after t c.args.new.now)
    (ap Ok (sym c.in-File.is) ∙ c.in-Ok.ensures.reached))

pub returns-in-File-clause-seen : goal.returns-in-File-clause-seen
returns-in-File-clause-seen c = c.last_end.ensures.seen (subst (IsReached c.args.self.now) c.in-File.is
    (reach_is c.args.self.now root c.args.old.now c.in-Ok.at (inl refl) (sym c.in-Ok.ensures.reached)))
