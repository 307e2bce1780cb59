-- The new name comes after the old one, if that leads to something.
use Rattle.std.proofs.Common.{◌≡◌, [], ◌++◌, sym, ap, ◌∙◌, append-nil, append_assoc}
use Rattle.lu_msg.specs.declared.answers.Errno.TheVariants.{EBUSY, ENOENT}
use Rattle.std.specs.declared.result.Result.TheVariants.{Ok, Err}
use Rattle.lu_spec_machine.specs.Plan.{outcome, looked}
use Rattle.lu_spec_machine.specs.Table.{root, there, to_last, row_rename}
use Rattle.lu_tree.specs.Ends.{looked_of, names_if_there}
use Rattle.lu_tree.specs.Walks.{if_found, looks, reach}
use Rattle.lu_tree.proofs.Reached.{last_is}
use Rattle.lu_tree.proofs.TwoWalks.{names_is, not_empty, reach_last, rename_is, snoc_some}
use Rattle.lu_tree.proofs.RowEnds.{last_row, last_row_looks}
use Rattle.lu_tree.proofs.inodes.Inodes.rename_end.Goals as goal

pub returns-in-Err-clause-ends : goal.returns-in-Err-clause-ends
returns-in-Err-clause-ends c = λ osts number who.
    let t = c.args.self.now in
    let new = c.args.new.now in
    let some : new ≡ [] → ⊥ = not_empty c.is_empty.result new c.is_empty.ensures c.if-is_empty.false in
    ap (outcome t) (rename_is c.args.old.now new some)
    ∙ last_row t EBUSY c.args.old.now c.in-Some.front.now c.in-Some.name.now _ (λ cs d n. there (λ b. to_last EBUSY new (row_rename d n b)))
    c.in-Some.ensures.cases.0 c.in-Err.ensures.found

pub returns-in-Err-clause-looks : goal.returns-in-Err-clause-looks
returns-in-Err-clause-looks c =
    let t = c.args.self.now in
    let new = c.args.new.now in
    let ps = looks t root c.args.old.now in
    let some : new ≡ [] → ⊥ = not_empty c.is_empty.result new c.is_empty.ensures c.if-is_empty.false in
    let more : c.args.old.now ≡ [] → ⊥ = λ e. snoc_some c.in-Some.front.now c.in-Some.name.now (sym c.in-Some.ensures.cases.0 ∙ e) in
    let at : reach t root c.args.old.now ≡ Err c.in-Err.errno = ap (reach t root) c.in-Some.ensures.cases.0
    ∙ reach_last t root c.in-Some.front.now c.in-Some.name.now ∙ ap (if_found Ok Err) (sym c.in-Err.ensures.found) in
    ap (looked t) (rename_is c.args.old.now new some)
    ∙ last_row_looks t EBUSY c.args.old.now c.in-Some.front.now c.in-Some.name.now _
    (λ cs d n. there (λ b. to_last EBUSY new (row_rename d n b))) c.in-Some.ensures.cases.0 c.in-Err.ensures.found
    ∙ sym (append-nil (ps ++ [])) ∙ ap (λ xs. ps ++ xs ++ []) (ap (names_if_there t new) (sym at))
    ∙ ap (λ xs. xs ++ []) (sym (names_is t c.args.old.now new more some))

pub returns-in-None-clause-ends : goal.returns-in-None-clause-ends
returns-in-None-clause-ends c = λ osts number who.
    let t = c.args.self.now in
    let new = c.args.new.now in
    let some : new ≡ [] → ⊥ = not_empty c.is_empty.result new c.is_empty.ensures c.if-is_empty.false in
    ap (outcome t) (rename_is c.args.old.now new some)
    ∙ last_row t EBUSY c.args.old.now c.in-Some.front.now c.in-Some.name.now _ (λ cs d n. there (λ b. to_last EBUSY new (row_rename d n b)))
    c.in-Some.ensures.cases.0 c.in-Ok.ensures.found
    ∙ ap (λ o. outcome t (there (λ b. to_last EBUSY new (row_rename c.in-Ok.field-0.dir c.in-Some.name.now b)) o)) c.in-None.is

pub returns-in-None-clause-looks : goal.returns-in-None-clause-looks
returns-in-None-clause-looks c =
    let t = c.args.self.now in
    let new = c.args.new.now in
    let ps = looks t root c.args.old.now in
    let some : new ≡ [] → ⊥ = not_empty c.is_empty.result new c.is_empty.ensures c.if-is_empty.false in
    let more : c.args.old.now ≡ [] → ⊥ = λ e. snoc_some c.in-Some.front.now c.in-Some.name.now (sym c.in-Some.ensures.cases.0 ∙ e) in
    let at : reach t root c.args.old.now ≡ Err ENOENT =
    ap (reach t root) c.in-Some.ensures.cases.0 ∙ reach_last t root c.in-Some.front.now c.in-Some.name.now
    ∙ ap (if_found Ok Err) (sym c.in-Ok.ensures.found)
    ∙ ap (λ o. if_found Ok Err (Ok (record { dir = c.in-Ok.field-0.dir; child = o }))) c.in-None.is in
    ap (looked t) (rename_is c.args.old.now new some)
    ∙ last_row_looks t EBUSY c.args.old.now c.in-Some.front.now c.in-Some.name.now _
    (λ cs d n. there (λ b. to_last EBUSY new (row_rename d n b))) c.in-Some.ensures.cases.0 c.in-Ok.ensures.found
    ∙ ap (λ o. ps ++ looked t (there (λ b. to_last EBUSY new (row_rename c.in-Ok.field-0.dir c.in-Some.name.now b)) o)) c.in-None.is
    ∙ sym (append-nil (ps ++ [])) ∙ ap (λ xs. ps ++ xs ++ []) (ap (names_if_there t new) (sym at))
    ∙ ap (λ xs. xs ++ []) (sym (names_is t c.args.old.now new more some))

pub returns-in-Some-child-clause-ends : goal.returns-in-Some-child-clause-ends
returns-in-Some-child-clause-ends c = λ osts number who.
    let t = c.args.self.now in
    let new = c.args.new.now in
    let some : new ≡ [] → ⊥ = not_empty c.is_empty.result new c.is_empty.ensures c.if-is_empty.false in
    ap (outcome t) (rename_is c.args.old.now new some)
    ∙ last_row t EBUSY c.args.old.now c.in-Some.front.now c.in-Some.name.now _ (λ cs d n. there (λ b. to_last EBUSY new (row_rename d n b)))
    c.in-Some.ensures.cases.0 c.in-Ok.ensures.found
    ∙ ap (λ o. outcome t (there (λ b. to_last EBUSY new (row_rename c.in-Ok.field-0.dir c.in-Some.name.now b)) o)) c.in-Some-child.is
    ∙ c.rename_to.ensures.ends osts number who

pub returns-in-Some-child-clause-looks : goal.returns-in-Some-child-clause-looks
returns-in-Some-child-clause-looks c =
    let t = c.args.self.now in
    let new = c.args.new.now in
    let ps = looks t root c.args.old.now in
    let rest = looked_of c.rename_to.result in
    let some : new ≡ [] → ⊥ = not_empty c.is_empty.result new c.is_empty.ensures c.if-is_empty.false in
    let more : c.args.old.now ≡ [] → ⊥ = λ e. snoc_some c.in-Some.front.now c.in-Some.name.now (sym c.in-Some.ensures.cases.0 ∙ e) in
    let at : reach t root c.args.old.now ≡ Ok c.in-Some-child.moved =
    ap (reach t root) c.in-Some.ensures.cases.0 ∙ reach_last t root c.in-Some.front.now c.in-Some.name.now
    ∙ ap (if_found Ok Err) (sym c.in-Ok.ensures.found)
    ∙ ap (λ o. if_found Ok Err (Ok (record { dir = c.in-Ok.field-0.dir; child = o }))) c.in-Some-child.is in
    ap (looked t) (rename_is c.args.old.now new some)
    ∙ last_row_looks t EBUSY c.args.old.now c.in-Some.front.now c.in-Some.name.now _
    (λ cs d n. there (λ b. to_last EBUSY new (row_rename d n b))) c.in-Some.ensures.cases.0 c.in-Ok.ensures.found
    ∙ ap (λ o. ps ++ looked t (there (λ b. to_last EBUSY new (row_rename c.in-Ok.field-0.dir c.in-Some.name.now b)) o)) c.in-Some-child.is
    ∙ ap (λ xs. ps ++ xs) c.rename_to.ensures.looks ∙ sym (append_assoc ps (looks t root new) rest)
    ∙ ap (λ xs. ps ++ xs ++ rest) (ap (names_if_there t new) (sym at))
    ∙ ap (λ xs. xs ++ rest) (sym (names_is t c.args.old.now new more some))

pub returns-in-Some-child-clause-seen : goal.returns-in-Some-child-clause-seen
returns-in-Some-child-clause-seen c = λ osts.
    let h = last_is c.args.self.now c.in-Some.front.now c.in-Some.name.now c.in-Ok.field-0 (sym c.in-Ok.ensures.found) in
    c.rename_to.ensures.seen osts (sym h.1 ∙ c.in-Some-child.is)
