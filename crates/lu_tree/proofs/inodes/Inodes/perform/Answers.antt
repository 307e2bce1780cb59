-- No other file leaves.
use Rattle.std.proofs.Common.{[], ◌∷◌, inr, refl, sym, ap, subst, ◌∙◌}
use Rattle.std.proofs.lemmas.Result.{on_ok_weaker}
use Rattle.lu_spec_machine.specs.declared.child.Child.TheVariants.{File}
use Rattle.lu_spec_machine.specs.Change.{Drops, Leads, MakesFile, change, changed}
use Rattle.lu_spec_machine.proofs.Leads.{empty_other, other}
use Rattle.lu_spec_machine.specs.Table.{made_by}
use Rattle.lu_spec_machine.specs.Tree.{Tree, file}
use Rattle.lu_spec_machine.specs.Trim.{trim}
use Rattle.lu_tree.proofs.Lean.{lean_with}
use Rattle.lu_tree.proofs.Living.{lean_create, lean_link, lean_mode, lean_open}
use Rattle.lu_tree.proofs.Named.{child_there}
use Rattle.lu_tree.proofs.Replaced.{leaving_with, may_leave_still, there_with}
use Rattle.lu_tree.specs.Ends.{MayLeave, leaving}
use Rattle.lu_tree.specs.Lives.{IsThere}
use Rattle.lu_tree.proofs.inodes.Inodes.perform.Goals as goal

pub make-requires : goal.make-requires
make-requires c = let h = rw c.in-Makes.is at c.requires.fresh in record { unused = (h refl).dirs }

pub returns-in-Makes-clause-done : goal.returns-in-Makes-clause-done
returns-in-Makes-clause-done c = rw c.in-Makes.is (on_ok_weaker c.make.result
    (λ made. made ∙ sym (lean_with c.args.self.now _ c.requires.lean)) c.make.ensures.made)

pub returns-in-Creates-clause-done : goal.returns-in-Creates-clause-done
returns-in-Creates-clause-done c =
    let t = c.args.self.now in
    let f = made_by c.args.number in
    rw c.in-Creates.is
    (on_ok_weaker c.create.result
    (λ made. made ∙ sym (lean_create t f c.striped-layout.result c.in-Creates.new.dir c.in-Creates.new.name.now (File f) c.requires.lean)
    ∙ ap (λ l. trim (changed t (MakesFile f l ∷ Leads c.in-Creates.new.dir c.in-Creates.new.name.now (File f) ∷ [])))
    c.striped-layout.ensures)
    c.create.ensures.made)

pub link-requires-clause-there : goal.link-requires-clause-there
link-requires-clause-there c = let h = rw c.in-Links.is at c.requires.seen
    in child_there c.args.self.now (File c.in-Links.file) c.requires.counted h.2

pub returns-in-Links-clause-done : goal.returns-in-Links-clause-done
returns-in-Links-clause-done c =
    let t = c.args.self.now in
    let f = c.in-Links.file in
    rw c.in-Links.is (on_ok_weaker c.link.result (λ linked. linked
    ∙ sym (lean_link t c.in-Links.new.dir c.in-Links.new.name.now (File f) f (file t f).links c.requires.lean)) c.link.ensures.linked)

pub lose_name-requires-clause-there : goal.lose_name-requires-clause-there
lose_name-requires-clause-there c =
    let h = rw c.in-Loses.is at c.requires.seen in
    child_there c.args.self.now c.in-Loses.gone c.requires.counted (inr (c.in-Loses.old.dir, c.in-Loses.old.name.now, h.0))

pub set_mode-requires : goal.set_mode-requires
set_mode-requires c = let h = rw c.in-SetsMode.is at c.requires.seen
    in record { there = child_there c.args.self.now c.in-SetsMode.child c.requires.counted h }

pub returns-in-SetsMode-clause-done : goal.returns-in-SetsMode-clause-done
returns-in-SetsMode-clause-done c =
    let h = rw c.in-SetsMode.is at c.requires.seen in
    rw c.in-SetsMode.is (on_ok_weaker c.set_mode.result (λ set. set
    ∙ sym (lean_mode c.args.self.now c.in-SetsMode.child c.in-SetsMode.mode c.requires.counted h c.requires.lean))
    c.set_mode.ensures.set)

pub move_name-requires-clause-other : goal.move_name-requires-clause-other
move_name-requires-clause-other c =
    let h = rw c.in-Moves.is at c.requires.seen in
    empty_other c.args.self.now c.in-Moves.new.dir c.in-Moves.new.name.now c.in-Moves.old.dir c.in-Moves.old.name.now c.in-Moves.moved h.1
    h.0

pub move_name-requires-in-Replaces-clause-other : goal.move_name-requires-in-Replaces-clause-other
move_name-requires-in-Replaces-clause-other c =
    let h = rw c.in-Replaces.is at c.requires.seen in
    other c.args.self.now c.in-Replaces.new.dir c.in-Replaces.new.name.now c.in-Replaces.old.dir c.in-Replaces.old.name.now
    c.in-Replaces.gone c.in-Replaces.moved h.1 h.0 h.2

pub lose-requires-clause-there : goal.lose-requires-clause-there
lose-requires-clause-there c =
    let t = c.args.self.now in
    let h = rw c.in-Replaces.is at c.requires.seen in
    let u = changed t (Drops c.in-Replaces.old.dir c.in-Replaces.old.name.now
    ∷ Leads c.in-Replaces.new.dir c.in-Replaces.new.name.now c.in-Replaces.moved ∷ []) in
    subst (λ (u : Tree). IsThere u c.in-Replaces.gone) (sym c.in_ok-move_name-in-Replaces.ensures.moved)
    (there_with t u.dirs c.in-Replaces.gone (child_there t c.in-Replaces.gone c.requires.counted
    (inr (c.in-Replaces.new.dir, c.in-Replaces.new.name.now, h.1))))

pub lose-requires-clause-empty : goal.lose-requires-clause-empty
lose-requires-clause-empty c =
    let t = c.args.self.now in
    let o = c.in-Replaces.old in
    let p = c.in-Replaces.new in
    let h = rw c.in-Replaces.is at c.requires.seen in
    subst (λ (u : Tree). MayLeave u c.in-Replaces.gone) (sym c.in_ok-move_name-in-Replaces.ensures.moved)
    (may_leave_still t o.dir o.name.now p.dir p.name.now c.in-Replaces.moved c.in-Replaces.gone h.1 h.3)

pub returns-in_ok-move_name-in-Replaces-clause-done : goal.returns-in_ok-move_name-in-Replaces-clause-done
returns-in_ok-move_name-in-Replaces-clause-done c =
    let t = c.args.self.now in
    let g = c.in-Replaces.gone in
    let u = changed t (Drops c.in-Replaces.old.dir c.in-Replaces.old.name.now
    ∷ Leads c.in-Replaces.new.dir c.in-Replaces.new.name.now c.in-Replaces.moved ∷ []) in
    rw c.in-Replaces.is
    (c.lose.ensures.gone ∙ ap (λ (u : Tree). trim (change u (leaving u g))) c.in_ok-move_name-in-Replaces.ensures.moved
    ∙ ap (λ x. trim (change u x)) (leaving_with t u.dirs g))

pub returns-in-OpensFile-clause-done : goal.returns-in-OpensFile-clause-done
returns-in-OpensFile-clause-done c = rw c.in-OpensFile.is (on_ok_weaker c.open.result
    (λ opened. opened ∙ sym (lean_open c.args.self.now c.args.number c.args.who c.in-OpensFile.fid c.requires.lean)) c.open.ensures.opened)
