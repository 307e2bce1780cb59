-- An inode that isn't the directory is passed by.
use Rattle.std.proofs.Common.{◌≡◌, suc, ◌+◌, ◌∷◌, false, sym, ap, ◌∙◌, add-one, drop, drop-cons}
use Rattle.lu_base.specs.declared.ids.Fid.{Fid}
use Rattle.lu_spec_machine.specs.declared.child.Child.TheVariants.{Dir}
use Rattle.lu_spec_machine.specs.Table.{passes}
use Rattle.lu_spec_machine.specs.Tree.{fid_of, same_fid}
use Rattle.lu_tree.specs.Walks.{trail}
use Rattle.lu_tree.proofs.TwoWalks.{passes_step}
use Rattle.lu_tree.proofs.inodes.Inodes.passes.Goals as goal

pub loop-name-preserved : goal.loop-name-preserved
loop-name-preserved c =
    let t = c.args.self.now in
    let i = c.loop-name.name-index in
    let n = c.name-item.result in
    let rest = drop (i + 1) c.args.path.now in
    let here : drop i c.args.path.now ≡ n ∷ rest = drop-cons c.args.path.now i n c.loop-name-test.true
    ∙ ap (λ m. m ∷ drop (suc i) c.args.path.now) (sym c.name-item.is) ∙ ap (λ j. n ∷ drop j c.args.path.now) (sym (add-one i)) in
    let apart : same_fid (fid_of c.in-Some.next) c.in-Dir.dir ≡ false = ap (λ (f : Fid). same_fid f c.in-Dir.dir) (sym c.fid.ensures)
    ∙ sym c.eq.ensures ∙ c.if-eq.false in
    sym (passes_step t c.loop-name.at n rest c.in-Dir.dir c.in-Some.next (sym c.next.ensures.next ∙ c.in-Some.is) apart)
    ∙ ap (λ ns. passes (Dir c.in-Dir.dir) (trail t c.loop-name.at ns)) (sym here) ∙ c.loop-name.invariant
