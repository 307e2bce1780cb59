-- What is replaced is another inode.
use Rattle.std.proofs.Common.{◌≡◌, false, sym, ap, ◌∙◌}
use Rattle.lu_base.specs.declared.ids.Fid.{Fid}
use Rattle.lu_spec_machine.specs.Tree.{fid_of, same_fid}
use Rattle.lu_tree.proofs.inodes.Inodes.rename_row.Goals as goal

pub returns-else-inside-2-clause-seen : goal.returns-else-inside-2-clause-seen
returns-else-inside-2-clause-seen c =
    let apart : same_fid (fid_of c.in-Some.gone) (fid_of c.args.moved) ≡ false =
    ap (λ (f : Fid). same_fid f (fid_of c.args.moved)) (sym c.fid.ensures)
    ∙ ap (λ (f : Fid). same_fid c.fid.result f) (sym c.fid-in-Some.ensures) ∙ sym c.eq.ensures ∙ c.if-eq.false in
    λ osts named there reached. c.replace_row.ensures.seen osts named (there ∙ c.in-Some.is) apart
