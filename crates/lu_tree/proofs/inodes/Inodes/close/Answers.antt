-- Only the file whose open was closed may leave.
use Rattle.std.proofs.Common.{sym, subst, ◌∙◌}
use Rattle.lu_spec_machine.specs.Tree.{Tree}
use Rattle.lu_tree.specs.Lives.{AreOthersLiving}
use Rattle.lu_tree.proofs.Living.{others_closed}
use Rattle.lu_tree.proofs.inodes.Inodes.close.Goals as goal

pub bury-requires : goal.bury-requires
bury-requires c =
    record {
      others =
          subst (λ (t : Tree). AreOthersLiving t c.args.fid) (sym c.drop_open.ensures.gone)
          (others_closed c.args.self.now c.args.number c.args.who c.args.fid c.requires.lean
          (sym c.opens_only-only.ensures.only ∙ c.if-only.true));
    }
