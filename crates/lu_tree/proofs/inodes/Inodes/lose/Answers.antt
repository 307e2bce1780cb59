-- Each other file has a name or an open, as before.
use Rattle.std.proofs.Common.{sym, subst}
use Rattle.lu_spec_machine.specs.Tree.{Tree, file}
use Rattle.lu_tree.specs.Lives.{AreOthersLiving}
use Rattle.lu_tree.proofs.Living.{files_of, others_put}
use Rattle.lu_tree.proofs.inodes.Inodes.lose.Goals as goal

pub bury-requires : goal.bury-requires
bury-requires c =
    let t = c.args.self.now in
    let f = c.in-File.file in
    record {
      others =
          subst (λ (u : Tree). AreOthersLiving u f) (sym c.set_links.ensures.set)
          (others_put t.opens f (record { mode = (file t f).mode; links = c.saturating_sub-links.result; layout = (file t f).layout })
          t.files (files_of t c.requires.lean));
    }
