-- The tree is sound without the opens.
use Rattle.std.proofs.Common.{sym, subst}
use Rattle.lu_spec_machine.specs.Tree.{Tree}
use Rattle.lu_tree.specs.State.{IsSound}
use Rattle.lu_tree.proofs.Sound.{sound_forget}
use Rattle.lu_tree.proofs.trees.Tree.forget.Goals as goal

pub invariant_of-self : goal.invariant_of-self
invariant_of-self c =
    subst (λ (t : Tree). IsSound (record { osts = c.self.inside.osts; last = c.self.inside.last; tree = t }))
    (sym c.forget.ensures.forgotten)
    (sound_forget (record { osts = c.self.inside.osts; last = c.self.inside.last; tree = c.self.inside.inodes }) c.args.who
    c.self.invariant)
