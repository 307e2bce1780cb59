-- The stripes are those of a layout.
use Rattle.std.proofs.Common.{sym, subst}
use Rattle.std.specs.Prelude.{IsOk}
use Rattle.lu_layout.specs.Sound.{AreStripes}
use Rattle.lu_tree.proofs.Layouts.{striping_sound}
use Rattle.lu_tree.proofs.striping.striped.Goals as goal

pub unreachable-requires : goal.unreachable-requires
unreachable-requires c =
    let h = striping_sound c.args.osts c.args.number c.args.size c.args.count c.requires.some c.requires.most c.requires.striping in
    absurd (cc (subst IsOk c.in-Err.is (c.make.ensures.succeeds h.size (subst AreStripes (sym c.targets-targets.ensures) h.targets))))
