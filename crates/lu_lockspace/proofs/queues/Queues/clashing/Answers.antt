-- The guards' resources have all the locks that meet a guard.
use Rattle.std.proofs.Common.{rules, ◌≡◌, sym, subst, IsPermutation}
use Rattle.lu_lockspace.specs.Guarded.{guarded_on_all}
use Rattle.lu_lockspace.proofs.Guarded.{guarded_all}
use Rattle.lu_lockspace.proofs.queues.Queues.clashing.Goals as goal

pub returns : goal.returns
returns c =
    let same : c.in_ok-cookies.cookies.items ≡ guarded_on_all c.in_ok-resources.resources.items c.args.parts.now c.args.self.now =
    search rules in
    subst (IsPermutation _) (sym same) (guarded_all c.args.parts.now c.args.self.now c.requires c.in_ok-resources.resources.items
    c.in_ok-resources.ensures)
