-- What was shown stood on the disk.
use Rattle.std.proofs.Common.{sym, subst}
use Rattle.lu_test_nodes.specs.Plays.{Stood}
use Rattle.lu_test_nodes.proofs.Plays.{stood}
use Rattle.lu_test_nodes.proofs.targets.Node.restart.Goals as goal

pub up-requires : goal.up-requires
up-requires g c = record {
  sort = c.requires.sort;
  stood = λ some. subst (Stood c.args.run g.S.Service.kind) (sym c.crash.ensures.batches)
      (stood c.args.run g.S.Service.kind c.args.self.target c.requires.sort c.requires.plays);
}
