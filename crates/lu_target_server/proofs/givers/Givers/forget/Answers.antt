-- The map is changed at this key alone.
use Rattle.lu_target_server.proofs.GiverLists.{forgotten}
use Rattle.lu_target_server.proofs.givers.Givers.forget.Goals as goal

pub returns : goal.returns
returns c = record {
  forgotten = forgotten c.args.number c.args.self.now c.self.inside.by_number.entries c.remove.new.self.entries
      c.self.view_is c.remove.ensures.updates.0;
}
