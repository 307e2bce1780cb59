-- A number that was given is free for its giver alone, and any other for all.
use Rattle.std.proofs.Common.{ap, sym, ◌∙◌}
use Rattle.lu_target_server.specs.Givers.{giver_of}
use Rattle.lu_target_server.proofs.GiverLists.{free_of, free_none}
use Rattle.lu_target_server.proofs.givers.Givers.is_free.Goals as goal

pub returns-in-Some : goal.returns-in-Some
returns-in-Some c = record {
  free = free_of c.args.number c.in-Some.giver.now c.args.who c.eq.result c.args.self.now
      (sym (ap (giver_of c.args.number) c.self.view_is) ∙ sym c.in-Some.ensures.value) c.eq.ensures;
}

pub returns-in-None : goal.returns-in-None
returns-in-None c = record {
  free = free_none c.args.number c.args.who c.args.self.now
      (sym (ap (giver_of c.args.number) c.self.view_is) ∙ sym c.in-None.ensures.value);
}
