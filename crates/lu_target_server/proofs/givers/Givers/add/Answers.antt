-- The map is changed at this key alone.
use Rattle.std.proofs.Common.{ap, ◌∙◌}
use Rattle.lu_target_server.specs.Givers.{giver_of}
use Rattle.lu_target_server.proofs.GiverLists.{given_by, was_none}
use Rattle.lu_target_server.proofs.givers.Givers.add.Goals as goal

pub returns-clause-given : goal.returns-clause-given
returns-clause-given c = given_by c.args.number c.args.who c.args.self.now c.self.inside.by_number.entries c.insert.new.self.entries
    c.self.view_is c.in_ok-before.ensures.updates.0

pub returns-clause-first : goal.returns-clause-first
returns-clause-first c =
    was_none c.args.number c.in_ok-before.before c.is_none.result c.args.self.now
    (c.in_ok-before.ensures.old ∙ ap (giver_of c.args.number) c.self.view_is) c.is_none.ensures
