-- What the two calls promise makes the outcome.
use Rattle.std.proofs.Common.{map}
use Rattle.lu_window.specs.Shown.{kept_replay}
use Rattle.lu_target_redo.specs.Shown.{deed_of}
use Rattle.lu_target_redo.proofs.Ends.{deeds_closed, shows_closed}
use Rattle.lu_target_redo.proofs.closing.close_window.Goals as goal

pub returns-clause-deeds : goal.returns-clause-deeds
returns-clause-deeds g c =
    deeds_closed g.S.Service.kind c.args.close (map kept_replay c.args.kept) c.args.gone.now (g.S.Service.contents c.args.service.now)
    (map deed_of c.in_ok-deeds.deeds) c.in_ok-deeds.ensures.deeds

pub returns-clause-shows : goal.returns-clause-shows
returns-clause-shows g c =
    shows_closed g.S.Service.kind c.args.close (map kept_replay c.args.kept) c.args.gone.now (g.S.Service.contents c.args.service.now)
    (g.S.Service.contents c.redo.new.service)
    (g.S.Service.contents c.forget_all.new.service) c.in_ok-deeds.ensures.shows c.forget_all.ensures.shows
