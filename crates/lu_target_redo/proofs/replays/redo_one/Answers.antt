-- Answer and written parts are those over what the service had.
use Rattle.lu_target_refines.specs.Contents.{transaction_again}
use Rattle.lu_window.specs.Shown.{kept_replay}
use Rattle.lu_target_redo.proofs.Steps.{deed_one, shows_one}
use Rattle.lu_target_redo.proofs.replays.redo_one.Goals as goal

pub returns-clause-deed : goal.returns-clause-deed
returns-clause-deed g c =
    deed_one g.S.Service.kind g.S.Service.acts g.met.S.Service.serves_names g.met.S.Service.serves_objects
    (g.S.Service.contents c.args.service.now) c.args.close (kept_replay c.args.kept) c.requires.repeatable
    c.in_ok-answer.answer c.in_ok-writes.writes c.new.result c.new-2.result
    c.in_ok-answer.ensures.answer (c.in_ok-writes.ensures.writes c.args.kept.replay.number) c.new.ensures.empty c.new-2.ensures.empty

pub returns-clause-shows : goal.returns-clause-shows
returns-clause-shows g c =
    shows_one g.S.Service.kind g.S.Service.acts g.met.S.Service.lawful g.met.S.Service.serves_names g.met.S.Service.serves_objects
    (g.S.Service.contents c.args.service.now) (g.S.Service.contents c.perform.new.service) (transaction_again (kept_replay c.args.kept))
    c.requires.repeatable c.in_ok-answer.ensures.after
