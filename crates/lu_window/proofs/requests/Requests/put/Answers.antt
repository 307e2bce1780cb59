-- A replay that its life hasn't replayed gets its place, without what it can't have seen.
use Rattle.std.proofs.Common.{cond, ◌∙◌, ap, map, refl}
use Rattle.std.specs.List.{list_any}
use Rattle.lu_replay.specs.Replays.{key_of, body_of}
use Rattle.lu_spec_target.specs.Windows.{cut_seen, is_replay, replay_before, with_replay}
use Rattle.lu_window.specs.Shown.{replayed, replayed_of}
use Rattle.lu_window.proofs.Maps.{put_once}
use Rattle.lu_window.proofs.requests.Requests.put.Goals as goal

pub returns-clause-put : goal.returns-clause-put
returns-clause-put c =
    put_once replayed_of replay_before (is_replay (replayed c.args.who c.cut.result)) (key_of c.args.who c.cut.result)
    (body_of c.cut.result)
    c.self.inside.replays c.put.new.self c.in_ok-put.field-0 (λ x. refl) (λ x. refl) c.in_ok-put.ensures.new c.in_ok-put.ensures.added
    ∙ ap (λ r. cond (list_any (is_replay r) (map replayed_of c.self.inside.replays)) (map replayed_of c.self.inside.replays)
    (with_replay r (map replayed_of c.self.inside.replays))) (c.cut.ensures c.args.who)
    ∙ ap (λ replays. cond (list_any (is_replay (replayed c.args.who c.args.replay)) replays) replays
    (with_replay (cut_seen (replayed c.args.who c.args.replay)) replays)) c.self.view_is
