-- A new target plays.
use Rattle.std.proofs.Common.{◌∙◌}
use Rattle.lu_target.specs.Targets.{turn_of}
use Rattle.lu_test_nodes.specs.Plays.{setting_of}
use Rattle.lu_test_nodes.proofs.Plays.{starts, stands, stood_repeats, begun}
use Rattle.lu_test_nodes.proofs.targets.boot.Goals as goal

pub boot-begun-requires : goal.boot-begun-requires
boot-begun-requires g c = record {
  stands = λ some. let before = c.requires.stood some in (
    before.state,
    stands c.args.run g.S.Service.kind (g.S.Service.contents c.args.service) c.args.disk.batches c.requires.sort
        c.requires.fresh before,
  );
  repeatable = stood_repeats c.args.run g.S.Service.kind c.args.disk.batches c.requires.stood;
}

pub returns-in-Ok : goal.returns-in-Ok
returns-in-Ok g c =
    let run = c.args.run in
    let kind = g.S.Service.kind in
    let own = g.S.Service.contents c.args.service in
    let start = starts run kind own c.requires.sort c.requires.fresh in
    let lives = c.as_slice.ensures.same ∙ c.requires.lives in
    record {
      plays = begun run kind own (turn_of run.id.0 c.args.stamp) c.in-Ok.begun.0 c.requires.sort c.requires.fresh c.args.disk.batches
          c.requires.stood
          c.in-Ok.ensures.ready.0 c.in-Ok.ensures.ready.1 (λ none.
          (c.in-Ok.ensures.started none (setting_of run) run.clients start lives).1)
          (λ none. c.in-Ok.ensures.begun none run.clients lives) (λ some v on. (c.in-Ok.ensures.booted some v on).1)
          (λ some. c.in-Ok.ensures.stored some);
    }
