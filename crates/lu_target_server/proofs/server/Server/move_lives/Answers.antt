-- The lives moved, and what is left to tell is what the queues do.
use Rattle.std.proofs.Common.{◌≡◌, [], ◌∷◌, ap, ◌∙◌}
use Rattle.lu_spec_target.specs.Leaving.{commits}
use Rattle.lu_spec_target.specs.Stored.{batch_of}
use Rattle.lu_spec_target.specs.States.{Target, after}
use Rattle.lu_target_server.specs.Commits.{IsMoved}
use Rattle.lu_target_server.specs.Servers.{ServerState, Shows}
use Rattle.lu_target_server.proofs.Items.{on_err}
use Rattle.lu_target_server.proofs.MovedLives.{ArePartedWith, may_depart_all, all_moved, keeps_one}
use Rattle.lu_target_server.proofs.server.Server.move_lives.Goals as goal

pub returns-in_err-departures-clause-batches : goal.returns-in_err-departures-clause-batches
returns-in_err-departures-clause-batches g c =
    let is_moved = c.in_ok-commit_moving.ensures.moved in
    on_err c.from_residual-in_err-departures.result
    (λ v shows. keeps_one c.args.self.now.store c.part_with.new.self.store (batch_of v.log c.args.gone.now c.args.come.now) []
    (ap (λ (it : ServerState). it.store.batches) c.part_with.ensures.same ∙ is_moved.store.batches v shows.store))

pub depart_all-requires : goal.depart_all-requires
depart_all-requires g c =
    let v = c.requires.stands.0 in
    let shows = c.requires.stands.1 in
    let left = c.in_ok-departures.field-0 in
    let parts : ArePartedWith c.args.gone.now left c.commit_moving.new.self c.part_with.new.self =
    record {
      forgotten = c.part_with.ensures.forgotten;
      requests = c.part_with.ensures.requests;
      locks = c.in_ok-departures.ensures.left;
      same = c.part_with.ensures.same;
    } in
    record {
      may = (
        after v (commits v v.log c.args.gone.now c.args.come.now),
        v.granted,
        c.args.gone.now,
        may_depart_all c.args.self.now c.commit_moving.new.self c.part_with.new.self v c.args.gone.now c.args.come.now left c.args.cause
            c.args.turn.now c.commit_moving.new.turn shows
            (c.requires.alone v shows) c.requires.may.once c.in_ok-commit_moving.ensures.moved parts,
      );
    }

pub returns-in_err-depart_all-clause-batches : goal.returns-in_err-depart_all-clause-batches
returns-in_err-depart_all-clause-batches g c =
    let is_moved = c.in_ok-commit_moving.ensures.moved in
    on_err c.from_residual-in_err-depart_all.result
    (λ v shows. keeps_one c.args.self.now.store c.depart_all.new.self.store (batch_of v.log c.args.gone.now c.args.come.now) []
    (c.depart_all.ensures.disk.batches ∙ ap (λ (it : ServerState). it.store.batches) c.part_with.ensures.same
    ∙ is_moved.store.batches v shows.store))

pub returns-clause-moved : goal.returns-clause-moved
returns-clause-moved g c =
    let left = c.in_ok-departures.field-0 in
    let parts : ArePartedWith c.args.gone.now left c.commit_moving.new.self c.part_with.new.self =
    record {
      forgotten = c.part_with.ensures.forgotten;
      requests = c.part_with.ensures.requests;
      locks = c.in_ok-departures.ensures.left;
      same = c.part_with.ensures.same;
    } in
    λ v shows.
    all_moved c.args.self.now c.commit_moving.new.self c.part_with.new.self c.depart_all.new.self v c.args.gone.now c.args.come.now left
    c.args.cause c.args.turn.now c.commit_moving.new.turn c.depart_all.new.turn
    shows (c.requires.alone v shows) c.requires.may.once c.in_ok-commit_moving.ensures.moved parts c.in_ok-depart_all.ensures.departed
    c.depart_all.ensures.disk.batches
