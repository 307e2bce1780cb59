-- The kept replays stand, and are on the disk.
use Rattle.std.proofs.Common.{map, ◌∙◌}
use Rattle.lu_window.specs.Shown.{kept_replay}
use Rattle.lu_target_server.proofs.Standing.{StoodAgain, stood_at, may_move_so, may_be_there, is_there, is_kept, may_as, keeps_as, moved_as}
use Rattle.lu_target_server.proofs.server.Server.stand.Goals as goal

pub commit_moving-requires : goal.commit_moving-requires
commit_moving-requires g c =
    let kept = map kept_replay c.args.kept in
    let gone = c.args.gone.now in
    let joins = c.args.joins.now in
    let s = c.args.self.now in
    let mid = c.stand_again.new.self in
    let stood : StoodAgain kept gone s mid c.in_ok-numbers.numbers c.args.turn.now.at =
    stood_at kept gone s mid c.in_ok-numbers.numbers c.at.result c.args.turn.now.at (c.at.ensures.at ∙ c.note.ensures.turn)
    (record {
      numbers_are = c.in_ok-numbers.ensures.numbers;
      redone = c.in_ok-numbers.ensures.redone;
      contents = c.in_ok-numbers.ensures.contents;
      same = c.stand_again.ensures.same;
      disk = c.stand_again.ensures.disk;
    }) in
    record {
      may = may_as c.as_slice.result.now gone c.as_slice-2.result.now joins c.as_slice.ensures.same c.as_slice-2.ensures.same mid.store
          (may_move_so kept gone joins s mid c.in_ok-numbers.numbers c.args.turn.now stood c.requires.may.0 c.requires.may.1);
    }

pub returns-in_err-commit_moving-clause-batches : goal.returns-in_err-commit_moving-clause-batches
returns-in_err-commit_moving-clause-batches g c =
    let kept = map kept_replay c.args.kept in
    let gone = c.args.gone.now in
    let joins = c.args.joins.now in
    let s = c.args.self.now in
    let mid = c.stand_again.new.self in
    let stood : StoodAgain kept gone s mid c.in_ok-numbers.numbers c.args.turn.now.at =
    stood_at kept gone s mid c.in_ok-numbers.numbers c.at.result c.args.turn.now.at (c.at.ensures.at ∙ c.note.ensures.turn)
    (record {
      numbers_are = c.in_ok-numbers.ensures.numbers;
      redone = c.in_ok-numbers.ensures.redone;
      contents = c.in_ok-numbers.ensures.contents;
      same = c.stand_again.ensures.same;
      disk = c.stand_again.ensures.disk;
    }) in
    may_be_there kept gone joins s mid c.in_ok-numbers.numbers c.args.turn.now stood c.commit_moving.new.self
    (keeps_as c.as_slice.result.now gone c.as_slice-2.result.now joins c.as_slice.ensures.same c.as_slice-2.ensures.same mid.store
    c.commit_moving.new.self.store c.in_err-commit_moving.ensures.batches)

pub returns-in_err-note_kept-clause-batches : goal.returns-in_err-note_kept-clause-batches
returns-in_err-note_kept-clause-batches g c =
    let kept = map kept_replay c.args.kept in
    let gone = c.args.gone.now in
    let joins = c.args.joins.now in
    let s = c.args.self.now in
    let mid = c.stand_again.new.self in
    let stood : StoodAgain kept gone s mid c.in_ok-numbers.numbers c.args.turn.now.at =
    stood_at kept gone s mid c.in_ok-numbers.numbers c.at.result c.args.turn.now.at (c.at.ensures.at ∙ c.note.ensures.turn)
    (record {
      numbers_are = c.in_ok-numbers.ensures.numbers;
      redone = c.in_ok-numbers.ensures.redone;
      contents = c.in_ok-numbers.ensures.contents;
      same = c.stand_again.ensures.same;
      disk = c.stand_again.ensures.disk;
    }) in
    is_there kept gone joins s mid c.in_ok-numbers.numbers c.args.turn.now stood c.commit_moving.new.self c.note.new.self
    c.commit_moving.new.turn
    (moved_as c.as_slice.result.now gone c.as_slice-2.result.now joins c.as_slice.ensures.same c.as_slice-2.ensures.same mid
    c.commit_moving.new.self c.note.new.self c.commit_moving.new.turn c.in_ok-commit_moving.ensures.moved)

pub returns-clause-batches : goal.returns-clause-batches
returns-clause-batches g c =
    let kept = map kept_replay c.args.kept in
    let gone = c.args.gone.now in
    let joins = c.args.joins.now in
    let s = c.args.self.now in
    let mid = c.stand_again.new.self in
    let stood : StoodAgain kept gone s mid c.in_ok-numbers.numbers c.args.turn.now.at =
    stood_at kept gone s mid c.in_ok-numbers.numbers c.at.result c.args.turn.now.at (c.at.ensures.at ∙ c.note.ensures.turn)
    (record {
      numbers_are = c.in_ok-numbers.ensures.numbers;
      redone = c.in_ok-numbers.ensures.redone;
      contents = c.in_ok-numbers.ensures.contents;
      same = c.stand_again.ensures.same;
      disk = c.stand_again.ensures.disk;
    }) in
    is_there kept gone joins s mid c.in_ok-numbers.numbers c.args.turn.now stood c.commit_moving.new.self c.note.new.self
    c.commit_moving.new.turn
    (moved_as c.as_slice.result.now gone c.as_slice-2.result.now joins c.as_slice.ensures.same c.as_slice-2.ensures.same mid
    c.commit_moving.new.self c.note.new.self c.commit_moving.new.turn c.in_ok-commit_moving.ensures.moved)

pub returns-clause-kept : goal.returns-clause-kept
returns-clause-kept g c =
    let kept = map kept_replay c.args.kept in
    let gone = c.args.gone.now in
    let joins = c.args.joins.now in
    let s = c.args.self.now in
    let mid = c.stand_again.new.self in
    let stood : StoodAgain kept gone s mid c.in_ok-numbers.numbers c.args.turn.now.at =
    stood_at kept gone s mid c.in_ok-numbers.numbers c.at.result c.args.turn.now.at (c.at.ensures.at ∙ c.note.ensures.turn)
    (record {
      numbers_are = c.in_ok-numbers.ensures.numbers;
      redone = c.in_ok-numbers.ensures.redone;
      contents = c.in_ok-numbers.ensures.contents;
      same = c.stand_again.ensures.same;
      disk = c.stand_again.ensures.disk;
    }) in
    is_kept kept gone joins s mid c.in_ok-numbers.numbers c.args.turn.now stood c.commit_moving.new.self c.note.new.self
    c.commit_moving.new.turn
    (moved_as c.as_slice.result.now gone c.as_slice-2.result.now joins c.as_slice.ensures.same c.as_slice-2.ensures.same mid
    c.commit_moving.new.self c.note.new.self c.commit_moving.new.turn c.in_ok-commit_moving.ensures.moved)
    c.note_kept.new.turn c.note.ensures.turn c.in_ok-note.ensures.added c.in_ok-note_kept.ensures.told
