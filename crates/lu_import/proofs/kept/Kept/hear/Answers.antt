-- What the reply teaches.
use Rattle.std.proofs.Common.{◌≡◌, ◌∙◌, ◌==◌, false, sym, ap, rules}
use Rattle.lu_import.specs.Kept.{KeptState, with_numbers, with_replay, replay_to, taught}
use Rattle.lu_import.specs.Adding.{replays_of}
use Rattle.lu_import.proofs.Replays.{taught_is}
use Rattle.lu_import.proofs.kept.Kept.hear.Goals as goal

pub returns-clause-taught : goal.returns-clause-taught
returns-clause-taught c =
    let request = c.args.request.now in
    let reply = c.args.reply.now in
    let old = c.self.inside in
    let kept : KeptState = record { committed = old.committed.0; seen = old.seen.keys; replays = replays_of old.replays.entries } in
    let named : (reply.txn.0 == 0) ≡ false = search rules in
    let numbers : c.add_numbers.new.seen.keys ≡ with_numbers reply.seen old.seen.keys = search rules in
    let put : replays_of c.put_replay.new.replays.entries ≡ with_replay (replay_to request reply) (replays_of old.replays.entries) =
    search rules in
    c.settle.ensures.settled
    ∙ taught_is request reply kept c.add_numbers.new.seen.keys (replays_of c.put_replay.new.replays.entries) named numbers put
    ∙ ap (taught request reply) c.self.view_is
