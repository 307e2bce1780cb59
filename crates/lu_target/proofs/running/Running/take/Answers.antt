-- Its line comes first.
use Rattle.std.proofs.Common.{refl}
use Rattle.std.proofs.lemmas.Result.{on_ok_weaker}
use Rattle.lu_trace.specs.declared.entries.Entry.TheVariants as line
use Rattle.lu_spec_entries.specs.Words.{Take}
use Rattle.lu_target_server.proofs.Composing.{noted}
use Rattle.lu_target.proofs.Turning.{taken_turns}
use Rattle.lu_target.proofs.running.Running.take.Goals as goal

pub returns-clause-turns : goal.returns-clause-turns
returns-clause-turns g c =
    on_ok_weaker c.heed.result
    (λ turns from.
    taken_turns c.args.turn.now.at from c.args.message.now c.args.self.now c.heed.new.self c.args.turn.now c.note.new.self c.heed.new.turn
    (noted c.args.turn.now c.note.new.self (line.Take 0) (Take 0 from c.args.message.now) refl refl c.in_ok-note.ensures.added
    c.note.ensures.turn) c.note.ensures.turn turns)
    c.heed.ensures.turns
