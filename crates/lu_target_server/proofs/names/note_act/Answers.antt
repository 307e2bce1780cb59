-- The line, and then those of the locks.
use Rattle.lu_target_server.proofs.Executions.{act_noted}
use Rattle.std.proofs.lemmas.Result.{on_ok_weaker}
use Rattle.lu_target_server.proofs.names.note_act.Goals as goal

pub returns : goal.returns
returns c = record {
  noted = on_ok_weaker c.note_grants.result
      (λ gives d is. act_noted c.args.turn.now c.note.new.self c.note_grants.new.turn d c.args.reply.now _ is c.in_ok-copy.ensures.same
      c.in_ok-note.ensures.added c.in_ok-note.ensures.turn (gives d))
      c.note_grants.ensures.noted;
}
