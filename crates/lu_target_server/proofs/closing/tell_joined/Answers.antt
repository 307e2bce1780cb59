-- The line, and then the message.
use Rattle.std.proofs.Common.{[], ◌∷◌, refl}
use Rattle.std.proofs.lemmas.Result.{on_ok_weaker}
use Rattle.lu_trace.specs.declared.entries.Entry.TheVariants as line
use Rattle.lu_spec_entries.specs.Words.{Joined}
use Rattle.lu_target_server.specs.Closing.{ready_line}
use Rattle.lu_target_server.proofs.Notes.{noted_more}
use Rattle.lu_target_server.proofs.closing.tell_joined.Goals as goal

pub returns : goal.returns
returns c = record {
  told = on_ok_weaker c.say_ready.result
      (noted_more (Joined c.args.who) (ready_line c.args.boot c.args.committed.0 c.args.who ∷ []) (line.Joined c.args.who) c.args.turn.now
      c.note.new.self c.say_ready.new.turn refl c.in_ok-note.ensures.turn c.in_ok-note.ensures.added)
      c.say_ready.ensures.said;
}
