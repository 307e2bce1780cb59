-- The line, and then the message.
use Rattle.std.proofs.Common.{[], ◌∷◌, refl}
use Rattle.std.proofs.lemmas.Result.{on_ok_weaker}
use Rattle.lu_msg.specs.declared.messages.Message.TheVariants as message
use Rattle.lu_trace.specs.declared.entries.Entry.TheVariants as line
use Rattle.lu_spec_entries.specs.Words.{Evict}
use Rattle.lu_spec_target.specs.Replies.{to_life}
use Rattle.lu_target_server.proofs.Notes.{noted_more}
use Rattle.lu_target_server.proofs.closing.tell_gone.Goals as goal

pub returns : goal.returns
returns c = record {
  told = on_ok_weaker c.say_evicted.result
      (noted_more (Evict c.args.eviction.now.who c.args.eviction.now.cause)
      (to_life c.args.eviction.now.who (message.Evicted c.args.eviction.now.who c.args.boot) ∷ [])
      (line.Evict c.args.eviction.now.who c.args.eviction.now.cause) c.args.turn.now c.note.new.self c.say_evicted.new.turn
      refl c.in_ok-note.ensures.turn c.in_ok-note.ensures.added)
      c.say_evicted.ensures.said;
}
