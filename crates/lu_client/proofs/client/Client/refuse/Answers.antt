use Rattle.std.proofs.lemmas.Result.{on_ok_weaker}
use Rattle.lu_client.proofs.Begun.{refused}
use Rattle.lu_client.proofs.client.Client.refuse.Goals as goal

pub returns : goal.returns
returns c =
    record {
      makes = on_ok_weaker c.note-2.result
          (λ told. refused c.args.self.now c.args.turn.now c.note.new.self c.note-2.new.self c.args.slot c.args.call c.at-at.result
          c.requires.free c.at-at.ensures.at
          c.in_ok-note.ensures.added c.in_ok-note.ensures.turn told c.note-2.ensures.turn)
          c.note-2.ensures.added;
    }
