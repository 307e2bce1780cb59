use Rattle.std.proofs.Common.{ℕ, Option, sym, subst}
use Rattle.std.proofs.lemmas.Result.{on_ok_weaker}
use Rattle.lu_client.specs.Callbacks.{peeked}
use Rattle.lu_client.specs.Clients.{Makes}
use Rattle.lu_client.proofs.Peeking.{peek_noted}
use Rattle.lu_client.proofs.client.Client.note_peek.Goals as goal

pub returns-in-Some : goal.returns-in-Some
returns-in-Some c =
    record {
      makes = on_ok_weaker c.note.result
          (λ added. subst (λ (size : Option ℕ). Makes (λ k. peeked c.args.target.0 c.args.cookie size) c.args.self.now c.args.self.now
          c.args.turn.now c.note.new.self) (sym c.in-Some.is)
          (peek_noted c.args.target.0 c.in-Some.size c.args.cookie c.args.self.now c.args.turn.now c.note.new.self added c.note.ensures.turn))
          c.note.ensures.added;
    }
