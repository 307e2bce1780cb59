use Rattle.std.proofs.Common.{◌≡◌, true, is_some, sym, subst, ◌∙◌}
use Rattle.std.proofs.lemmas.Result.{on_ok_weaker}
use Rattle.lu_spec_client.specs.Calls.{call_on}
use Rattle.lu_client_refines.specs.Rounds.{ends_one}
use Rattle.lu_client.specs.Clients.{ClientState, Makes}
use Rattle.lu_client.proofs.Evicting.{call_inside, slot_ends}
use Rattle.lu_client.proofs.client.Client.end_call.Goals as goal

pub returns : goal.returns
returns c =
    let some : is_some (call_on c.args.slot c.args.self.now.client.calls) ≡ true = sym c.has_call.ensures.has ∙ c.if-not-has_call.false in
    record {
      makes = on_ok_weaker c.note.result
          (λ added. subst (λ (s : ClientState). Makes (ends_one c.args.turn.now.at c.args.slot) c.args.self.now s c.args.turn.now
          c.note.new.self) (sym c.put.ensures.put)
          (slot_ends c.args.slot c.args.self.now c.at-at.result c.args.turn.now c.note.new.self
          (call_inside c.args.slot c.args.self.now.client.calls some) some c.at-at.ensures.at added c.note.ensures.turn))
          c.note.ensures.added;
    }
