-- A lock that a target calls back is named by that target and its cookie.
use Rattle.std.proofs.Common.{OnOk, sym, subst}
use Rattle.lu_msg.specs.declared.messages.Message.{Message}
use Rattle.lu_spec_client.specs.Messages.{comes_from}
use Rattle.lu_client.specs.Clients.{Makes}
use Rattle.lu_client.proofs.client.Client.heed_target.Goals as goal

pub returns-in-Block : goal.returns-in-Block
returns-in-Block c = record {
  makes = subst (λ (m : Message). OnOk c.call_back.result
      (Makes (comes_from c.args.turn.now.at c.args.target.0 m) c.args.self.now c.call_back.new.self c.args.turn.now c.call_back.new.turn))
      (sym c.in-Block.is) c.call_back.ensures.makes;
}
