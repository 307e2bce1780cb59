use Rattle.std.proofs.Common.{sym, ◌∙◌}
use Rattle.lu_call.proofs.Beginning.{asks_unknown}
use Rattle.lu_call.proofs.calls.CallState.start_known.Goals as goal

pub returns-in-None : goal.returns-in-None
returns-in-None c = record {
  goes = λ slot. asks_unknown c.args.at slot c.args.self.now c.args.op _
      (sym c.in-None.is ∙ c.in_ok-known.ensures.known) (c.ask_names.ensures.goes slot c.args.store.now);
}
