use Rattle.std.proofs.Common.{◌≡◌, ◌∙◌, sym, ap, Some}
use Rattle.lu_msg.specs.declared.calls.Call.{Call}
use Rattle.lu_msg.specs.declared.calls.Call.TheVariants as call
use Rattle.lu_spec_entries.specs.Carried.{Running}
use Rattle.lu_spec_client.specs.Starts.{names_op}
use Rattle.lu_call.specs.Starting.{starts_on_handle}
use Rattle.lu_call.proofs.Beginning.{from_as, asks_always}
use Rattle.lu_call.proofs.calls.CallState.start_on_handle.Goals as goal

pub returns-in-Close : goal.returns-in-Close
returns-in-Close c =
    let it_is : c.args.self.now.call ≡ call.Close c.in-Close.field-0 = sym (ap (λ (r : Running). r.call) c.self.view_is) ∙ c.in-Close.is in
    record {
      goes = λ slot. from_as (ap (λ (it : Call). starts_on_handle c.args.at slot it c.args.self.now c.args.store.now.store) it_is)
          (c.start_close.ensures.goes slot c.args.store.now);
    }

pub returns-in-Some : goal.returns-in-Some
returns-in-Some c =
    let asks : names_op c.args.self.now.call ≡ Some c.in-Some.op =
    ap (λ (r : Running). names_op r.call) (sym c.self.view_is) ∙ sym c.in_ok-op-in_default.ensures.asks ∙ c.in-Some.is in
    record {
      goes = λ slot. from_as (asks_always c.args.at slot c.args.self.now.call c.in-Some.op c.args.self.now c.args.store.now.store
          asks) (c.ask_names.ensures.goes slot c.args.store.now);
    }
