use Rattle.std.proofs.Common.{◌≡◌, ◌∙◌, ap}
use Rattle.lu_spec_entries.specs.Carried.{Running}
use Rattle.lu_call.proofs.Beginning.{if_ok, from_as, starts_other}
use Rattle.lu_call.proofs.calls.CallState.start.Goals as goal

pub returns-in_default : goal.returns-in_default
returns-in_default c =
    let it_is : c.self.inside.call ≡ c.args.self.now.call = ap (λ (r : Running). r.call) c.self.view_is in
    record {
      goes = if_ok c.start_on_handle.result _ _ c.start_on_handle.ensures.goes
          (λ out goes slot. from_as (starts_other c.args.at slot c.args.self.now.call c.args.self.now c.args.store.now
          (λ p e. c.in_default.not-Lookup p (it_is ∙ e)) (λ p e. c.in_default.not-Stat p (it_is ∙ e))
          (λ p e. c.in_default.not-List p (it_is ∙ e)) (λ p e. c.in_default.not-Layout p (it_is ∙ e))) (goes slot));
    }
