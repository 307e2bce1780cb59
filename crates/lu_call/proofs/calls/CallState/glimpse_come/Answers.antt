-- The size under the lock is as one that was told.
use Rattle.std.proofs.Common.{◌∙◌, ℕ, ap, sym}
use Rattle.lu_msg.specs.declared.answers.Answer.TheVariants as answer
use Rattle.lu_spec_client.specs.Glimpses.{glimpse_hears}
use Rattle.lu_call.specs.Views.{work_of}
use Rattle.lu_call.proofs.Beginning.{if_ok}
use Rattle.lu_call.proofs.Glimpsing.{came_is_heard}
use Rattle.lu_call.proofs.Going.{goes_as}
use Rattle.lu_call.proofs.calls.CallState.glimpse_come.Goals as goal

pub returns : goal.returns
returns c =
    record {
      goes = if_ok c.glimpse_size.result _ _ c.glimpse_size.ensures.goes
          (λ out goes slot.
          goes_as (came_is_heard c.args.at slot c.args.lock c.args.work.left.items c.args.sizes c.args.self.now (work_of c.args.work)
          c.args.store.now.store
          ∙ ap (λ (size : ℕ). glimpse_hears c.args.at slot c.args.work.left.items c.args.sizes (answer.Size size) c.args.self.now
          (work_of c.args.work) c.args.store.now.store) (sym c.size_under-size.ensures.size)) (goes slot));
    }
