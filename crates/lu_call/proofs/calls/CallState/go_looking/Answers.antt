use Rattle.std.proofs.Common.{sym}
use Rattle.lu_call.specs.Views.{work_of}
use Rattle.lu_call.proofs.Beginning.{if_ok}
use Rattle.lu_call.proofs.Onward.{acting_looks, glimpsing_looks}
use Rattle.lu_call.proofs.calls.CallState.go_looking.Goals as goal

pub returns-then-is_glimpse : goal.returns-then-is_glimpse
returns-then-is_glimpse c =
    record {
      goes = if_ok c.glimpse_or_ask.result _ _ c.glimpse_or_ask.ensures.goes
          (λ out goes slot. glimpsing_looks c.args.at slot c.args.self.now (work_of c.args.work) (work_of c.take_sizes-sizes.new.self)
          c.take_sizes-sizes.result (sym c.if-is_glimpse.ensures.glimpse) c.take_sizes-sizes.ensures.sizes
          c.take_sizes-sizes.ensures.rest (goes slot));
    }

pub returns : goal.returns
returns c =
    record {
      goes = if_ok c.look_and_act.result _ _ c.look_and_act.ensures.goes
          (λ out goes slot. acting_looks c.args.at slot c.args.self.now (work_of c.args.work) (sym c.if-is_glimpse.ensures.glimpse)
          (goes slot));
    }
