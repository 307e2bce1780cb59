use Rattle.lu_call.specs.Views.{work_of}
use Rattle.lu_call.proofs.Beginning.{if_ok}
use Rattle.lu_call.proofs.Onward.{sized_on}
use Rattle.lu_call.proofs.calls.CallState.go_with_size.Goals as goal

pub returns : goal.returns
returns c =
    record {
      goes = if_ok c.glimpse_size.result _ _ c.glimpse_size.ensures.goes
          (λ out goes slot. sized_on c.args.at slot c.args.self.now (work_of c.args.work) (work_of c.take_sizes-sizes.new.self) c.args.size
          c.take_sizes-sizes.result c.take_sizes-sizes.ensures.sizes c.take_sizes-sizes.ensures.rest (goes slot));
    }
