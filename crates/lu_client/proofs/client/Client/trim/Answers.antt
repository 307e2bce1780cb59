use Rattle.std.proofs.Common.{Bool, subst}
use Rattle.lu_client.specs.Visits.{TrimsOne}
use Rattle.lu_client.proofs.Visiting.{trims_next, trims_end}
use Rattle.lu_client.proofs.client.Client.trim.Goals as goal

pub loop-preserved : goal.loop-preserved
loop-preserved c =
    trims_next c.loop.self c.trim_one.new.self (subst (λ (one : Bool). TrimsOne one c.loop.self c.trim_one.new.self) c.loop-test.true
    c.trim_one.ensures.trims) c.args.self.now c.loop.invariant

pub returns : goal.returns
returns c =
    record {
      makes = trims_end c.args.self.now c.loop.self c.trim_one.new.self c.loop.invariant
          (subst (λ (one : Bool). TrimsOne one c.loop.self c.trim_one.new.self) c.loop-test.false c.trim_one.ensures.trims);
    }
