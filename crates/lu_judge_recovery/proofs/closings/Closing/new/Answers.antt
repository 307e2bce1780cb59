use Rattle.std.proofs.Common.{ℕ, List, ap, ◌∙◌, subst}
use Rattle.lu_base.specs.declared.ids.Who.{Who}
use Rattle.lu_spec_laws.specs.Words.Lost.{is_among}
use Rattle.lu_judge_recovery.specs.Closings.{KnowsClose, AreCauses}
use Rattle.lu_judge_recovery.proofs.closings.Closing.new.Goals as goal

pub returns-clause-decides : goal.returns-clause-decides
returns-clause-decides c = λ past ledger windows.
    let knows : KnowsClose c.in_ok-close.close c.args.target past = c.in_ok-close.ensures.knows past ledger windows in
    let causes : AreCauses c.in_ok-causes.causes c.as_slice-2.result.now c.args.target past =
    c.in_ok-causes.ensures.causes c.args.target past knows in
    record {
      kept = λ n. c.in_ok-kept.ensures.set n ∙ ap (λ (ns : List ℕ). is_among ns n)
          (c.as_slice.ensures.same ∙ c.in_ok-numbers.ensures.kept past ledger windows);
      causes = subst (λ (ls : List Who). AreCauses c.in_ok-causes.causes ls c.args.target past)
          (c.as_slice-2.ensures.same ∙ c.in_ok-lives.ensures.slots past ledger windows) causes;
      locks = λ who cookie. c.in_ok-locks.ensures.restored c.args.target past c.as_slice-2.result.now knows causes who cookie;
    }
