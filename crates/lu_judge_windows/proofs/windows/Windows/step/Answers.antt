use Rattle.std.proofs.Common.{sym, subst}
use Rattle.lu_judge_windows.specs.declared.windows.Windows.{Windows}
use Rattle.lu_judge_windows.specs.Marks.{ShowsMarks}
use Rattle.lu_judge_windows.specs.Joins.{ShowsJoins}
use Rattle.lu_judge_windows.specs.Offers.{ShowsOffers}
use Rattle.lu_judge_windows.specs.Learned.{ShowsLearned}
use Rattle.lu_judge_windows.specs.Transactions.{ShowsTransactions}
use Rattle.lu_judge_windows.proofs.windows.Windows.step.Goals as goal

pub returns : goal.returns
returns c = record {
  shows = λ past ordered follows ledger shown.
      let kept = sym c.in_ok-step_losses.ensures.others in
      let marks = subst (λ (w : Windows). ShowsMarks w.marks past) kept shown.marks in
      record {
        marks = c.in_ok-step-2.ensures.shows past marks;
        joins = c.in_ok-step-3.ensures.shows past (subst (λ (w : Windows). ShowsJoins w.joins past) kept shown.joins);
        offers = c.in_ok-step.ensures.shows past marks ledger.sendings
            (subst (λ (w : Windows). ShowsOffers w.offers past) kept shown.offers);
        learned = c.in_ok-step-4.ensures.shows past ordered follows ledger
            (subst (λ (w : Windows). ShowsLearned w.learned past) kept shown.learned);
        transactions = c.in_ok-step-5.ensures.shows past (subst (λ (w : Windows). ShowsTransactions w.transactions past) kept
            shown.transactions);
        losses = c.in_ok-step_losses.ensures.losses past ledger shown;
      };
}
