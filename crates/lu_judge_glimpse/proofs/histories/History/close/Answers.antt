use Rattle.std.proofs.Common.{◌≡◌, ◌∷◌, [], length, arith, sym, subst, ◌∙◌}
use Rattle.lu_spec_laws.specs.Words.Closes.{lost_at}
use Rattle.lu_trace.specs.declared.entries.Entry.TheVariants.{Close}
use Rattle.lu_judge_glimpse.specs.declared.histories.History.{History}
use Rattle.lu_judge_glimpse.specs.Histories.{ShowsHistory}
use Rattle.lu_judge_glimpse.proofs.Kept.{closed_none, closed_by_none, closed_lossy, empty_is}
use Rattle.lu_judge_glimpse.proofs.histories.History.close.Goals as goal
use Rattle.lu_judge_glimpse.proofs.histories.History.close.Goals.{then-len-gt0, else-len-gt0}

pub returns-in_default-clause-shows : goal.returns-in_default-clause-shows
returns-in_default-clause-shows c = λ past ledger windows shown. closed_by_none c.args.self.now past c.args.at c.in_default.not-Target shown

pub returns-clause-shows : goal.returns-clause-shows
returns-clause-shows c = λ past ledger windows shown.
    elim c.if-len-gt0.branch [
      | then-len-gt0 w ↦
          subst (λ (h : History). ShowsHistory h (record { at = c.args.at; entry = Close } ∷ past)) (sym w.self-is)
          (closed_lossy c.args.self.now w.forget.new.self past c.args.at w.forget.ensures.items w.forget.ensures.osts
          w.forget.ensures.machine shown)
      | else-len-gt0 w ↦
          subst (λ (h : History). ShowsHistory h (record { at = c.args.at; entry = Close } ∷ past)) (sym w.self-is)
          (closed_none c.args.self.now past c.args.at c.in-Target.target c.in-Target.is
          (sym (c.in_ok-lost.ensures.lost past ledger windows) ∙ empty_is c.in_ok-lost.lost
          (sym c.len.ensures.count ∙ omega (arith, w.if-len-gt0.false))) shown)
    ]
