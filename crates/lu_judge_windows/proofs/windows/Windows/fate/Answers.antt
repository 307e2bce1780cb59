use Rattle.std.proofs.Common.{ℕ, List, take, map, subst, sym, ap, ◌∙◌}
use Rattle.std.specs.Prelude.{reverse}
use Rattle.std.proofs.lemmas.List.{take_all}
use Rattle.lu_spec_laws.specs.Words.Boots.{committed}
use Rattle.lu_spec_laws.specs.Words.Lost.{Transaction, is_replayable, lost_of, undecided, lost_numbers}
use Rattle.lu_judge_windows.specs.declared.transactions.Done.{Done}
use Rattle.lu_judge_windows.specs.Fates.{IsFate}
use Rattle.lu_judge_windows.specs.Transactions.{transaction_of}
use Rattle.lu_judge_windows.proofs.FateLines.{map_next, lost_more}
use Rattle.lu_judge_windows.proofs.windows.Windows.fate.Goals as goal

pub loop-done-preserved : goal.loop-done-preserved
loop-done-preserved c = λ past ledger shown.
    let t = c.args.target in
    let items = c.all-done-items.result.now in
    let i = c.loop-done.done-index in
    let r = is_replayable t past in
    subst (λ (ns : List ℕ). IsFate c.decide.new.fate ns)
    (sym (ap (λ (xs : List Transaction). lost_of r (undecided (committed t past) (lost_numbers t past) xs))
    (map_next transaction_of items i c.done-item.result c.loop-done-test.true c.done-item.is)
    ∙ lost_more r (committed t past) (lost_numbers t past) (transaction_of c.done-item.result)
    (reverse (map transaction_of (take i items)))))
    (c.in_ok-decide.ensures.decided past _ ledger shown (c.loop-done.invariant past ledger shown))

pub returns : goal.returns
returns c = record {
  fate = λ past ledger shown.
      let t = c.args.target in
      subst (λ (xs : List Transaction). IsFate c.loop-done.fate
      (lost_of (is_replayable t past) (undecided (committed t past) (lost_numbers t past) xs)))
      (ap (λ (xs : List Done). reverse (map transaction_of xs))
      (take_all c.loop-done.done-index c.all-done-items.result.now c.loop-done-test.false) ∙ ap reverse c.all-done-items.ensures.all
      ∙ shown.transactions.all t)
      (c.loop-done.invariant past ledger shown);
}
