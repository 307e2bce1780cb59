use Rattle.std.proofs.Common.{ℕ, List, [], ◌∷◌, ◌++◌, take, map, sym, ap, ◌∙◌}
use Rattle.std.specs.Prelude.{reverse, if◌then◌else◌, ◌&&◌, not}
use Rattle.std.proofs.lemmas.List.{take_all}
use Rattle.lu_spec_laws.specs.Words.Boots.{committed}
use Rattle.lu_spec_laws.specs.Words.Lost.{Transaction, is_among, undecided, lost_numbers}
use Rattle.lu_spec_laws.specs.Words.Closes.{kept_of, lost_at}
use Rattle.lu_judge_windows.specs.declared.transactions.Done.{Done}
use Rattle.lu_judge_windows.specs.Fates.{is_undecided}
use Rattle.lu_judge_windows.specs.Transactions.{transaction_of}
use Rattle.lu_judge_windows.proofs.FateLines.{map_next, kept_more}
use Rattle.lu_judge_windows.proofs.windows.Windows.kept_at.Goals as goal

pub loop-done-preserved : goal.loop-done-preserved
loop-done-preserved c = λ past ledger shown.
    let t = c.args.target in
    let items = c.all-done-items.result.now in
    let i = c.loop-done.done-index in
    let ns = lost_at t past in
    let x = transaction_of c.done-item.result in
    c.in_ok-keep.ensures.kept past ns shown (c.in_ok-fate.ensures.fate past ledger shown)
    ∙ ap (λ (ks : List ℕ). ks ++ (if is_undecided t past x && not (is_among ns x.number) then x.number ∷ [] else []))
    (c.loop-done.invariant past ledger shown)
    ∙ sym (kept_more (committed t past) (lost_numbers t past) ns x (reverse (map transaction_of (take i items))))
    ∙ sym (ap (λ (xs : List Transaction). kept_of (undecided (committed t past) (lost_numbers t past) xs) ns)
    (map_next transaction_of items i c.done-item.result c.loop-done-test.true c.done-item.is))

pub returns : goal.returns
returns c = record {
  kept = λ past ledger shown.
      let t = c.args.target in
      c.loop-done.invariant past ledger shown
      ∙ ap (λ (xs : List Transaction). kept_of (undecided (committed t past) (lost_numbers t past) xs) (lost_at t past))
      (ap (λ (xs : List Done). reverse (map transaction_of xs))
      (take_all c.loop-done.done-index c.all-done-items.result.now c.loop-done-test.false) ∙ ap reverse c.all-done-items.ensures.all
      ∙ shown.transactions.all t);
}
