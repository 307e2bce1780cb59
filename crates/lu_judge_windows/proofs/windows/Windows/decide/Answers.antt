use Rattle.std.proofs.Common.{true, false, ◌∷◌, sym, ◌∙◌}
use Rattle.std.specs.Prelude.{not, ◌||◌}
use Rattle.std.specs.List.{list_any}
use Rattle.lu_spec_laws.specs.Words.Lost.{is_replayable, is_among, with_lost}
use Rattle.lu_judge_windows.specs.Fates.{IsFate, is_undecided}
use Rattle.lu_judge_windows.specs.Transactions.{transaction_of}
use Rattle.lu_judge_windows.proofs.FateLines.{choose}
use Rattle.lu_judge_windows.proofs.windows.Windows.decide.Goals as goal

pub returns-then-not-is_undecided : goal.returns-then-not-is_undecided
returns-then-not-is_undecided c = record {
  decided = λ past ns ledger shown fate.
      choose (IsFate c.args.fate.now) (is_undecided c.args.target past (transaction_of c.args.done.now)) false
      (with_lost (is_replayable c.args.target past) (transaction_of c.args.done.now) ns) ns
      (sym (c.is_undecided.ensures.undecided past shown) ∙ c.if-not-is_undecided.true) fate;
}

pub returns-then-not-falls : goal.returns-then-not-falls
returns-then-not-falls c = record {
  decided = λ past ns ledger shown fate.
      let x = transaction_of c.args.done.now in
      choose (IsFate c.args.fate.now) (is_undecided c.args.target past x) true (with_lost (is_replayable c.args.target past) x ns) ns
      (sym (c.is_undecided.ensures.undecided past shown) ∙ c.if-not-is_undecided.false)
      (choose (IsFate c.args.fate.now) (not (is_replayable c.args.target past x) || list_any (is_among ns) x.seen) false (x.number ∷ ns) ns
      (sym (c.falls.ensures.falls past ns ledger shown fate) ∙ c.if-not-falls.true) fate);
}

pub returns : goal.returns
returns c = record {
  decided = λ past ns ledger shown fate.
      let x = transaction_of c.args.done.now in
      choose (IsFate c.add.new.self) (is_undecided c.args.target past x) true (with_lost (is_replayable c.args.target past) x ns) ns
      (sym (c.is_undecided.ensures.undecided past shown) ∙ c.if-not-is_undecided.false)
      (choose (IsFate c.add.new.self) (not (is_replayable c.args.target past x) || list_any (is_among ns) x.seen) true (x.number ∷ ns) ns
      (sym (c.falls.ensures.falls past ns ledger shown fate) ∙ c.if-not-falls.false) (c.in_ok-add.ensures.added ns fate));
}
