use Rattle.lu_judge_recovery.proofs.known.Known.new.Goals as goal

pub returns-clause-shows : goal.returns-clause-shows
returns-clause-shows c = record {
  ledger = c.new.ensures.shows;
  windows = c.new-2.ensures.shows;
  contents = c.in_ok-new.ensures.shows;
  written = c.new-4.ensures.shows c.args.osts;
  formed = tt;
}
