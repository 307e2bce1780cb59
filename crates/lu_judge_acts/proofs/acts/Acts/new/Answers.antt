use Rattle.std.proofs.Common.{rules}
use Rattle.std.specs.Prelude.{reverse}
use Rattle.lu_judge_acts.proofs.Flown.{none_fly}
use Rattle.lu_judge_acts.proofs.acts.Acts.new.Goals as goal

pub returns-clause-shows : goal.returns-clause-shows
returns-clause-shows c = record {
  gone = c.in_ok-gone.ensures.gone;
  lost = c.in_ok-lost.ensures.lost;
  standing = c.in_ok-standing.ensures.shows (reverse c.args.lines.now) c.in_ok-lost.ensures.lost;
  ledger = search rules;
  calls = search rules;
  executed = c.new-3.ensures.shows (reverse c.args.lines.now);
  elsewhere = search rules;
  flights = search rules;
  flying = none_fly;
}
