use Rattle.lu_judge_recovery.specs.Clients.{count_of}
use Rattle.lu_judge_recovery.proofs.AtLines.{lines_formed}
use Rattle.lu_judge_recovery.proofs.judge.Recovery.new.Goals as goal

pub returns-clause-shows : goal.returns-clause-shows
returns-clause-shows c = record {
  greatest = c.greatest_client-greatest.ensures;
  failing = c.in_ok-failing.ensures.failing;
  formed = lines_formed c.args.lines.now c.requires.formed;
  known = c.in_ok-known.ensures.shows;
  marks = c.new-2.ensures.shows;
  made = c.new-3.ensures.shows;
  noted = c.new-4.ensures.shows;
  settled = c.new-5.ensures.shows;
  callbacks = c.new-6.ensures.shows;
  returns = c.new-7.ensures.shows;
  closings = c.new-8.ensures.shows c.in_ok-failing.failing (count_of c.greatest_client-greatest.result);
}
