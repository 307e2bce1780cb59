-- A target that plays may be told, and goes on after a tick, a commit and a close.
use Rattle.std.proofs.Common.{Ok}
use Rattle.lu_test_nodes.proofs.Plays.{goes_on, ready}
use Rattle.lu_test_nodes.proofs.targets.turn.Goals as goal

pub tick-requires : goal.tick-requires
tick-requires g c = record { ready = ready c.requires.plays.0 c.args.target.now c.requires.plays.1 }

pub commit_now-requires : goal.commit_now-requires
commit_now-requires g c = record { ready = ready c.requires.plays.0 c.args.target.now c.requires.plays.1 }

pub close_window-requires : goal.close_window-requires
close_window-requires g c = record { ready = ready c.requires.plays.0 c.args.target.now c.requires.plays.1 }

pub returns-in_ok-tick-in-Tick : goal.returns-in_ok-tick-in-Tick
returns-in_ok-tick-in-Tick g c = record {
  plays = λ run plays. goes_on _ _ run _ _ (Ok c.in_ok-tick-in-Tick.field-0) c.in_ok-tick-in-Tick.ensures.steps tt plays;
}

pub returns-in_ok-commit_now-in-Commit : goal.returns-in_ok-commit_now-in-Commit
returns-in_ok-commit_now-in-Commit g c = record {
  plays = λ run plays. goes_on _ _ run _ _ (Ok c.in_ok-commit_now-in-Commit.field-0) c.in_ok-commit_now-in-Commit.ensures.steps tt plays;
}

pub returns-in_ok-close_window-in-Close : goal.returns-in_ok-close_window-in-Close
returns-in_ok-close_window-in-Close g c = record {
  plays = λ run plays. goes_on _ _ run _ _ (Ok c.in_ok-close_window-in-Close.field-0) c.in_ok-close_window-in-Close.ensures.steps tt plays;
}
