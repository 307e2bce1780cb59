-- The tables of the law of recovery show the lines so far, and those of the whole trace all of its lines.
use Rattle.std.specs.Prelude.{◌≡◌, reverse}
use Rattle.lu_spec_laws.specs.Words.Pasts.{Past}
use Rattle.lu_spec_laws.specs.Words.Clients.{clients}
use Rattle.lu_judge_names.specs.Formed.{AreFormed}
use Rattle.lu_judge_recovery.specs.Callbacks.{ShowsCallbacks}
use Rattle.lu_judge_recovery.specs.Clients.{count_of}
use Rattle.lu_judge_recovery.specs.Closings.{ShowsClosings}
use Rattle.lu_judge_recovery.specs.Failing.{ShowsFailing}
use Rattle.lu_judge_recovery.specs.Known.{ShowsKnown}
use Rattle.lu_judge_recovery.specs.Marks.{ShowsMarks, ShowsMade}
use Rattle.lu_judge_recovery.specs.Noted.{ShowsNoted, ShowsSettled}
use Rattle.lu_judge_recovery.specs.Returns.{ShowsReturns}
use Rattle.lu_judge_recovery.specs.declared.judge.Recovery.{Recovery}

pub record Shown (j : Recovery) (past : Past) : Type 0 where
  pub greatest : count_of j.greatest ≡ clients (reverse j.lines.now)
  pub failing : ShowsFailing j.failing (reverse j.lines.now)
  pub formed : AreFormed (reverse j.lines.now)
  pub known : ShowsKnown j.known past
  pub marks : ShowsMarks j.marks past
  pub made : ShowsMade j.made past
  pub noted : ShowsNoted j.noted past
  pub settled : ShowsSettled j.settled past
  pub callbacks : ShowsCallbacks j.callbacks past
  pub returns : ShowsReturns j.returns past
  pub closings : ShowsClosings j.closings j.failing (count_of j.greatest) past
