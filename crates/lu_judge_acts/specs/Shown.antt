-- The tables of the judge of acts show the lines so far.
use Rattle.std.specs.Prelude.{reverse}
use Rattle.lu_spec_laws.specs.Words.Pasts.{Past}
use Rattle.lu_judge_pass.specs.Ledgers.{ShowsLedger, ShowsGone}
use Rattle.lu_judge_windows.specs.Lost.{ShowsLost}
use Rattle.lu_judge_calls.specs.Tables.{ShowsOpenCalls}
use Rattle.lu_judge_acts.specs.Flying.{AllFly}
use Rattle.lu_judge_acts.specs.Tables.{ShowsExecuted, ShowsStanding, ShowsTold, ShowsFlights}
use Rattle.lu_judge_acts.specs.declared.acts.Acts.{Acts}

-- the whole trace, the newest line first
abbrev pub whole_of : Acts → Past
whole_of t = reverse t.lines.now

pub record ShowsActs (t : Acts) (past : Past) : Type 0 where
  -- of the whole trace
  pub gone : ShowsGone t.gone (whole_of t)
  pub lost : ShowsLost t.lost (whole_of t)
  pub standing : ShowsStanding t.standing (whole_of t) (whole_of t)
  -- of the lines so far
  pub ledger : ShowsLedger t.ledger past
  pub calls : ShowsOpenCalls t.calls past
  pub executed : ShowsExecuted t.executed (whole_of t) past
  pub elsewhere : ShowsTold t.elsewhere past
  pub flights : ShowsFlights t.flights past
  pub flying : AllFly past
