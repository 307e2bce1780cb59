-- The tables of the law of history show the lines so far.
use Rattle.std.specs.Prelude.{◌≡◌, ℕ, Bool, List, reverse}
use Rattle.lu_base.specs.declared.ids.At.{At}
use Rattle.lu_base.specs.declared.ids.Who.{Who}
use Rattle.lu_trace.specs.declared.entries.Line.{Line}
use Rattle.lu_trace.specs.WellFormed.{IsLine}
use Rattle.lu_spec_laws.specs.Words.Pasts.{Past}
use Rattle.lu_spec_laws.specs.Words.Lives.{is_gone}
use Rattle.lu_spec_laws.specs.Words.Lost.{is_lost}
use Rattle.lu_spec_laws.specs.Words.Histories.{machine_of, answer_there}
use Rattle.lu_posix.specs.Shown.{Shows}
use Rattle.lu_judge_pass.specs.Firsts.{About}
use Rattle.lu_judge_pass.specs.Places.{Placed}
use Rattle.lu_judge_pass.specs.Ledgers.{ShowsLedger, ShowsGone}
use Rattle.lu_judge_calls.specs.Tables.{ShowsOpenCalls}
use Rattle.lu_judge_windows.specs.Lost.{ShowsLost}
use Rattle.lu_judge_history.specs.declared.played.Played.{Played}
use Rattle.lu_judge_history.specs.declared.history.History.{History}
use Rattle.lu_judge_history.specs.Limited.{Limited}
use Rattle.lu_judge_history.specs.Tables.{answer_in}
use Rattle.lu_judge_history.specs.Carried.{ShowsCarried}

-- the machine after the items of the lines, and what it answered where requests were executed
pub record ShowsPlayed (osts : ℕ) (out : Who → Bool) (lost : ℕ → ℕ → Bool) (t : Played) (past : Past) : Type 0 where
  pub machine : Shows osts t.machine (machine_of out lost osts past)
  pub answers : (turn : At) (who : Who) (x : ℕ) → answer_in t.answers turn who x ≡ answer_there out lost osts past turn who x

-- all lines of the trace, the newest first
abbrev pub whole_of : History → Past
whole_of t = reverse t.lines.now

pub record Shown (t : History) (past : Past) : Type 0 where
  pub gone : ShowsGone t.gone (whole_of t)
  pub lost : ShowsLost t.lost (whole_of t)
  pub limits : Limited past
  pub ledger : ShowsLedger t.ledger past
  pub calls : ShowsOpenCalls t.calls past
  pub played : ShowsPlayed t.osts (is_gone (whole_of t)) (is_lost (whole_of t)) t.played past
  pub carried : ShowsCarried t.carried past

-- what is known of each line: it keeps the limits, and is in its place
pub record GivenAt (about : About) (past : Past) (l : Line) (later : List Line) : Type 0 where
  pub placed : Placed about past l later
  pub limits : IsLine l
