-- The tables of the law of messages show the lines so far.
use Rattle.std.specs.Prelude.{◌≡◌, ℕ, Option, Some, None, [], ◌∷◌}
use Rattle.lu_base.specs.declared.ids.At.{At}
use Rattle.lu_trace.specs.declared.entries.Entry.{Entry}
use Rattle.lu_trace.specs.declared.entries.Entry.TheVariants.{Send}
use Rattle.lu_spec_laws.specs.Words.Pasts.{Past}
use Rattle.lu_spec_laws.specs.Words.Sends.{sends}
use Rattle.lu_judge_pass.specs.Tables.{ShowsCalls, ShowsDeaths, ShowsSendings}
use Rattle.lu_judge_messages.specs.declared.messages.Messages.{Messages}

-- the turn of the newest line
abbrev pub newest_turn : Past → Option At
newest_turn [] = None
newest_turn (l ∷ past) = Some l.at

-- the number of the newest message after a line
abbrev pub last_after : ℕ → Entry → ℕ
last_after last e = elim e [ Send number to message ↦ number | _ ↦ last ]

pub record Shown (m : Messages) (past : Past) : Type 0 where
  pub newest : m.newest ≡ newest_turn past
  pub last : m.last ≡ sends past
  pub deaths : ShowsDeaths m.deaths past
  pub calls : ShowsCalls m.calls past
  pub sendings : ShowsSendings m.sendings past
