-- A target's boots, its recovery windows, and the numbers of its transactions and commits (Lustre Operations Manual,
-- recovery).
use Rattle.std.specs.Prelude.{ℕ, max, Bool, true, false, if◌then◌else◌, Option, Some, None, [], ◌∷◌, unwrap_or}
use Rattle.lu_trace.specs.declared.entries.Entry.{Entry}
use Rattle.lu_trace.specs.declared.entries.Entry.TheVariants.{Txn, Commit, Crash, Boot, Close}
use Rattle.lu_trace.specs.declared.entries.Line.{Line}
use Rattle.lu_spec_laws.specs.Words.Pasts.{Past, is_target}
use Rattle.lu_spec_laws.specs.Words.Scopes.{last_at}

abbrev pub booted_as : Entry → Option ℕ
booted_as (Boot b) = Some b
booted_as _ = None

-- the present boot of a target: 1 before its first `boot` line
abbrev pub boot : ℕ → Past → ℕ
boot t past = unwrap_or (last_at booted_as t past) 1

abbrev pub committed_to : Entry → Option ℕ
committed_to (Commit number) = Some number.0
committed_to _ = None

-- the number of its last `commit` line, or 0
abbrev pub committed : ℕ → Past → ℕ
committed t past = unwrap_or (last_at committed_to t past) 0

abbrev pub greatest_step : ℕ → Line → ℕ → ℕ
greatest_step t l old =
    elim l.entry [ Txn number who xid seen answer ↦ if is_target t l.at.node then max old number.0 else old | _ ↦ old ]

-- the greatest number of its transactions, or 0
abbrev pub greatest : ℕ → Past → ℕ
greatest t [] = 0
greatest t (l ∷ past) = greatest_step t l (greatest t past)

abbrev pub opens_window : Entry → Option Bool
opens_window (Boot b) = Some true
opens_window Close = Some false
opens_window Crash = Some false
opens_window _ = None

-- its recovery window is open: from its boot to its close, or to another crash
abbrev pub is_recovering : ℕ → Past → Bool
is_recovering t past = unwrap_or (last_at opens_window t past) false
