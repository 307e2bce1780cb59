-- What the logs hold, and that they show a past: above the committed number all that was written.
use Rattle.std.specs.Prelude.{◌≡◌, ℕ, ◌≤◌, Bool, nat_eq, nat_lt, List, [], map, filter, reverse, unwrap_or}
use Rattle.std.specs.HashMap.{get}
use Rattle.lu_base.specs.declared.ids.Node.{Node}
use Rattle.lu_base.specs.declared.ids.Node.TheVariants.{Client, Target}
use Rattle.lu_base.specs.declared.ids.Txn.{Txn}
use Rattle.lu_trace.specs.declared.entries.Entry.{Entry}
use Rattle.lu_trace.specs.declared.entries.Entry.TheVariants.{Commit}
use Rattle.lu_trace.specs.declared.entries.Line.{Line}
use Rattle.lu_spec_laws.specs.Words.Pasts.{Past}
use Rattle.lu_spec_laws.specs.Words.Boots.{committed}
use Rattle.lu_spec_laws.specs.Words.Seen.{Written, written}
use Rattle.lu_judge_names.specs.declared.logs.Written.{Written as Logged}
use Rattle.lu_judge_names.specs.declared.seen.SeenLog.{SeenLog}

-- the target's transactions that are kept, in the order of the lines
abbrev pub logged : SeenLog → ℕ → List Logged
logged t target = unwrap_or (get nat_eq t.logs target) []

-- as the laws see one
abbrev pub written_of : Logged → Written
written_of w = record { number = w.number; writes = w.writes }

abbrev pub is_over : ℕ → Written → Bool
is_over above w = nat_lt above w.number

abbrev pub ShowsLog : ℕ → ℕ → List Logged → Past → Type 0
ShowsLog osts target log past =
    (above : ℕ) → committed target past ≤ above
    → filter (is_over above) (map written_of log) ≡ filter (is_over above) (reverse (written osts target past))

-- over so many object storage targets
abbrev pub ShowsSeen : ℕ → SeenLog → Past → Type 0
ShowsSeen osts t past = (target : ℕ) → ShowsLog osts target (logged t target) past

-- ---- what is let go stays committed

abbrev pub RisesAt : Past → Node → Txn → Type 0
RisesAt past (Client c) number = Unit {0}
RisesAt past (Target t) number = committed t past ≤ number.0

abbrev pub RisesBy : Past → Node → Entry → Type 0
RisesBy past node (Commit number) = RisesAt past node number
RisesBy past node _ = Unit {0}

-- where the line is a `commit` of a target, the committed number doesn't fall
abbrev pub CommitRises : Past → Line → Type 0
CommitRises past l = RisesBy past l.at.node l.entry
