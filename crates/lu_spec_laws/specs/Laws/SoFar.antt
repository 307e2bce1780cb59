-- The law of acts, line by line: with the past before a line in the place of the whole trace. What is asked of later
-- lines is asked where they come: of a transaction, that none of its request stands and that no act of it was told.
use Rattle.std.specs.Prelude.{◌≡◌, ℕ, Bool, false, not, ◌&&◌, List, [], ◌∷◌}
use Rattle.lu_base.specs.declared.ids.Node.{Node}
use Rattle.lu_base.specs.declared.ids.Node.TheVariants.{Client, Target}
use Rattle.lu_base.specs.declared.ids.Who.{Who}
use Rattle.lu_trace.specs.declared.entries.Entry.{Entry}
use Rattle.lu_trace.specs.declared.entries.Entry.TheVariants.{Begin, Send, Told, Txn}
use Rattle.lu_trace.specs.declared.entries.Line.{Line}
use Rattle.lu_spec_laws.specs.Words.Pasts.{Past, some_line}
use Rattle.lu_spec_laws.specs.Words.Lives.{is_by}
use Rattle.lu_spec_laws.specs.Words.Calls.{heard_in}
use Rattle.lu_spec_laws.specs.Holds.{Holds}
use Rattle.lu_spec_laws.specs.Laws.Acts.{acted, standing_count, is_number, ToldBy, BegunAt, SendsAt, ActsOf}

abbrev pub tells_act : (Who → Bool) → Who → ℕ → Past → Line → Bool
tells_act out who x past l =
    elim l.entry [
      | Told slot turn answer ↦ not (out who) && is_by who past l.at.node && is_number x (heard_in past l.at)
          && acted past turn who x
      | _ ↦ false
    ]

-- the life isn't gone, and was told an act of that request, in a turn that heard it
abbrev pub told_act : (Who → Bool) → Past → Who → ℕ → Bool
told_act out past who x = some_line (tells_act out who x) past

pub record NewAt (out : Who → Bool) (lost : ℕ → ℕ → Bool) (past : Past) (t : ℕ) (who : Who) (x : ℕ) : Type 0 where
  pub alone : standing_count lost t who x past ≡ 0
  pub untold : t ≡ 0 → told_act out past who x ≡ false

abbrev pub NewBy : (Who → Bool) → (ℕ → ℕ → Bool) → Past → Node → ℕ → Who → ℕ → Type 0
NewBy out lost past (Target t) n who x = lost t n ≡ false → NewAt out lost past t who x
NewBy out lost past (Client c) n who x = Unit {0}

abbrev pub SoFarAt : (Who → Bool) → (ℕ → ℕ → Bool) → Past → Line → List Line → Entry → Type 0
SoFarAt out lost past l later (Begin slot call) = BegunAt past l.at l.at.node slot call later
SoFarAt out lost past l later (Told slot turn answer) = ToldBy out lost past past l.at l.at.node slot turn answer
SoFarAt out lost past l later (Txn number who xid seen answer) = NewBy out lost past l.at.node number.0 who xid.0
SoFarAt out lost past l later (Send number to message) = SendsAt past l to message
SoFarAt out lost past l later _ = Unit {0}

abbrev pub ActsSoFar : (Who → Bool) → (ℕ → ℕ → Bool) → Past → Line → List Line → Type 0
ActsSoFar out lost past l later = SoFarAt out lost past l later l.entry

-- it gives the law of the whole trace
abbrev pub SoFarIsWhole : Type 0
SoFarIsWhole = (out : Who → Bool) (lost : ℕ → ℕ → Bool) (whole : Past) → Holds (ActsSoFar out lost) whole
    → Holds (ActsOf out lost whole) whole
