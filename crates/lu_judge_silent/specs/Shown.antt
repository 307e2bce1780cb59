-- The tables of the law of silent repeats show a past.
use Rattle.std.specs.Prelude.{◌≡◌, ℕ, ◌+◌, ◌<◌, ◌^◌, Bool, ◌==◌, ◌&&◌, if◌then◌else◌, Option, Some, None, [], ◌∷◌, length, IfSome}
use Rattle.std.specs.List.{list_any}
use Rattle.lu_base.specs.declared.ids.Node.{Node}
use Rattle.lu_base.specs.declared.ids.Who.{Who}
use Rattle.lu_msg.specs.declared.calls.Call.{Call}
use Rattle.lu_msg.specs.declared.messages.Message.{Message}
use Rattle.lu_trace.specs.declared.entries.Line.{Line}
use Rattle.lu_trace.specs.declared.entries.Entry.TheVariants.{Begin, Take, Drop, Told}
use Rattle.lu_spec_machine.specs.Tree.{same_life}
use Rattle.lu_spec_laws.specs.Words.Pasts.{Past}
use Rattle.lu_spec_laws.specs.Words.Lives.{is_by}
use Rattle.lu_spec_laws.specs.Words.Sends.{message_of}
use Rattle.lu_spec_laws.specs.Words.Repeats.{rebinds, disturbs, same_reading, unready, is_ready, known}
use Rattle.lu_judge_pass.specs.Ledgers.{ShowsLedger}
use Rattle.lu_judge_windows.specs.Shown.{ShowsHeldLocks}
use Rattle.lu_judge_silent.specs.declared.readings.Reading.{Reading}
use Rattle.lu_judge_silent.specs.declared.known.Known.{Known}
use Rattle.lu_judge_silent.specs.declared.ups.Ups.{Ups}
use Rattle.lu_judge_silent.specs.declared.silent.Silent.{Silent}
use Rattle.lu_judge_silent.specs.Readings.{asks}
use Rattle.lu_judge_silent.specs.Tables.{Stood, Marks, marks_of, calm_at, knows, is_waiting}

-- ---- the calls that stand, by slot

-- what a call that begins leaves of one that stands
abbrev pub without : Call → Option Call → Option Call
without begun None = None
without begun (Some call) = if rebinds begun call then None else Some call

abbrev pub calm_line : ℕ → (own ready : Bool) → (ℕ → Option Message) → Line → Option Call → Option Call
calm_line s own ready sent l old =
    elim l.entry [
      | Begin slot call ↦ if own then (if slot == s then (if ready then Some call else None) else without call old) else old
      | Told slot turn answer ↦ if own then (if slot == s then None else old) else old
      | Take n ↦ if own && disturbs (sent n) then None else old
      | Drop target cookie ↦ if own then None else old
      | _ ↦ old
    ]

-- the call of that slot among those that the laws call calm
abbrev pub calm_in : Who → ℕ → Past → Option Call
calm_in who s [] = None
calm_in who s (l ∷ past) = calm_line s (is_by who past l.at.node) (is_ready who past) (message_of past) l (calm_in who s past)

-- ---- what is shown

-- each mark is of a line before this one
pub record ShowsLife (now : ℕ) (m : Marks) (w : Who) (past : Past) : Type 0 where
  pub disturbed : m.disturbed < now
  pub rebound : (h : ℕ) → m.rebound h < now
  pub standing : (s : ℕ) → IfSome (m.standing s) (λ (stood : Stood). stood.since < now)
  pub told : (q : Reading) → m.told q < now
  pub calm : (s : ℕ) → calm_at m s ≡ calm_in w s past
  pub known : (q : Reading) → knows m q ≡ list_any (same_reading (asks q)) (known w past)

abbrev pub is_up : ℕ × ℕ → ℕ × ℕ → Bool
is_up up other = other.0 == up.0 && other.1 == up.1

abbrev pub ShowsUps : Ups → Past → Type 0
ShowsUps t past = (w : Who) (up : ℕ × ℕ) → is_waiting t w up ≡ list_any (is_up up) (unready w past)

pub record ShowsKnown (t : Known) (past : Past) : Type 0 where
  pub clock : t.clock ≡ length past + 1
  pub ups : ShowsUps t.ups past
  pub lives : (w : Who) → ShowsLife t.clock (marks_of t w) w past

-- the same, after a line of a client, while the clock still has the number of that line
pub record Followed (t : Known) (past : Past) (l : Line) : Type 0 where
  pub clock : t.clock ≡ length past + 1
  pub ups : ShowsUps t.ups (l ∷ past)
  pub lives : (w : Who) → ShowsLife (t.clock + 1) (marks_of t w) w (l ∷ past)

-- a line of this node, next, is the life's own, and no other life's
abbrev pub IsOwn : Who → Past → Node → Type 0
IsOwn who past node = (w : Who) → is_by w past node ≡ same_life who w

pub record Shown (j : Silent) (past : Past) : Type 0 where
  pub short : length j.lines.now < 2 ^ 63
  pub ledger : ShowsLedger j.ledger past
  pub held : ShowsHeldLocks j.held past
  pub known : ShowsKnown j.known past
