-- What a line makes of the marks of a life: of one whose own it is, and of others.
use Rattle.std.specs.Prelude.{◌≡◌, ℕ, Bool, false, not, ◌==◌, ◌&&◌, if◌then◌else◌, Option, Some, None}
use Rattle.lu_msg.specs.declared.answers.Answer.{Answer}
use Rattle.lu_msg.specs.declared.calls.Call.{Call}
use Rattle.lu_spec_laws.specs.Words.Repeats.{same_reading, is_error}
use Rattle.lu_judge_silent.specs.declared.readings.Reading.{Reading}
use Rattle.lu_judge_silent.specs.Readings.{asks, rebound_by}
use Rattle.lu_judge_silent.specs.Tables.{Marks}

pub record Alike (m n : Marks) : Type 0 where
  pub disturbed : n.disturbed ≡ m.disturbed
  pub rebound : (h : ℕ) → n.rebound h ≡ m.rebound h
  pub standing : (s : ℕ) → n.standing s ≡ m.standing s
  pub told : (q : Reading) → n.told q ≡ m.told q

abbrev pub is_handle : Option ℕ → ℕ → Bool
is_handle None h = false
is_handle (Some k) h = k == h

-- the answer is of a call that asks this
abbrev pub answers : Reading → Option Call → Bool
answers q None = false
answers q (Some call) = same_reading (asks q) call

-- over the number of the line, and whether it is the life's own
module _ (now : ℕ) (own : Bool) where
  abbrev pub disturbed : Marks → Marks
  disturbed m = record {
    disturbed = if own then now else m.disturbed;
    rebound = m.rebound;
    standing = m.standing;
    told = m.told;
  }

  -- a call begins, and each `up` had its `ready` or not
  abbrev pub begun : ℕ → Call → Bool → Marks → Marks
  begun slot call ready m = record {
    disturbed = m.disturbed;
    rebound = λ h. if own && is_handle (rebound_by call) h then now else m.rebound h;
    standing = λ s. if own && slot == s then Some (record { call = call; since = if ready then now else 0 }) else m.standing s;
    told = m.told;
  }

  -- an answer is told, of the call that stood there, where nothing has changed since its begin
  abbrev pub learned : Answer → Option Call → Marks → Marks
  learned answer calm m = record {
    disturbed = m.disturbed;
    rebound = m.rebound;
    standing = m.standing;
    told = λ q. if own && (not (is_error answer) && answers q calm) then now else m.told q;
  }

-- the call in that slot stands no longer
abbrev pub ended : Bool → ℕ → Marks → Marks
ended own slot m = record {
  disturbed = m.disturbed;
  rebound = m.rebound;
  standing = λ s. if own && slot == s then None else m.standing s;
  told = m.told;
}
