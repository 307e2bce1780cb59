-- What the tables of known answers hold of a life.
use Rattle.std.specs.Prelude.{ℕ, Bool, false, ◌==◌, ◌&&◌, nat_lt, if◌then◌else◌, Option, Some, None, unwrap_or}
use Rattle.std.specs.Option.{option_map}
use Rattle.std.specs.HashMap.{get, get_by}
use Rattle.std.specs.HashSet.{HashSet, contains_by}
use Rattle.lu_base.specs.declared.ids.Who.{Who}
use Rattle.lu_msg.specs.declared.calls.Call.{Call}
use Rattle.lu_spec_machine.specs.Tree.{same_life}
use Rattle.lu_judge_silent.specs.declared.readings.Reading.{Reading}
use Rattle.lu_judge_silent.specs.declared.stamps.Stamps.{Stamps}
use Rattle.lu_judge_silent.specs.declared.known.Known.{Known}
use Rattle.lu_judge_silent.specs.declared.known.Standing.{Standing}
use Rattle.lu_judge_silent.specs.declared.ups.Ups.{Ups}
use Rattle.lu_judge_silent.specs.Readings.{asks, reads_of, same_question}

-- when it last happened to this key
abbrev pub stamp : {K : Type 0} → (K → K → Bool) → Stamps K → K → ℕ
stamp same t k = unwrap_or (get same t.by_key k) 0

-- a call that stands, and the line at which it began
pub record Stood : Type 0 where
  pub call : Call
  pub since : ℕ

abbrev pub stood_of : Standing → Stood
stood_of s = record { call = s.call.now; since = s.since }

-- of a life: when what it knows was last disturbed, when each handle was last opened or closed, what stands in each slot, and
-- when each answer was last told
pub record Marks : Type 0 where
  pub disturbed : ℕ
  pub rebound : ℕ → ℕ
  pub standing : ℕ → Option Stood
  pub told : Reading → ℕ

abbrev pub same_of : {B : Type 0} → (B → B → Bool) → Who × B → Who × B → Bool
same_of same a b = same_life a.0 b.0 && same a.1 b.1

abbrev pub marks_of : Known → Who → Marks
marks_of t w = record {
  disturbed = stamp same_life t.disturbed w;
  rebound = λ h. stamp (same_of ◌==◌) t.rebound (w, h);
  standing = λ s. option_map stood_of (get_by (λ k. same_life w k.0 && s == k.1) t.standing);
  told = λ q. stamp (same_of same_question) t.told (w, q);
}

-- ---- what is known

abbrev pub rebound_for : (ℕ → ℕ) → Option ℕ → ℕ
rebound_for rebound None = 0
rebound_for rebound (Some h) = rebound h

-- nothing has changed since that line what the life knows of the call's answer
abbrev pub is_fresh : Marks → Call → ℕ → Bool
is_fresh m call time = nat_lt m.disturbed time && nat_lt (rebound_for m.rebound (reads_of call)) time

abbrev pub if_fresh : Marks → Option Stood → Option Call
if_fresh m None = None
if_fresh m (Some s) = if is_fresh m s.call s.since then Some s.call else None

-- the call in that slot, where nothing has changed since its begin
abbrev pub calm_at : Marks → ℕ → Option Call
calm_at m s = if_fresh m (m.standing s)

-- the answer is known
abbrev pub knows : Marks → Reading → Bool
knows m q = is_fresh m (asks q) (m.told q)

-- ---- boots

abbrev pub has_boot : {S : Type 0} → HashSet (ℕ × ℕ) S → ℕ × ℕ → Bool
has_boot boots up = contains_by (λ k. up.0 == k.0 && up.1 == k.1) boots

abbrev pub waits_in : {S : Type 0} → Option (HashSet (ℕ × ℕ) S) → ℕ × ℕ → Bool
waits_in None up = false
waits_in (Some boots) up = has_boot boots up

-- the life was told of that boot of the target by an `up`, without a `ready` since
abbrev pub is_waiting : Ups → Who → ℕ × ℕ → Bool
is_waiting t w up = waits_in (get_by (λ k. same_life w k) t.by_life) up
