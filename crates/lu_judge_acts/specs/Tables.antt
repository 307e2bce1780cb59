-- What the tables of the law of acts hold, and that they show a past: at each key what the laws' notion says there.
-- `whole` is the whole trace, the newest line first.
use Rattle.std.specs.Prelude.{◌≡◌, ℕ, Bool, not, ◌==◌, ◌&&◌, nat_lt, if◌then◌else◌, Option, Some, None, List, [], ◌∷◌, map}
use Rattle.std.specs.HashMap.{get_by}
use Rattle.std.specs.HashSet.{contains_by}
use Rattle.lu_base.specs.declared.ids.At.{At}
use Rattle.lu_base.specs.declared.ids.Who.{Who}
use Rattle.lu_msg.specs.declared.messages.Request.{Request as RequestOf}
use Rattle.lu_spec_machine.specs.Tree.{same_life}
use Rattle.lu_spec_laws.specs.Words.Pasts.{Past, is_target}
use Rattle.lu_spec_laws.specs.Words.Lost.{is_lost}
use Rattle.lu_spec_laws.specs.Words.Requests.{has_heard, has_number, in_flight}
use Rattle.lu_spec_laws.specs.Laws.Acts.{acted, made, standing_count, told_with}
use Rattle.lu_judge_acts.specs.declared.elsewhere.Elsewhere.{Elsewhere}
use Rattle.lu_judge_acts.specs.declared.executed.Executed.{Executed}
use Rattle.lu_judge_acts.specs.declared.flights.Flights.{Flights}
use Rattle.lu_judge_acts.specs.declared.standing.Standing.{Standing}

-- ---- what the metadata target executed

abbrev pub acted_at : Executed → ℕ → Who → ℕ → Bool
acted_at t stamp who x = contains_by (λ k. stamp == k.0 && ((who.client == k.1.0.0 && who.life == k.1.0.1) && x == k.1.1)) t.acted

abbrev pub made_at : Executed → ℕ → Who → ℕ → Bool
made_at t stamp who x = contains_by (λ k. stamp == k.0 && ((who.client == k.1.0.0 && who.life == k.1.0.1) && x == k.1.1)) t.made

abbrev pub acted_in : Executed → At → Who → ℕ → Bool
acted_in t turn who x = is_target 0 turn.node && acted_at t turn.stamp.0 who x

abbrev pub made_in : Executed → At → Who → ℕ → Bool
made_in t turn who x = is_target 0 turn.node && made_at t turn.stamp.0 who x

pub record ShowsExecuted (t : Executed) (whole past : Past) : Type 0 where
  pub acted : (turn : At) (who : Who) (x : ℕ) → acted_in t turn who x ≡ acted past turn who x
  pub made : (turn : At) (who : Who) (x : ℕ) → made_in t turn who x ≡ made (is_lost whole) past turn who x

-- ---- transactions that stand at the end

-- of two lives at targets: whether both are one
abbrev pub is_at : ℕ → Who → ℕ → Who → Bool
is_at u w t who = u == t && same_life w who

-- of two requests of lives at targets: whether both are one, as a table's key is compared
abbrev pub is_key : ℕ → Who → ℕ → ℕ → Who → ℕ → Bool
is_key u w y t who x = (u == t && same_life w who) && y == x

abbrev pub one_in : Standing → ℕ → Who → ℕ → Bool
one_in t target who x =
    contains_by (λ k. (target == k.0.0 && (who.client == k.0.1.0 && who.life == k.0.1.1)) && x == k.1) t.one

abbrev pub more_in : Standing → ℕ → Who → ℕ → Bool
more_in t target who x =
    contains_by (λ k. (target == k.0.0 && (who.client == k.0.1.0 && who.life == k.0.1.1)) && x == k.1) t.more

-- of so many transactions that stand
abbrev pub Counts : Standing → ℕ → Who → ℕ → ℕ → Type 0
Counts t target who x count = (one_in t target who x ≡ nat_lt 0 count) × (more_in t target who x ≡ nat_lt 1 count)

abbrev pub ShowsStanding : Standing → Past → Past → Type 0
ShowsStanding t whole past = (target : ℕ) (who : Who) (x : ℕ) → Counts t target who x (standing_count (is_lost whole) target who x past)

-- ---- what was told

abbrev pub told_in : Elsewhere → Who → ℕ → Bool
told_in t who x = contains_by (λ k. (who.client == k.0.0 && who.life == k.0.1) && x == k.1) t.told

abbrev pub ShowsTold : Elsewhere → Past → Type 0
ShowsTold t past = (who : Who) (x : ℕ) → told_in t who x ≡ told_with past who x

-- ---- requests in flight

abbrev pub replied_in : Flights → ℕ → Who → ℕ → Bool
replied_in t target who x =
    contains_by (λ k. (target == k.0.0 && (who.client == k.0.1.0 && who.life == k.0.1.1)) && x == k.1) t.heard

abbrev pub listed : {A B : Type 0} → (A → List B) → Option A → List B
listed list None = []
listed list (Some a) = list a

abbrev pub flight_in : Flights → ℕ → Who → List RequestOf
flight_in t target who =
    listed (λ flight. map (λ r. r.now) flight.items) (get_by (λ k. target == k.0 && (who.client == k.1.0 && who.life == k.1.1)) t.by_life)

-- the request isn't in flight at the target, and its reply wasn't heard
abbrev pub adds : Flights → ℕ → RequestOf → Bool
adds t target r = not (has_number r.xid.0 (flight_in t target r.who)) && not (replied_in t target r.who r.xid.0)

-- what is in flight with the request once it is sent
abbrev pub flight_after : Flights → ℕ → RequestOf → List RequestOf
flight_after t target r = if adds t target r then r ∷ flight_in t target r.who else flight_in t target r.who

-- a request was sent to the target
pub record Sends (old new : Flights) (target : ℕ) (r : RequestOf) : Type 0 where
  pub flights : (t : ℕ) (who : Who) → flight_in new t who ≡ (if is_at target r.who t who then flight_after old target r
      else flight_in old t who)
  pub heard : new.heard ≡ old.heard

pub record ShowsFlights (t : Flights) (past : Past) : Type 0 where
  pub flights : (target : ℕ) (who : Who) → flight_in t target who ≡ in_flight target who past
  pub replies : (target : ℕ) (who : Who) (x : ℕ) → replied_in t target who x ≡ has_heard target who x past
