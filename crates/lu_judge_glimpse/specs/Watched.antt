-- What is seen of objects, and of which calls.
use Rattle.std.specs.Prelude.{◌≡◌, ℕ, ◌<◌, Bool, true, false, nat_lt, nat_eq, ◌==◌, ◌&&◌, ◌||◌, if◌then◌else◌, Option, Some, None, List, []}
use Rattle.std.specs.Prelude.{◌∷◌, map}
use Rattle.std.specs.List.{list_any}
use Rattle.std.specs.Map.{lookup}
use Rattle.lu_base.specs.declared.ids.Fid.{Fid}
use Rattle.lu_trace.specs.declared.entries.Entry.TheVariants.{Begin, Told, Peek}
use Rattle.lu_trace.specs.declared.entries.Line.{Line}
use Rattle.lu_spec_machine.specs.Machine.{Machine, object_of}
use Rattle.lu_spec_machine.specs.Objects.{object_size}
use Rattle.lu_spec_laws.specs.Words.Pasts.{Past, is_client}
use Rattle.lu_spec_laws.specs.Words.Calls.{Begun, open_call, file_of}
use Rattle.lu_spec_laws.specs.Words.Seen.{lock_with}
use Rattle.lu_spec_laws.specs.Words.Glimpses.{begins, cuts, machine_cut, has_size, is_gone_at, locks_object, peeked}
use Rattle.lu_judge_glimpse.specs.declared.counts.Counts.{Counts}
use Rattle.lu_judge_glimpse.specs.declared.sightings.Sightings.{Sightings}
use Rattle.lu_judge_glimpse.specs.Begins.{begun_place, count_in}
use Rattle.lu_judge_glimpse.specs.Sightings.{last_in, since_in}
use Rattle.lu_judge_glimpse.specs.declared.glimpses.Watch.{Watch}

-- ---- what a line makes of what was seen

-- where it is this object, and has this size
abbrev pub seen_after : Machine → ℕ → Bool → Fid → ℕ → ℕ → Option ℕ → Option ℕ
seen_after m place here f stripe size old =
    if here && object_size (object_of m f stripe) == size then Some place else old

abbrev pub logged : List Watch → Fid → ℕ → Bool
logged watches f stripe = list_any (λ (w : Watch). w.fid.0 == f.0 && nat_lt stripe w.count) watches

-- a life that is gone answers
abbrev pub heard_after : Past → ℕ → Line → Fid → ℕ → ℕ → Option ℕ → Option ℕ
heard_after past place l f stripe size old =
    elim l.entry [
      | Peek target cookie told ↦
          if (is_gone_at past l.at.node && locks_object (Some f) stripe (lock_with target.0 cookie.0 past)) && told == size
          then Some place
          else old
      | _ ↦ old
    ]

-- nothing was seen at this place or later
abbrev pub Below : Sightings → ℕ → Type 0
Below s place = (f : Fid) (stripe size last : ℕ) → last_in s f stripe size ≡ Some last → last < place

-- ---- what was seen since a call began

-- it is what these machines have, and what lives that were gone answered
abbrev pub SeenIn : Sightings → Counts → List Machine → ℕ → (Option Fid → ℕ → List ℕ) → Option Begun → Type 0
SeenIn s counts machines place answers None = Unit {0}
SeenIn s counts machines place answers (Some begun) =
    (stripe size : ℕ) → stripe < count_in counts place
    → since_in s (file_of begun) stripe size place
    ≡ (list_any (has_size (file_of begun) stripe size) machines || list_any (nat_eq size) (answers (file_of begun) stripe))

-- of each slot's call, over these cuts
abbrev pub SeenOver : Sightings → Counts → ℕ → (ℕ → ℕ → List Past) → Past → Type 0
SeenOver s counts osts cuts_of past =
    (c slot : ℕ)
    → SeenIn s counts (map (machine_cut osts) (cuts_of c slot)) (begun_place c slot past)
    (λ file stripe. peeked c slot file stripe past) (open_call c slot past)

-- the cuts before the newest line
abbrev pub earlier : ℕ → ℕ → Past → List Past
earlier c slot [] = []
earlier c slot (l ∷ past) = if begins c slot l then [] else cuts c slot l.at past

abbrev pub SeenNext : Sightings → Counts → ℕ → Past → List Line → Type 0
SeenNext s counts osts past [] = Unit {0}
SeenNext s counts osts past (l ∷ later) = SeenOver s counts osts (λ c slot. cuts c slot l.at past) past

-- ---- which calls are watched

-- a call is watched with its file, if it will be told sizes
abbrev pub watch_of : Counts → ℕ → Option Watch → Option Fid → Option Watch
watch_of counts place old None = old
watch_of counts place old (Some fid) =
    if nat_lt 0 (count_in counts place) then Some (record { fid = fid; count = count_in counts place }) else old

abbrev pub watch_begun : Counts → ℕ → Option Watch → Option Begun → Option Watch
watch_begun counts place old None = old
watch_begun counts place old (Some begun) = watch_of counts place old (file_of begun)

-- after the newest line
abbrev pub watch_after : Counts → Past → Line → ℕ → ℕ → Option Watch → Option Watch
watch_after counts past l c slot old =
    elim l.entry [
      | Begin other call ↦
          if is_client c l.at.node && other == slot
          then watch_begun counts (begun_place c slot past) old (open_call c slot past)
          else old
      | Told other turn answer ↦ if is_client c l.at.node && other == slot then None else old
      | _ ↦ old
    ]

abbrev pub CoversCall : Option Watch → Counts → ℕ → Option Begun → Type 0
CoversCall watch counts place None = Unit {0}
CoversCall watch counts place (Some begun) =
    (f : Fid) → file_of begun ≡ Some f → 0 < count_in counts place
    → watch ≡ Some (record { fid = f; count = count_in counts place })

abbrev pub Covers : (ℕ → ℕ → Option Watch) → Counts → Past → Type 0
Covers watches counts past =
    (c slot : ℕ) → CoversCall (watches c slot) counts (begun_place c slot past) (open_call c slot past)
