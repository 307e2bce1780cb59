-- What is known where the trace is cut, and where a turn ends.
use Rattle.std.proofs.Common.{◌≡◌, ℕ, suc, ◌+◌, ◌<◌, ◌≤◌, Bool, true, false, List, [], ◌∷◌, length, map, inl, inr, refl, ap, ◌∙◌, sym}
use Rattle.std.proofs.Common.{subst, ⊎_elim, arith}
use Rattle.std.specs.Prelude.{◌==◌, ◌&&◌, if◌then◌else◌, ◌⊎◌, Option, Some, None}
use Rattle.std.specs.Map.{lookup, values_of}
use Rattle.lu_base.specs.declared.ids.Fid.{Fid}
use Rattle.lu_trace.specs.declared.entries.Line.{Line}
use Rattle.lu_spec_machine.specs.Machine.{Machine, object_of}
use Rattle.lu_spec_machine.specs.Objects.{object_size}
use Rattle.lu_spec_laws.specs.Words.Pasts.{Past}
use Rattle.lu_spec_laws.specs.Words.Calls.{Begun, open_call, file_of}
use Rattle.lu_spec_laws.specs.Words.Glimpses.{begins, with_cut, goes_on, machine_cut, peeked}
use Rattle.lu_judge_pass.specs.Firsts.{HoldsBelow}
use Rattle.lu_judge_glimpse.specs.declared.counts.Counts.{Counts}
use Rattle.lu_judge_glimpse.specs.declared.sightings.Sightings.{Sightings}
use Rattle.lu_judge_glimpse.specs.Begins.{begun_place, count_in}
use Rattle.lu_judge_glimpse.specs.Sightings.{last_in}
use Rattle.lu_judge_glimpse.specs.declared.glimpses.Watch.{Watch}
use Rattle.lu_judge_glimpse.specs.declared.wanted.Wanted.{Wanted}
use Rattle.lu_judge_glimpse.specs.Shown.{is_cut, Pending, Fresh}
use Rattle.lu_judge_glimpse.specs.Wanted.{clears}
use Rattle.lu_judge_glimpse.specs.Watched.{seen_after, logged, Below, CoversCall, Covers, SeenIn, SeenOver, SeenNext, earlier}
use Rattle.lu_judge_glimpse.proofs.Seen.{begun_before, ended_call}
use Rattle.lu_judge_glimpse.proofs.Turns.{other_of_not, same_of_not}
use Rattle.lu_judge_glimpse.proofs.Watches.{found_logged}

-- a call began at the newest line or before it
begun_within : (c slot : ℕ) (l : Line) (past : Past) → begun_place c slot (l ∷ past) ≤ length past
begun_within c slot l past = by (begins c slot l)
  where
    by : (v : Bool) → (if v then length past else begun_place c slot past) ≤ length past
    by true = omega arith
    by false = begun_before c slot past

-- the file of a call that will be told sizes is logged
covered : (counts : Counts) (entries : List ((ℕ × ℕ) × Watch)) (c slot place : ℕ) (o : Option Begun)
    → CoversCall (lookup (λ k. c == k.0 && slot == k.1) entries) counts place o
    → (b : Begun) (f : Fid) (stripe : ℕ) → o ≡ Some b → file_of b ≡ Some f → stripe < count_in counts place
    → logged (values_of entries) f stripe ≡ true
covered counts entries c slot place o covers b f stripe is there few =
    let call : CoversCall (lookup (λ k. c == k.0 && slot == k.1) entries) counts place (Some b) =
    subst (λ (x : Option Begun). CoversCall (lookup (λ k. c == k.0 && slot == k.1) entries) counts place x) is covers in
    found_logged (λ (k : ℕ × ℕ). c == k.0 && slot == k.1) entries (record { fid = f; count = count_in counts place }) stripe
    (call f there (omega (arith, few))) few

module _ (osts : ℕ) (counts : Counts) (old new : Sightings) (entries : List ((ℕ × ℕ) × Watch)) (next : ℕ) where
  abbrev Seen : Past → Type 0
  Seen past = (f : Fid) (stripe size : ℕ) → last_in new f stripe size
      ≡ seen_after (machine_cut osts past) next (logged (values_of entries) f stripe) f stripe size (last_in old f stripe size)

  pub seen_end : (past : Past) (later : List Line) → next + 1 ≡ length past → is_cut past later ≡ true
      → Covers (λ c slot. lookup (λ k. c == k.0 && slot == k.1) entries) counts past → Seen past
      → SeenOver old counts osts (λ c slot. earlier c slot past) past → SeenNext new counts osts past later
  seen_end [] later place ended covers is seen = absurd (omega (arith, place))
  seen_end (l ∷ past) [] place ended covers is seen = tt
  seen_end (l ∷ past) (k ∷ later) place ended covers is seen = λ c slot.
      let other : goes_on l k.at ≡ false = other_of_not (goes_on l k.at) ended in
      let within : begun_place c slot (l ∷ past) ≤ length past = begun_within c slot l past in
      subst (λ (v : Bool). SeenIn new counts (map (machine_cut osts) (with_cut v (l ∷ past) (earlier c slot (l ∷ past))))
      (begun_place c slot (l ∷ past)) (λ file stripe. peeked c slot file stripe (l ∷ past)) (open_call c slot (l ∷ past))) (sym other)
      (ended_call counts osts old new (machine_cut osts (l ∷ past)) next (values_of entries) is
      (map (machine_cut osts) (earlier c slot (l ∷ past))) (begun_place c slot (l ∷ past))
      (λ file stripe. peeked c slot file stripe (l ∷ past)) (open_call c slot (l ∷ past))
      (omega (arith, within, place)) (covered counts entries c slot (begun_place c slot (l ∷ past)) (open_call c slot (l ∷ past))
      (covers c slot)) (seen c slot))

  pub below_end : (past : Past) → Seen past → Below old (next + 1) → Below new (next + 1)
  below_end past is below f stripe size last there = by (logged (values_of entries) f stripe
      && object_size (object_of (machine_cut osts past) f stripe) == size) (sym (is f stripe size) ∙ there)
    where
      by : (v : Bool) → (if v then Some next else last_in old f stripe size) ≡ Some last → last < next + 1
      by true e = let same : next ≡ last = cc (e) in omega (arith, same)
      by false e = below f stripe size last e

-- nothing is watched
pub none_logged : (osts : ℕ) (past : Past) (s : Sightings) (entries : List ((ℕ × ℕ) × Watch)) (next : ℕ) → length entries ≡ 0
    → (f : Fid) (stripe size : ℕ)
    → last_in s f stripe size ≡ seen_after (machine_cut osts past) next (logged (values_of entries) f stripe) f stripe size
    (last_in s f stripe size)
none_logged osts past s [] next none f stripe size = refl
none_logged osts past s (e ∷ entries) next none f stripe size = absurd (omega (arith, none))

-- the trace goes on
pub seen_on : (osts : ℕ) (counts : Counts) (s : Sightings) (past : Past) (later : List Line) → is_cut past later ≡ false
    → SeenOver s counts osts (λ c slot. earlier c slot past) past → SeenNext s counts osts past later
seen_on osts counts s [] later on seen = absurd (cc (on))
seen_on osts counts s (l ∷ past) [] on seen = tt
seen_on osts counts s (l ∷ past) (k ∷ later) on seen = λ c slot.
    subst (λ (v : Bool). SeenIn s counts (map (machine_cut osts) (with_cut v (l ∷ past) (earlier c slot (l ∷ past))))
    (begun_place c slot (l ∷ past)) (λ file stripe. peeked c slot file stripe (l ∷ past)) (open_call c slot (l ∷ past)))
    (sym (same_of_not (goes_on l k.at) on)) (seen c slot)

-- where nothing is wanted any more
pub pending_none : (law : Past → Line → List Line → Type 0) (lines : List Line) (count : ℕ) (met : Wanted → Bool)
    → HoldsBelow law lines count → Pending law lines count met []
pending_none law lines count met holds j below d = (λ clear. holds j below d, λ held. refl)

pub fresh_none : (count : ℕ) → Fresh count []
fresh_none count met j above = refl
