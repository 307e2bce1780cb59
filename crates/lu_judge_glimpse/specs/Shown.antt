-- The pass over the lines of a trace: what it knows of them before a line, and after one.
use Rattle.std.specs.Prelude.{◌≡◌, ℕ, ◌+◌, ◌<◌, ◌≤◌, Bool, true, false, not, ◌==◌, ◌&&◌, if◌then◌else◌, ◌↔◌, Option, Some, None, List, []}
use Rattle.std.specs.Prelude.{◌∷◌, length, drop, reverse, slice_index_or, All}
use Rattle.std.specs.HashMap.{HashMap, get_by}
use Rattle.lu_trace.specs.declared.entries.Line.{Line}
use Rattle.lu_trace.specs.WellFormed.{IsLine}
use Rattle.lu_spec_machine.specs.Footprint.{Every}
use Rattle.lu_spec_laws.specs.Words.Pasts.{Past, same_turn}
use Rattle.lu_spec_laws.specs.Words.Glimpses.{to_turn_end, goes_on, machine_cut}
use Rattle.lu_spec_laws.specs.Laws.Glimpse.{Glimpse}
use Rattle.lu_judge_pass.specs.Firsts.{before, HoldsBelow}
use Rattle.lu_judge_pass.specs.Ledgers.{ShowsGone}
use Rattle.lu_judge_pass.specs.Places.{PlacedIn}
use Rattle.lu_judge_glimpse.specs.Begins.{Counted}
use Rattle.lu_judge_glimpse.specs.Histories.{ShowsHistory}
use Rattle.lu_judge_glimpse.specs.declared.glimpses.Pass.{Pass}
use Rattle.lu_judge_glimpse.specs.declared.glimpses.Watch.{Watch}
use Rattle.lu_judge_glimpse.specs.declared.wanted.Wanted.{Wanted}
use Rattle.lu_judge_glimpse.specs.Tables.{ShowsTables}
use Rattle.lu_judge_glimpse.specs.Wanted.{meets, clears}
use Rattle.lu_judge_glimpse.specs.Watched.{Below, Covers, SeenOver, SeenNext, earlier}

-- ---- turns

-- the past with the later lines of the turn of its newest line
abbrev pub turn_end : Past → List Line → Past
turn_end [] later = []
turn_end (l ∷ past) later = to_turn_end l.at later (l ∷ past)

-- no later line is of the turn of the newest line
abbrev pub ends : Past → List Line → Bool
ends [] later = true
ends (l ∷ past) [] = true
ends (l ∷ past) (next ∷ later) = not (same_turn l.at next.at)

-- the trace is cut after the newest line
abbrev pub is_cut : Past → List Line → Bool
is_cut [] later = true
is_cut (l ∷ past) [] = true
is_cut (l ∷ past) (next ∷ later) = not (goes_on l next.at)

-- ---- the pass

abbrev pub law_of : Pass → Past → Line → List Line → Type 0
law_of p = Glimpse p.history.osts (reverse p.lines.now)

abbrev pub watch_at : {S : Type 0} → HashMap (ℕ × ℕ) Watch S → ℕ → ℕ → Option Watch
watch_at standing c slot = get_by (λ k. c == k.0 && slot == k.1) standing

abbrev pub past_of : Pass → Past
past_of p = before p.lines.now p.place

abbrev pub later_of : Pass → List Line
later_of p = drop p.place p.lines.now

-- at each line so far the law holds exactly where what it told is met when the turn ends
abbrev pub Pending : (Past → Line → List Line → Type 0) → List Line → ℕ → (Wanted → Bool) → List Wanted → Type 0
Pending law lines count met ws =
    (j : ℕ) → j < count → (d : Line)
    → (clears met j ws ≡ true) ↔ law (before lines j) (slice_index_or lines j d) (drop (j + 1) lines)

-- nothing was told by later lines
abbrev pub Fresh : ℕ → List Wanted → Type 0
Fresh count ws = (met : Wanted → Bool) (j : ℕ) → count ≤ j → clears met j ws ≡ true

pub record Kept (p : Pass) : Type 0 where
  pub within : p.place ≤ length p.lines.now
  pub gone : ShowsGone p.out (reverse p.lines.now)
  pub counted : (k : ℕ) → k < length p.lines.now → (d : Line) → Counted p.counts (before p.lines.now k) (slice_index_or p.lines.now k d)
  pub placed : HoldsBelow (PlacedIn (reverse p.lines.now)) p.lines.now (length p.lines.now)
  pub lines_formed : All IsLine p.lines.now
  pub formed : Every IsLine (past_of p)
  pub tables : ShowsTables p.tables (past_of p)
  pub history : ShowsHistory p.history (past_of p)
  pub below : Below p.sightings p.place
  pub covers : Covers (watch_at p.standing) p.counts (past_of p)
  pub fresh : Fresh p.place p.wanted.items
  pub pending : Pending (law_of p) p.lines.now p.place (meets (machine_cut p.history.osts (turn_end (past_of p) (later_of p))))
      p.wanted.items

-- before the next line
pub record Shown (p : Pass) : Type 0 where
  pub kept : Kept p
  pub seen : SeenNext p.sightings p.counts p.history.osts (past_of p) (later_of p)
  pub done : ends (past_of p) (later_of p) ≡ true → p.wanted.items ≡ []

-- after a line, where what can be seen there was seen
pub record Looked (p : Pass) : Type 0 where
  pub kept : Kept p
  pub seen : SeenNext p.sightings p.counts p.history.osts (past_of p) (later_of p)

-- after a line, before anything is seen there
pub record Stepped (p : Pass) : Type 0 where
  pub kept : Kept p
  pub seen : SeenOver p.sightings p.counts p.history.osts (λ c slot. earlier c slot (past_of p)) (past_of p)
