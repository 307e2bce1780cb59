-- What the marks of turns hold, and that they show a past.
use Rattle.std.specs.Prelude.{◌≡◌, ℕ, Bool, true, ◌==◌, ◌&&◌, if◌then◌else◌, Option, List}
use Rattle.std.specs.Option.{option_map}
use Rattle.std.specs.HashMap.{get_by}
use Rattle.std.specs.HashSet.{contains_by}
use Rattle.lu_base.specs.declared.ids.Who.{Who}
use Rattle.lu_trace.specs.declared.entries.Entry.{Entry}
use Rattle.lu_spec_laws.specs.Words.Pasts.{Past}
use Rattle.lu_spec_laws.specs.Words.Scopes.{any_in}
use Rattle.lu_spec_laws.specs.Laws.Recovery.{is_tick, is_commit, is_take, is_back_of, seen_in}
use Rattle.lu_judge_recovery.specs.Turns.{turn_at}
use Rattle.lu_judge_recovery.specs.declared.made.Made.{Made}
use Rattle.lu_judge_recovery.specs.declared.marks.Marks.{Marks}

abbrev pub has_ticked : Marks → ℕ → ℕ → Bool
has_ticked m s t = contains_by (λ k. s == k.0 && t == k.1) m.ticked

abbrev pub has_committed : Marks → ℕ → ℕ → Bool
has_committed m s t = contains_by (λ k. s == k.0 && t == k.1) m.committed

abbrev pub has_taken : Marks → ℕ → ℕ → Bool
has_taken m s t = contains_by (λ k. s == k.0 && t == k.1) m.took

abbrev pub has_back : Marks → ℕ → ℕ → Who → Bool
has_back m s t who =
    contains_by (λ k. (s == k.0.0 && t == k.0.1) && (who.client == k.1.0 && who.life == k.1.1)) m.back

-- marked where this turn is that one and the entry says so, else as before
abbrev pub marked : Bool → ℕ → ℕ → ℕ → ℕ → Bool → Bool
marked says stamp target s t old = if (stamp == s && target == t) && says then true else old

pub record Marked (old new : Marks) (stamp target : ℕ) (e : Entry) : Type 0 where
  pub ticked : (s t : ℕ) → has_ticked new s t ≡ marked (is_tick e) stamp target s t (has_ticked old s t)
  pub committed : (s t : ℕ) → has_committed new s t ≡ marked (is_commit e) stamp target s t (has_committed old s t)
  pub taken : (s t : ℕ) → has_taken new s t ≡ marked (is_take e) stamp target s t (has_taken old s t)
  pub back : (s t : ℕ) (who : Who) → has_back new s t who ≡ marked (is_back_of who e) stamp target s t (has_back old s t who)

pub record ShowsMarks (m : Marks) (past : Past) : Type 0 where
  pub ticked : (s t : ℕ) → has_ticked m s t ≡ any_in is_tick (turn_at s t) past
  pub committed : (s t : ℕ) → has_committed m s t ≡ any_in is_commit (turn_at s t) past
  pub taken : (s t : ℕ) → has_taken m s t ≡ any_in is_take (turn_at s t) past
  pub back : (s t : ℕ) (who : Who) → has_back m s t who ≡ any_in (is_back_of who) (turn_at s t) past

-- ---- what transactions saw

abbrev pub made_in : Made → ℕ → ℕ → Who → ℕ → Option (List ℕ)
made_in m s t who x =
    option_map (λ seen. seen.now)
    (get_by
    (λ k. (s == k.0.0 && t == k.0.1) && ((who.client == k.1.0.0 && who.life == k.1.0.1) && x == k.1.1))
    m.by_request)

abbrev pub ShowsMade : Made → Past → Type 0
ShowsMade m past = (s t : ℕ) (who : Who) (x : ℕ) → made_in m s t who x ≡ seen_in past (turn_at s t) who x
