-- What the table of the lives that joined holds, and that it shows a past.
use Rattle.std.specs.Prelude.{◌≡◌, ℕ, Bool, ◌==◌, ◌&&◌, List, [], reverse}
use Rattle.std.specs.Option.{option_map_or}
use Rattle.std.specs.HashMap.{get_by}
use Rattle.std.specs.HashSet.{contains_by}
use Rattle.lu_base.specs.declared.ids.Who.{Who}
use Rattle.lu_spec_laws.specs.Words.Pasts.{Past}
use Rattle.lu_spec_laws.specs.Words.Slots.{has_joined, joined_lives}
use Rattle.lu_judge_windows.specs.declared.joins.Joins.{Joins}

abbrev pub has_joined_in : Joins → ℕ → Who → Bool
has_joined_in t target who =
    contains_by (λ k. target == k.0 && (who.client == k.1.0 && who.life == k.1.1)) t.by_life

-- the first one first
abbrev pub lives_in : Joins → ℕ → List Who
lives_in t target = option_map_or (λ lives. lives) (get_by (λ k. target == k) t.in_order) []

pub record ShowsJoins (t : Joins) (past : Past) : Type 0 where
  pub has : (target : ℕ) (who : Who) → has_joined_in t target who ≡ has_joined target past who
  pub lives : (target : ℕ) → reverse (lives_in t target) ≡ joined_lives target past
