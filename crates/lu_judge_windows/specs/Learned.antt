-- What the table of what lives learned holds, and that it shows a past.
use Rattle.std.specs.Prelude.{◌≡◌, ℕ, Bool, ◌==◌, ◌&&◌}
use Rattle.std.specs.HashSet.{contains_by}
use Rattle.lu_base.specs.declared.ids.Who.{Who}
use Rattle.lu_spec_laws.specs.Words.Pasts.{Past}
use Rattle.lu_spec_laws.specs.Words.Learned.{heard_number, saw}
use Rattle.lu_judge_windows.specs.declared.learned.Known.{Known}
use Rattle.lu_judge_windows.specs.declared.learned.Learned.{Learned}

-- the same target and life
abbrev pub is_of : ℕ → Who → ℕ → Who → Bool
is_of target who t w = target == t && (who.client == w.client && who.life == w.life)

abbrev pub has_number : Known → ℕ → Who → ℕ → Bool
has_number known target who n =
    contains_by (λ k. target == k.0 && ((who.client == k.1.0.0 && who.life == k.1.0.1) && n == k.1.1)) known.numbers

abbrev pub heard_in : Learned → ℕ → Who → ℕ → Bool
heard_in t = has_number t.heard

abbrev pub saw_in : Learned → ℕ → Who → ℕ → Bool
saw_in t = has_number t.seen

pub record ShowsLearned (t : Learned) (past : Past) : Type 0 where
  pub heard : (target : ℕ) (who : Who) (n : ℕ) → heard_in t target who n ≡ heard_number target who n past
  pub saw : (target : ℕ) (who : Who) (n : ℕ) → saw_in t target who n ≡ saw target who n past
