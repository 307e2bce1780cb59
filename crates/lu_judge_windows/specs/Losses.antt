-- What the table of the losses holds, and that it shows a past.
use Rattle.std.specs.Prelude.{◌≡◌, ℕ, Bool, false, not, ◌==◌, ◌&&◌, Option, Some, None}
use Rattle.std.specs.List.{list_any}
use Rattle.std.specs.HashMap.{get_by}
use Rattle.std.specs.HashSet.{contains_by}
use Rattle.lu_base.specs.declared.ids.Node.TheVariants.{Target}
use Rattle.lu_spec_laws.specs.Words.Pasts.{Past}
use Rattle.lu_spec_laws.specs.Words.Scopes.{any_in}
use Rattle.lu_spec_laws.specs.Words.Lost.{Loss, losses, is_among, is_fail}
use Rattle.lu_judge_windows.specs.declared.losses.Losses.{Losses}

-- the stamp of the turn that lost this number last
abbrev pub lost_turn : Losses → ℕ → ℕ → Option ℕ
lost_turn t target n = get_by (λ k. target == k.0 && n == k.1) t.lost

abbrev pub has_failed : Losses → ℕ → ℕ → Bool
has_failed t target stamp = contains_by (λ k. target == k.0 && stamp == k.1) t.failed

-- lost in a turn that passes the test and in which the disk didn't fail
abbrev pub passes : (ℕ → Bool) → (ℕ → Bool) → Option ℕ → Bool
passes test failed None = false
passes test failed (Some stamp) = not (failed stamp) && test stamp

abbrev pub stands_lost : (ℕ → Bool) → Option ℕ → Bool
stands_lost failed None = false
stands_lost failed (Some stamp) = not (failed stamp)

abbrev pub is_lost_in : Losses → ℕ → ℕ → Bool
is_lost_in t target n = stands_lost (has_failed t target) (lost_turn t target n)

-- the close is of a turn that passes the test, and loses this number
abbrev pub loses_in : (ℕ → Bool) → ℕ → Loss → Bool
loses_in test n x = test x.at.stamp.0 && is_among x.numbers n

pub record ShowsLosses (t : Losses) (past : Past) : Type 0 where
  pub failed : (target stamp : ℕ) → has_failed t target stamp ≡ any_in is_fail
      (record { stamp = record { 0 = stamp }; node = Target target }) past
  pub lost : (target n : ℕ) (test : ℕ → Bool) → passes test (has_failed t target) (lost_turn t target n)
      ≡ list_any (loses_in test n) (losses target past)
