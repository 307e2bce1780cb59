-- What is known of a close's losses, the last one first.
use Rattle.std.specs.Prelude.{◌≡◌, ℕ, Bool, not, ◌==◌, ◌&&◌, nat_lt, List, reverse}
use Rattle.std.specs.HashSet.{contains_by}
use Rattle.lu_spec_laws.specs.Words.Pasts.{Past}
use Rattle.lu_spec_laws.specs.Words.Boots.{committed}
use Rattle.lu_spec_laws.specs.Words.Lost.{Transaction, is_among, lost_numbers}
use Rattle.lu_judge_windows.specs.declared.fates.Fate.{Fate}

pub record IsFate (f : Fate) (lost : List ℕ) : Type 0 where
  pub order : reverse f.in_order.items ≡ lost
  pub among : (n : ℕ) → contains_by (λ k. n == k) f.numbers ≡ is_among lost n

-- neither committed nor lost by an earlier close
abbrev pub is_undecided : ℕ → Past → Transaction → Bool
is_undecided t past x = nat_lt (committed t past) x.number && not (is_among (lost_numbers t past) x.number)
