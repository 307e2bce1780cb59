-- What sets of numbers by life hold.
use Rattle.std.specs.Prelude.{ℕ, Bool, false, ◌==◌, ◌&&◌, nat_le, Option, Some, None, unwrap_or}
use Rattle.std.specs.HashMap.{get_by}
use Rattle.std.specs.HashSet.{contains_by}
use Rattle.lu_base.specs.declared.ids.Who.{Who}
use Rattle.lu_judge_windows.specs.declared.counted.Counted.{Counted}
use Rattle.lu_judge_windows.specs.declared.counted.Least.{Least}

abbrev pub has_member : Counted → Who → ℕ → Bool
has_member t who n = contains_by (λ k. (who.client == k.0.0 && who.life == k.0.1) && n == k.1) t.members

abbrev pub count_of : Counted → Who → ℕ
count_of t who = unwrap_or (get_by (λ k. who.client == k.0 && who.life == k.1) t.counts) 0

abbrev pub is_up_to : Option ℕ → ℕ → Bool
is_up_to None bound = false
is_up_to (Some least) bound = nat_le least bound

abbrev pub is_within : Least → Who → ℕ → ℕ → Bool
is_within t who k bound =
    is_up_to (get_by (λ e. (who.client == e.0.0 && who.life == e.0.1) && k == e.1) t.numbers) bound
