use Rattle.std.proofs.Common.{◌≡◌, ℕ, take}
use Rattle.std.specs.Prelude.{◌&&◌, ◌||◌, nat_eq}
use Rattle.std.specs.List.{list_any}
use Rattle.lu_base.specs.declared.ids.Who.{Who}
use Rattle.lu_judge_windows.specs.Learned.{is_of, has_number}
use Rattle.lu_judge_windows.proofs.learned.Known.add_all.Given as goal

abbrev pub invariant-loop-number : goal.invariant-loop-number
invariant-loop-number l = (t : ℕ) (w : Who) (n : ℕ)
    → has_number l.self t w n ≡ ((is_of l.target l.who t w && list_any (nat_eq n) (take l.number-index l.number-items))
    || has_number l.initial.self t w n)
