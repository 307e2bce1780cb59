-- What isn't refused is a layout.
use Rattle.std.proofs.Common.{◌≡◌, ℕ, ◌≤◌, true, false, ℤ, Some, None, ap, arith}
use Rattle.std.specs.Prelude.{if◌then◌else◌, IsOk, IfOk}
use Rattle.std.specs.Result.{result_ok}
use Rattle.std.specs.declared.result.Result.{Result}
use Rattle.std.specs.declared.result.Result.TheVariants.{Ok, Err}
use Rattle.lu_base.specs.declared.ids.Txn.{Txn}
use Rattle.lu_layout.specs.Raid0.{Raid0}
use Rattle.lu_layout.specs.Sound.{IsLayout}
use Rattle.lu_spec_machine.specs.Striping.{is_bad, stripe_size, stripe_count, stripe_targets, new_layout}
use Rattle.lu_spec_machine.proofs.Layouts.{new_layouts}

-- the layout that is made
abbrev pub good : ℕ → Txn → ℕ → ℤ → Raid0
good osts number size count = record { size = stripe_size size; targets = stripe_targets osts number (stripe_count osts count) }

pub made_good : (osts : ℕ) (number : Txn) (size : ℕ) (count : ℤ) → is_bad osts (stripe_size size) (stripe_count osts count) ≡ false
    → new_layout osts number size count ≡ Some (good osts number size count)
made_good osts number size count fine = ap (λ v. if v then None else Some (good osts number size count)) fine

pub made_none : (osts : ℕ) (number : Txn) (size : ℕ) (count : ℤ) → is_bad osts (stripe_size size) (stripe_count osts count) ≡ true
    → new_layout osts number size count ≡ None
made_none osts number size count bad = ap (λ v. if v then None else Some (good osts number size count)) bad

pub good_sound : (osts : ℕ) (number : Txn) (size : ℕ) (count : ℤ) → 1 ≤ osts → osts ≤ 8
    → is_bad osts (stripe_size size) (stripe_count osts count) ≡ false → IsLayout (good osts number size count)
good_sound osts number size count some most fine = (new_layouts osts number size count (good osts number size count)
    (made_good osts number size count fine)).sound (omega arith) most

pub made_ok : {A E : Type 0} (r : Result A E) (x : A) → IsOk r → IfOk r (λ l. l ≡ x) → result_ok r ≡ Some x
made_ok (Ok l) x is same = ap Some same
made_ok (Err e) x is same = absurd (cc (is))
