-- The layout of a new file is one.
use Rattle.std.proofs.Common.{◌≡◌, ℕ, zero, suc, ◌<◌, ◌≤◌, Some, None, refl, ap, ◌∙◌, arith, pos}
use Rattle.std.specs.Prelude.{if◌then◌else◌}
use Rattle.lu_base.specs.declared.ids.Txn.{Txn}
use Rattle.lu_layout.specs.Sound.{IsLayout}
use Rattle.lu_spec_machine.specs.Striping.{stripe_size, stripe_count, layout_for, new_layout}
use Rattle.lu_spec_machine.proofs.Layouts.{new_layouts}
use Rattle.lu_tree.specs.Ends.{IsStriping, striped}

own_size : (size : ℕ) → 0 < size → stripe_size size ≡ size
own_size zero h = absurd (omega (arith, h))
own_size (suc n) h = refl

own_count : (osts count : ℕ) → 0 < count → stripe_count osts (pos count) ≡ count
own_count osts zero h = absurd (omega (arith, h))
own_count osts (suc n) h = refl

pub striping_sound : (osts : ℕ) (number : Txn) (size count : ℕ) → 1 ≤ osts → osts ≤ 8 → IsStriping osts size count
    → IsLayout (striped osts number size count)
striping_sound osts number size count some most h =
    let made : new_layout osts number size (pos count) ≡ Some (striped osts number size count) =
    ap (λ z. layout_for osts number z (stripe_count osts (pos count))) (own_size size h.some_size)
    ∙ ap (layout_for osts number size) (own_count osts count h.some_count)
    ∙ ap (λ v. if v then None else Some (striped osts number size count)) h.good in
    (new_layouts osts number size (pos count) (striped osts number size count) made).sound (omega arith) most
