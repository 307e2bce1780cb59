-- The layout of a new file (Lustre Operations Manual, striping): 0 stands for the default size of
-- 1,048,576 bytes and for one stripe, and -1 (here each negative number) for a stripe on each object
-- storage target.
-- That a count above their number is refused, and which target a stripe lies on, is this project's profile.
use Rattle.std.specs.Prelude.{ℕ, zero, ◌+◌, ◌%◌, Bool, not, ◌==◌, ◌||◌, nat_lt, ℤ, pos, negsuc, Option, Some, None, if◌then◌else◌, List}
use Rattle.std.specs.Prelude.{map}
use Rattle.std.specs.List.{range_with_len}
use Rattle.lu_base.specs.declared.ids.Txn.{Txn}
use Rattle.lu_layout.specs.Raid0.{Raid0}

abbrev pub stripe_size : ℕ → ℕ
stripe_size zero = 1048576
stripe_size size = size

abbrev pub stripe_count : ℕ → ℤ → ℕ
stripe_count osts (pos zero) = 1
stripe_count osts (pos count) = count
stripe_count osts (negsuc n) = osts

-- no multiple of 65,536, above 2^32 - 65,536, or more stripes than targets
abbrev pub is_bad : ℕ → ℕ → ℕ → Bool
is_bad osts size count = not (size % 65536 == 0) || nat_lt 4294901760 size || nat_lt osts count

-- stripe i lies on target 1 + ((low + i) mod osts), where low is the low 32 bits of the new Fid
abbrev pub stripe_targets : ℕ → Txn → ℕ → List ℕ
stripe_targets osts number count = map (λ i. 1 + (number.0 % 4294967296 + i) % osts) (range_with_len 0 count)

abbrev pub layout_for : ℕ → Txn → ℕ → ℕ → Option Raid0
layout_for osts number size count = if is_bad osts size count then None
    else Some (record { size = size; targets = stripe_targets osts number count })

abbrev pub new_layout : ℕ → Txn → ℕ → ℤ → Option Raid0
new_layout osts number size count = layout_for osts number (stripe_size size) (stripe_count osts count)
