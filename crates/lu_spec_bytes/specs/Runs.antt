-- Unbroken runs of what stands at positions, up to the end of a page. Page size: that of Lustre's clients on most
-- machines.
use Rattle.std.specs.Prelude.{ℕ, zero, suc, ◌+◌, ◌-◌, ◌%◌, ◌==◌, if◌then◌else◌, List, [], ◌∷◌, take, Option, Some, None}
use Rattle.lu_spec_machine.specs.Places.{Places, found_at}

-- in bytes
abbrev pub page_size : ℕ
page_size = 4096

-- what stands from p on without a gap
abbrev pub run_from : {A : Type 0} → ℕ → Places A → List A
run_from p [] = []
run_from p (e ∷ m) = if e.0 == p then e.1 ∷ run_from (p + 1) m else []

-- the unbroken run of least position, up to the end of its page
abbrev pub first_run : {A : Type 0} → Places A → Option (ℕ × List A)
first_run [] = None
first_run (e ∷ m) = Some (e.0, take (page_size - e.0 % page_size) (run_from e.0 (e ∷ m)))

-- the least position, and what stands from a position on without a gap, at most so many
abbrev pub first_position : {A : Type 0} → Places A → Option ℕ
first_position [] = None
first_position (e ∷ m) = Some e.0

abbrev pub run_with : {A : Type 0} → Option A → List A → List A
run_with None more = []
run_with (Some x) more = x ∷ more

abbrev pub run_at : {A : Type 0} → ℕ → Places A → ℕ → List A
run_at zero m p = []
run_at (suc k) m p = run_with (found_at m p) (run_at k m (p + 1))

-- what stands at so many positions from p on, with or without an item each
abbrev pub found_run : {A : Type 0} → ℕ → Places A → ℕ → List (Option A)
found_run zero m p = []
found_run (suc k) m p = found_at m p ∷ found_run k m (p + 1)
