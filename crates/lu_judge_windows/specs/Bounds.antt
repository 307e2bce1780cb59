-- No count of a life is above the number of all members.
use Rattle.std.specs.Prelude.{ℕ, ◌≤◌, ◌==◌, ◌&&◌, unwrap_or}
use Rattle.std.specs.HashMap.{HashMap, get_by}
use Rattle.std.specs.HashSet.{HashSet, hash_set_len}

abbrev pub IsBounded : {S T : Type 0} → HashSet ((ℕ × ℕ) × ℕ) S → HashMap (ℕ × ℕ) ℕ T → Type 0
IsBounded members counts =
    (client life : ℕ) → unwrap_or (get_by (λ k. client == k.0 && life == k.1) counts) 0 ≤ hash_set_len members
