-- Writes and cuts that come while a flush is under way, and the positions that they leave alone.
use Rattle.std.specs.Prelude.{ℕ, ◌+◌, ◌<◌, ◌≤◌, ◌⊎◌, List, [], ◌∷◌, length}
use Rattle.lu_spec_client.specs.Patches.{Patch, written, cut}

pub data Change : Type 0 where
  Write : (at : ℕ) (bytes : List ℕ) → Change
  CutTo : (size : ℕ) → Change

abbrev pub changed : Change → Patch → Patch
changed (Write at bytes) p = written at bytes p
changed (CutTo n) p = cut n p

abbrev pub changed_by : List Change → Patch → Patch
changed_by [] p = p
changed_by (c ∷ cs) p = changed_by cs (changed c p)

-- a change that doesn't touch a byte that is dirty at this position
abbrev pub LeavesAt : ℕ → Change → Type 0
LeavesAt q (Write at bytes) = (q < at) ⊎ (at + length bytes ≤ q)
LeavesAt q (CutTo n) = q < n

abbrev pub LeaveAt : ℕ → List Change → Type 0
LeaveAt q [] = Unit {0}
LeaveAt q (c ∷ cs) = LeavesAt q c × LeaveAt q cs
