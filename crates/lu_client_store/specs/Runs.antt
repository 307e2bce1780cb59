-- A run of bytes of one object, as a read takes them.
use Rattle.std.specs.Prelude.{ℕ, zero, suc, ◌+◌, List, [], ◌∷◌, Option}
use Rattle.std.specs.Option.{unwrap_or}
use Rattle.lu_base.specs.declared.locks.Resource.{Resource}
use Rattle.lu_spec_client.specs.Looks.{byte_on}
use Rattle.lu_spec_client.specs.Patches.{Patch, reads_at}
use Rattle.lu_spec_client.specs.States.{Store}

-- so many bytes from an offset on
abbrev pub run_on : Resource → ℕ → ℕ → Store → List ℕ
run_on r q zero s = []
run_on r q (suc n) s = byte_on r q s ∷ run_on r (q + 1) n s

-- a byte, by what is known of it; what is neither changed nor known is 0
abbrev pub seen_at : Patch → ℕ → Option ℕ → ℕ
seen_at p q known = unwrap_or (reads_at p q known) 0

-- bytes from an offset on, by what is known of each
abbrev pub seen_run : Patch → ℕ → List (Option ℕ) → List ℕ
seen_run p q [] = []
seen_run p q (known ∷ rest) = seen_at p q known ∷ seen_run p (q + 1) rest
