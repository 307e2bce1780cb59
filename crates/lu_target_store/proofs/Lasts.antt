-- The number of the last of the first transactions.
use Rattle.std.proofs.Common.{◌≡◌, ℕ, zero, suc, List, [], ◌∷◌, Some, take, slice_get}
use Rattle.std.specs.Option.{option_map}
use Rattle.lu_base.specs.declared.ids.Txn.{Txn}
use Rattle.lu_txn.specs.declared.logs.Logged.{Logged}
use Rattle.lu_txn.specs.Logs.{number}
use Rattle.lu_target_store.specs.Commits.{last_in}

pub last_at : (n : ℕ) (ts : List Logged) (k : ℕ) (found : Txn) → Some found
    ≡ option_map (λ (l : Logged). l.transaction.txn) (slice_get ts k) → found.0 ≡ last_in n (take (suc k) ts)
last_at n [] k found e = absurd (cc)
last_at n (t ∷ ts) zero found e = cc
last_at n (t ∷ ts) (suc k) found e = last_at (number t) ts k found e
