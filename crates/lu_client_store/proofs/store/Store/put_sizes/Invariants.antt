-- The sizes so far are written.
use Rattle.std.proofs.Common.{◌≡◌, ℕ, ◌≤◌, ◌^◌, take, length}
use Rattle.std.specs.Prelude.{All, map}
use Rattle.std.specs.List.{range_with_len}
use Rattle.lu_spec_client.specs.Looks.{size_on}
use Rattle.lu_client_store.proofs.store.Store.put_sizes.Given as goal

abbrev pub invariant-loop-stripe : goal.invariant-loop-stripe
invariant-loop-stripe l = record {
  count : length l.into ≡ length l.initial.into;
  sizes : take l.stripe l.into ≡ map (λ i. size_on i l.used l.self.store) (range_with_len 0 l.stripe);
  short : All (λ (n : ℕ). n ≤ 2 ^ 40) (take l.stripe l.into);
}
