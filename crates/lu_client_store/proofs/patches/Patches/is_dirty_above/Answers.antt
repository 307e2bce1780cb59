-- The one number is what all objects together have.
use Rattle.std.proofs.Common.{ℕ, nat_lt, ap, ◌∙◌}
use Rattle.lu_spec_client.specs.Locks.{dirty_total}
use Rattle.lu_client_store.proofs.patches.Patches.is_dirty_above.Goals as goal

pub returns : goal.returns
returns c = record { above = ap (λ (total : ℕ). nat_lt c.args.limit total) (c.self.invariant.all ∙ ap dirty_total c.self.view_is) }
