-- Kept replays of names, as a test has them.
use Rattle.std.specs.Prelude.{ℕ, ◌<◌, List}
use Rattle.lu_service.specs.declared.services.Kind.TheVariants.{Mdt}
use Rattle.lu_spec_target.specs.Stored.{last_number}
use Rattle.lu_target_refines.specs.Journals.{AreRising}
use Rattle.lu_window.specs.declared.outcomes.KeptReplay.{KeptReplay}
use Rattle.lu_target_redo.specs.Shown.{transactions_of, AreRepeatable}

-- their numbers rise, from above the root's on, and all are below this one
pub record AreKept (number : ℕ) (kept : List KeptReplay) : Type 0 where
  pub repeatable : AreRepeatable Mdt (transactions_of kept)
  pub rising : AreRising 1 (transactions_of kept)
  pub below : last_number (transactions_of kept) 1 < number
