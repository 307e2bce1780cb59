-- A target of the rows whose recovery window closes over a service.
use Rattle.std.specs.Prelude.{◌≡◌, ℕ, List, map}
use Rattle.lu_base.specs.declared.ids.Who.{Who}
use Rattle.lu_service.specs.declared.services.Kind.{Kind}
use Rattle.lu_service.specs.Contents.{Contents}
use Rattle.lu_spec_target.specs.Lives.{lives_of}
use Rattle.lu_spec_target.specs.Windows.{Replayed, settled}
use Rattle.lu_spec_target.specs.States.{Target}
use Rattle.lu_spec_target.specs.Outcomes.{window_of}
use Rattle.lu_target_refines.specs.Contents.{transaction_again}
use Rattle.lu_target_refines.specs.Journals.{AreRising}
use Rattle.lu_target_redo.specs.declared.deeds.Close.{Close}
use Rattle.lu_target_redo.specs.Shown.{Shows}

-- The service shows what stands on its disk, of which no number is above n; it has that boot and that committed number; its
-- window keeps these replays, whose numbers rise from above n; and these lives lose their slots.
pub record Closes (kind : Kind) (close : Close) (replays : List Replayed) (gone : List Who) (own : Contents) (n : ℕ) (v : Target) : Type
    0 where
  pub shows : Shows kind v.setting.osts n own v.disk.contents
  pub boot : v.boot ≡ close.boot
  pub committed : v.committed ≡ close.committed.0
  pub disk : v.disk.committed ≡ v.committed
  pub kept : replays ≡ (settled (window_of v)).kept
  pub rising : AreRising n (map transaction_again replays)
  pub leaves : gone ≡ lives_of (settled (window_of v)).gone
