-- Where the disk fails while a target begins.
use Rattle.std.proofs.Common.{◌≡◌, ◌≢◌, ℕ, true, List, [], Option, Some, None, refl, sym, subst, ◌∙◌}
use Rattle.lu_base.specs.declared.ids.At.{At}
use Rattle.lu_trace.specs.declared.traces.Step.{Step}
use Rattle.lu_target_server.specs.declared.booting.BeginFault.{BeginFault}
use Rattle.lu_target_server.specs.declared.booting.BeginFault.TheVariants as begin
use Rattle.lu_target_server.specs.declared.faults.TurnFault.TheVariants as fault
use Rattle.lu_target.specs.declared.faults.BootFault.{BootFault}
use Rattle.lu_target.specs.declared.faults.BootFault.TheVariants as boot_fault
use Rattle.lu_target.specs.Faults.{IsBootFault}
use Rattle.lu_target.specs.Targets.{StopsBoot}
use Rattle.lu_target.proofs.Steps.{new_turn, given_in}
use Rattle.lu_msg.specs.declared.commits.Batch.{Batch}
use Rattle.lu_service.specs.declared.services.Kind.{Kind}
use Rattle.lu_service.specs.Contents.{Contents}
use Rattle.lu_trace.specs.Turns.{Making}
use Rattle.lu_spec_target.specs.Disks.{failing, row_start}
use Rattle.lu_spec_target.specs.Recovery.{row_boot}
use Rattle.lu_spec_target.specs.States.{Target, turn}
use Rattle.lu_target_server.specs.Windows.{State}
use Rattle.lu_spec_entries.specs.Given.{giving}
use Rattle.lu_target_server.specs.Servers.{ServerState}
use Rattle.lu_target_server.specs.declared.booting.Place.{Place}
use Rattle.lu_target_server.specs.Booting.{StandsOn}
use Rattle.lu_target_server.specs.Passing.{Passes, StopsAt}
use Rattle.lu_target.specs.Running.{IsOf, HasStopped}

-- at a boot: what was loaded is what was there
pub stopped_boot : (place : Place) (kind : Kind) (own : Contents) (batches loaded : List Batch) (before between after : Making) → loaded
    ≡ batches → between ≡ before → batches ≢ []
    → (n : ℕ) × StopsAt n (StandsOn place kind own loaded) (λ v. row_boot v between.at) between after
    → HasStopped place kind own batches before after
stopped_boot place kind own batches loaded before between after same quiet some stops = record {
  start = λ none. absurd (some none);
  boot = λ e.
      subst (λ (bs : List Batch). (n : ℕ) × StopsAt n (StandsOn place kind own bs) (λ v. row_boot v before.at) before after) same
      (subst (λ (making : Making). (n : ℕ) × StopsAt n (StandsOn place kind own loaded) (λ v. row_boot v making.at) making after) quiet
      stops);
}

-- it was made
pub booted_so : (place : Place) (kind : Kind) (own : Contents) (batches loaded : List Batch) (server : ServerState) (left : Option State)
    (before between after : Making) → loaded ≡ batches
    → between ≡ before → Passes (StandsOn place kind own loaded) (λ v. row_boot v between.at) server left between after → (v : Target)
    → StandsOn place kind own batches v
    → (after ≡ giving before (row_boot v before.at)) × IsOf server left (turn v (row_boot v before.at))
booted_so place kind own batches loaded server left before between after same quiet passes v stands =
    let p : Passes (StandsOn place kind own batches) (λ v. row_boot v before.at) server left before after =
    subst (λ (bs : List Batch). Passes (StandsOn place kind own bs) (λ v. row_boot v before.at) server left before after) same
    (subst (λ (making : Making). Passes (StandsOn place kind own loaded) (λ v. row_boot v making.at) server left making after) quiet passes)
    in
    (p.gives v stands, by left refl p)
  where
    by : (o : Option State) → left ≡ o → Passes (StandsOn place kind own batches) (λ v. row_boot v before.at) server left before after
        → IsOf server o (turn v (row_boot v before.at))
    by None e p = p.serves e v stands
    by (Some x) e p = p.recovers x e v stands

-- ---- the step of a target that didn't begin

pub boot_disk : (cause : BeginFault) (had step : Step) (f : BootFault) → IsBootFault cause had f → f ≡ boot_fault.Disk step
    → (cause ≡ begin.Turn fault.Disk) × (had ≡ step)
boot_disk begin.BootsSpent had step f is disk = absurd (cc)
boot_disk (begin.Turn fault.Disk) had step f is disk = (refl, cc)
boot_disk (begin.Turn fault.NumbersSpent) had step f is disk = absurd is
boot_disk (begin.Turn fault.Memory) had step f is disk = absurd (cc)

pub stops_boot : (place : Place) (kind : Kind) (own : Contents) (batches : List Batch) (at : At) (before after : Making) (had step : Step)
    → before ≡ new_turn at → had ≡ after.step → had ≡ step
    → HasStopped place kind own batches before after → StopsBoot place kind own batches at step
stops_boot place kind own batches at before after had step begun told is stopped =
    by (subst (λ (making : Making). HasStopped place kind own batches making after) begun stopped) where
      by : HasStopped place kind own batches (new_turn at) after → StopsBoot place kind own batches at step
      by it = record {
        start = λ none. sym is ∙ told ∙ given_in at after (row_start true) (it.start none);
        boot = λ some. let stops = it.boot some in (
          stops.0,
          λ v stands. sym is ∙ told
              ∙ given_in at after (failing (row_boot v at) stops.0) (stops.1 v stands),
        );
      }
