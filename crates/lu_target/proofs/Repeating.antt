-- What a target leaves on its disk may be performed again, from its begin on and whatever comes.
use Rattle.std.proofs.Common.{◌≡◌, ◌≢◌, ℕ, ◌≤◌, true, false, nat_lt, List, [], ◌∷◌, ◌++◌, Option, Some, None, Result, refl, sym, ap, subst}
use Rattle.std.proofs.Common.{◌∙◌}
use Rattle.std.specs.Prelude.{take}
use Rattle.lu_base.specs.declared.ids.At.{At}
use Rattle.lu_base.specs.declared.ids.Stamp.{Stamp}
use Rattle.lu_base.specs.declared.ids.Who.{Who}
use Rattle.lu_spec_machine.specs.Footprint.{Every}
use Rattle.lu_msg.specs.declared.commits.Batch.{Batch}
use Rattle.lu_msg.specs.declared.messages.Message.{Message}
use Rattle.lu_msg.specs.declared.messages.Message.TheVariants as message
use Rattle.lu_msg.specs.declared.messages.Request.{Request}
use Rattle.lu_msg.specs.declared.messages.RequestReplay.{RequestReplay}
use Rattle.lu_service.specs.declared.services.Kind.{Kind}
use Rattle.lu_service.specs.Contents.{Contents}
use Rattle.lu_service.specs.Takes.{Takes}
use Rattle.lu_trace.specs.declared.traces.Step.{Step}
use Rattle.lu_spec_entries.specs.Words.{Entry, Crash}
use Rattle.lu_spec_target.specs.Disks.{batches_of}
use Rattle.lu_spec_target.specs.Lives.{is_life}
use Rattle.lu_spec_target.specs.Recovery.{row_boot}
use Rattle.lu_spec_target.specs.Rows.{Event, Comes, Boots, row}
use Rattle.lu_spec_target.specs.States.{Setting, Target, is_serving, first_batch, started, after, turn}
use Rattle.lu_spec_target.specs.Windows.{Replayed, Window}
use Rattle.lu_target_server.proofs.Slots.{never}
use Rattle.lu_target_server.specs.Windows.{State}
use Rattle.lu_target_server.specs.Shown.{IsRepeatable, AllRepeatable}
use Rattle.lu_target_server.specs.Sound.{IsKindOf}
use Rattle.lu_target_invariant.specs.Repeats as rows
use Rattle.lu_target_invariant.specs.Repeats.{KeepsServing, MayCome, MayMake}
use Rattle.lu_target_invariant.proofs.Repeatable.{batches_kept}
use Rattle.lu_target_invariant.proofs.Rows.{serving_row, serving_boot, may_serving, may_recovering}
use Rattle.lu_target_server.specs.declared.booting.Place.{Place}
use Rattle.lu_target_server.specs.Booting.{StandsOn}
use Rattle.lu_target_server.specs.Passing.{HasBatches}
use Rattle.lu_target_server.specs.Recovering.{IsReplay, Gathers, Recovers}
use Rattle.lu_target_server.specs.Servers.{ServerState, Shows, HasLife}
use Rattle.lu_target.specs.declared.faults.StepFault.{StepFault}
use Rattle.lu_target.specs.Repeating.{Repeats, MayComeTo, IsLeft, IsNextOf, MayBoot}
use Rattle.lu_target.specs.Running.{RunningState, IsIn, MayHeed, KeepsIn}
use Rattle.lu_target.specs.Targets.{TargetState, turn_of, HasStepped, Steps}
use Rattle.lu_target.proofs.Heeding.{boot_of}
use Rattle.lu_target.proofs.Standing.{kind_in, same_kind, kind_stays, left_by, may_boot_left, starts_again}
use Rattle.lu_target.proofs.Steps.{up_in}
use Rattle.lu_target.proofs.Turning.{in_none, in_some, serving_is, recovering_is}

-- ---- the disk has what it had, and the first of these batches

repeat_kept : (kind : Kind) (es : List Entry) (old new : List Batch) → AllRepeatable kind old → AllRepeatable kind (batches_of es)
    → (n : ℕ) × (new ≡ old ++ take n (batches_of es)) → AllRepeatable kind new
repeat_kept kind es old new one two keeps = subst (AllRepeatable kind) (sym keeps.1) (batches_kept kind keeps.0 old (batches_of es) one two)

-- ---- the kind is that of its number

pub repeats_as : (kind : Kind) (t : RunningState) (v : Target) → IsIn t v → IsKindOf v.setting.id kind → Repeats kind t v
    → Repeats t.server.kind t v
repeats_as kind t v it is repeats = subst (λ (k : Kind). Repeats k t v) (sym (same_kind t v kind it is)) repeats

-- ---- it begins

-- a run
pub begun_repeats : (kind : Kind) (setting : Setting) (clients : ℕ) (t : RunningState) → t.server.store.batches ≡ first_batch clients ∷ []
    → Repeats kind t (started setting clients)
begun_repeats kind setting clients t is = record {
  batches = subst (AllRepeatable kind) (sym is) (tt, tt);
  log = λ up serves. tt;
}

boots : (place : Place) (kind : Kind) (own : Contents) (batches : List Batch) (at : At) (v : Target) → StandsOn place kind own batches v
    → KeepsServing kind v (row_boot v at)
boots place kind own batches at v stands = serving_boot kind v at
    (subst (λ (boot : ℕ). v.closed ≤ boot) (sym stands.disk.boot) stands.closed)

-- at a boot
pub booted_repeats : (place : Place) (kind : Kind) (own : Contents) (batches : List Batch) (at : At) (t : RunningState) (v : Target)
    → AllRepeatable kind batches → StandsOn place kind own batches v
    → HasBatches (StandsOn place kind own batches) (λ v. row_boot v at) batches t.server.store.batches
    → Repeats kind t (turn v (row_boot v at))
booted_repeats place kind own batches at t v old stands has =
    let keeps = boots place kind own batches at v stands in
    record { batches = repeat_kept kind (row_boot v at) batches t.server.store.batches old keeps.batches (has v stands); log = keeps.log }

-- and where it didn't begin
pub unbegun_repeats : (place : Place) (kind : Kind) (own : Contents) (batches left : List Batch) (at : At) → AllRepeatable kind batches
    → (batches ≢ [] → (v : Target) × StandsOn place kind own batches v) → (batches ≡ [] → left ≡ [])
    → HasBatches (StandsOn place kind own batches) (λ v. row_boot v at) batches left → AllRepeatable kind left
unbegun_repeats place kind own [] left at old stands none has = subst (AllRepeatable kind) (sym (none refl)) tt
unbegun_repeats place kind own (batch ∷ batches) left at old stands none has =
    let stood = stands (λ is. absurd (cc)) in
    repeat_kept kind (row_boot stood.0 at) (batch ∷ batches) left old
    (KeepsServing.batches (boots place kind own (batch ∷ batches) at stood.0 stood.1)) (has stood.0 stood.1)

-- ---- what comes may be heeded

has_life : (s : ServerState) (v : Target) (who : Who) → Shows s v → is_life who v.lives ≡ true → HasLife who s
has_life s v who shows life = λ u other. ap (is_life who) (other.store.journal.booted.lives ∙ sym shows.store.journal.booted.lives) ∙ life

takes : (t : RunningState) (v : Target) (r : Request) → IsIn t v → MayHeed (message.Request r) t → is_serving v ≡ true
    → nat_lt r.boot v.boot ≡ false
    → is_life r.who v.lives ≡ true → Takes t.server.kind r.op
takes t v r it may serves later life = by t.window refl where
  by : (o : Option State) → t.window ≡ o → Takes t.server.kind r.op
  by None e =
      let taken = may e (subst (λ (boot : ℕ). nat_lt r.boot boot ≡ false) (boot_of t v it) later)
      (has_life t.server v r.who (in_none t v e it) life) in
      taken.takes
  by (Some w) e = absurd (never (sym serves ∙ recovering_is t.server w v (Recovers.gathers (in_some t w v e it))))

repeats_replay : (t : RunningState) (v : Target) (r : RequestReplay) → IsIn t v → MayHeed (message.Replay r) t → is_serving v ≡ false
    → r.boot ≡ v.boot
    → is_life r.who v.lives ≡ true → IsRepeatable t.server.kind r.op
repeats_replay t v r it may unclosed own life = by t.window refl where
  by : (o : Option State) → t.window ≡ o → IsRepeatable t.server.kind r.op
  by None e = absurd (never (sym (serving_is t.server v (in_none t v e it)) ∙ unclosed))
  by (Some w) e =
      let g : Gathers t.server w v = Recovers.gathers (in_some t w v e it) in
      let kept = may w e (own ∙ boot_of t v it) (ap (λ (it : Window). is_life r.who it.lives) g.window ∙ life) in
      kept.is.repeatable

heeds : (t : RunningState) (v : Target) (m : Message) → IsIn t v → MayHeed m t → rows.MayHeed t.server.kind v m
heeds t v (message.Request r) it may = takes t v r it may
heeds t v (message.Replay r) it may = repeats_replay t v r it may
heeds t v _ it may = tt

comes : (e : Event) (t : RunningState) (v : Target) → IsIn t v → MayComeTo e t → MayCome t.server.kind v e
comes (Comes number from m) t v it may = (up_in t v it, heeds t v m it may)
comes Boots t v it may = λ down. absurd (never (sym (up_in t v it) ∙ down))
comes _ t v it may = tt

-- ---- a step

replays_repeat : (kind : Kind) (lives : List Who) (most : ℕ) (replays : List Replayed) → Every (IsReplay kind lives most) replays
    → Every (λ (r : Replayed). IsRepeatable kind r.op) replays
replays_repeat kind lives most [] all = tt
replays_repeat kind lives most (r ∷ replays) all = (all.0.repeatable, replays_repeat kind lives most replays all.1)

makes : (e : Event) (t : RunningState) (v : Target) → IsIn t v → Repeats t.server.kind t v → MayComeTo e t → MayMake t.server.kind v e
makes e t v it repeats may = by t.window refl where
  kind : Kind
  kind = t.server.kind

  by : (o : Option State) → t.window ≡ o → MayMake kind v e
  by None x =
      let shows : Shows t.server v = in_none t v x it in
      may_serving kind v e (kind_in t v it) shows.sound (repeats.log shows.sound.up (serving_is t.server v shows)) (comes e t v it may)
  by (Some w) x =
      let g : Gathers t.server w v = Recovers.gathers (in_some t w v x it) in
      may_recovering kind v e (kind_in t v it) (recovering_is t.server w v g) (replays_repeat kind v.lives _ v.replays g.sound.replays)
      (comes e t v it may)

-- Whatever the answer, what the disk has then may be performed again.
pub kept_repeats : (e : Event) (at : At) (old new : RunningState) (v : Target) → IsIn old v → Repeats old.server.kind old v
    → MayComeTo e old
    → KeepsIn (λ v. row v at e) old new → AllRepeatable old.server.kind new.server.store.batches
kept_repeats e at old new v it repeats may keeps =
    let made = serving_row old.server.kind v at e (makes e old v it repeats may) in
    repeat_kept old.server.kind (row v at e) old.server.store.batches new.server.store.batches repeats.batches made.batches (keeps v it)

pub steps_repeat : (e : Event) (stamp : Stamp) (old new : TargetState) (result : Result Step StepFault) (v : Target) → IsIn old.running v
    → Repeats old.running.server.kind old.running v → MayComeTo e old.running → Steps e stamp old new result
    → AllRepeatable old.running.server.kind new.running.server.store.batches
steps_repeat e stamp old new result v it repeats may steps = kept_repeats e (turn_of old.id stamp) old.running new.running v it repeats may
    steps.batches

-- And the target goes on so.
pub stepped_repeats : (e : Event) (stamp : Stamp) (old new : TargetState) (step : Step) (v : Target) → IsIn old.running v
    → Repeats old.running.server.kind old.running v → MayComeTo e old.running → HasStepped e stamp old new step
    → KeepsIn (λ v. row v (turn_of old.id stamp) e) old.running new.running
    → Repeats new.running.server.kind new.running (turn v (row v (turn_of old.id stamp) e))
stepped_repeats e stamp old new step v it repeats may stepped keeps =
    let at = turn_of old.id stamp in
    let made = serving_row old.running.server.kind v at e (makes e old.running v it repeats may) in
    let same = kind_stays old.running new.running v (row v at e) it (stepped.shows v it) in
    let now : Repeats old.running.server.kind new.running (turn v (row v at e)) =
    record { batches = kept_repeats e at old.running new.running v it repeats may keeps; log = made.log } in
    subst (λ (kind : Kind). Repeats kind new.running (turn v (row v at e))) (sym same) now

-- ---- it goes down, and may boot again

pub leaves : (t : RunningState) (v : Target) → IsIn t v → Repeats t.server.kind t v
    → IsLeft t.server.kind t.server.store.batches (after v Crash)
leaves t v it repeats = left_by t v t.server.kind it repeats.batches

pub may_boot_again : (place : Place) (kind : Kind) (own : Contents) (t : RunningState) (v : Target) → IsIn t v → Repeats t.server.kind t v
    → IsNextOf place kind own t v → MayBoot place kind own t.server.store.batches (after v Crash)
may_boot_again place kind own t v it repeats next =
    may_boot_left place kind own t.server.store.batches (after v Crash)
    (subst (λ (k : Kind). IsLeft k t.server.store.batches (after v Crash)) (sym next.sort) (leaves t v it repeats))
    (starts_again place kind own t v it next)
