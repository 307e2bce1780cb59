-- Entries that the journal and the disk don't read leave what they show.
use Rattle.std.proofs.Common.{◌≡◌, ℕ, ◌+◌, ◌&&◌, ◌||◌, Bool, true, false, List, [], ◌∷◌, map, None, refl, sym, ap, subst, ◌∙◌}
use Rattle.std.specs.Prelude.{not}
use Rattle.std.specs.List.{list_any}
use Rattle.lu_base.specs.declared.ids.Who.{Who}
use Rattle.lu_spec_entries.specs.Carried.{Deed, LifeSlot, Disk}
use Rattle.lu_spec_entries.specs.Words.{Entry, Act, Txn, Grant, Wait, Commit, Boot, Close, Enters, Answers}
use Rattle.lu_spec_target.specs.Phase.{reads_boot, boot_after, reads_number, number_after}
use Rattle.lu_spec_target.specs.Lives.{slot_in, reads_lives, lives_after, reads_removed, removed_after, reads_slots, slots_after}
use Rattle.lu_spec_target.specs.Stored.{reads_log, log_after, reads_committed, committed_after, reads_disk, disk_after}
use Rattle.lu_spec_target.specs.States.{Setting, Target, empty_disk, after, turn}
use Rattle.lu_spec_target.specs.Leaving.{is_over}
use Rattle.lu_spec_target.specs.Disks.{loaded_on}
use Rattle.lu_txn.specs.Loads.{AreBelow}
use Rattle.lu_txn.specs.Journals.{JournalState}
use Rattle.lu_msg.specs.declared.commits.Batch.{Batch}
use Rattle.lu_target_refines.specs.Journals.{TakenBy, logged_of, AreHeld, AreLate, ShowsBoot, ShowsWindow, ShowsJournal, ShowsDisk}
use Rattle.lu_target_refines.specs.Unread.{is_read, is_unread, all_unread, AreTheSame}
use Rattle.lu_target_refines.proofs.Slots.{never}

-- ---- field by field

same_boot : (n : ℕ) (e : Entry) → reads_boot e ≡ false → boot_after n e ≡ n
same_boot n (Boot boot disk) h = absurd (never h)
same_boot n _ h = refl

same_number : (n : ℕ) (e : Entry) → reads_number e ≡ false → number_after n e ≡ n
same_number n (Txn d) h = absurd (never h)
same_number n (Boot boot disk) h = absurd (never h)
same_number n _ h = refl

same_lives : (lives : List Who) (e : Entry) → reads_lives e ≡ false → lives_after lives e ≡ lives
same_lives lives (Commit to batch) h = absurd (never h)
same_lives lives (Boot boot disk) h = absurd (never h)
same_lives lives (Close o) h = absurd (never h)
same_lives lives _ h = refl

same_removed : (removed : List Who) (e : Entry) → reads_removed e ≡ false → removed_after removed e ≡ removed
same_removed removed (Commit to batch) h = absurd (never h)
same_removed removed (Boot boot disk) h = absurd (never h)
same_removed removed (Close o) h = absurd (never h)
same_removed removed _ h = refl

same_slots : (slots : List LifeSlot) (e : Entry) → reads_slots e ≡ false → slots_after slots e ≡ slots
same_slots slots (Enters r) h = absurd (never h)
same_slots slots (Act d) h = absurd (never h)
same_slots slots (Txn d) h = absurd (never h)
same_slots slots (Grant lock asked) h = absurd (never h)
same_slots slots (Wait lock asked) h = absurd (never h)
same_slots slots (Answers d) h = absurd (never h)
same_slots slots (Commit to batch) h = absurd (never h)
same_slots slots (Close o) h = absurd (never h)
same_slots slots _ h = refl

same_log : (log : List Deed) (e : Entry) → reads_log e ≡ false → log_after log e ≡ log
same_log log (Txn d) h = absurd (never h)
same_log log (Commit to batch) h = absurd (never h)
same_log log (Close o) h = absurd (never h)
same_log log _ h = refl

same_committed : (m : ℕ) (e : Entry) → reads_committed e ≡ false → committed_after m e ≡ m
same_committed m (Commit to batch) h = absurd (never h)
same_committed m (Boot boot disk) h = absurd (never h)
same_committed m (Close o) h = absurd (never h)
same_committed m _ h = refl

same_disk : (osts : ℕ) (disk : Disk) (e : Entry) → reads_disk e ≡ false → disk_after osts disk e ≡ disk
same_disk osts disk (Commit to batch) h = absurd (never h)
same_disk osts disk (Boot boot loaded) h = absurd (never h)
same_disk osts disk _ h = refl

neither : (a b : Bool) → (a || b) ≡ false → (a ≡ false) × (b ≡ false)
neither true b h = absurd (never h)
neither false b h = (refl, h)

not_true : (a : Bool) → not a ≡ true → a ≡ false
not_true true h = absurd (never (sym h))
not_true false h = refl

unread : (v : Target) (e : Entry) → is_read e ≡ false → AreTheSame v (after v e)
unread v e h =
    let halves = neither (reads_boot e || (reads_number e || (reads_lives e || reads_removed e)))
    (reads_slots e || (reads_log e || (reads_committed e || reads_disk e))) h in
    let boot = neither (reads_boot e) (reads_number e || (reads_lives e || reads_removed e)) halves.0 in
    let number = neither (reads_number e) (reads_lives e || reads_removed e) boot.1 in
    let lives = neither (reads_lives e) (reads_removed e) number.1 in
    let slots = neither (reads_slots e) (reads_log e || (reads_committed e || reads_disk e)) halves.1 in
    let log = neither (reads_log e) (reads_committed e || reads_disk e) slots.1 in
    let committed = neither (reads_committed e) (reads_disk e) log.1 in
    record {
      setting = refl;
      boot = same_boot v.boot e boot.0;
      number = same_number v.number e number.0;
      lives = same_lives v.lives e lives.0;
      removed = same_removed v.removed e lives.1;
      slots = same_slots v.slots e slots.0;
      log = same_log v.log e log.0;
      committed = same_committed v.committed e committed.0;
      disk = same_disk v.setting.osts v.disk e committed.1;
    }

pub same_after : (v : Target) (e : Entry) → is_unread e ≡ true → AreTheSame v (after v e)
same_after v (Grant lock None) h = record {
  setting = refl;
  boot = refl;
  number = refl;
  lives = refl;
  removed = refl;
  slots = refl;
  log =
      refl;
  committed = refl;
  disk = refl;
}
same_after v e h = unread v e (not_true (is_read e) h)

same_then : (v w x : Target) → AreTheSame v w → AreTheSame w x → AreTheSame v x
same_then v w x one two = record {
  setting = two.setting ∙ one.setting;
  boot = two.boot ∙ one.boot;
  number = two.number ∙ one.number;
  lives = two.lives ∙ one.lives;
  removed = two.removed ∙ one.removed;
  slots = two.slots ∙ one.slots;
  log = two.log ∙ one.log;
  committed = two.committed ∙ one.committed;
  disk = two.disk ∙ one.disk;
}

both : (a b : Bool) → (a && b) ≡ true → (a ≡ true) × (b ≡ true)
both true b h = (refl, h)
both false b h = absurd (never (sym h))

pub same_turn : (v : Target) (es : List Entry) → all_unread es ≡ true → AreTheSame v (turn v es)
same_turn v [] h = record {
  setting = refl;
  boot = refl;
  number = refl;
  lives = refl;
  removed = refl;
  slots = refl;
  log = refl;
  committed =
      refl;
  disk = refl;
}
same_turn v (e ∷ es) h =
    let parts = both (is_unread e) (all_unread es) h in
    same_then v (after v e) (turn (after v e) es) (same_after v e parts.0) (same_turn (after v e) es parts.1)

-- ---- what is shown of the one is shown of the other

pub boot_stays : (j : JournalState) (v w : Target) → AreTheSame v w → ShowsBoot j v → ShowsBoot j w
boot_stays j v w same shows = record {
  boot = same.boot ∙ shows.boot;
  begun = shows.begun;
  number = same.number ∙ shows.number;
  lives = same.lives ∙ shows.lives;
  over = λ other. ap (list_any (is_over other)) same.removed ∙ shows.over other;
  committed = same.committed ∙ shows.committed;
}

pub window_stays : (j : JournalState) (v w : Target) → AreTheSame v w → ShowsWindow j v → ShowsWindow j w
window_stays j v w same shows = record {
  booted = boot_stays j v w same shows.booted;
  settled = shows.settled;
  none_yet = shows.none_yet;
  log = shows.log;
  slots = λ other t. ap (λ (disk : Disk). slot_in disk.slots other t) same.disk ∙ shows.slots other t;
}

pub journal_stays : (taken : TakenBy) (j : JournalState) (v w : Target) → AreTheSame v w → ShowsJournal taken j v → ShowsJournal taken j w
journal_stays taken j v w same shows = record {
  booted = boot_stays j v w same shows.booted;
  settled = shows.settled;
  log = shows.log ∙ ap (map logged_of) (sym same.log);
  slots = λ other t. ap (λ slots. slot_in slots other t) same.slots ∙ shows.slots other t;
  held = subst (AreHeld w.lives) (sym same.log) (subst (λ lives. AreHeld lives v.log) (sym same.lives) shows.held);
  late = subst AreLate (sym same.log) shows.late;
}

pub disk_stays : (batches : List Batch) (v w : Target) → AreTheSame v w → ShowsDisk batches v → ShowsDisk batches w
disk_stays batches v w same shows = record {
  disk = same.disk ∙ shows.disk ∙ ap (λ (setting : Setting). loaded_on setting.osts empty_disk batches) (sym same.setting);
  boot = ap (λ (disk : Disk). disk.boot) same.disk ∙ shows.boot ∙ sym same.boot;
  committed = ap (λ (disk : Disk). disk.committed) same.disk ∙ shows.committed ∙ sym same.committed;
  lives = ap (λ (disk : Disk). disk.lives) same.disk ∙ shows.lives ∙ sym same.lives;
  over = λ other. ap (λ (disk : Disk). list_any (is_over other) disk.removed) same.disk ∙ shows.over other
      ∙ sym (ap (list_any (is_over other)) same.removed);
  rising = shows.rising;
  below = subst (λ boot. AreBelow (boot + 1) batches) (sym same.boot) shows.below;
  replies = shows.replies;
}
