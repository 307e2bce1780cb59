-- What a store's calls leave shows what the rows' entries make of the state that it showed.
use Rattle.std.proofs.Common.{◌≡◌, ℕ, ◌+◌, List, Some, refl, sym, ap, subst, ◌∙◌}
use Rattle.std.specs.List.{list_any}
use Rattle.std.specs.Prelude.{IsSome}
use Rattle.lu_msg.specs.declared.commits.Batch.{Batch}
use Rattle.lu_msg.specs.declared.messages.Reply.{Reply}
use Rattle.lu_msg.specs.declared.messages.Request.{Request}
use Rattle.lu_spec_entries.specs.Carried.{Deed, Disk}
use Rattle.lu_spec_entries.specs.Words.{Enters, Act, Answers, Grant, Wait, Txn}
use Rattle.lu_txn.specs.Slots.{slot_of, with_reply, IsReplyKept}
use Rattle.lu_txn.specs.Loads.{AreBelow}
use Rattle.lu_txn.specs.Journals.{JournalState, IsSound, appended}
use Rattle.lu_spec_target.specs.Replies.{next_number}
use Rattle.lu_spec_target.specs.States.{Target, after, empty_disk}
use Rattle.lu_spec_target.specs.Leaving.{is_over}
use Rattle.lu_spec_target.specs.Disks.{loaded_on}
use Rattle.lu_target_refines.specs.Journals.{IsEntered, IsAnswered, ShowsDisk}
use Rattle.lu_target_refines.proofs.Journals as parts
use Rattle.lu_target_store.specs.Taken.{Entries, taken_of}
use Rattle.lu_target_store.specs.Stores.{Serves, IsAnsweredBy}

-- none of the fields that the disk shows is changed
disk_moves : (batches : List Batch) (v w : Target) → w.setting.osts ≡ v.setting.osts → w.disk ≡ v.disk → w.boot ≡ v.boot → w.committed
    ≡ v.committed → w.lives ≡ v.lives → w.removed ≡ v.removed
    → ShowsDisk batches v → ShowsDisk batches w
disk_moves batches v w osts disk boot committed lives removed shows = record {
  disk = disk ∙ shows.disk ∙ ap (λ n. loaded_on n empty_disk batches) (sym osts);
  boot = ap (λ (d : Disk). d.boot) disk ∙ shows.boot ∙ sym boot;
  committed = ap (λ (d : Disk). d.committed) disk ∙ shows.committed ∙ sym committed;
  lives = ap (λ (d : Disk). d.lives) disk ∙ shows.lives ∙ sym lives;
  over = λ who. ap (λ (d : Disk). list_any (is_over who) d.removed) disk ∙ shows.over who ∙ ap (list_any (is_over who)) (sym removed);
  rising = shows.rising;
  below = subst (λ n. AreBelow (n + 1) batches) (sym boot) shows.below;
  replies = shows.replies;
}

pub entered : (j : JournalState) (taken new : Entries) (batches : List Batch) (n m : ℕ) (r : Request)
    → IsEntered r.who r.tag r.xid.0 (taken_of taken) (taken_of new) → (v : Target)
    → Serves (record { journal = j; taken = taken; batches = batches; faults = n }) v
    → Serves (record { journal = j; taken = new; batches = batches; faults = m }) (after v (Enters r))
entered j taken new batches n m r enters v s = record {
  journal = parts.enters (taken_of taken) (taken_of new) j v r enters s.journal;
  disk = disk_moves batches v (after v (Enters r)) refl refl refl refl refl refl s.disk;
  sound = s.sound;
}

-- ---- a request is answered without a transaction

-- what the journal's `keep` leaves, and the requests taken
pub record IsKept (j new_j : JournalState) (taken new : Entries) (tag : ℕ) (reply : Reply) : Type 0 where
  pub some : IsSome (taken_of taken reply.who tag)
  pub answers : IsAnswered reply.who tag (taken_of taken) (taken_of new)
  pub stored : new_j ≡ record j { slots = with_reply reply.who tag reply j.slots }
  pub replies : IsReplyKept reply.who tag reply j.slots new_j.slots
  pub sound : IsSound new_j

module _ (j new_j : JournalState) (taken new : Entries) (batches : List Batch) (n m : ℕ) (tag : ℕ) (reply : Reply)
    (kept : IsKept j new_j taken new tag reply) where
  of_deed : (d : Deed) → d.tag ≡ tag → d.reply ≡ reply → IsKept j new_j taken new d.tag d.reply
  of_deed d is_tag is_reply =
      subst (λ t. IsKept j new_j taken new t d.reply) (sym is_tag) (subst (λ r. IsKept j new_j taken new tag r) (sym is_reply) kept)

  pub kept_shows : IsAnsweredBy tag reply (record { journal = j; taken = taken; batches = batches; faults = n })
      (record { journal = new_j; taken = new; batches = batches; faults = m })
  kept_shows = record {
    acts = λ v d t r s. let k = of_deed d t r in record {
      journal = parts.acts (taken_of taken) (taken_of new) j new_j v d k.some k.answers k.stored k.replies s.journal;
      disk = disk_moves batches v (after v (Act d)) refl refl refl refl refl refl s.disk;
      sound = k.sound;
    };
    answers = λ v d t r s. let k = of_deed d t r in record {
      journal = parts.answers (taken_of taken) (taken_of new) j new_j v d k.some k.answers k.stored k.replies s.journal;
      disk = disk_moves batches v (after v (Answers d)) refl refl refl refl refl refl s.disk;
      sound = k.sound;
    };
    grants = λ v l d t r s. let k = of_deed d t r in record {
      journal = parts.grants (taken_of taken) (taken_of new) j new_j v l d k.some k.answers k.stored k.replies s.journal;
      disk = disk_moves batches v (after v (Grant l (Some d))) refl refl refl refl refl refl s.disk;
      sound = k.sound;
    };
    waits = λ v l d t r s. let k = of_deed d t r in record {
      journal = parts.waits (taken_of taken) (taken_of new) j new_j v l d k.some k.answers k.stored k.replies s.journal;
      disk = disk_moves batches v (after v (Wait l d)) refl refl refl refl refl refl s.disk;
      sound = k.sound;
    };
  }

-- ---- a request is a transaction

pub transacted : (j new_j : JournalState) (taken new : Entries) (batches : List Batch) (n m : ℕ) (d : Deed)
    → IsSome (slot_of d.reply.who j.slots) → IsSome (taken_of taken d.reply.who d.tag)
    → IsAnswered d.reply.who d.tag (taken_of taken) (taken_of new)
    → new_j ≡ appended d.reply.txn d.reply.who d.tag d.op d.writes d.reply j → IsReplyKept d.reply.who d.tag d.reply j.slots new_j.slots
    → IsSound new_j
    → (v : Target) → Serves (record { journal = j; taken = taken; batches = batches; faults = n }) v → d.reply.txn ≡ next_number v
    → Serves (record { journal = new_j; taken = new; batches = batches; faults = m }) (after v (Txn d))
transacted j new_j taken new batches n m d slot some answers added replies sound v s next = record {
  journal = parts.transacts (taken_of taken) (taken_of new) j new_j v d next some answers added replies slot s.journal;
  disk = disk_moves batches v (after v (Txn d)) refl refl refl refl refl refl s.disk;
  sound = sound;
}
