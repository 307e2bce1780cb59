-- A store has a slot for each life that it shows, and what it has taken stays taken.
use Rattle.std.proofs.Common.{◌≡◌, ℕ, ◌==◌, ◌&&◌, Bool, true, false, List, Option, Some, None, refl, sym, ap, subst, ◌∙◌}
use Rattle.std.specs.Prelude.{IsSome, if◌then◌else◌, Ok, Err, OnErr}
use Rattle.std.specs.declared.result.Result.{Result}
use Rattle.lu_base.specs.declared.ids.Who.{Who}
use Rattle.lu_spec_entries.specs.Carried.{Deed}
use Rattle.lu_spec_entries.specs.Words.{same_life}
use Rattle.lu_txn.specs.Slots.{slot_of, lives_of}
use Rattle.lu_txn.specs.Journals.{JournalState}
use Rattle.lu_spec_target.specs.Lives.{is_life}
use Rattle.lu_spec_target.specs.States.{Target}
use Rattle.lu_target_refines.specs.Journals.{Taken, answered, IsEntered, IsAnswered, IsWithout}
use Rattle.lu_target_refines.proofs.LifeLists.{has_slot}
use Rattle.lu_target_refines.proofs.Closes.{closing_lives}
use Rattle.lu_target_store.specs.Taken.{Entries, taken_of}
use Rattle.lu_target_store.specs.Stores.{StoreState, Serves, Recovers, Redoes}

-- ---- slots: what `keep`, `append` and `redo` require

pub serves_slot : (s : StoreState) (v : Target) (who : Who) → Serves s v → is_life who v.lives ≡ true → IsSome (slot_of who s.journal.slots)
serves_slot s v who shows there = has_slot who s.journal.slots ∙ ap (is_life who) (sym shows.journal.booted.lives) ∙ there

pub recovers_slot : (s : StoreState) (v : Target) (who : Who) → Recovers s v → is_life who v.lives ≡ true
    → IsSome (slot_of who s.journal.slots)
recovers_slot s v who shows there = has_slot who s.journal.slots ∙ ap (is_life who) (sym shows.journal.booted.lives) ∙ there

pub redoes_slot : (deeds : List Deed) (s : StoreState) (v : Target) (who : Who) → Redoes deeds s v → is_life who v.lives ≡ true
    → IsSome (slot_of who s.journal.slots)
redoes_slot deeds s v who shows there =
    let lives : v.lives ≡ lives_of s.journal.slots =
    closing_lives shows.before v deeds shows.window ∙ ap (λ (it : JournalState). lives_of it.slots) (sym shows.journal) in
    has_slot who s.journal.slots ∙ ap (is_life who) (sym lives) ∙ there

-- ---- what was taken

pub entered_keeps : (who : Who) (tag xid : ℕ) (old new : Entries) → IsEntered who tag xid (taken_of old) (taken_of new)
    → (other : Who) (t : ℕ) → IsSome (taken_of old other t) → IsSome (taken_of new other t)
entered_keeps who tag xid old new is other t some = subst (λ (found : Option Taken). IsSome found) (sym (is other t))
    (by (same_life other who && t == tag)) where
      by : (own : Bool) → IsSome (if own then Some (record { xid = xid; answered = false }) else taken_of old other t)
      by true = refl
      by false = some

pub answered_keeps : (who : Who) (tag : ℕ) (old new : Entries) → IsAnswered who tag (taken_of old) (taken_of new)
    → (other : Who) (t : ℕ) → IsSome (taken_of old other t) → IsSome (taken_of new other t)
answered_keeps who tag old new is other t some =
    subst (λ (found : Option Taken). IsSome found) (sym (is other t))
    (by (same_life other who && t == tag) (taken_of old other t) some) where
      by : (own : Bool) (found : Option Taken) → IsSome found → IsSome (if own then answered found else found)
      by true None there = there
      by true (Some taken) there = refl
      by false found there = there

pub without_keeps : (gone : List Who) (old new : Entries) → IsWithout gone (taken_of old) (taken_of new)
    → (other : Who) (t : ℕ) → is_life other gone ≡ false → IsSome (taken_of old other t) → IsSome (taken_of new other t)
without_keeps gone old new is other t apart some =
    subst (λ (found : Option Taken). IsSome found) (sym (is other t
    ∙ ap (λ (out : Bool). if out then None else taken_of old other t) apart)) some

-- ---- what is so is so after an error too

pub on_any_err : {A B : Type 0} (r : Result A B) (P : Type 0) → P → OnErr r P
on_any_err (Ok a) P p = tt
on_any_err (Err e) P p = p
