-- Lives that leave and lives that come, as a target has its journal drop and add their slots one after another, and what is
-- known of such lists of lives; and kept replays that are added to a loaded journal.
use Rattle.std.specs.Prelude.{◌≡◌, ℕ, ◌<◌, ◌≤◌, if◌then◌else◌, true, false, ⊤, List, [], ◌∷◌, All}
use Rattle.std.specs.List.{fold}
use Rattle.std.specs.Option.{is_some}
use Rattle.lu_base.specs.declared.ids.Who.{Who}
use Rattle.lu_spec_entries.specs.Carried.{Deed}
use Rattle.lu_txn.specs.Slots.{slot_of}
use Rattle.lu_txn.specs.Journals.{JournalState, appended, with_slot, without_slot}
use Rattle.lu_spec_target.specs.Phase.{first_of}
use Rattle.lu_spec_target.specs.Lives.{is_life, without_lives}
use Rattle.lu_spec_target.specs.Windows.{Replayed}
use Rattle.lu_spec_target.specs.States.{Target}
use Rattle.lu_target_refines.specs.Journals.{AreHeld, AreLate}

-- ---- slots

-- the journal once a life's slot was dropped; as it was where it has none
abbrev pub dropped : JournalState → Who → JournalState
dropped j who = if is_some (slot_of who j.slots) then without_slot who j else j

-- once a slot was added for a life; as it was where it has one
abbrev pub added : JournalState → Who → JournalState
added j who = if is_some (slot_of who j.slots) then j else with_slot who j

abbrev pub left_by : List Who → JournalState → JournalState
left_by gone j = fold dropped j gone

abbrev pub joined_by : List Who → JournalState → JournalState
joined_by come j = fold added j come

-- ---- lists of lives

-- each stands once
abbrev pub AreOnce : List Who → Type 0
AreOnce [] = ⊤
AreOnce (who ∷ lives) = (is_life who lives ≡ false) × AreOnce lives

-- each is one of these lives, and none is
abbrev pub AreAmong : (lives some : List Who) → Type 0
AreAmong lives [] = ⊤
AreAmong lives (who ∷ more) = (is_life who lives ≡ true) × AreAmong lives more

abbrev pub AreApart : (lives others : List Who) → Type 0
AreApart lives [] = ⊤
AreApart lives (who ∷ more) = (is_life who lives ≡ false) × AreApart lives more

-- ---- kept replays

-- each is of one of these lives, and its number is above 1 and at most this one
abbrev pub AreReplaysOf : List Who → ℕ → List Replayed → Type 0
AreReplaysOf lives most [] = ⊤
AreReplaysOf lives most (r ∷ replays) = ((is_life r.who lives ≡ true) × (1 < r.number) × (r.number ≤ most))
    × AreReplaysOf lives most replays

-- the journal with these transactions too
abbrev pub appended_one : JournalState → Deed → JournalState
appended_one j d = appended d.reply.txn d.reply.who d.tag d.op d.writes d.reply j

abbrev pub all_appended : List Deed → JournalState → JournalState
all_appended deeds j = fold appended_one j deeds

-- ---- a close

-- what the code of a close knows: the kept replays' numbers are of earlier boots, and above 1; their lives have slots; the lives that
-- leave are some of those that have slots, each once, and those that come are others
pub record IsClosing (v : Target) (ds : List Deed) (gone come : List Who) : Type 0 where
  pub earlier : All (λ (d : Deed). d.reply.txn.0 ≤ first_of v.boot) ds
  pub late : AreLate ds
  pub held : AreHeld v.lives ds
  pub once : AreOnce gone
  pub among : AreAmong v.lives gone
  pub new : AreOnce come
  pub apart : AreApart (without_lives gone v.lives) come
