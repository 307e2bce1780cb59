-- Entries of a target that change nothing of what its journal and its disk show.
use Rattle.std.specs.Prelude.{◌≡◌, ◌||◌, ◌&&◌, not, Bool, true, List, [], ◌∷◌, None}
use Rattle.lu_spec_entries.specs.Words.{Entry, Grant}
use Rattle.lu_spec_target.specs.Phase.{reads_boot, reads_number}
use Rattle.lu_spec_target.specs.Lives.{reads_lives, reads_removed, reads_slots}
use Rattle.lu_spec_target.specs.Stored.{reads_log, reads_committed, reads_disk}
use Rattle.lu_spec_target.specs.States.{Target}

-- it is read for a field that the journal or the disk shows
abbrev pub is_read : Entry → Bool
is_read e =
    (reads_boot e || (reads_number e || (reads_lives e || reads_removed e)))
    || (reads_slots e || (reads_log e || (reads_committed e || reads_disk e)))

-- it isn't, or it grants a lock that had waited
abbrev pub is_unread : Entry → Bool
is_unread (Grant lock None) = true
is_unread e = not (is_read e)

abbrev pub all_unread : List Entry → Bool
all_unread [] = true
all_unread (e ∷ es) = is_unread e && all_unread es

-- the fields that the journal and the disk show are those of before
pub record AreTheSame (v w : Target) : Type 0 where
  pub setting : w.setting ≡ v.setting
  pub boot : w.boot ≡ v.boot
  pub number : w.number ≡ v.number
  pub lives : w.lives ≡ v.lives
  pub removed : w.removed ≡ v.removed
  pub slots : w.slots ≡ v.slots
  pub log : w.log ≡ v.log
  pub committed : w.committed ≡ v.committed
  pub disk : w.disk ≡ v.disk
