-- How numbers are kept for the locks of objects: under numbers, and a way to them by object and lock. This is the code's
-- own, and no part of what a caller sees.
use Rattle.std.specs.Prelude.{◌≡◌, ℕ, ◌+◌, ◌<◌, ◌^◌, ◌==◌, ◌&&◌, if◌then◌else◌, Bool, List, [], ◌∷◌, length, map, Option, None}
use Rattle.lu_base.specs.declared.ids.Cookie.{Cookie}
use Rattle.lu_base.specs.declared.locks.Resource.{Resource}
use Rattle.lu_base.specs.contracts.locks.ResourcePartialEq.TheImpl as equality
use Rattle.lu_spec_entries.specs.declared.changes.Flush.{Flush}
use Rattle.lu_spec_entries.specs.declared.changes.Flush.TheVariants.{Cut, Put}
use Rattle.lu_held.specs.Locks.{same_resource}
use Rattle.lu_spec_machine.specs.Places.{RisingFrom}
use Rattle.lu_spec_client.specs.Caches.{Note as RowNote, grown}
use Rattle.lu_cache.specs.declared.notes.Note.{Note}
use Rattle.lu_cache.specs.declared.filing.Filing.{Filing}
use Rattle.lu_cache.specs.Numbered.{Numbered, first_number}
use Rattle.lu_cache.specs.Filings.{filed}

abbrev pub row_note : Note → RowNote
row_note n = record { resource = n.resource; cookie = n.cookie; number = n.number }

abbrev pub notes_of : Numbered Note → List RowNote
notes_of log = map (λ (e : ℕ × Note). row_note e.1) log

abbrev pub grown_one : Resource → Flush → Note → Note
grown_one r change n = if same_resource n.resource r then record n { number = grown change n.number } else n

abbrev pub equal_resource : Resource → Resource → Bool
equal_resource = (equality.ghosts).eq

-- it is that of this object and lock
abbrev pub is_of : Resource → Cookie → Note → Bool
is_of r c n = same_resource n.resource r && n.cookie.0 == c.0

-- each lock of an object once
abbrev pub EachOnce : Numbered Note → Type 0
EachOnce [] = Unit {0}
EachOnce (e ∷ log) = (first_number (is_of e.1.resource e.1.cookie) log ≡ None) × EachOnce log

pub record AreNoted (log : Numbered Note) (objects : Filing Resource) : Type 0 where
  pub rising : RisingFrom 0 log
  pub once : EachOnce log
  pub places : (r : Resource) (c : Cookie) → filed equal_resource r c objects ≡ first_number (is_of r c) log

-- what is written ends below 2^64
abbrev pub Fits : Flush → Type 0
Fits (Cut n) = Unit {0}
Fits (Put at bs) = at + length bs < 2 ^ 64
