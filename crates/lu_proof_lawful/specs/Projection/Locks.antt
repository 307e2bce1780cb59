-- Locks of the table in the words of the theory, and which locks a story has: granted under a cookie, and held over a change.
use Rattle.std.specs.Prelude.{ℕ, ◌+◌, ◌-◌, ◌&&◌, not, if◌then◌else◌, Bool, true, false, List, [], ◌∷◌, length, filter, Option, Some, None}
use Rattle.std.specs.Prelude.{nat_eq}
use Rattle.lu_base.specs.declared.locks.Extent.{Extent}
use Rattle.lu_base.specs.declared.locks.Lock.{Lock as TableLock}
use Rattle.lu_lock.specs.Growth.{the_end}
use Rattle.lu_spec_target.specs.Queues.{extent_of}
use Rattle.lu_proof_bytes.specs.Object.Words.{Lock, Change, Write, Cut, Entry, Hold, Drop, Grant, Promote, covers}
use Rattle.lu_proof_objects.specs.Points.{lock_at}
use Rattle.lu_proof_lawful.specs.Projection.Lives.{number_of}

-- a lock on a range of the object
abbrev pub lock_of : TableLock → Lock
lock_of l = lock_at l.cookie.0 (number_of l.ask.who) l.ask.mode (extent_of l)

-- its range: without a last byte, to the greatest offset
abbrev pub last_byte : Option ℕ → ℕ
last_byte None = the_end
last_byte (Some last) = last

abbrev pub range_of : Lock → Extent
range_of l = record { first = l.first; last = last_byte l.last }

-- the lock that was granted under this cookie, at any time: its range stays as it was then. Messages and requests name only the cookie; a
-- target gives each once, so a story that has none is of another object
abbrev pub given : ℕ → List Entry → Option Lock
given k [] = None
given k (Grant r l s seen ∷ h) = if nat_eq l.cookie k then Some l else given k h
given k (Promote l ∷ h) = if nat_eq l.cookie k then Some l else given k h
given k (_ ∷ h) = given k h

-- the locks that are held, as `HeldBy` has them
abbrev pub held : List Entry → List Lock
held [] = []
held (Hold l s seen ∷ h) = l ∷ held h
held (Drop l ∷ h) = filter (λ (m : Lock). not (nat_eq l.cookie m.cookie)) (held h)
held (_ ∷ h) = held h

-- the lock covers all that the change may change: of a write its first and its last position, of a cut all from the one before it on
abbrev pub is_to_end : Option ℕ → Bool
is_to_end None = true
is_to_end (Some last) = false

abbrev pub spans : Lock → Change → Bool
spans l (Write at bytes) = covers l at && covers l (at + (length bytes - 1))
spans l (Cut n) = covers l (n - 1) && is_to_end l.last

-- the cookie of a held PW lock of that life over the change. Two of them would conflict, so there is one at most
abbrev pub lock_over : ℕ → Change → List Lock → Option ℕ
lock_over c change [] = None
lock_over c change (l ∷ locks) = if nat_eq c l.life && l.write && spans l change then Some l.cookie else lock_over c change locks
