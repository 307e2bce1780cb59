-- Which runs the theorem covers: those in which no disk fails. What a call on bytes looks for and asks of objects is asked of object
-- storage targets alone. Targets may crash, boot, recover and close their recovery windows. Whatever messages are lost, repeated or
-- late, whoever dies, whoever waits for a lock, whatever is committed, and whoever is evicted and joins in a new life, is covered:
-- of all these all laws are proved. And which of these change no bytes: of those it is known that no node refuses a turn.
use Rattle.std.specs.Prelude.{◌≡◌, ◌⊎◌, ◌<◌, List, [], ◌∷◌}
use Rattle.lu_msg.specs.declared.calls.Call.{Call}
use Rattle.lu_msg.specs.declared.calls.Call.TheVariants as call
use Rattle.lu_held.specs.declared.locks.Use.{Use}
use Rattle.lu_spec_entries.specs.Carried.{Stage, Bad, Looks, Enqueued, Waits, Came, Forgotten, Gets, Sizes}
use Rattle.lu_spec_entries.specs.Words.{Entry, Fail, Stands, Begin, Line}

-- a call on the bytes of a file: it reads them, writes or cuts them, writes back what is changed, or asks how long objects are
abbrev pub IsOnBytes : Call → Type 0
IsOnBytes (call.Read h offset count) = Unit {0}
IsOnBytes (call.Write h offset bytes) = Unit {0}
IsOnBytes (call.Cut h size) = Unit {0}
IsOnBytes (call.Flush h) = Unit {0}
IsOnBytes (call.Glimpse h) = Unit {0}
IsOnBytes _ = ⊥

-- what is asked of objects is asked of object storage targets
abbrev pub OnObjects : List Use → Type 0
OnObjects [] = Unit {0}
OnObjects (wanted ∷ left) = (0 < wanted.target.0) × OnObjects left

-- what a call on bytes still wants, and the lock that it waits for, are on objects
abbrev pub IsOnObjects : Stage → Type 0
IsOnObjects (Looks w) = OnObjects w.left
IsOnObjects (Enqueued w) = OnObjects w.left
IsOnObjects (Waits w target lock marked) = (0 < target.0) × OnObjects w.left
IsOnObjects (Came w lock) = OnObjects w.left
IsOnObjects (Forgotten w) = OnObjects w.left
IsOnObjects (Gets w) = OnObjects w.left
IsOnObjects (Sizes w) = OnObjects w.left
IsOnObjects _ = Unit {0}

abbrev pub IsCovered : Entry → Type 0
IsCovered Fail = ⊥
IsCovered (Stands slot running) = IsOnObjects running.stage
IsCovered _ = Unit {0}

abbrev pub AllCovered : List Line → Type 0
AllCovered [] = Unit {0}
AllCovered (l ∷ past) = IsCovered l.entry × AllCovered past

-- ---- runs that change no bytes

abbrev pub ChangesNoBytes : Call → Type 0
ChangesNoBytes (call.Write h offset bytes) = ⊥
ChangesNoBytes (call.Cut h size) = ⊥
ChangesNoBytes _ = Unit {0}

-- no write and no cut begins, but on a bad handle. It is said where calls begin: a write over two stripes may hold one lock to
-- write, and have others called back, before it changes anything
abbrev pub IsBare : Entry → Type 0
IsBare (Begin slot running) = (running.stage ≡ Bad) ⊎ ChangesNoBytes running.call
IsBare _ = Unit {0}

abbrev pub AllBare : List Line → Type 0
AllBare [] = Unit {0}
AllBare (l ∷ past) = IsBare l.entry × AllBare past
