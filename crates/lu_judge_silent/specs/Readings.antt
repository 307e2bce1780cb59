-- Calls that change nothing, and the handles that calls read by, open and close.
use Rattle.std.specs.Prelude.{ℕ, Bool, true, false, Option, Some, None}
use Rattle.lu_msg.specs.declared.calls.Call.{Call}
use Rattle.lu_msg.specs.declared.calls.Call.TheVariants as call
use Rattle.lu_judge_silent.specs.declared.readings.Reading.{Reading}
use Rattle.lu_judge_silent.specs.declared.readings.Reading.TheVariants.{Lookup, Stat, List, Layout, Read}
use Rattle.lu_judge_silent.specs.contracts.readings.ReadingPartialEq.TheImpl as equality

-- the call that asks it
abbrev pub asks : Reading → Call
asks (Lookup path) = call.Lookup path.now
asks (Stat path) = call.Stat path.now
asks (List path) = call.List path.now
asks (Layout path) = call.Layout path.now
asks (Read h offset count) = call.Read h offset count

-- both ask the same
abbrev pub same_question : Reading → Reading → Bool
same_question = (equality.ghosts).eq

abbrev pub is_reading : Call → Bool
is_reading (call.Lookup path) = true
is_reading (call.Stat path) = true
is_reading (call.List path) = true
is_reading (call.Layout path) = true
is_reading (call.Read h offset count) = true
is_reading _ = false

-- the handle that a call reads by
abbrev pub reads_of : Call → Option ℕ
reads_of (call.Read h offset count) = Some h
reads_of _ = None

-- the handle that a call opens or closes
abbrev pub rebound_by : Call → Option ℕ
rebound_by (call.Open h path) = Some h
rebound_by (call.Close h) = Some h
rebound_by _ = None
