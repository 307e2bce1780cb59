-- Rows that go from target to target, or from slot to slot: what is left of them from one on.
use Rattle.std.specs.Prelude.{ℕ, List, Bool, true, false, ◌&&◌, [], ◌∷◌, drop}
use Rattle.lu_base.specs.declared.ids.At.{At}
use Rattle.lu_spec_entries.specs.Words.{Entry, Send}
use Rattle.lu_spec_client.specs.Calls.{call_on}
use Rattle.lu_spec_client.specs.Imports.{import_of}
use Rattle.lu_spec_client.specs.Recovery.{ticks_at, ticks, joins, joins_all, on_call, on_calls, where_stage, ends_call, ends_calls}
use Rattle.lu_spec_client.specs.Sending.{sends_to, sends_all}
use Rattle.lu_spec_client.specs.States.{Client, Limits}

-- What may be sent to one target, and to each from it on.
abbrev pub sends_one : Limits → ℕ → Client → List Entry
sends_one limits t k = sends_to limits k.who t (import_of t k.imports)

abbrev pub sends_left : Limits → ℕ → Client → List Entry
sends_left limits t k = sends_all limits k.who t (drop t k.imports)

-- What a tick does at one target, and at each from it on.
abbrev pub ticks_one : ℕ → Client → List Entry
ticks_one t k = ticks_at t k (import_of t k.imports) (import_of t k.imports).standing

abbrev pub ticks_left : ℕ → Client → List Entry
ticks_left t k = ticks t (drop t k.imports) k

-- A new life joins at one target, and at each from it on.
abbrev pub joins_one : ℕ → Client → List Entry
joins_one t k = joins k.who (import_of t k.imports).boot t ∷ []

abbrev pub joins_left : ℕ → Client → List Entry
joins_left t k = joins_all k.who t (drop t k.imports)

-- Where the lock is that the call on one slot waits for at this target, and those from that slot on.
abbrev pub wheres_one : ℕ → ℕ → Client → List Entry
wheres_one t slot k = on_call (where_stage k.who (import_of t k.imports).boot t) slot (call_on slot k.calls)

abbrev pub wheres_left : ℕ → ℕ → Client → List Entry
wheres_left t slot k = on_calls (where_stage k.who (import_of t k.imports).boot t) slot (drop slot k.calls)

-- An evicted life's call on one slot ends, and those from it on.
abbrev pub ends_one : At → ℕ → Client → List Entry
ends_one at slot k = ends_call at slot (call_on slot k.calls)

abbrev pub ends_left : At → ℕ → Client → List Entry
ends_left at slot k = ends_calls at slot (drop slot k.calls)

-- The entry is a message that is sent.
abbrev pub is_send : Entry → Bool
is_send (Send to message) = true
is_send _ = false

abbrev pub all_sends : List Entry → Bool
all_sends [] = true
all_sends (e ∷ es) = is_send e && all_sends es
