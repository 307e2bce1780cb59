-- The slots: each call goes as far as it can, in order of slots; and how a call begins.
use Rattle.std.specs.Prelude.{ℕ, zero, suc, ◌==◌, ◌||◌, if◌then◌else◌, Bool, true, false, List, [], ◌∷◌, Option, Some, None, is_some}
use Rattle.std.specs.List.{list_any}
use Rattle.lu_base.specs.declared.ids.At.{At}
use Rattle.lu_msg.specs.declared.answers.Answer.TheVariants as answer
use Rattle.lu_msg.specs.declared.answers.Errno.TheVariants.{EBADF}
use Rattle.lu_msg.specs.declared.calls.Call.{Call}
use Rattle.lu_msg.specs.declared.calls.Call.TheVariants as call
use Rattle.lu_spec_entries.specs.Carried.{HandleFile, Asking, Unasked, Stage, Plain, Bad, Running}
use Rattle.lu_spec_entries.specs.Words.{Entry, Begin, Told, Unbinds}
use Rattle.lu_spec_client.specs.Calls.{call_on, file_of}
use Rattle.lu_spec_client.specs.States.{Client, follow}
use Rattle.lu_spec_client.specs.Starts.{advances_at, count_on, goes_plain}

-- ---- a call in its stage

abbrev pub goes_at : At → ℕ → Stage → Running → Client → List Entry
goes_at at slot Plain r k = goes_plain at slot r.asking r k
goes_at at slot stage r k = advances_at at slot stage r k.store

abbrev pub goes_on : At → ℕ → Client → Option Running → List Entry
goes_on at slot k None = []
goes_on at slot k (Some r) = goes_at at slot r.stage r k

abbrev pub goes : At → ℕ → Client → List Entry
goes at slot k = goes_on at slot k (call_on slot k.calls)

-- ---- all of them

-- one pass over the slots
abbrev pub passes : At → List ℕ → Client → List Entry
passes at [] k = []
passes at (slot ∷ slots) k = follow (goes at slot k) (passes at slots) k

abbrev pub all_slots : List ℕ
all_slots = 0 ∷ 1 ∷ 2 ∷ 3 ∷ []

-- a close that waited for another call on its handle, and has become free
abbrev pub is_alone : List (Option Running) → Option HandleFile → Bool
is_alone calls None = false
is_alone calls (Some f) = count_on f.number.0 calls == 1

abbrev pub is_close : Call → Asking → Bool
is_close (call.Close h) Unasked = true
is_close _ _ = false

abbrev pub is_free_close : List (Option Running) → Option Running → Bool
is_free_close calls None = false
is_free_close calls (Some r) = if is_close r.call r.asking then is_alone calls r.file else false

-- again while there is one: each further pass queues one, so there are at most four more
abbrev pub slots_go : ℕ → At → Client → List Entry
slots_go zero at k = []
slots_go (suc more) at k = follow (passes at all_slots k) (λ k. if list_any (is_free_close k.calls) k.calls then slots_go more at k else [])
    k

-- ---- a call begins

abbrev pub begun : At → Call → Option HandleFile → Stage → Running
begun at c file stage = record { at = at; call = c; file = file; asking = Unasked; stage = stage; pins = [] }

-- a call on a handle that isn't bound is told so as it begins; so is an open of one that is bound or being opened
abbrev pub refuses : At → ℕ → Call → List Entry
refuses at slot c = Begin slot (begun at c None Bad) ∷ Told slot at (answer.Refused EBADF) None ∷ []

abbrev pub begins_on : At → ℕ → Call → Option HandleFile → List Entry
begins_on at slot c None = refuses at slot c
begins_on at slot c (Some f) = Begin slot (begun at c (Some f) Plain) ∷ []

-- a close unbinds its handle as it begins
abbrev pub begins_close : At → ℕ → ℕ → Option HandleFile → List Entry
begins_close at slot h None = refuses at slot (call.Close h)
begins_close at slot h (Some f) = Begin slot (begun at (call.Close h) (Some f) Plain) ∷ Unbinds h ∷ []

-- a call on a slot opens this handle
abbrev pub is_open_of : ℕ → Call → Bool
is_open_of h (call.Open g path) = g == h
is_open_of h _ = false

abbrev pub opens : ℕ → Option Running → Bool
opens h None = false
opens h (Some r) = is_open_of h r.call

abbrev pub begins_open : At → ℕ → Call → Bool → List Entry
begins_open at slot c true = refuses at slot c
begins_open at slot c false = Begin slot (begun at c None Plain) ∷ []

abbrev pub begins : At → ℕ → Call → Client → List Entry
begins at slot (call.Open h path) k = begins_open at slot (call.Open h path) (is_some (file_of h k.handles) || list_any (opens h) k.calls)
begins at slot (call.Close h) k = begins_close at slot h (file_of h k.handles)
begins at slot (call.Read h p n) k = begins_on at slot (call.Read h p n) (file_of h k.handles)
begins at slot (call.Write h p bs) k = begins_on at slot (call.Write h p bs) (file_of h k.handles)
begins at slot (call.Cut h n) k = begins_on at slot (call.Cut h n) (file_of h k.handles)
begins at slot (call.Flush h) k = begins_on at slot (call.Flush h) (file_of h k.handles)
begins at slot (call.Glimpse h) k = begins_on at slot (call.Glimpse h) (file_of h k.handles)
begins at slot c k = Begin slot (begun at c None Plain) ∷ []
