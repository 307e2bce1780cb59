-- The forms of entries, by what an entry carries.
use Rattle.std.specs.Prelude.{Bool, true, false}
use Rattle.lu_trace.specs.declared.entries.Entry.{Entry}
use Rattle.lu_trace.specs.declared.entries.Entry.TheVariants.{Begin, Send, Heard, Hold, Drop, Told, Peek, Act, Txn, Evict}

-- an entry with several numbers
abbrev pub has_numbers : Entry → Bool
has_numbers (Heard target xid) = true
has_numbers (Hold target cookie) = true
has_numbers (Drop target cookie) = true
has_numbers (Peek target cookie size) = true
has_numbers (Evict who cause) = true
has_numbers _ = false

-- an entry with a call, a message or an answer
abbrev pub has_content : Entry → Bool
has_content (Begin slot call) = true
has_content (Send number to message) = true
has_content (Told slot at answer) = true
has_content (Act who xid answer) = true
has_content (Txn txn who xid seen answer) = true
has_content _ = false
