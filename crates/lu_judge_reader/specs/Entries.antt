-- What words say where an entry stands, and what a line and a last line say.
use Rattle.std.specs.Prelude.{ℕ, ◌==◌, ◌++◌, nat_le, ◌&&◌, if◌then◌else◌, List, [], ◌∷◌, Option, Some, None, codes}
use Rattle.std.specs.List.{slice_split}
use Rattle.std.specs.Str.{bytes_eq}
use Rattle.lu_base.specs.declared.ids.Stamp.{Stamp}
use Rattle.lu_base.specs.declared.ids.TargetId.{TargetId}
use Rattle.lu_base.specs.declared.ids.Cookie.{Cookie}
use Rattle.lu_base.specs.declared.locks.Lock.{Lock}
use Rattle.lu_trace.specs.declared.entries.Entry.{Entry}
use Rattle.lu_trace.specs.declared.entries.Entry.TheVariants as entry
use Rattle.lu_trace.specs.declared.entries.Line.{Line}
use Rattle.lu_trace.specs.declared.traces.Trace.{Trace}
use Rattle.lu_trace.specs.declared.traces.End.{End}
use Rattle.lu_trace.specs.declared.traces.End.TheVariants.{Done, Limit, Fault}
use Rattle.lu_scene.specs.Fields.{number_of}
use Rattle.lu_judge_reader.specs.declared.names.EntryName.{EntryName}
use Rattle.lu_judge_reader.specs.declared.names.EntryName.TheVariants as entries
use Rattle.lu_judge_reader.specs.Names.{entry_name_of}
use Rattle.lu_judge_reader.specs.Reading.{◌>>?◌, ◌>>=◌, Read, Reader, give, one}
use Rattle.lu_judge_reader.specs.Values.{small_of, pair_of, who_of, node_of, target_of, at_of, cause_of}
use Rattle.lu_judge_reader.specs.Lists.{seen_of}
use Rattle.lu_judge_reader.specs.Parts.{call_reader, answer_reader, terms}
use Rattle.lu_judge_reader.specs.Messages.{message_reader}

-- a target and a lock
abbrev pub at_target : (TargetId → Cookie → Entry) → Reader Entry
at_target entry = one target_of >>= λ target. one pair_of >>= λ cookie. give (entry (record { 0 = target }) (record { 0 = cookie }))

-- a lock
unfoldable pub lock_reader : Reader Lock
lock_reader =
    one pair_of >>= λ cookie. one who_of >>= λ who. terms >>= λ on.
    give (record { cookie = record { 0 = cookie }; resource = on.0; ask = record { who = who; mode = on.1; policy = on.2 } })

abbrev pub txn : Reader Entry
txn =
    one pair_of >>= λ txn. one who_of >>= λ who. one number_of >>= λ xid. one seen_of >>= λ seen. answer_reader >>= λ answer.
    give (entry.Txn (record { 0 = txn }) who (record { 0 = xid }) seen answer)

abbrev pub entry_rest : Stamp → EntryName → Reader Entry
entry_rest stamp entries.Begin = one (small_of 8) >>= λ slot. call_reader >>= λ call. give (entry.Begin slot call)
entry_rest stamp entries.Busy = one (small_of 8) >>= λ slot. give (entry.Busy slot)
entry_rest stamp entries.Skip = give entry.Skip
entry_rest stamp entries.Send = one number_of >>= λ number. one node_of >>= λ to. message_reader stamp >>=
    λ message. give (entry.Send number to message)
entry_rest stamp entries.Take = one number_of >>= λ number. give (entry.Take number)
entry_rest stamp entries.Tick = give entry.Tick
entry_rest stamp entries.Heard = one target_of >>= λ target. one number_of >>=
    λ xid. give (entry.Heard (record { 0 = target }) (record { 0 = xid }))
entry_rest stamp entries.Hold = at_target entry.Hold
entry_rest stamp entries.Drop = at_target entry.Drop
entry_rest stamp entries.Told = one (small_of 8) >>= λ slot. one at_of >>= λ at. answer_reader >>=
    λ answer. give (entry.Told slot at answer)
entry_rest stamp entries.Peek =
    one target_of >>= λ target. one pair_of >>= λ cookie. one number_of >>=
    λ size. give (entry.Peek (record { 0 = target }) (record { 0 = cookie }) size)
entry_rest stamp entries.Life = one who_of >>= λ who. give (entry.Life who)
entry_rest stamp entries.Die = give entry.Die
entry_rest stamp entries.Act = one who_of >>= λ who. one number_of >>= λ xid. answer_reader >>=
    λ answer. give (entry.Act who (record { 0 = xid }) answer)
entry_rest stamp entries.Txn = txn
entry_rest stamp entries.Grant = lock_reader >>= λ lock. give (entry.Grant lock)
entry_rest stamp entries.Wait = lock_reader >>= λ lock. give (entry.Wait lock)
entry_rest stamp entries.Block = one pair_of >>= λ cookie. give (entry.Block (record { 0 = cookie }))
entry_rest stamp entries.Release = one pair_of >>= λ cookie. give (entry.Release (record { 0 = cookie }))
entry_rest stamp entries.Commit = one pair_of >>= λ txn. give (entry.Commit (record { 0 = txn }))
entry_rest stamp entries.Crash = give entry.Crash
entry_rest stamp entries.Boot = one (small_of 32) >>= λ boot. give (entry.Boot boot)
entry_rest stamp entries.Back = one who_of >>= λ who. give (entry.Back who)
entry_rest stamp entries.Close = give entry.Close
entry_rest stamp entries.Kept = one pair_of >>= λ txn. give (entry.Kept (record { 0 = txn }))
entry_rest stamp entries.Restore = lock_reader >>= λ lock. give (entry.Restore lock)
entry_rest stamp entries.Evict = one who_of >>= λ who. one cause_of >>= λ cause. give (entry.Evict who cause)
entry_rest stamp entries.Joined = one who_of >>= λ who. give (entry.Joined who)
entry_rest stamp entries.Fail = give entry.Fail

-- an entry of the turn of this stamp
unfoldable pub entry_reader : Stamp → Reader Entry
entry_reader stamp = one entry_name_of >>= entry_rest stamp

-- a stamp, a node and an entry
unfoldable pub line_reader : Reader Line
line_reader =
    one number_of >>= λ stamp. one node_of >>= λ node. entry_reader (record { 0 = stamp }) >>= λ entry.
    give (record { at = record { stamp = record { 0 = stamp }; node = node }; entry = entry })

-- what was read, where no word is left
abbrev pub whole : {A : Type 0} → Read A → Option A
whole None = None
whole (Some (value, [])) = Some value
whole (Some (value, word ∷ words)) = None

-- the words of a line
abbrev pub words_of : List ℕ → List (List ℕ)
words_of text = slice_split (λ b. b == 32) text

-- what a text says where it is that of a line
unfoldable pub said : List ℕ → Option Line
said text = whole (line_reader (words_of text))

-- the number of object storage targets, which isn't there where it is 1
abbrev pub osts_of : List (List ℕ) → Option ℕ
osts_of [] = Some 1
osts_of (word ∷ []) = number_of word >>? λ n. if nat_le 2 n && nat_le n 8 then Some n else None
osts_of (word ∷ second ∷ words) = None

-- how a run ended, and that number
abbrev pub ended_as : End → List (List ℕ) → Option (End × ℕ)
ended_as end words = osts_of words >>? λ osts. Some (end, osts)

abbrev pub end_rest : List (List ℕ) → Option (End × ℕ)
end_rest [] = ended_as Done []
end_rest (word ∷ words) =
    if bytes_eq word (codes "limit") then ended_as Limit words
    else (if bytes_eq word (codes "fault") then ended_as Fault words else ended_as Done (word ∷ words))

abbrev pub end_of : List (List ℕ) → Option (End × ℕ)
end_of [] = None
end_of (word ∷ words) = if bytes_eq word (codes "end") then end_rest words else None

-- what stands behind the text of the one line of a trace
abbrev pub behind : List ℕ
behind = 10 ∷ (codes "end" ++ 10 ∷ [])

-- the trace of one line
abbrev pub only : Line → Trace
only line = record { osts = 1; entries = line ∷ [] }
