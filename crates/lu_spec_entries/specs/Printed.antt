-- The printed trace of a full one: its content goes, and so do the marks. A message has the number of its place among
-- all that were sent.
use Rattle.std.specs.Prelude.{ℕ, ◌+◌, List, [], ◌∷◌, Option, Some, None}
use Rattle.lu_trace.specs.declared.entries.Entry.{Entry as PrintedEntry}
use Rattle.lu_trace.specs.declared.entries.Entry.TheVariants as entry
use Rattle.lu_trace.specs.declared.entries.Line.{Line as PrintedLine}
use Rattle.lu_spec_entries.specs.Words as word
use Rattle.lu_spec_entries.specs.Words.{Entry, Line}
use Rattle.lu_spec_entries.specs.Sent.{count_sent}

-- an entry, where a message that it sends has this number
abbrev pub printed_entry : ℕ → Entry → Option PrintedEntry
printed_entry number (word.Send to m) = Some (entry.Send number to m)
printed_entry number (word.Take n from m) = Some (entry.Take n)
printed_entry number word.Tick = Some entry.Tick
printed_entry number (word.Begin slot running) = Some (entry.Begin slot running.call)
printed_entry number (word.Busy slot) = Some (entry.Busy slot)
printed_entry number (word.Heard target f r) = Some (entry.Heard (record { 0 = target }) r.xid)
printed_entry number (word.Hold target lock marked size seen) = Some (entry.Hold (record { 0 = target }) lock.cookie)
printed_entry number (word.Drop target lock) = Some (entry.Drop (record { 0 = target }) lock.cookie)
printed_entry number (word.Told slot at answer work) = Some (entry.Told slot at answer)
printed_entry number (word.Peek target cookie size) = Some (entry.Peek (record { 0 = target }) cookie size)
printed_entry number (word.Life who) = Some (entry.Life who)
printed_entry number word.Die = Some entry.Die
printed_entry number word.Skip = Some entry.Skip
printed_entry number (word.Act d) = Some (entry.Act d.reply.who d.reply.xid d.reply.answer)
printed_entry number (word.Txn d) = Some (entry.Txn d.reply.txn d.reply.who d.reply.xid d.reply.seen d.reply.answer)
printed_entry number (word.Grant lock asked) = Some (entry.Grant lock)
printed_entry number (word.Wait lock asked) = Some (entry.Wait lock)
printed_entry number (word.Block called) = Some (entry.Block called.cookie)
printed_entry number (word.Release lock) = Some (entry.Release lock.cookie)
printed_entry number (word.Commit to batch) = Some (entry.Commit (record { 0 = to }))
printed_entry number word.Crash = Some entry.Crash
printed_entry number (word.Boot boot disk) = Some (entry.Boot boot)
printed_entry number (word.Back who) = Some (entry.Back who)
printed_entry number (word.Close outcome) = Some entry.Close
printed_entry number (word.Kept txn) = Some (entry.Kept txn)
printed_entry number (word.Restore lock) = Some (entry.Restore lock)
printed_entry number (word.Evict who cause) = Some (entry.Evict who cause)
printed_entry number (word.Joined who) = Some (entry.Joined who)
printed_entry number word.Fail = Some entry.Fail
printed_entry number _ = None

abbrev pub printed : List Line → List PrintedLine
printed [] = []
printed (l ∷ past) =
    elim (printed_entry (count_sent past + 1) l.entry) [ None ↦ printed past | Some e ↦ record { at = l.at; entry = e } ∷ printed past ]
