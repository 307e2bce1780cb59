-- What a target that recovers keeps of the lives that come back (Lustre Operations Manual, recovery: replays, and clients
-- that reconnect): their replays by number, their locks by cookie, the first word of each, and of each client the newest
-- life that asks to join.
use Rattle.std.specs.Prelude.{Bool, true, false, List, []}
use Rattle.lu_base.specs.declared.ids.Who.{Who}
use Rattle.lu_base.specs.declared.locks.Lock.{Lock}
use Rattle.lu_msg.specs.declared.messages.RequestReplay.{RequestReplay}
use Rattle.lu_spec_entries.specs.Carried.{Said}
use Rattle.lu_spec_entries.specs.Words.{Entry, Boot, Close, Stores, Brings, Says, Wishes}
use Rattle.lu_spec_target.specs.Windows.{Replayed, with_replay, with_brought, with_word, with_wish}

-- the boot that the message names is the present one
abbrev pub replayed : RequestReplay → Replayed
replayed r = record { who = r.who; number = r.txn.0; xid = r.xid.0; tag = r.tag; seen = r.seen; op = r.op }

abbrev pub reads_replays : Entry → Bool
reads_replays (Stores r) = true
reads_replays (Boot boot disk) = true
reads_replays (Close o) = true
reads_replays _ = false

abbrev pub replays_after : List Replayed → Entry → List Replayed
replays_after replays (Stores r) = with_replay (replayed r) replays
replays_after replays (Boot boot disk) = []
replays_after replays (Close o) = []
replays_after replays _ = replays

abbrev pub reads_brought : Entry → Bool
reads_brought (Brings lock) = true
reads_brought (Boot boot disk) = true
reads_brought (Close o) = true
reads_brought _ = false

abbrev pub brought_after : List Lock → Entry → List Lock
brought_after locks (Brings lock) = with_brought lock locks
brought_after locks (Boot boot disk) = []
brought_after locks (Close o) = []
brought_after locks _ = locks

abbrev pub reads_words : Entry → Bool
reads_words (Says word) = true
reads_words (Boot boot disk) = true
reads_words (Close o) = true
reads_words _ = false

abbrev pub words_after : List Said → Entry → List Said
words_after words (Says word) = with_word word words
words_after words (Boot boot disk) = []
words_after words (Close o) = []
words_after words _ = words

abbrev pub reads_wishes : Entry → Bool
reads_wishes (Wishes who) = true
reads_wishes (Boot boot disk) = true
reads_wishes (Close o) = true
reads_wishes _ = false

abbrev pub wishes_after : List Who → Entry → List Who
wishes_after wishes (Wishes who) = with_wish who wishes
wishes_after wishes (Boot boot disk) = []
wishes_after wishes (Close o) = []
wishes_after wishes _ = wishes
