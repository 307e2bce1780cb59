-- The text of an entry, and of a line: the stamp, the node, the entry.
use Rattle.std.specs.Prelude.{ℕ, List, [], ◌∷◌, codes, decimal}
use Rattle.lu_base.specs.Texts.{pair_text}
use Rattle.lu_base.specs.declared.locks.Lock.{Lock}
use Rattle.lu_base.specs.declared.locks.Cause.{Cause}
use Rattle.lu_base.specs.declared.locks.Cause.TheVariants.{Absent, Gap, Expired, Replaced}
use Rattle.lu_trace.specs.declared.entries.Entry.{Entry}
use Rattle.lu_trace.specs.declared.entries.Entry.TheVariants.{Begin, Busy, Skip, Send, Take, Tick, Heard, Hold, Drop, Told, Peek, Life, Die}
use Rattle.lu_trace.specs.declared.entries.Entry.TheVariants.{Act, Txn, Grant, Wait, Block, Release, Commit, Crash, Boot, Back, Close, Kept}
use Rattle.lu_trace.specs.declared.entries.Entry.TheVariants.{Restore, Evict, Joined, Fail}
use Rattle.lu_trace.specs.declared.entries.Line.{Line}
use Rattle.lu_trace.specs.Words.{words}
use Rattle.lu_base.specs.Values.{node_text, target_text, mode_text}
use Rattle.lu_trace.specs.Values.{who_text, at_text, policy_text, resource_text}
use Rattle.lu_trace.specs.Lists.{seen_text}
use Rattle.lu_trace.specs.Calls.{call_text}
use Rattle.lu_trace.specs.Answers.{answer_text}
use Rattle.lu_trace.specs.Messages.{message_text}

abbrev pub cause_text : Cause → List ℕ
cause_text Absent = codes "absent"
cause_text Gap = codes "gap"
cause_text Expired = codes "expired"
cause_text Replaced = codes "replaced"

-- the words of a lock: its cookie, the life, what it is on, its mode, its bits or range
abbrev pub lock_words : Lock → List (List ℕ)
lock_words lock =
    pair_text lock.cookie.0 ∷ who_text lock.ask.who ∷ resource_text lock.resource lock.ask.policy
    ∷ mode_text lock.ask.mode ∷ policy_text lock.ask.policy ∷ []

abbrev pub entry_text : Entry → List ℕ
entry_text (Begin slot call) = words (codes "begin" ∷ decimal slot ∷ call_text call ∷ [])
entry_text (Busy slot) = words (codes "busy" ∷ decimal slot ∷ [])
entry_text Skip = codes "skip"
entry_text (Send number to message) = words (codes "send" ∷ decimal number ∷ node_text to ∷ message_text message ∷ [])
entry_text (Take number) = words (codes "take" ∷ decimal number ∷ [])
entry_text Tick = codes "tick"
entry_text (Heard target xid) = words (codes "heard" ∷ target_text target.0 ∷ decimal xid.0 ∷ [])
entry_text (Hold target cookie) = words (codes "hold" ∷ target_text target.0 ∷ pair_text cookie.0 ∷ [])
entry_text (Drop target cookie) = words (codes "drop" ∷ target_text target.0 ∷ pair_text cookie.0 ∷ [])
entry_text (Told slot at answer) = words (codes "told" ∷ decimal slot ∷ at_text at ∷ answer_text answer ∷ [])
entry_text (Peek target cookie size) = words (codes "peek" ∷ target_text target.0 ∷ pair_text cookie.0 ∷ decimal size ∷ [])
entry_text (Life who) = words (codes "life" ∷ who_text who ∷ [])
entry_text Die = codes "die"
entry_text (Act who xid answer) = words (codes "act" ∷ who_text who ∷ decimal xid.0 ∷ answer_text answer ∷ [])
entry_text (Txn txn who xid seen answer) =
    words (codes "txn" ∷ pair_text txn.0 ∷ who_text who ∷ decimal xid.0 ∷ seen_text seen ∷ answer_text answer ∷ [])
entry_text (Grant lock) = words (codes "grant" ∷ lock_words lock)
entry_text (Wait lock) = words (codes "wait" ∷ lock_words lock)
entry_text (Block cookie) = words (codes "block" ∷ pair_text cookie.0 ∷ [])
entry_text (Release cookie) = words (codes "release" ∷ pair_text cookie.0 ∷ [])
entry_text (Commit txn) = words (codes "commit" ∷ pair_text txn.0 ∷ [])
entry_text Crash = codes "crash"
entry_text (Boot boot) = words (codes "boot" ∷ decimal boot ∷ [])
entry_text (Back who) = words (codes "back" ∷ who_text who ∷ [])
entry_text Close = codes "close"
entry_text (Kept txn) = words (codes "kept" ∷ pair_text txn.0 ∷ [])
entry_text (Restore lock) = words (codes "restore" ∷ lock_words lock)
entry_text (Evict who cause) = words (codes "evict" ∷ who_text who ∷ cause_text cause ∷ [])
entry_text (Joined who) = words (codes "joined" ∷ who_text who ∷ [])
entry_text Fail = codes "fail"

abbrev pub line_text : Line → List ℕ
line_text line = words (decimal line.at.stamp.0 ∷ node_text line.at.node ∷ entry_text line.entry ∷ [])
