-- What is asked of objects in a covered run, and each size that comes with a lock, lies in the greatest file, of 2^40 bytes.
use Rattle.std.specs.Prelude.{ℕ, ◌+◌, ◌<◌, ◌≤◌, ◌^◌, List, [], ◌∷◌, length}
use Rattle.lu_msg.specs.declared.answers.Answer.{Answer}
use Rattle.lu_msg.specs.declared.answers.Answer.TheVariants as told
use Rattle.lu_msg.specs.declared.messages.Message.{Message}
use Rattle.lu_msg.specs.declared.messages.Message.TheVariants as message
use Rattle.lu_msg.specs.declared.operations.Op.{Op}
use Rattle.lu_msg.specs.declared.operations.Op.TheVariants as op
use Rattle.lu_spec_entries.specs.Words.{Entry, Queues, Flies, Send, Line}
use Rattle.lu_spec_client.specs.Calls.{life_at}
use Rattle.lu_spec_run.specs.Heads.{Head, IsHead}
use Rattle.lu_spec_run.specs.Runs.{Turn, lines_of, IsRun}
use Rattle.lu_proof_lawful.specs.Covered.Runs.{AllCovered}

-- what an operation reads or writes of an object lies in a file: it is of a page of 4096 bytes, of a run of bytes or of a size
abbrev pub InFile : Op → Type 0
InFile (op.Get resource cookie page) = page < 2 ^ 28
InFile (op.Put resource cookie at bytes) = at + length bytes ≤ 2 ^ 40
InFile (op.Cut resource cookie size) = size ≤ 2 ^ 40
InFile _ = Unit {0}

-- a size that comes with a lock is one of a file
abbrev pub IsShort : Answer → Type 0
IsShort (told.Granted cookie extent size) = size ≤ 2 ^ 40
IsShort _ = Unit {0}

-- what is sent to a client brings such sizes alone
abbrev pub BringsShort : Message → Type 0
BringsShort (message.Reply reply) = IsShort reply.answer
BringsShort (message.Grant notice) = notice.size ≤ 2 ^ 40
BringsShort _ = Unit {0}

-- what is queued, what is asked, and what is sent
abbrev pub LiesInFile : Entry → Type 0
LiesInFile (Queues target queued) = InFile queued.op
LiesInFile (Flies target flight) = InFile flight.op
LiesInFile (Send node message) = BringsShort message
LiesInFile _ = Unit {0}

abbrev pub AllInFiles : List Line → Type 0
AllInFiles [] = Unit {0}
AllInFiles (l ∷ past) = LiesInFile l.entry × AllInFiles past

-- of all lines of every covered run
abbrev pub OfAllLines : (List Line → Type 0) → Type 0
OfAllLines P = (head : Head) (turns : List Turn) → IsHead head → IsRun head turns → AllCovered (lines_of turns) → P (lines_of turns)

-- each turn begins one life of a client at most
abbrev pub LivesAreFew : Type 0
LivesAreFew =
    (head : Head) (turns : List Turn) → IsHead head → IsRun head turns → AllCovered (lines_of turns)
    → (c : ℕ) → (life_at c (lines_of turns)).life ≤ length turns + 1
