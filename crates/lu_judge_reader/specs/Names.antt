-- The words with which operations, answers, messages and entries begin.
use Rattle.std.specs.Prelude.{ℕ, Option, List, [], ◌∷◌, codes, find}
use Rattle.std.specs.Str.{bytes_eq}
use Rattle.lu_msg.specs.declared.answers.Errno.TheVariants as errnos
use Rattle.lu_trace.specs.Answers.{errno_text}
use Rattle.lu_judge_reader.specs.declared.names.OpName.{OpName}
use Rattle.lu_judge_reader.specs.declared.names.OpName.TheVariants as op
use Rattle.lu_judge_reader.specs.declared.names.AnswerName.{AnswerName}
use Rattle.lu_judge_reader.specs.declared.names.AnswerName.TheVariants as answer
use Rattle.lu_judge_reader.specs.declared.names.MessageName.{MessageName}
use Rattle.lu_judge_reader.specs.declared.names.MessageName.TheVariants as message
use Rattle.lu_judge_reader.specs.declared.names.EntryName.{EntryName}
use Rattle.lu_judge_reader.specs.declared.names.EntryName.TheVariants as entry

-- the first word of an operation
abbrev pub op_word : OpName → List ℕ
op_word op.Lookup = codes "lookup"
op_word op.Stat = codes "stat"
op_word op.List = codes "list"
op_word op.Layout = codes "layout"
op_word op.Mkdir = codes "mkdir"
op_word op.Create = codes "create"
op_word op.Link = codes "link"
op_word op.Unlink = codes "unlink"
op_word op.Rmdir = codes "rmdir"
op_word op.Rename = codes "rename"
op_word op.Chmod = codes "chmod"
op_word op.Open = codes "open"
op_word op.Close = codes "close"
op_word op.Enqueue = codes "enqueue"
op_word op.Get = codes "get"
op_word op.Put = codes "put"
op_word op.Cut = codes "cut"
op_word op.Size = codes "size"

-- all of these
abbrev pub all_op_names : List OpName
all_op_names = op.Lookup ∷ op.Stat ∷ op.List ∷ op.Layout ∷ op.Mkdir ∷ op.Create ∷ op.Link ∷ op.Unlink ∷ op.Rmdir ∷ op.Rename ∷ op.Chmod
    ∷ op.Open ∷ op.Close ∷ op.Enqueue ∷ op.Get ∷ op.Put ∷ op.Cut ∷ op.Size ∷ []

-- what begins with the word
abbrev pub op_name_of : List ℕ → Option OpName
op_name_of word = find (λ x. bytes_eq (op_word x) word) all_op_names

-- the first word of an answer
abbrev pub answer_word : AnswerName → List ℕ
answer_word answer.Fine = codes "ok"
answer_word answer.Dir = codes "dir"
answer_word answer.File = codes "file"
answer_word answer.Names = codes "names"
answer_word answer.Layout = codes "layout"
answer_word answer.Open = codes "open"
answer_word answer.Granted = codes "granted"
answer_word answer.Waiting = codes "waiting"
answer_word answer.Content = codes "content"
answer_word answer.Size = codes "size"
answer_word answer.Lock = codes "lock"
answer_word answer.Sizes = codes "sizes"
answer_word answer.Uncovered = codes "uncovered"
answer_word (answer.Refused errno) = errno_text errno

-- all of these
abbrev pub all_answer_names : List AnswerName
all_answer_names = answer.Fine ∷ answer.Dir ∷ answer.File ∷ answer.Names ∷ answer.Layout ∷ answer.Open ∷ answer.Granted ∷ answer.Waiting
    ∷ answer.Content ∷ answer.Size ∷ answer.Lock ∷ answer.Sizes ∷ answer.Uncovered ∷ answer.Refused errnos.ENOENT
    ∷ answer.Refused errnos.EEXIST ∷ answer.Refused errnos.ENOTDIR ∷ answer.Refused errnos.EISDIR ∷ answer.Refused errnos.ENOTEMPTY
    ∷ answer.Refused errnos.EPERM ∷ answer.Refused errnos.EINVAL ∷ answer.Refused errnos.EBUSY ∷ answer.Refused errnos.EBADF
    ∷ answer.Refused errnos.ENAMETOOLONG ∷ answer.Refused errnos.EIO ∷ []

-- what begins with the word
abbrev pub answer_name_of : List ℕ → Option AnswerName
answer_name_of word = find (λ x. bytes_eq (answer_word x) word) all_answer_names

-- the first word of a message
abbrev pub message_word : MessageName → List ℕ
message_word message.Request = codes "req"
message_word message.Cancel = codes "cancel"
message_word message.Where = codes "where"
message_word message.Replay = codes "replay"
message_word message.Lock = codes "lock"
message_word message.Word = codes "word"
message_word message.Join = codes "join"
message_word message.Size = codes "size"
message_word message.Up = codes "up"
message_word message.Reply = codes "reply"
message_word message.Grant = codes "grant"
message_word message.Block = codes "block"
message_word message.Ask = codes "ask"
message_word message.Ready = codes "ready"
message_word message.Evicted = codes "evicted"

-- all of these
abbrev pub all_message_names : List MessageName
all_message_names = message.Request ∷ message.Cancel ∷ message.Where ∷ message.Replay ∷ message.Lock ∷ message.Word ∷ message.Join
    ∷ message.Size ∷ message.Up ∷ message.Reply ∷ message.Grant ∷ message.Block ∷ message.Ask ∷ message.Ready ∷ message.Evicted ∷ []

-- what begins with the word
abbrev pub message_name_of : List ℕ → Option MessageName
message_name_of word = find (λ x. bytes_eq (message_word x) word) all_message_names

-- the first word of an entry
abbrev pub entry_word : EntryName → List ℕ
entry_word entry.Begin = codes "begin"
entry_word entry.Busy = codes "busy"
entry_word entry.Skip = codes "skip"
entry_word entry.Send = codes "send"
entry_word entry.Take = codes "take"
entry_word entry.Tick = codes "tick"
entry_word entry.Heard = codes "heard"
entry_word entry.Hold = codes "hold"
entry_word entry.Drop = codes "drop"
entry_word entry.Told = codes "told"
entry_word entry.Peek = codes "peek"
entry_word entry.Life = codes "life"
entry_word entry.Die = codes "die"
entry_word entry.Act = codes "act"
entry_word entry.Txn = codes "txn"
entry_word entry.Grant = codes "grant"
entry_word entry.Wait = codes "wait"
entry_word entry.Block = codes "block"
entry_word entry.Release = codes "release"
entry_word entry.Commit = codes "commit"
entry_word entry.Crash = codes "crash"
entry_word entry.Boot = codes "boot"
entry_word entry.Back = codes "back"
entry_word entry.Close = codes "close"
entry_word entry.Kept = codes "kept"
entry_word entry.Restore = codes "restore"
entry_word entry.Evict = codes "evict"
entry_word entry.Joined = codes "joined"
entry_word entry.Fail = codes "fail"

-- all of these
abbrev pub all_entry_names : List EntryName
all_entry_names = entry.Begin ∷ entry.Busy ∷ entry.Skip ∷ entry.Send ∷ entry.Take ∷ entry.Tick ∷ entry.Heard ∷ entry.Hold ∷ entry.Drop
    ∷ entry.Told ∷ entry.Peek ∷ entry.Life ∷ entry.Die ∷ entry.Act ∷ entry.Txn ∷ entry.Grant ∷ entry.Wait ∷ entry.Block ∷ entry.Release
    ∷ entry.Commit ∷ entry.Crash ∷ entry.Boot ∷ entry.Back ∷ entry.Close ∷ entry.Kept ∷ entry.Restore ∷ entry.Evict ∷ entry.Joined
    ∷ entry.Fail ∷ []

-- what begins with the word
abbrev pub entry_name_of : List ℕ → Option EntryName
entry_name_of word = find (λ x. bytes_eq (entry_word x) word) all_entry_names
