-- Worked rows, computed on the definitions: what is written, and its text.
use Rattle.std.proofs.Common.{◌≡◌, ℕ, ◌+◌, ◌*◌, ◌-◌, ◌^◌, List, [], ◌∷◌, ◌++◌, map, Some, None, refl}
use Rattle.std.specs.Prelude.{codes, ℤ, negsuc, pos}
use Rattle.std.specs.Fmt.{digits}
use Rattle.lu_base.specs.declared.ids.At.{At}
use Rattle.lu_base.specs.declared.ids.Cookie.{Cookie}
use Rattle.lu_base.specs.declared.ids.Fid.{Fid}
use Rattle.lu_base.specs.declared.ids.Node.{Node}
use Rattle.lu_base.specs.declared.ids.Node.TheVariants.{Client, Target}
use Rattle.lu_base.specs.declared.ids.Txn.{Txn}
use Rattle.lu_base.specs.declared.ids.Who.{Who}
use Rattle.lu_base.specs.declared.ids.Xid.{Xid}
use Rattle.lu_base.specs.declared.locks.Cause.TheVariants.{Absent, Gap, Expired, Replaced}
use Rattle.lu_base.specs.declared.locks.Extent.{Extent}
use Rattle.lu_base.specs.declared.locks.Lock.{Lock as HeldLock}
use Rattle.lu_base.specs.declared.locks.Mode.{Mode}
use Rattle.lu_base.specs.declared.locks.Mode.TheVariants.{EX, PW, PR, CW, CR, NL}
use Rattle.lu_base.specs.declared.locks.Policy.{Policy}
use Rattle.lu_base.specs.declared.locks.Policy.TheVariants.{Bits, Range}
use Rattle.lu_base.specs.declared.locks.Resource.{Resource}
use Rattle.lu_layout.specs.Raid0.{Raid0}
use Rattle.lu_msg.specs.declared.answers.Answer.{Answer}
use Rattle.lu_msg.specs.declared.answers.Answer.TheVariants as answer
use Rattle.lu_msg.specs.declared.answers.Errno.TheVariants.{ENOENT, EEXIST, ENOTDIR, EISDIR, ENOTEMPTY, EPERM, EINVAL, EBUSY, EBADF}
use Rattle.lu_msg.specs.declared.answers.Errno.TheVariants.{ENAMETOOLONG, EIO}
use Rattle.lu_msg.specs.declared.calls.Call.{Call}
use Rattle.lu_msg.specs.declared.calls.Call.TheVariants as call
use Rattle.lu_msg.specs.declared.messages.LockReplay.{LockReplay}
use Rattle.lu_msg.specs.declared.messages.Message.{Message}
use Rattle.lu_msg.specs.declared.messages.Message.TheVariants as message
use Rattle.lu_msg.specs.declared.messages.SizeReport.{SizeReport}
use Rattle.lu_msg.specs.declared.operations.Op.{Op}
use Rattle.lu_msg.specs.declared.operations.Op.TheVariants as op
use Rattle.lu_trace.specs.declared.entries.Entry.{Entry}
use Rattle.lu_trace.specs.declared.entries.Entry.TheVariants as entry
use Rattle.lu_trace.specs.declared.traces.End.TheVariants.{Done, Limit, Fault}
use Rattle.lu_trace.specs.Words.{words}
use Rattle.lu_trace.specs.Calls.{call_text}
use Rattle.lu_trace.specs.Ops.{op_text}
use Rattle.lu_trace.specs.Answers.{answer_text}
use Rattle.lu_trace.specs.Messages.{message_text}
use Rattle.lu_trace.specs.Entries.{entry_text}
use Rattle.lu_trace.specs.Traces.{trace_text}

-- The values of the rows.

-- a number of this boot and count
abbrev pair : ℕ → ℕ → ℕ
pair boot count = boot * 2 ^ 32 + count

abbrev fid : ℕ → ℕ → Fid
fid boot count = record { 0 = pair boot count }

abbrev txn : ℕ → ℕ → Txn
txn boot count = record { 0 = pair boot count }

abbrev cookie : ℕ → ℕ → Cookie
cookie boot count = record { 0 = pair boot count }

abbrev xid : ℕ → Xid
xid number = record { 0 = number }

abbrev life : ℕ → ℕ → Who
life client number = record { client = client; life = number }

abbrev turn : ℕ → Node → At
turn stamp node = record { stamp = record { 0 = stamp }; node = node }

abbrev extent : ℕ → ℕ → Extent
extent first last = record { first = first; last = last }

-- the last offset of a range to the end
abbrev the_end : ℕ
the_end = 2 ^ 64 - 1

abbrev object : ℕ → ℕ → ℕ → Resource
object boot count stripe = record { fid = fid boot count; stripe = stripe }

-- a lock of life 1.2
abbrev lock : ℕ → ℕ → Resource → Mode → Policy → HeldLock
lock boot count resource mode policy =
    record { cookie = cookie boot count; resource = resource; ask = record { who = life 1 2; mode = mode; policy = policy } }

abbrev layout : Raid0
layout = record { size = 65536; targets = 2 ∷ 1 ∷ [] }

abbrev a : List (List ℕ)
a = codes "a" ∷ []

abbrev b : List (List ℕ)
b = codes "b" ∷ []

-- Every call.
abbrev calls : List (Call × List ℕ)
calls =
    (call.Lookup a, codes "lookup /a")
    ∷ (call.Stat [], codes "stat /")
    ∷ (call.List (codes "a" ∷ codes "b" ∷ []), codes "list /a/b")
    ∷ (call.Layout a, codes "layout /a")
    ∷ (call.Mkdir a, codes "mkdir /a")
    ∷ (call.Create a None, codes "create /a")
    ∷ (call.Create a (Some (65536, negsuc 0)), codes "create /a 65536 -1")
    ∷ (call.Link a b, codes "link /a /b")
    ∷ (call.Unlink a, codes "unlink /a")
    ∷ (call.Rmdir a, codes "rmdir /a")
    ∷ (call.Rename a b, codes "rename /a /b")
    ∷ (call.Chmod a 420, codes "chmod /a 644")
    ∷ (call.Open 15 a, codes "open 15 /a")
    ∷ (call.Close 15, codes "close 15")
    ∷ (call.Read 1 2 3, codes "read 1 2 3")
    ∷ (call.Write 1 2 [], codes "write 1 2 -")
    ∷ (call.Cut 1 2, codes "cut 1 2")
    ∷ (call.Flush 1, codes "flush 1")
    ∷ (call.Glimpse 1, codes "glimpse 1")
    ∷ []

call_rows : map (λ row. call_text row.0) calls ≡ map (λ row. row.1) calls
unfolding digits
call_rows = refl

-- Every operation.
abbrev operations : List (Op × List ℕ)
operations =
    (op.Lookup a, codes "lookup /a")
    ∷ (op.Stat a, codes "stat /a")
    ∷ (op.List [], codes "list /")
    ∷ (op.Layout a, codes "layout /a")
    ∷ (op.Mkdir a, codes "mkdir /a")
    ∷ (op.Create a 0 (negsuc 0), codes "create /a 0 -1")
    ∷ (op.Link a b, codes "link /a /b")
    ∷ (op.Unlink a, codes "unlink /a")
    ∷ (op.Rmdir a, codes "rmdir /a")
    ∷ (op.Rename a b, codes "rename /a /b")
    ∷ (op.Chmod a 4095, codes "chmod /a 7777")
    ∷ (op.Open a, codes "open /a")
    ∷ (op.Close (txn 6 7) (fid 8 9), codes "close 6.7 8.9")
    ∷ (op.Enqueue (object 8 9 1) PW (extent 0 the_end), codes "enqueue 8.9/1 PW 0-end")
    ∷ (op.Get (object 8 9 1) (cookie 6 7) 2, codes "get 8.9/1 6.7 2")
    ∷ (op.Put (object 8 9 1) (cookie 6 7) 4096 [], codes "put 8.9/1 6.7 4096 -")
    ∷ (op.Cut (object 8 9 1) (cookie 6 7) 10, codes "cut 8.9/1 6.7 10")
    ∷ (op.Size (object 8 9 1), codes "size 8.9/1")
    ∷ []

operation_rows : map (λ row. op_text row.0) operations ≡ map (λ row. row.1) operations
unfolding digits
operation_rows = refl

-- Every answer and every error.
abbrev answers : List (Answer × List ℕ)
answers =
    (answer.Done, codes "ok")
    ∷ (answer.Made (fid 1 2), codes "ok 1.2")
    ∷ (answer.Dir (fid 1 2), codes "dir 1.2")
    ∷ (answer.File (fid 1 2), codes "file 1.2")
    ∷ (answer.DirStat (fid 1 2) 493, codes "dir 1.2 755")
    ∷ (answer.FileStat (fid 1 2) 0 3 layout, codes "file 1.2 0 3 65536:2,1")
    ∷ (answer.FileSize (fid 1 2) 8 3 4096, codes "file 1.2 10 3 4096")
    ∷ (answer.Names [], codes "names 0")
    ∷ (answer.Names (codes "a" ∷ codes "b.c" ∷ []), codes "names 2 a b.c")
    ∷ (answer.Layout layout, codes "layout 65536:2,1")
    ∷ (answer.OpenFile (fid 1 2) (txn 1 3) layout, codes "open 1.2 1.3 65536:2,1")
    ∷ (answer.Granted (cookie 1 2) (extent 5 the_end) 7, codes "granted 1.2 5-end 7")
    ∷ (answer.Waiting (cookie 1 2), codes "waiting 1.2")
    ∷ (answer.Content [], codes "content -")
    ∷ (answer.Size 7, codes "size 7")
    ∷ (answer.Lock, codes "lock")
    ∷ (answer.Sizes [], codes "sizes -")
    ∷ (answer.Sizes (7 ∷ 0 ∷ []), codes "sizes 7,0")
    ∷ (answer.Uncovered, codes "uncovered")
    ∷ (answer.Refused ENOENT, codes "ENOENT")
    ∷ (answer.Refused EEXIST, codes "EEXIST")
    ∷ (answer.Refused ENOTDIR, codes "ENOTDIR")
    ∷ (answer.Refused EISDIR, codes "EISDIR")
    ∷ (answer.Refused ENOTEMPTY, codes "ENOTEMPTY")
    ∷ (answer.Refused EPERM, codes "EPERM")
    ∷ (answer.Refused EINVAL, codes "EINVAL")
    ∷ (answer.Refused EBUSY, codes "EBUSY")
    ∷ (answer.Refused EBADF, codes "EBADF")
    ∷ (answer.Refused ENAMETOOLONG, codes "ENAMETOOLONG")
    ∷ (answer.Refused EIO, codes "EIO")
    ∷ []

answer_rows : map (λ row. answer_text row.0) answers ≡ map (λ row. row.1) answers
unfolding digits
answer_rows = refl

-- Every message.
abbrev messages : List (Message × List ℕ)
messages =
    (message.Request (record { who = life 1 2; boot = 3; xid = xid 4; tag = 0; op = op.Mkdir a }), codes "req c1.2 3 4 mkdir /a")
    ∷ (message.Request (record { who = life 1 2; boot = 3; xid = xid 4; tag = 5; op = op.Mkdir a }), codes "req c1.2 3 4/5 mkdir /a")
    ∷ (message.Cancel (life 1 2) 3 (cookie 4 5), codes "cancel c1.2 3 4.5")
    ∷ (message.Where (life 1 2) 3 (cookie 4 5), codes "where c1.2 3 4.5")
    ∷ (message.Join (life 1 2) 3, codes "join c1.2 3")
    ∷ (
      message.Replay (record {
        who = life 1 2;
        boot = 3;
        txn = txn 4 5;
        xid = xid 6;
        tag = 7;
        seen = pair 1 2 ∷ pair 1 3 ∷ [];
        op =
            op.Mkdir a;
      }),
      codes "replay c1.2 3 4.5 6/7 1.2,1.3 mkdir /a",
    )
    ∷ (
      message.Lock (record { who = life 1 2; boot = 3; cookie = cookie 4 5; resource = object 0 1 0; mode = PR; policy = Bits 3 }),
      codes "lock c1.2 3 4.5 0.1 PR 3",
    )
    ∷ (
      message.Lock (record {
        who = life 1 2;
        boot = 3;
        cookie = cookie 4 5;
        resource = object 1 6 0;
        mode = PW;
        policy =
            Range (extent 0 9);
      }),
      codes "lock c1.2 3 4.5 1.6/0 PW 0-9",
    )
    ∷ (message.Word (life 1 2) 3 4 5 (pair 1 2 ∷ []), codes "word c1.2 3 4 5 1.2")
    ∷ (
      message.Size (record {
        who = life 1 2;
        boot = 3;
        cookie = cookie 4 5;
        for_who = life 6 7;
        xid = xid 8;
        size = Some 9;
        stamp =
            record { 0 = 1 };
      }),
      codes "size c1.2 3 4.5 c6.7 8 9",
    )
    ∷ (
      message.Size (record {
        who = life 1 2;
        boot = 3;
        cookie = cookie 4 5;
        for_who = life 6 7;
        xid = xid 8;
        size = None;
        stamp =
            record { 0 = 1 };
      }),
      codes "size c1.2 3 4.5 c6.7 8 -",
    )
    ∷ (
      message.Reply (record {
        who = life 1 2;
        boot = 3;
        xid = xid 4;
        txn = txn 5 6;
        committed = txn 7 8;
        seen = pair 1 2 ∷ pair 1 3 ∷ [];
        at = turn 9 (Target 0);
        locks = lock 4 5 (object 1 6 0) PR (Bits 1) ∷ lock 4 7 (object 0 1 0) PR (Bits 2) ∷ [];
        answer =
            answer.Dir (fid 1 6);
      }),
      codes "reply c1.2 3 4 5.6 7.8 1.2,1.3 9:t0 4.5:1.6:1,4.7:0.1:2 dir 1.6",
    )
    ∷ (
      message.Reply (record {
        who = life 1 2;
        boot = 3;
        xid = xid 4;
        txn = txn 0 0;
        committed = txn 0 0;
        seen = [];
        at = turn 9 (Client 3);
        locks = [];
        answer = answer.Refused ENOENT;
      }),
      codes "reply c1.2 3 4 0.0 0.0 - 9:c3 - ENOENT",
    )
    ∷ (message.Up 3, codes "up 3")
    ∷ (
      message.Grant (record {
        who = life 1 2;
        boot = 3;
        cookie = cookie 4 5;
        extent = extent 0 the_end;
        size = 6;
        committed = txn 7 8;
        seen = pair 1 2 ∷ [];
      }),
      codes "grant c1.2 3 4.5 0-end 6 7.8 1.2",
    )
    ∷ (message.Block (life 1 2) 3 (cookie 4 5), codes "block c1.2 3 4.5")
    ∷ (message.Ask (life 1 2) 3 (cookie 4 5) (life 6 7) (xid 8), codes "ask c1.2 3 4.5 c6.7 8")
    ∷ (message.Ready (life 1 2) 3 (txn 4 5), codes "ready c1.2 3 4.5")
    ∷ (message.Evicted (life 1 2) 3, codes "evicted c1.2 3")
    ∷ []

message_rows : map (λ row. message_text row.0) messages ≡ map (λ row. row.1) messages
unfolding digits
message_rows = refl

-- Every entry.
abbrev entries : List (Entry × List ℕ)
entries =
    (entry.Begin 3 (call.Layout a), codes "begin 3 layout /a")
    ∷ (entry.Busy 3, codes "busy 3")
    ∷ (entry.Skip, codes "skip")
    ∷ (entry.Send 9 (Target 0) (message.Up 3), codes "send 9 t0 up 3")
    ∷ (entry.Take 7, codes "take 7")
    ∷ (entry.Tick, codes "tick")
    ∷ (entry.Heard (record { 0 = 1 }) (xid 2), codes "heard t1 2")
    ∷ (entry.Hold (record { 0 = 1 }) (cookie 2 3), codes "hold t1 2.3")
    ∷ (entry.Drop (record { 0 = 1 }) (cookie 2 3), codes "drop t1 2.3")
    ∷ (entry.Told 0 (turn 5 (Target 0)) answer.Done, codes "told 0 5:t0 ok")
    ∷ (entry.Peek (record { 0 = 1 }) (cookie 2 3) 4, codes "peek t1 2.3 4")
    ∷ (entry.Life (life 1 2), codes "life c1.2")
    ∷ (entry.Die, codes "die")
    ∷ (entry.Act (life 1 2) (xid 3) answer.Lock, codes "act c1.2 3 lock")
    ∷ (entry.Txn (txn 4 5) (life 1 2) (xid 3) (pair 1 2 ∷ pair 1 3 ∷ []) answer.Done, codes "txn 4.5 c1.2 3 1.2,1.3 ok")
    ∷ (entry.Txn (txn 4 5) (life 1 2) (xid 3) [] answer.Done, codes "txn 4.5 c1.2 3 - ok")
    ∷ (entry.Grant (lock 4 5 (object 1 6 0) PR (Bits 7)), codes "grant 4.5 c1.2 1.6 PR 7")
    ∷ (entry.Wait (lock 4 5 (object 1 6 0) EX (Range (extent 7 9))), codes "wait 4.5 c1.2 1.6/0 EX 7-9")
    ∷ (entry.Wait (lock 4 5 (object 1 6 0) PW (Range (extent 7 9))), codes "wait 4.5 c1.2 1.6/0 PW 7-9")
    ∷ (entry.Wait (lock 4 5 (object 1 6 0) PR (Range (extent 7 9))), codes "wait 4.5 c1.2 1.6/0 PR 7-9")
    ∷ (entry.Wait (lock 4 5 (object 1 6 0) CW (Range (extent 7 9))), codes "wait 4.5 c1.2 1.6/0 CW 7-9")
    ∷ (entry.Wait (lock 4 5 (object 1 6 0) CR (Range (extent 7 9))), codes "wait 4.5 c1.2 1.6/0 CR 7-9")
    ∷ (entry.Wait (lock 4 5 (object 1 6 0) NL (Range (extent 7 9))), codes "wait 4.5 c1.2 1.6/0 NL 7-9")
    ∷ (entry.Block (cookie 4 5), codes "block 4.5")
    ∷ (entry.Release (cookie 4 6), codes "release 4.6")
    ∷ (entry.Commit (txn 0 0), codes "commit 0.0")
    ∷ (entry.Crash, codes "crash")
    ∷ (entry.Boot 2, codes "boot 2")
    ∷ (entry.Back (life 1 2), codes "back c1.2")
    ∷ (entry.Close, codes "close")
    ∷ (entry.Kept (txn 4 5), codes "kept 4.5")
    ∷ (entry.Restore (lock 4 5 (object 1 6 2) PW (Range (extent 0 the_end))), codes "restore 4.5 c1.2 1.6/2 PW 0-end")
    ∷ (entry.Evict (life 1 2) Absent, codes "evict c1.2 absent")
    ∷ (entry.Evict (life 1 2) Gap, codes "evict c1.2 gap")
    ∷ (entry.Evict (life 1 2) Expired, codes "evict c1.2 expired")
    ∷ (entry.Evict (life 1 2) Replaced, codes "evict c1.2 replaced")
    ∷ (entry.Joined (life 1 3), codes "joined c1.3")
    ∷ (entry.Fail, codes "fail")
    ∷ []

entry_rows : map (λ row. entry_text row.0) entries ≡ map (λ row. row.1) entries
unfolding digits
entry_rows = refl

-- The last line of a trace: how the run ended, and the number of object storage targets where that isn't 1.
ended : trace_text (record { osts = 1; entries = [] }) Done ≡ codes "end" ++ 10 ∷ []
unfolding digits
ended = refl

ended_at_the_limit : trace_text (record { osts = 8; entries = [] }) Limit ≡ codes "end limit 8" ++ 10 ∷ []
unfolding digits
ended_at_the_limit = refl

ended_by_a_fault : trace_text (record { osts = 1; entries = [] }) Fault ≡ codes "end fault" ++ 10 ∷ []
unfolding digits
ended_by_a_fault = refl
