-- Short words in which the worked scenarios and their stories are written: scenes, where they come to, lives, numbers, and what several
-- stories have in common.
use Rattle.std.proofs.Common.{ℕ, Bool, true, false, List, [], ◌∷◌, Option, Some, None}
use Rattle.std.specs.Prelude.{◌+◌, ◌*◌, codes, pos}
use Rattle.lu_base.specs.declared.locks.Resource.{Resource}
use Rattle.lu_msg.specs.declared.calls.Call.TheVariants as call
use Rattle.lu_scene.specs.Lines.{default_head}
use Rattle.lu_scene.specs.declared.scene.Head.{Head as SceneHead}
use Rattle.lu_scene.specs.declared.scene.Scene.{Scene}
use Rattle.lu_scene.specs.declared.scene.SceneLine.{SceneLine}
use Rattle.lu_scene.specs.declared.scene.SceneLine.TheVariants.{Call, Run}
use Rattle.lu_spec_entries.specs.Words.{Line}
use Rattle.lu_spec_run.specs.Scenarios.{Disks, head_of, past_of, start, steps}
use Rattle.lu_spec_client.specs.Messages.{padded}
use Rattle.lu_proof_bytes.specs.Object.Words.{Lock, Change, Write, Op, Enqueue, Flush, Request, Answer, Granted, Waiting, Content, Ask}
use Rattle.lu_proof_bytes.specs.Object.Words.{Reply}
use Rattle.lu_proof_bytes.specs.Object.Words.{Give, Block, Cancel, Done, Did, Entry, Takes, Flies, Heard, Hold, Drop, Tells, Grant, Wait}
use Rattle.lu_proof_bytes.specs.Object.Words.{Promote}
use Rattle.lu_proof_bytes.specs.Object.Words.{Txn, Release, Send}
use Rattle.lu_proof_lawful.specs.Projection.Requests.{among}

-- ---- scenes

-- no call to a disk fails
abbrev pub never : Disks
never t = []

-- the past that a scene comes to in so many steps
abbrev pub past_after : ℕ → Scene → List Line
past_after n scene = past_of (steps (head_of scene.head) never n (start (head_of scene.head) never scene))

abbrev pub two_clients : SceneHead
two_clients = record default_head { clients = 2 }

abbrev pub f : List (List ℕ)
f = codes "f" ∷ []

-- both clients open a file, and client 0 writes two bytes
abbrev pub written_by_one : List SceneLine → List SceneLine
written_by_one lines =
    Call 0 0 (call.Create f (Some (1048576, pos 1))) ∷ Run ∷ Call 0 0 (call.Open 0 f) ∷ Run ∷ Call 1 0 (call.Open 0 f) ∷ Run
    ∷ Call 0 0 (call.Write 0 0 (104 ∷ 105 ∷ [])) ∷ Run
    ∷ lines

-- ---- numbers of the first boot and of the second; the first lives of clients 0 and 1; the first file's objects

abbrev pub first : ℕ → ℕ
first count = 4294967296 + count

abbrev pub second : ℕ → ℕ
second count = 2 * 4294967296 + count

abbrev pub writer : ℕ
writer = 2

abbrev pub reader : ℕ
reader = 5

abbrev pub object_at : ℕ → Resource
object_at stripe = record { fid = record { 0 = first 1 }; stripe = stripe }

-- ---- locks, changes and requests

abbrev pub lock : (cookie life : ℕ) → Bool → ℕ → Option ℕ → Lock
lock k c write first last = record { cookie = k; life = c; write = write; first = first; last = last }

abbrev pub request : (life xid : ℕ) → Op → Request
request c x op = record { life = c; xid = x; op = op }

abbrev pub bytes : List ℕ
bytes = 104 ∷ 105 ∷ []

abbrev pub hi : Change
hi = Write 0 bytes

-- the writer's lock, and the reader's as it waits and as it is granted
abbrev pub written : Lock
written = lock (first 1) writer true 0 None

abbrev pub waits : Lock
waits = lock (first 2) reader false 0 (Some 7)

abbrev pub read : Lock
read = lock (first 2) reader false 0 None

-- the writer's first request: for a lock from a position on
abbrev pub ask_write : ℕ → Option ℕ → Request
ask_write at last = request writer 1 (Enqueue true at last)

abbrev pub ask_read : Request
ask_read = request reader 1 (Enqueue false 0 (Some 7))

abbrev pub put : Request
put = request writer 2 (Flush (first 1) hi)

-- the first page, which has these bytes alone
abbrev pub page : List ℕ → Answer
page seen = Content (padded bytes 4096) (Some 1) (among seen)

-- ---- beginnings of stories: the writer has its lock, which is granted on the whole object

abbrev pub has_lock : ℕ → Option ℕ → List Entry
has_lock at last =
    Hold written 0 (among [])
    ∷ Heard (ask_write at last) (Granted written 0 (among []))
    ∷ Send (Reply 1 writer 1 (Granted written 0 (among [])))
    ∷ Grant (ask_write at last) written 0 (among [])
    ∷ Send (Ask 1 (ask_write at last))
    ∷ Flies (ask_write at last)
    ∷ []

-- and is told its write
abbrev pub wrote : List Entry
wrote = Tells writer (Did (first 1) hi) ∷ has_lock 0 (Some 1)

-- the reader's lock waits, and the writer's is called back
abbrev pub called_back : List Entry
called_back =
    Send (Block 1 writer (first 1))
    ∷ Send (Reply 1 reader 1 (Waiting (first 2)))
    ∷ Wait ask_read waits
    ∷ Send (Ask 1 ask_read)
    ∷ Flies ask_read
    ∷ wrote

-- the writer writes its bytes back, and gives its lock back, so the reader's lock is granted
abbrev pub given_back : List Entry
given_back =
    Send (Give 1 read 2 (among (first 1 ∷ [])))
    ∷ Promote read
    ∷ Release (first 1)
    ∷ Send (Cancel 1 writer (first 1))
    ∷ Drop written
    ∷ Heard put (Done (first 1))
    ∷ Send (Reply 1 writer 2 (Done (first 1)))
    ∷ Txn (first 1) put
    ∷ Send (Ask 1 put)
    ∷ Flies put
    ∷ Takes writer (first 1) hi
    ∷ Heard ask_read (Waiting (first 2))
    ∷ called_back
