-- Locks on names: a name that is called back, a request that waits behind two readers, and what is told without asking anybody.
use Rattle.std.proofs.Common.{◌≡◌, ℕ, [], ◌∷◌, refl}
use Rattle.std.specs.Prelude.{List, codes}
use Rattle.lu_base.specs.declared.ids.At.{At}
use Rattle.lu_base.specs.declared.ids.Cookie.{Cookie}
use Rattle.lu_base.specs.declared.ids.Node.TheVariants.{Client, Target}
use Rattle.lu_base.specs.declared.ids.TargetId.{TargetId}
use Rattle.lu_base.specs.declared.locks.Lock.{Lock}
use Rattle.lu_base.specs.declared.locks.Mode.TheVariants.{PR}
use Rattle.lu_base.specs.declared.locks.Policy.TheVariants.{Bits}
use Rattle.lu_msg.specs.declared.answers.Answer.{Answer}
use Rattle.lu_msg.specs.declared.answers.Answer.TheVariants as answer
use Rattle.lu_msg.specs.declared.answers.Errno.TheVariants.{ENOENT}
use Rattle.lu_msg.specs.declared.calls.Call.TheVariants as call
use Rattle.lu_msg.specs.declared.messages.Message.{Message}
use Rattle.lu_msg.specs.declared.messages.Message.TheVariants as message
use Rattle.lu_msg.specs.declared.operations.Op.{Op}
use Rattle.lu_msg.specs.declared.operations.Op.TheVariants as op
use Rattle.lu_scene.specs.declared.scene.Scene.{Scene}
use Rattle.lu_scene.specs.declared.scene.SceneLine.TheVariants.{Call, Run, Deliver, Lose, Tick}
use Rattle.lu_trace.specs.declared.entries.Entry.TheVariants as entry
use Rattle.lu_spec_laws.specs.Words.Pasts.{Past}
use Rattle.lu_spec_laws.proofs.Rows.Names.{name_called_back_past}
use Rattle.lu_spec_laws.proofs.Words as trace
use Rattle.lu_spec_laws.proofs.Words.{turn, who, first, made, request, reply, heard, txn, act}
use Rattle.lu_proof_examples.proofs.Runs.Words.{with_head, trace_after}

abbrev pub a : List (List ℕ)
a = codes "a" ∷ []

abbrev pub mkdir : Op
mkdir = op.Mkdir a

abbrev pub lookup : Op
lookup = op.Lookup a

abbrev pub rmdir : Op
rmdir = op.Rmdir a

abbrev pub zero_target : TargetId
zero_target = record { 0 = 0 }

abbrev pub cookie : ℕ → Cookie
cookie count = record { 0 = first count }

abbrev pub dir : ℕ → Answer
dir count = answer.Dir (record { 0 = first count })

-- a client's lock on the name of the first directory
abbrev pub lock : (count c : ℕ) → Lock
lock count c =
    record {
      cookie = cookie count;
      resource = record { fid = record { 0 = first 1 }; stripe = 0 };
      ask =
          record { who = who c; mode = PR; policy = Bits 1 };
    }

-- a reply that brings locks
abbrev pub brings : ℕ → ℕ → List ℕ → At → List Lock → Answer → Message
brings c xid seen at locks told =
    message.Reply (record {
      who = who c;
      boot = 1;
      xid = record { 0 = xid };
      txn = record { 0 = 0 };
      committed = record { 0 = 0 };
      seen = seen;
      at = at;
      locks = locks;
      answer = told;
    })

abbrev pub block : (c count : ℕ) → Message
block c count = message.Block (who c) 1 (cookie count)

abbrev cancel : (c count : ℕ) → Message
cancel c count = message.Cancel (who c) 1 (cookie count)

-- ---- a name that one client has looked up is called back from it, since another removes the name

abbrev pub called_back : Scene
called_back = record {
  head = with_head 2 1;
  lines = Call 0 0 (call.Mkdir a) ∷ Run ∷ Call 1 0 (call.Lookup a) ∷ Run
      ∷ Call 0 0 (call.Rmdir a) ∷ Run ∷ [];
}

pub called_back_run : trace_after 20 called_back ≡ name_called_back_past
called_back_run = refl

-- ---- a name that is known is told in the turn of the begin, and so is the root; a callback that is lost is sent again at a tick

abbrev pub known : Scene
known =
    record {
      head = with_head 2 1;
      lines =
          Call 0 0 (call.Mkdir a) ∷ Run ∷ Call 1 0 (call.Lookup a) ∷ Run ∷ Call 1 0 (call.Lookup a) ∷ Call 1 0 (call.Lookup [])
          ∷ Call 0 0 (call.Rmdir a)
          ∷ Deliver 5 ∷ Lose 6 ∷ Tick (Target 0) ∷ Run ∷ [];
    }

abbrev pub known_past : Past
known_past =
    trace.client 14 0 (entry.Told 0 (turn 13 (Target 0)) answer.Done)
    ∷ trace.client 14 0 (heard 0 2)
    ∷ trace.client 14 0 (entry.Take 9)
    ∷ trace.target 13 0 (entry.Send 9 (Client 0) (reply 0 2 (first 2) (first 1 ∷ []) (turn 13 (Target 0)) answer.Done))
    ∷ trace.target 13 0 (txn (first 2) 0 2 (first 1 ∷ []) answer.Done)
    ∷ trace.target 13 0 (entry.Release (cookie 1))
    ∷ trace.target 13 0 (entry.Take 8)
    ∷ trace.client 12 1 (entry.Send 8 (Target 0) (cancel 1 1))
    ∷ trace.client 12 1 (entry.Drop zero_target (cookie 1))
    ∷ trace.client 12 1 (entry.Take 7)
    ∷ trace.target 11 0 (entry.Send 7 (Client 1) (block 1 1))
    ∷ trace.target 11 0 entry.Tick
    ∷ trace.target 10 0 (entry.Send 6 (Client 1) (block 1 1))
    ∷ trace.target 10 0 (entry.Block (cookie 1))
    ∷ trace.target 10 0 (entry.Take 5)
    ∷ trace.client 9 0 (entry.Send 5 (Target 0) (request 0 2 0 rmdir))
    ∷ trace.client 9 0 (entry.Begin 0 (call.Rmdir a))
    ∷ trace.client 8 1 (entry.Told 0 (turn 8 (Client 1)) (answer.Dir (record { 0 = 1 })))
    ∷ trace.client 8 1 (entry.Begin 0 (call.Lookup []))
    ∷ trace.client 7 1 (entry.Told 0 (turn 7 (Client 1)) (dir 1))
    ∷ trace.client 7 1 (entry.Begin 0 (call.Lookup a))
    ∷ trace.client 6 1 (entry.Told 0 (turn 5 (Target 0)) (dir 1))
    ∷ trace.client 6 1 (entry.Hold zero_target (cookie 1))
    ∷ trace.client 6 1 (heard 0 1)
    ∷ trace.client 6 1 (entry.Take 4)
    ∷ trace.target 5 0 (entry.Send 4 (Client 1) (brings 1 1 (first 1 ∷ []) (turn 5 (Target 0)) (lock 1 1 ∷ []) (dir 1)))
    ∷ trace.target 5 0 (entry.Grant (lock 1 1))
    ∷ trace.target 5 0 (act 1 1 (dir 1))
    ∷ trace.target 5 0 (entry.Take 3)
    ∷ trace.client 4 1 (entry.Send 3 (Target 0) (request 1 1 0 lookup))
    ∷ trace.client 4 1 (entry.Begin 0 (call.Lookup a))
    ∷ trace.client 3 0 (entry.Told 0 (turn 2 (Target 0)) (made 1))
    ∷ trace.client 3 0 (heard 0 1)
    ∷ trace.client 3 0 (entry.Take 2)
    ∷ trace.target 2 0 (entry.Send 2 (Client 0) (reply 0 1 (first 1) [] (turn 2 (Target 0)) (made 1)))
    ∷ trace.target 2 0 (txn (first 1) 0 1 [] (made 1))
    ∷ trace.target 2 0 (entry.Take 1)
    ∷ trace.client 1 0 (entry.Send 1 (Target 0) (request 0 1 0 mkdir))
    ∷ trace.client 1 0 (entry.Begin 0 (call.Mkdir a))
    ∷ []

pub known_run : trace_after 30 known ≡ known_past
known_run = refl

-- ---- a reading request that comes while one that changes names waits, waits behind it

abbrev pub behind : Scene
behind =
    record {
      head = with_head 3 1;
      lines =
          Call 0 0 (call.Mkdir a) ∷ Run ∷ Call 1 0 (call.Lookup a) ∷ Run ∷ Call 0 0 (call.Rmdir a) ∷ Deliver 5 ∷ Call 2 0 (call.Lookup a)
          ∷ Deliver 7
          ∷ Run ∷ [];
    }

abbrev pub behind_past : Past
behind_past =
    trace.client 14 2 (entry.Told 0 (turn 12 (Target 0)) (answer.Refused ENOENT))
    ∷ trace.client 14 2 (heard 0 1)
    ∷ trace.client 14 2 (entry.Take 10)
    ∷ trace.client 13 0 (entry.Told 0 (turn 12 (Target 0)) answer.Done)
    ∷ trace.client 13 0 (heard 0 2)
    ∷ trace.client 13 0 (entry.Take 9)
    ∷ trace.target 12 0 (entry.Send 10 (Client 2) (reply 2 1 0 (first 1 ∷ first 2 ∷ []) (turn 12 (Target 0)) (answer.Refused ENOENT)))
    ∷ trace.target 12 0 (act 2 1 (answer.Refused ENOENT))
    ∷ trace.target 12 0 (entry.Send 9 (Client 0) (reply 0 2 (first 2) (first 1 ∷ []) (turn 12 (Target 0)) answer.Done))
    ∷ trace.target 12 0 (txn (first 2) 0 2 (first 1 ∷ []) answer.Done)
    ∷ trace.target 12 0 (entry.Release (cookie 1))
    ∷ trace.target 12 0 (entry.Take 8)
    ∷ trace.client 11 1 (entry.Send 8 (Target 0) (cancel 1 1))
    ∷ trace.client 11 1 (entry.Drop zero_target (cookie 1))
    ∷ trace.client 11 1 (entry.Take 6)
    ∷ trace.target 10 0 (entry.Take 7)
    ∷ trace.client 9 2 (entry.Send 7 (Target 0) (request 2 1 0 lookup))
    ∷ trace.client 9 2 (entry.Begin 0 (call.Lookup a))
    ∷ trace.target 8 0 (entry.Send 6 (Client 1) (block 1 1))
    ∷ trace.target 8 0 (entry.Block (cookie 1))
    ∷ trace.target 8 0 (entry.Take 5)
    ∷ trace.client 7 0 (entry.Send 5 (Target 0) (request 0 2 0 rmdir))
    ∷ trace.client 7 0 (entry.Begin 0 (call.Rmdir a))
    ∷ trace.client 6 1 (entry.Told 0 (turn 5 (Target 0)) (dir 1))
    ∷ trace.client 6 1 (entry.Hold zero_target (cookie 1))
    ∷ trace.client 6 1 (heard 0 1)
    ∷ trace.client 6 1 (entry.Take 4)
    ∷ trace.target 5 0 (entry.Send 4 (Client 1) (brings 1 1 (first 1 ∷ []) (turn 5 (Target 0)) (lock 1 1 ∷ []) (dir 1)))
    ∷ trace.target 5 0 (entry.Grant (lock 1 1))
    ∷ trace.target 5 0 (act 1 1 (dir 1))
    ∷ trace.target 5 0 (entry.Take 3)
    ∷ trace.client 4 1 (entry.Send 3 (Target 0) (request 1 1 0 lookup))
    ∷ trace.client 4 1 (entry.Begin 0 (call.Lookup a))
    ∷ trace.client 3 0 (entry.Told 0 (turn 2 (Target 0)) (made 1))
    ∷ trace.client 3 0 (heard 0 1)
    ∷ trace.client 3 0 (entry.Take 2)
    ∷ trace.target 2 0 (entry.Send 2 (Client 0) (reply 0 1 (first 1) [] (turn 2 (Target 0)) (made 1)))
    ∷ trace.target 2 0 (txn (first 1) 0 1 [] (made 1))
    ∷ trace.target 2 0 (entry.Take 1)
    ∷ trace.client 1 0 (entry.Send 1 (Target 0) (request 0 1 0 mkdir))
    ∷ trace.client 1 0 (entry.Begin 0 (call.Mkdir a))
    ∷ []

pub behind_run : trace_after 30 behind ≡ behind_past
behind_run = refl
