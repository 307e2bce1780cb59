-- A client that doesn't give back what it is asked for is evicted once its time is over: its call fails, its lock goes, and it joins in a
-- new life, in which it asks anew. At the object target the new life takes the place of the old one.
use Rattle.std.proofs.Common.{◌≡◌, ℕ, [], ◌∷◌, refl}
use Rattle.std.specs.Prelude.{List, codes}
use Rattle.lu_base.specs.declared.ids.At.{At}
use Rattle.lu_base.specs.declared.ids.Node.TheVariants.{Client, Target}
use Rattle.lu_base.specs.declared.locks.Cause.TheVariants.{Expired, Replaced}
use Rattle.lu_msg.specs.declared.answers.Answer.{Answer}
use Rattle.lu_msg.specs.declared.answers.Answer.TheVariants as answer
use Rattle.lu_msg.specs.declared.answers.Errno.TheVariants.{EIO, ENOENT}
use Rattle.lu_msg.specs.declared.calls.Call.TheVariants as call
use Rattle.lu_msg.specs.declared.messages.Message.{Message}
use Rattle.lu_msg.specs.declared.messages.Message.TheVariants as message
use Rattle.lu_msg.specs.declared.operations.Op.TheVariants as op
use Rattle.lu_scene.specs.declared.scene.Scene.{Scene}
use Rattle.lu_scene.specs.declared.scene.SceneLine.TheVariants.{Call, Run, Deliver, Lose, Tick}
use Rattle.lu_trace.specs.declared.entries.Entry.TheVariants as entry
use Rattle.lu_spec_laws.specs.Words.Pasts.{Past}
use Rattle.lu_spec_laws.proofs.Words as trace
use Rattle.lu_spec_laws.proofs.Words.{turn, who, life, first, made, request, reply, heard, txn, act, asks}
use Rattle.lu_proof_examples.proofs.Runs.Words.{with_head, trace_after}
use Rattle.lu_proof_examples.proofs.Runs.Locks.{a, mkdir, lookup, rmdir, zero_target, cookie, dir, lock, brings, block}

abbrev b : List (List ℕ)
b = codes "b" ∷ []

-- a reply without a transaction and without locks, once that many transactions are committed
abbrev refuses : (life : ℕ) → (xid committed : ℕ) → At → Answer → Message
refuses number xid committed at told =
    message.Reply (record {
      who = life 1 number;
      boot = 1;
      xid = record { 0 = xid };
      txn = record { 0 = 0 };
      committed = record { 0 = first committed };
      seen = [];
      at = at;
      locks = [];
      answer = told;
    })

-- the first client's reply, once one transaction is committed
abbrev removed : ℕ → At → Message
removed xid at =
    message.Reply (record {
      who = who 0;
      boot = 1;
      xid = record { 0 = xid };
      txn = record { 0 = first 2 };
      committed = record { 0 = first 1 };
      seen = [];
      at = at;
      locks = [];
      answer = answer.Done;
    })

abbrev pub expires : Scene
expires =
    record {
      head = record (with_head 2 1) { expire = 2 };
      lines =
          Call 0 0 (call.Mkdir a) ∷ Run ∷ Call 1 0 (call.Lookup a) ∷ Run ∷ Call 0 0 (call.Rmdir a) ∷ Deliver 5 ∷ Call 1 1 (call.Mkdir b)
          ∷ Lose 7
          ∷ Lose 6 ∷ Tick (Target 0) ∷ Lose 8 ∷ Tick (Target 0) ∷ Run ∷ Call 1 0 (call.Lookup a) ∷ Run ∷ [];
    }

abbrev pub expires_past : Past
expires_past =
    trace.client 21 1 (entry.Told 0 (turn 20 (Target 0)) (answer.Refused ENOENT))
    ∷ trace.client 21 1 (heard 0 1)
    ∷ trace.client 21 1 (entry.Take 17)
    ∷ trace.target 20 0 (entry.Send 17 (Client 1) (refuses 2 1 2 (turn 20 (Target 0)) (answer.Refused ENOENT)))
    ∷ trace.target 20 0 (entry.Act (life 1 2) (record { 0 = 1 }) (answer.Refused ENOENT))
    ∷ trace.target 20 0 (entry.Take 16)
    ∷ trace.client 19 1 (entry.Send 16 (Target 0) (asks (life 1 2) 1 1 0 lookup))
    ∷ trace.client 19 1 (entry.Begin 0 (call.Lookup a))
    ∷ trace.client 18 1 (entry.Take 15)
    ∷ trace.client 17 1 (entry.Take 14)
    ∷ trace.client 16 1 (entry.Take 13)
    ∷ trace.target 15 1 (entry.Send 15 (Client 1) (message.Ready (life 1 2) 1 (record { 0 = 0 })))
    ∷ trace.target 15 1 (entry.Joined (life 1 2))
    ∷ trace.target 15 1 (entry.Send 14 (Client 1) (message.Evicted (life 1 1) 1))
    ∷ trace.target 15 1 (entry.Evict (life 1 1) Replaced)
    ∷ trace.target 15 1 (entry.Commit (record { 0 = 0 }))
    ∷ trace.target 15 1 (entry.Take 12)
    ∷ trace.target 14 0 (entry.Send 13 (Client 1) (message.Ready (life 1 2) 1 (record { 0 = first 2 })))
    ∷ trace.target 14 0 (entry.Joined (life 1 2))
    ∷ trace.target 14 0 (entry.Commit (record { 0 = first 2 }))
    ∷ trace.target 14 0 (entry.Take 11)
    ∷ trace.client 13 0 (entry.Told 0 (turn 11 (Target 0)) answer.Done)
    ∷ trace.client 13 0 (heard 0 2)
    ∷ trace.client 13 0 (entry.Take 10)
    ∷ trace.client 12 1 (entry.Send 12 (Target 1) (message.Join (life 1 2) 1))
    ∷ trace.client 12 1 (entry.Send 11 (Target 0) (message.Join (life 1 2) 1))
    ∷ trace.client 12 1 (entry.Life (life 1 2))
    ∷ trace.client 12 1 (entry.Drop zero_target (cookie 1))
    ∷ trace.client 12 1 (entry.Told 1 (turn 12 (Client 1)) (answer.Refused EIO))
    ∷ trace.client 12 1 (entry.Take 9)
    ∷ trace.target 11 0 (entry.Send 10 (Client 0) (removed 2 (turn 11 (Target 0))))
    ∷ trace.target 11 0 (txn (first 2) 0 2 [] answer.Done)
    ∷ trace.target 11 0 (entry.Release (cookie 1))
    ∷ trace.target 11 0 (entry.Send 9 (Client 1) (message.Evicted (life 1 1) 1))
    ∷ trace.target 11 0 (entry.Evict (life 1 1) Expired)
    ∷ trace.target 11 0 (entry.Commit (record { 0 = first 1 }))
    ∷ trace.target 11 0 entry.Tick
    ∷ trace.target 10 0 (entry.Send 8 (Client 1) (block 1 1))
    ∷ trace.target 10 0 entry.Tick
    ∷ trace.client 9 1 (entry.Send 7 (Target 0) (request 1 2 0 (op.Mkdir b)))
    ∷ trace.client 9 1 (entry.Begin 1 (call.Mkdir b))
    ∷ trace.target 8 0 (entry.Send 6 (Client 1) (block 1 1))
    ∷ trace.target 8 0 (entry.Block (cookie 1))
    ∷ trace.target 8 0 (entry.Take 5)
    ∷ trace.client 7 0 (entry.Send 5 (Target 0) (request 0 2 0 rmdir))
    ∷ trace.client 7 0 (entry.Begin 0 (call.Rmdir a))
    ∷ trace.client 6 1 (entry.Told 0 (turn 5 (Target 0)) (dir 1))
    ∷ trace.client 6 1 (entry.Hold zero_target (cookie 1))
    ∷ trace.client 6 1 (heard 0 1)
    ∷ trace.client 6 1 (entry.Take 4)
    ∷ trace.target 5 0 (entry.Send 4 (Client 1) (brings 1 1 (first 1 ∷ []) (turn 5 (Target 0)) (lock 1 1 ∷ []) (dir 1)))
    ∷ trace.target 5 0 (entry.Grant (lock 1 1))
    ∷ trace.target 5 0 (act 1 1 (dir 1))
    ∷ trace.target 5 0 (entry.Take 3)
    ∷ trace.client 4 1 (entry.Send 3 (Target 0) (request 1 1 0 lookup))
    ∷ trace.client 4 1 (entry.Begin 0 (call.Lookup a))
    ∷ trace.client 3 0 (entry.Told 0 (turn 2 (Target 0)) (made 1))
    ∷ trace.client 3 0 (heard 0 1)
    ∷ trace.client 3 0 (entry.Take 2)
    ∷ trace.target 2 0 (entry.Send 2 (Client 0) (reply 0 1 (first 1) [] (turn 2 (Target 0)) (made 1)))
    ∷ trace.target 2 0 (txn (first 1) 0 1 [] (made 1))
    ∷ trace.target 2 0 (entry.Take 1)
    ∷ trace.client 1 0 (entry.Send 1 (Target 0) (request 0 1 0 mkdir))
    ∷ trace.client 1 0 (entry.Begin 0 (call.Mkdir a))
    ∷ []

pub expires_run : trace_after 50 expires ≡ expires_past
expires_run = refl
