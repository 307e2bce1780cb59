-- Computed: targets that go down and come back; lives that end.
use Rattle.std.proofs.Common.{◌≡◌, [], ◌∷◌, Some, refl, pos}
use Rattle.std.specs.Prelude.{codes}
use Rattle.lu_base.specs.declared.locks.Mode.TheVariants as mode
use Rattle.lu_base.specs.declared.locks.Policy.TheVariants as policy
use Rattle.lu_layout.specs.Raid0.{stripe_of, offset_of, position_of, greatest_end}
use Rattle.lu_lock.specs.Growth.{the_end}
use Rattle.lu_msg.specs.declared.answers.Answer.TheVariants as answer
use Rattle.lu_msg.specs.declared.calls.Call.TheVariants as call
use Rattle.lu_msg.specs.declared.messages.Message.TheVariants as message
use Rattle.lu_msg.specs.declared.operations.Op.TheVariants as op
use Rattle.lu_trace.specs.declared.entries.Entry.TheVariants as entry
use Rattle.lu_spec_client.specs.Played.{played}
use Rattle.lu_proof_examples.proofs.Clients.Words.{pair, fid, txn, cookie, life, client, target, extent, object, striped, on_inode, begins}
use Rattle.lu_proof_examples.proofs.Clients.Words.{comes, reply, asks, cancels, replays, replays_lock, says, joins, heard, hold, drop}

-- What isn't committed is replayed, and the word says how many replays and locks there are.
pub both_recover_c0 :
    played (record { osts = 1; flight = 1; dirty = 1048576; unused = 64 }) 0
    (begins 1 0 (call.Mkdir (codes "a" ∷ []))
    ∷ comes 3 2 0 (reply (life 0 1) 1 1 (txn 1 1) (txn 0 0) [] (target 2 0) [] (answer.Made (fid 1 1)))
    ∷ comes 9 5 0 (message.Up 2)
    ∷ comes 15 11 0 (message.Ready (life 0 1) 2 (txn 1 2))
    ∷ begins 17 0 (call.List [])
    ∷ comes 19 14 0 (reply (life 0 1) 2 2 (txn 0 0) (txn 1 2) [] (target 18 0) (on_inode (life 0 1) (cookie 2 1) (fid 0 1) 2 ∷ [])
    (answer.Names (codes "a" ∷ codes "b" ∷ [])))
    ∷ [])
    ≡
    ((entry.Begin 0 (call.Mkdir (codes "a" ∷ [])) ∷ asks 0 (life 0 1) 1 1 0 (op.Mkdir (codes "a" ∷ [])) ∷ [])
    ∷ (entry.Take 2 ∷ heard 0 1 ∷ entry.Told 0 (target 2 0) (answer.Made (fid 1 1)) ∷ [])
    ∷ (entry.Take 5 ∷ replays 0 (life 0 1) 2 (txn 1 1) 1 0 [] (op.Mkdir (codes "a" ∷ [])) ∷ says 0 (life 0 1) 2 1 0 [] ∷ [])
    ∷ (entry.Take 11 ∷ [])
    ∷ (entry.Begin 0 (call.List []) ∷ asks 0 (life 0 1) 2 2 0 (op.List []) ∷ [])
    ∷ (entry.Take 14 ∷ heard 0 2 ∷ hold 0 (cookie 2 1) ∷ entry.Told 0 (target 18 0) (answer.Names (codes "a" ∷ codes "b" ∷ [])) ∷ [])
    ∷ [])
unfolding stripe_of offset_of position_of greatest_end
both_recover_c0 = refl

-- A client that saw what is lost is evicted: it joins in its next life, also where its old life is told off late.
pub absent_and_gap_c1 :
    played (record { osts = 1; flight = 1; dirty = 1048576; unused = 64 }) 1
    (begins 4 0 (call.Lookup (codes "a" ∷ []))
    ∷ comes 8 5 0
    (reply (life 1 1) 1 1 (txn 0 0) (txn 0 0) (pair 1 1 ∷ []) (target 6 0) (on_inode (life 1 1) (cookie 1 1) (fid 1 1) 1 ∷ [])
    (answer.Dir (fid 1 1)))
    ∷ comes 13 8 0 (message.Up 2)
    ∷ comes 20 15 0 (message.Evicted (life 1 1) 2)
    ∷ comes 24 19 0 (message.Ready (life 1 2) 2 (txn 1 2))
    ∷ comes 25 20 1 (message.Evicted (life 1 1) 1)
    ∷ comes 26 21 1 (message.Ready (life 1 2) 1 (txn 0 0))
    ∷ [])
    ≡
    ((entry.Begin 0 (call.Lookup (codes "a" ∷ [])) ∷ asks 0 (life 1 1) 1 1 0 (op.Lookup (codes "a" ∷ [])) ∷ [])
    ∷ (entry.Take 5 ∷ heard 0 1 ∷ hold 0 (cookie 1 1) ∷ entry.Told 0 (target 6 0) (answer.Dir (fid 1 1)) ∷ [])
    ∷ (entry.Take 8 ∷ replays_lock 0 (life 1 1) 2 (cookie 1 1) (object 1 1 0) mode.PR (policy.Bits 1)
    ∷ says 0 (life 1 1) 2 0 1 (pair 1 1 ∷ []) ∷ [])
    ∷ (entry.Take 15 ∷ drop 0 (cookie 1 1) ∷ entry.Life (life 1 2) ∷ joins 0 (life 1 2) 2 ∷ joins 1 (life 1 2) 1 ∷ [])
    ∷ (entry.Take 19 ∷ [])
    ∷ (entry.Take 20 ∷ [])
    ∷ (entry.Take 21 ∷ [])
    ∷ [])
unfolding stripe_of offset_of position_of greatest_end
absent_and_gap_c1 = refl

-- And the client that holds the lock: it is replayed.
pub old_grant_after_crash_c0 :
    played (record { osts = 1; flight = 1; dirty = 1048576; unused = 64 }) 0
    (begins 1 0 (call.Create (codes "f" ∷ []) (Some (1048576, (pos 1))))
    ∷ comes 3 2 0 (reply (life 0 1) 1 1 (txn 1 1) (txn 0 0) [] (target 2 0) [] (answer.Made (fid 1 1)))
    ∷ begins 4 0 (call.Open 0 (codes "f" ∷ []))
    ∷ comes 6 4 0 (reply (life 0 1) 1 2 (txn 1 2) (txn 0 0) (pair 1 1 ∷ []) (target 5 0) []
    (answer.OpenFile (fid 1 1) (txn 1 2) (striped 1048576 (1 ∷ []))))
    ∷ begins 10 0 (call.Write 0 0 (104 ∷ 105 ∷ []))
    ∷ comes 12 8 1 (reply (life 0 1) 1 1 (txn 0 0) (txn 0 0) [] (target 11 1) [] (answer.Granted (cookie 1 1) (extent 0 the_end) 0))
    ∷ comes 16 11 1 (message.Block (life 0 1) 1 (cookie 1 1))
    ∷ comes 18 13 1 (reply (life 0 1) 1 2 (txn 1 1) (txn 0 0) [] (target 17 1) [] answer.Done)
    ∷ comes 24 16 1 (message.Up 2)
    ∷ comes 28 21 1 (message.Ready (life 0 1) 2 (txn 1 1))
    ∷ [])
    ≡
    ((entry.Begin 0 (call.Create (codes "f" ∷ []) (Some (1048576, (pos 1))))
    ∷ asks 0 (life 0 1) 1 1 0 (op.Create (codes "f" ∷ []) 1048576 (pos 1)) ∷ [])
    ∷ (entry.Take 2 ∷ heard 0 1 ∷ entry.Told 0 (target 2 0) (answer.Made (fid 1 1)) ∷ [])
    ∷ (entry.Begin 0 (call.Open 0 (codes "f" ∷ [])) ∷ asks 0 (life 0 1) 1 2 0 (op.Open (codes "f" ∷ [])) ∷ [])
    ∷ (entry.Take 4 ∷ heard 0 2 ∷ entry.Told 0 (target 5 0) (answer.Made (fid 1 1)) ∷ [])
    ∷ (entry.Begin 0 (call.Write 0 0 (104 ∷ 105 ∷ [])) ∷ asks 1 (life 0 1) 1 1 0 (op.Enqueue (object 1 1 0) mode.PW (extent 0 1)) ∷ [])
    ∷ (entry.Take 8 ∷ heard 1 1 ∷ hold 1 (cookie 1 1) ∷ entry.Told 0 (client 12 0) answer.Done ∷ [])
    ∷ (entry.Take 11 ∷ asks 1 (life 0 1) 1 2 0 (op.Put (object 1 1 0) (cookie 1 1) 0 (104 ∷ 105 ∷ [])) ∷ [])
    ∷ (entry.Take 13 ∷ heard 1 2 ∷ drop 1 (cookie 1 1) ∷ cancels 1 (life 0 1) 1 (cookie 1 1) ∷ [])
    ∷ (entry.Take 16 ∷ replays 1 (life 0 1) 2 (txn 1 1) 2 0 [] (op.Put (object 1 1 0) (cookie 1 1) 0 (104 ∷ 105 ∷ []))
    ∷ says 1 (life 0 1) 2 1 0 [] ∷ [])
    ∷ (entry.Take 21 ∷ [])
    ∷ [])
unfolding stripe_of offset_of position_of greatest_end
old_grant_after_crash_c0 = refl

-- A client that doesn't give a lock back is evicted: its call ends, its locks go, its next life joins everywhere.
pub expired_holder_c0 :
    played (record { osts = 1; flight = 1; dirty = 1048576; unused = 64 }) 0
    (begins 1 0 (call.Create (codes "f" ∷ []) (Some (1048576, (pos 1))))
    ∷ comes 3 2 0 (reply (life 0 1) 1 1 (txn 1 1) (txn 0 0) [] (target 2 0) [] (answer.Made (fid 1 1)))
    ∷ begins 4 0 (call.Open 0 (codes "f" ∷ []))
    ∷ comes 6 4 0 (reply (life 0 1) 1 2 (txn 1 2) (txn 0 0) (pair 1 1 ∷ []) (target 5 0) []
    (answer.OpenFile (fid 1 1) (txn 1 2) (striped 1048576 (1 ∷ []))))
    ∷ begins 10 0 (call.Write 0 0 (104 ∷ 105 ∷ []))
    ∷ comes 12 8 1 (reply (life 0 1) 1 1 (txn 0 0) (txn 0 0) [] (target 11 1) [] (answer.Granted (cookie 1 1) (extent 0 the_end) 0))
    ∷ comes 18 13 1 (message.Evicted (life 0 1) 1)
    ∷ comes 22 17 0 (message.Evicted (life 0 1) 1)
    ∷ comes 23 18 0 (message.Ready (life 0 2) 1 (txn 1 3))
    ∷ comes 24 19 1 (message.Ready (life 0 2) 1 (txn 0 0))
    ∷ [])
    ≡
    ((entry.Begin 0 (call.Create (codes "f" ∷ []) (Some (1048576, (pos 1))))
    ∷ asks 0 (life 0 1) 1 1 0 (op.Create (codes "f" ∷ []) 1048576 (pos 1)) ∷ [])
    ∷ (entry.Take 2 ∷ heard 0 1 ∷ entry.Told 0 (target 2 0) (answer.Made (fid 1 1)) ∷ [])
    ∷ (entry.Begin 0 (call.Open 0 (codes "f" ∷ [])) ∷ asks 0 (life 0 1) 1 2 0 (op.Open (codes "f" ∷ [])) ∷ [])
    ∷ (entry.Take 4 ∷ heard 0 2 ∷ entry.Told 0 (target 5 0) (answer.Made (fid 1 1)) ∷ [])
    ∷ (entry.Begin 0 (call.Write 0 0 (104 ∷ 105 ∷ [])) ∷ asks 1 (life 0 1) 1 1 0 (op.Enqueue (object 1 1 0) mode.PW (extent 0 1)) ∷ [])
    ∷ (entry.Take 8 ∷ heard 1 1 ∷ hold 1 (cookie 1 1) ∷ entry.Told 0 (client 12 0) answer.Done ∷ [])
    ∷ (entry.Take 13 ∷ drop 1 (cookie 1 1) ∷ entry.Life (life 0 2) ∷ joins 0 (life 0 2) 1 ∷ joins 1 (life 0 2) 1 ∷ [])
    ∷ (entry.Take 17 ∷ [])
    ∷ (entry.Take 18 ∷ [])
    ∷ (entry.Take 19 ∷ [])
    ∷ [])
unfolding stripe_of offset_of position_of greatest_end
expired_holder_c0 = refl
