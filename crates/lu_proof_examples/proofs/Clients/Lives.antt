-- Computed: small ones, most of them by hand: what outlives what, in which order, and who is told what.
use Rattle.std.proofs.Common.{◌≡◌, [], ◌∷◌, refl}
use Rattle.std.specs.Prelude.{codes}
use Rattle.lu_base.specs.declared.locks.Mode.TheVariants as mode
use Rattle.lu_base.specs.declared.locks.Policy.TheVariants as policy
use Rattle.lu_layout.specs.Raid0.{stripe_of, offset_of, position_of, greatest_end}
use Rattle.lu_lock.specs.Growth.{the_end}
use Rattle.lu_msg.specs.declared.answers.Answer.TheVariants as answer
use Rattle.lu_msg.specs.declared.answers.Errno.TheVariants as errno
use Rattle.lu_msg.specs.declared.calls.Call.TheVariants as call
use Rattle.lu_msg.specs.declared.messages.Message.TheVariants as message
use Rattle.lu_msg.specs.declared.operations.Op.TheVariants as op
use Rattle.lu_trace.specs.declared.entries.Entry.TheVariants as entry
use Rattle.lu_spec_client.specs.Played.{played}
use Rattle.lu_proof_examples.proofs.Clients.Words.{pair, fid, txn, cookie, life, client, target, extent, object, striped, begins, comes}
use Rattle.lu_proof_examples.proofs.Clients.Words.{reply, grant, asks, replays_lock, says, joins, heard, hold, drop}

-- A grant teaches what it saw and what is committed, and `ready` what is committed; what is committed is forgotten.
pub seen_and_committed_c0 :
    played (record { osts = 1; flight = 1; dirty = 1048576; unused = 64 }) 0
    (begins 1 0 (call.Open 0 (codes "f" ∷ []))
    ∷ comes 3 2 0 (reply (life 0 1) 1 1 (txn 1 2) (txn 0 0) (pair 1 1 ∷ []) (target 2 0) []
    (answer.OpenFile (fid 1 1) (txn 1 2) (striped 1048576 (1 ∷ []))))
    ∷ begins 4 0 (call.Write 0 0 (97 ∷ []))
    ∷ comes 6 4 1 (reply (life 0 1) 1 1 (txn 0 0) (txn 0 0) (pair 1 6 ∷ []) (target 5 1) [] (answer.Waiting (cookie 1 5)))
    ∷ comes 8 5 1 (grant (life 0 1) 1 (cookie 1 5) (extent 0 the_end) 0 (txn 1 6) (pair 1 7 ∷ []))
    ∷ comes 10 6 1 (message.Up 2)
    ∷ comes 12 9 1 (message.Ready (life 0 1) 2 (txn 1 7))
    ∷ comes 14 10 1 (message.Up 3)
    ∷ [])
    ≡
    ((entry.Begin 0 (call.Open 0 (codes "f" ∷ [])) ∷ asks 0 (life 0 1) 1 1 0 (op.Open (codes "f" ∷ [])) ∷ [])
    ∷ (entry.Take 2 ∷ heard 0 1 ∷ entry.Told 0 (target 2 0) (answer.Made (fid 1 1)) ∷ [])
    ∷ (entry.Begin 0 (call.Write 0 0 (97 ∷ [])) ∷ asks 1 (life 0 1) 1 1 0 (op.Enqueue (object 1 1 0) mode.PW (extent 0 0)) ∷ [])
    ∷ (entry.Take 4 ∷ heard 1 1 ∷ [])
    ∷ (entry.Take 5 ∷ hold 1 (cookie 1 5) ∷ entry.Told 0 (client 8 0) answer.Done ∷ [])
    ∷ (entry.Take 6 ∷ replays_lock 1 (life 0 1) 2 (cookie 1 5) (object 1 1 0) mode.PW (policy.Range (extent 0 the_end))
    ∷ says 1 (life 0 1) 2 0 1 (pair 1 7 ∷ []) ∷ [])
    ∷ (entry.Take 9 ∷ [])
    ∷ (entry.Take 10 ∷ replays_lock 1 (life 0 1) 3 (cookie 1 5) (object 1 1 0) mode.PW (policy.Range (extent 0 the_end))
    ∷ says 1 (life 0 1) 3 0 1 [] ∷ [])
    ∷ [])
unfolding stripe_of offset_of position_of greatest_end
seen_and_committed_c0 = refl

-- No handle, queued request, replay, number seen or change of bytes outlives its life.
pub nothing_outlives_a_life_c0 :
    played (record { osts = 1; flight = 1; dirty = 1048576; unused = 64 }) 0
    (begins 1 0 (call.Open 0 (codes "f" ∷ []))
    ∷ comes 3 2 0 (reply (life 0 1) 1 1 (txn 1 2) (txn 0 0) (pair 1 1 ∷ []) (target 2 0) []
    (answer.OpenFile (fid 1 1) (txn 1 2) (striped 1048576 (1 ∷ []))))
    ∷ begins 4 0 (call.Write 0 0 (1 ∷ 2 ∷ 3 ∷ 4 ∷ 5 ∷ []))
    ∷ comes 6 4 1 (reply (life 0 1) 1 1 (txn 0 0) (txn 0 0) [] (target 5 1) [] (answer.Granted (cookie 1 1) (extent 0 the_end) 0))
    ∷ begins 7 1 (call.Mkdir (codes "a" ∷ []))
    ∷ begins 8 2 (call.Mkdir (codes "b" ∷ []))
    ∷ comes 10 6 0 (message.Evicted (life 0 1) 1)
    ∷ comes 12 9 0 (message.Ready (life 0 2) 1 (txn 0 0))
    ∷ comes 14 10 1 (message.Ready (life 0 2) 1 (txn 0 0))
    ∷ comes 16 11 0 (message.Up 2)
    ∷ comes 18 13 0 (message.Ready (life 0 2) 2 (txn 0 0))
    ∷ begins 19 0 (call.Read 0 0 5)
    ∷ begins 20 0 (call.Open 0 (codes "f" ∷ []))
    ∷ comes 22 15 0 (reply (life 0 2) 2 1 (txn 2 1) (txn 0 0) [] (target 21 0) []
    (answer.OpenFile (fid 1 1) (txn 2 1) (striped 1048576 (1 ∷ []))))
    ∷ begins 23 0 (call.Read 0 0 5)
    ∷ comes 25 17 1 (reply (life 0 2) 1 1 (txn 0 0) (txn 0 0) [] (target 24 1) [] (answer.Granted (cookie 1 2) (extent 0 the_end) 1))
    ∷ comes 27 19 1 (reply (life 0 2) 1 2 (txn 0 0) (txn 0 0) [] (target 26 1) [] (answer.Content (98 ∷ [])))
    ∷ [])
    ≡
    ((entry.Begin 0 (call.Open 0 (codes "f" ∷ [])) ∷ asks 0 (life 0 1) 1 1 0 (op.Open (codes "f" ∷ [])) ∷ [])
    ∷ (entry.Take 2 ∷ heard 0 1 ∷ entry.Told 0 (target 2 0) (answer.Made (fid 1 1)) ∷ [])
    ∷ (entry.Begin 0 (call.Write 0 0 (1 ∷ 2 ∷ 3 ∷ 4 ∷ 5 ∷ [])) ∷ asks 1 (life 0 1) 1 1 0 (op.Enqueue (object 1 1 0) mode.PW (extent 0 4))
    ∷ [])
    ∷ (entry.Take 4 ∷ heard 1 1 ∷ hold 1 (cookie 1 1) ∷ entry.Told 0 (client 6 0) answer.Done ∷ [])
    ∷ (entry.Begin 1 (call.Mkdir (codes "a" ∷ [])) ∷ asks 0 (life 0 1) 1 2 0 (op.Mkdir (codes "a" ∷ [])) ∷ [])
    ∷ (entry.Begin 2 (call.Mkdir (codes "b" ∷ [])) ∷ [])
    ∷ (entry.Take 6 ∷ entry.Told 1 (client 10 0) (answer.Refused errno.EIO) ∷ entry.Told 2 (client 10 0) (answer.Refused errno.EIO)
    ∷ drop 1 (cookie 1 1)
    ∷ entry.Life (life 0 2) ∷ joins 0 (life 0 2) 1 ∷ joins 1 (life 0 2) 1 ∷ [])
    ∷ (entry.Take 9 ∷ [])
    ∷ (entry.Take 10 ∷ [])
    ∷ (entry.Take 11 ∷ says 0 (life 0 2) 2 0 0 [] ∷ [])
    ∷ (entry.Take 13 ∷ [])
    ∷ (entry.Begin 0 (call.Read 0 0 5) ∷ entry.Told 0 (client 19 0) (answer.Refused errno.EBADF) ∷ [])
    ∷ (entry.Begin 0 (call.Open 0 (codes "f" ∷ [])) ∷ asks 0 (life 0 2) 2 1 0 (op.Open (codes "f" ∷ [])) ∷ [])
    ∷ (entry.Take 15 ∷ heard 0 1 ∷ entry.Told 0 (target 21 0) (answer.Made (fid 1 1)) ∷ [])
    ∷ (entry.Begin 0 (call.Read 0 0 5) ∷ asks 1 (life 0 2) 1 1 0 (op.Enqueue (object 1 1 0) mode.PR (extent 0 4)) ∷ [])
    ∷ (entry.Take 17 ∷ heard 1 1 ∷ hold 1 (cookie 1 2) ∷ asks 1 (life 0 2) 1 2 0 (op.Get (object 1 1 0) (cookie 1 2) 0) ∷ [])
    ∷ (entry.Take 19 ∷ heard 1 2 ∷ entry.Told 0 (client 27 0) (answer.Content (98 ∷ [])) ∷ [])
    ∷ [])
unfolding stripe_of offset_of position_of greatest_end
nothing_outlives_a_life_c0 = refl

-- A byte that is written again while it flies is written back again, also with the same value.
pub written_again_while_it_flies_c0 :
    played (record { osts = 1; flight = 1; dirty = 1048576; unused = 64 }) 0
    (begins 1 0 (call.Open 0 (codes "f" ∷ []))
    ∷ comes 3 2 0 (reply (life 0 1) 1 1 (txn 1 2) (txn 0 0) (pair 1 1 ∷ []) (target 2 0) []
    (answer.OpenFile (fid 1 1) (txn 1 2) (striped 1048576 (1 ∷ []))))
    ∷ begins 4 0 (call.Write 0 0 (1 ∷ 2 ∷ 3 ∷ 4 ∷ 5 ∷ []))
    ∷ comes 6 4 1 (reply (life 0 1) 1 1 (txn 0 0) (txn 0 0) [] (target 5 1) [] (answer.Granted (cookie 1 1) (extent 0 the_end) 0))
    ∷ begins 7 0 (call.Flush 0)
    ∷ begins 8 1 (call.Write 0 2 (3 ∷ []))
    ∷ comes 10 6 1 (reply (life 0 1) 1 2 (txn 1 1) (txn 0 0) [] (target 9 1) [] answer.Done)
    ∷ comes 12 8 1 (reply (life 0 1) 1 3 (txn 1 2) (txn 0 0) [] (target 11 1) [] answer.Done)
    ∷ [])
    ≡
    ((entry.Begin 0 (call.Open 0 (codes "f" ∷ [])) ∷ asks 0 (life 0 1) 1 1 0 (op.Open (codes "f" ∷ [])) ∷ [])
    ∷ (entry.Take 2 ∷ heard 0 1 ∷ entry.Told 0 (target 2 0) (answer.Made (fid 1 1)) ∷ [])
    ∷ (entry.Begin 0 (call.Write 0 0 (1 ∷ 2 ∷ 3 ∷ 4 ∷ 5 ∷ [])) ∷ asks 1 (life 0 1) 1 1 0 (op.Enqueue (object 1 1 0) mode.PW (extent 0 4))
    ∷ [])
    ∷ (entry.Take 4 ∷ heard 1 1 ∷ hold 1 (cookie 1 1) ∷ entry.Told 0 (client 6 0) answer.Done ∷ [])
    ∷ (entry.Begin 0 (call.Flush 0) ∷ asks 1 (life 0 1) 1 2 0 (op.Put (object 1 1 0) (cookie 1 1) 0 (1 ∷ 2 ∷ 3 ∷ 4 ∷ 5 ∷ [])) ∷ [])
    ∷ (entry.Begin 1 (call.Write 0 2 (3 ∷ [])) ∷ entry.Told 1 (client 8 0) answer.Done ∷ [])
    ∷ (entry.Take 6 ∷ heard 1 2 ∷ asks 1 (life 0 1) 1 3 0 (op.Put (object 1 1 0) (cookie 1 1) 2 (3 ∷ [])) ∷ [])
    ∷ (entry.Take 8 ∷ heard 1 3 ∷ entry.Told 0 (client 12 0) answer.Done ∷ [])
    ∷ [])
unfolding stripe_of offset_of position_of greatest_end
written_again_while_it_flies_c0 = refl
