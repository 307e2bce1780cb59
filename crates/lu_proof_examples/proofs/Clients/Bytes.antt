-- Computed: calls on bytes: locks, pages, changes and their write-back.
use Rattle.std.proofs.Common.{◌≡◌, [], ◌∷◌, Some, refl, pos}
use Rattle.std.specs.Prelude.{codes, replicate}
use Rattle.lu_base.specs.declared.locks.Mode.TheVariants as mode
use Rattle.lu_layout.specs.Raid0.{stripe_of, offset_of, position_of, greatest_end}
use Rattle.lu_lock.specs.Growth.{the_end}
use Rattle.lu_msg.specs.declared.answers.Answer.TheVariants as answer
use Rattle.lu_msg.specs.declared.calls.Call.TheVariants as call
use Rattle.lu_msg.specs.declared.messages.Message.TheVariants as message
use Rattle.lu_msg.specs.declared.operations.Op.TheVariants as op
use Rattle.lu_trace.specs.declared.entries.Entry.TheVariants as entry
use Rattle.lu_spec_client.specs.Played.{played}
use Rattle.lu_proof_examples.proofs.Clients.Words.{pair, fid, txn, cookie, life, client, target, extent, object, striped, on_inode, begins}
use Rattle.lu_proof_examples.proofs.Clients.Words.{comes, reply, grant, ask, asks, cancels, reports, heard, hold, drop, peek}

-- Two bytes are written under a lock to the end, and written back before the lock is given up.
pub write_then_read_c0 :
    played (record { osts = 1; flight = 1; dirty = 1048576; unused = 64 }) 0
    (begins 1 0 (call.Create (codes "f" ∷ []) (Some (1048576, (pos 1))))
    ∷ comes 3 2 0 (reply (life 0 1) 1 1 (txn 1 1) (txn 0 0) [] (target 2 0) [] (answer.Made (fid 1 1)))
    ∷ begins 4 0 (call.Open 0 (codes "f" ∷ []))
    ∷ comes 6 4 0 (reply (life 0 1) 1 2 (txn 1 2) (txn 0 0) (pair 1 1 ∷ []) (target 5 0) []
    (answer.OpenFile (fid 1 1) (txn 1 2) (striped 1048576 (1 ∷ []))))
    ∷ begins 10 0 (call.Write 0 0 (104 ∷ 105 ∷ []))
    ∷ comes 12 8 1 (reply (life 0 1) 1 1 (txn 0 0) (txn 0 0) [] (target 11 1) [] (answer.Granted (cookie 1 1) (extent 0 the_end) 0))
    ∷ comes 16 11 1 (message.Block (life 0 1) 1 (cookie 1 1))
    ∷ comes 18 13 1 (reply (life 0 1) 1 2 (txn 1 1) (txn 0 0) [] (target 17 1) [] answer.Done)
    ∷ [])
    ≡
    ((entry.Begin 0 (call.Create (codes "f" ∷ []) (Some (1048576, (pos 1))))
    ∷ asks 0 (life 0 1) 1 1 0 (op.Create (codes "f" ∷ []) 1048576 (pos 1)) ∷ [])
    ∷ (entry.Take 2 ∷ heard 0 1 ∷ entry.Told 0 (target 2 0) (answer.Made (fid 1 1)) ∷ [])
    ∷ (entry.Begin 0 (call.Open 0 (codes "f" ∷ [])) ∷ asks 0 (life 0 1) 1 2 0 (op.Open (codes "f" ∷ [])) ∷ [])
    ∷ (entry.Take 4 ∷ heard 0 2 ∷ entry.Told 0 (target 5 0) (answer.Made (fid 1 1)) ∷ [])
    ∷ (entry.Begin 0 (call.Write 0 0 (104 ∷ 105 ∷ [])) ∷ asks 1 (life 0 1) 1 1 0 (op.Enqueue (object 1 1 0) mode.PW (extent 0 1)) ∷ [])
    ∷ (entry.Take 8 ∷ heard 1 1 ∷ hold 1 (cookie 1 1) ∷ entry.Told 0 (client 12 0) answer.Done ∷ [])
    ∷ (entry.Take 11 ∷ asks 1 (life 0 1) 1 2 0 (op.Put (object 1 1 0) (cookie 1 1) 0 (104 ∷ 105 ∷ [])) ∷ [])
    ∷ (entry.Take 13 ∷ heard 1 2 ∷ drop 1 (cookie 1 1) ∷ cancels 1 (life 0 1) 1 (cookie 1 1) ∷ [])
    ∷ [])
unfolding stripe_of offset_of position_of greatest_end
write_then_read_c0 = refl

-- Who reads them waits for its lock, fetches the page, and is told.
pub write_then_read_c1 :
    played (record { osts = 1; flight = 1; dirty = 1048576; unused = 64 }) 1
    (begins 7 0 (call.Open 0 (codes "f" ∷ []))
    ∷ comes 9 6 0 (reply (life 1 1) 1 1 (txn 1 3) (txn 0 0) (pair 1 1 ∷ []) (target 8 0) []
    (answer.OpenFile (fid 1 1) (txn 1 3) (striped 1048576 (1 ∷ []))))
    ∷ begins 13 0 (call.Read 0 0 8)
    ∷ comes 15 10 1 (reply (life 1 1) 1 1 (txn 0 0) (txn 0 0) [] (target 14 1) [] (answer.Waiting (cookie 1 2)))
    ∷ comes 20 15 1 (grant (life 1 1) 1 (cookie 1 2) (extent 0 the_end) 2 (txn 0 0) (pair 1 1 ∷ []))
    ∷ comes 22 17 1 (reply (life 1 1) 1 2 (txn 0 0) (txn 0 0) (pair 1 1 ∷ []) (target 21 1) [] (answer.Content (104 ∷ 105 ∷ [])))
    ∷ [])
    ≡
    ((entry.Begin 0 (call.Open 0 (codes "f" ∷ [])) ∷ asks 0 (life 1 1) 1 1 0 (op.Open (codes "f" ∷ [])) ∷ [])
    ∷ (entry.Take 6 ∷ heard 0 1 ∷ entry.Told 0 (target 8 0) (answer.Made (fid 1 1)) ∷ [])
    ∷ (entry.Begin 0 (call.Read 0 0 8) ∷ asks 1 (life 1 1) 1 1 0 (op.Enqueue (object 1 1 0) mode.PR (extent 0 7)) ∷ [])
    ∷ (entry.Take 10 ∷ heard 1 1 ∷ [])
    ∷ (entry.Take 15 ∷ hold 1 (cookie 1 2) ∷ asks 1 (life 1 1) 1 2 0 (op.Get (object 1 1 0) (cookie 1 2) 0) ∷ [])
    ∷ (entry.Take 17 ∷ heard 1 2 ∷ entry.Told 0 (client 22 1) (answer.Content (104 ∷ 105 ∷ [])) ∷ [])
    ∷ [])
unfolding stripe_of offset_of position_of greatest_end
write_then_read_c1 = refl

-- A file over two objects is cut, made longer, read, cut again, and its size told.
pub striped_file_c0 :
    played (record { osts = 2; flight = 1; dirty = 1048576; unused = 64 }) 0
    (begins 1 0 (call.Create (codes "f" ∷ []) (Some (65536, (pos 2))))
    ∷ comes 3 2 0 (reply (life 0 1) 1 1 (txn 1 1) (txn 0 0) [] (target 2 0) [] (answer.Made (fid 1 1)))
    ∷ begins 4 0 (call.Open 0 (codes "f" ∷ []))
    ∷ comes 6 4 0 (reply (life 0 1) 1 2 (txn 1 2) (txn 0 0) (pair 1 1 ∷ []) (target 5 0) []
    (answer.OpenFile (fid 1 1) (txn 1 2) (striped 65536 (2 ∷ 1 ∷ []))))
    ∷ begins 7 0 (call.Cut 0 70000)
    ∷ comes 9 6 2 (reply (life 0 1) 1 1 (txn 0 0) (txn 0 0) [] (target 8 2) [] (answer.Granted (cookie 1 1) (extent 0 the_end) 0))
    ∷ comes 11 8 1 (reply (life 0 1) 1 1 (txn 0 0) (txn 0 0) [] (target 10 1) [] (answer.Granted (cookie 1 1) (extent 0 the_end) 0))
    ∷ begins 12 0 (call.Stat (codes "f" ∷ []))
    ∷ comes 14 10 0 (reply (life 0 1) 1 3 (txn 0 0) (txn 0 0) (pair 1 1 ∷ []) (target 13 0)
    (on_inode (life 0 1) (cookie 1 1) (fid 1 1) 7 ∷ [])
    (answer.FileStat (fid 1 1) 420 1 (striped 65536 (2 ∷ 1 ∷ []))))
    ∷ begins 15 0 (call.Read 0 69998 10)
    ∷ comes 17 12 1 (reply (life 0 1) 1 2 (txn 0 0) (txn 0 0) [] (target 16 1) [] (answer.Content []))
    ∷ begins 18 0 (call.Cut 0 3)
    ∷ begins 19 0 (call.Write 0 5 (97 ∷ 98 ∷ []))
    ∷ begins 20 0 (call.Read 0 0 100)
    ∷ comes 22 14 2 (reply (life 0 1) 1 2 (txn 0 0) (txn 0 0) [] (target 21 2) [] (answer.Content []))
    ∷ begins 23 0 (call.Cut 0 0)
    ∷ begins 24 0 (call.Read 0 0 1)
    ∷ begins 25 0 (call.Stat (codes "f" ∷ []))
    ∷ [])
    ≡
    ((entry.Begin 0 (call.Create (codes "f" ∷ []) (Some (65536, (pos 2))))
    ∷ asks 0 (life 0 1) 1 1 0 (op.Create (codes "f" ∷ []) 65536 (pos 2)) ∷ [])
    ∷ (entry.Take 2 ∷ heard 0 1 ∷ entry.Told 0 (target 2 0) (answer.Made (fid 1 1)) ∷ [])
    ∷ (entry.Begin 0 (call.Open 0 (codes "f" ∷ [])) ∷ asks 0 (life 0 1) 1 2 0 (op.Open (codes "f" ∷ [])) ∷ [])
    ∷ (entry.Take 4 ∷ heard 0 2 ∷ entry.Told 0 (target 5 0) (answer.Made (fid 1 1)) ∷ [])
    ∷ (entry.Begin 0 (call.Cut 0 70000) ∷ asks 2 (life 0 1) 1 1 0 (op.Enqueue (object 1 1 0) mode.PW (extent 65535 the_end)) ∷ [])
    ∷ (entry.Take 6 ∷ heard 2 1 ∷ hold 2 (cookie 1 1) ∷ asks 1 (life 0 1) 1 1 0 (op.Enqueue (object 1 1 1) mode.PW (extent 4463 the_end))
    ∷ [])
    ∷ (entry.Take 8 ∷ heard 1 1 ∷ hold 1 (cookie 1 1) ∷ entry.Told 0 (client 11 0) answer.Done ∷ [])
    ∷ (entry.Begin 0 (call.Stat (codes "f" ∷ [])) ∷ asks 0 (life 0 1) 1 3 0 (op.Stat (codes "f" ∷ [])) ∷ [])
    ∷ (entry.Take 10 ∷ heard 0 3 ∷ hold 0 (cookie 1 1) ∷ entry.Told 0 (client 14 0) (answer.FileSize (fid 1 1) 420 1 70000) ∷ [])
    ∷ (entry.Begin 0 (call.Read 0 69998 10) ∷ asks 1 (life 0 1) 1 2 0 (op.Get (object 1 1 1) (cookie 1 1) 1) ∷ [])
    ∷ (entry.Take 12 ∷ heard 1 2 ∷ entry.Told 0 (client 17 0) (answer.Content (replicate 2 0)) ∷ [])
    ∷ (entry.Begin 0 (call.Cut 0 3) ∷ entry.Told 0 (client 18 0) answer.Done ∷ [])
    ∷ (entry.Begin 0 (call.Write 0 5 (97 ∷ 98 ∷ [])) ∷ entry.Told 0 (client 19 0) answer.Done ∷ [])
    ∷ (entry.Begin 0 (call.Read 0 0 100) ∷ asks 2 (life 0 1) 1 2 0 (op.Get (object 1 1 0) (cookie 1 1) 0) ∷ [])
    ∷ (entry.Take 14 ∷ heard 2 2 ∷ entry.Told 0 (client 22 0) (answer.Content (0 ∷ 0 ∷ 0 ∷ 0 ∷ 0 ∷ 97 ∷ 98 ∷ [])) ∷ [])
    ∷ (entry.Begin 0 (call.Cut 0 0) ∷ entry.Told 0 (client 23 0) answer.Done ∷ [])
    ∷ (entry.Begin 0 (call.Read 0 0 1) ∷ entry.Told 0 (client 24 0) (answer.Content []) ∷ [])
    ∷ (entry.Begin 0 (call.Stat (codes "f" ∷ [])) ∷ entry.Told 0 (client 25 0) (answer.FileSize (fid 1 1) 420 1 0) ∷ [])
    ∷ [])
unfolding stripe_of offset_of position_of greatest_end
striped_file_c0 = refl

-- Bytes that are known are told again without a request.
pub known_bytes_c0 :
    played (record { osts = 1; flight = 1; dirty = 1048576; unused = 64 }) 0
    (begins 1 0 (call.Create (codes "f" ∷ []) (Some (1048576, (pos 1))))
    ∷ comes 3 2 0 (reply (life 0 1) 1 1 (txn 1 1) (txn 0 0) [] (target 2 0) [] (answer.Made (fid 1 1)))
    ∷ begins 4 0 (call.Open 0 (codes "f" ∷ []))
    ∷ comes 6 4 0 (reply (life 0 1) 1 2 (txn 1 2) (txn 0 0) (pair 1 1 ∷ []) (target 5 0) []
    (answer.OpenFile (fid 1 1) (txn 1 2) (striped 1048576 (1 ∷ []))))
    ∷ begins 7 0 (call.Write 0 0 (97 ∷ 98 ∷ 99 ∷ []))
    ∷ comes 9 6 1 (reply (life 0 1) 1 1 (txn 0 0) (txn 0 0) [] (target 8 1) [] (answer.Granted (cookie 1 1) (extent 0 the_end) 0))
    ∷ begins 10 0 (call.Read 0 0 3)
    ∷ begins 11 0 (call.Read 0 0 3)
    ∷ [])
    ≡
    ((entry.Begin 0 (call.Create (codes "f" ∷ []) (Some (1048576, (pos 1))))
    ∷ asks 0 (life 0 1) 1 1 0 (op.Create (codes "f" ∷ []) 1048576 (pos 1)) ∷ [])
    ∷ (entry.Take 2 ∷ heard 0 1 ∷ entry.Told 0 (target 2 0) (answer.Made (fid 1 1)) ∷ [])
    ∷ (entry.Begin 0 (call.Open 0 (codes "f" ∷ [])) ∷ asks 0 (life 0 1) 1 2 0 (op.Open (codes "f" ∷ [])) ∷ [])
    ∷ (entry.Take 4 ∷ heard 0 2 ∷ entry.Told 0 (target 5 0) (answer.Made (fid 1 1)) ∷ [])
    ∷ (entry.Begin 0 (call.Write 0 0 (97 ∷ 98 ∷ 99 ∷ [])) ∷ asks 1 (life 0 1) 1 1 0 (op.Enqueue (object 1 1 0) mode.PW (extent 0 2)) ∷ [])
    ∷ (entry.Take 6 ∷ heard 1 1 ∷ hold 1 (cookie 1 1) ∷ entry.Told 0 (client 9 0) answer.Done ∷ [])
    ∷ (entry.Begin 0 (call.Read 0 0 3) ∷ entry.Told 0 (client 10 0) (answer.Content (97 ∷ 98 ∷ 99 ∷ [])) ∷ [])
    ∷ (entry.Begin 0 (call.Read 0 0 3) ∷ entry.Told 0 (client 11 0) (answer.Content (97 ∷ 98 ∷ 99 ∷ [])) ∷ [])
    ∷ [])
unfolding stripe_of offset_of position_of greatest_end
known_bytes_c0 = refl

-- The holder of a lock to the end tells its size.
pub glimpse_c0 :
    played (record { osts = 1; flight = 1; dirty = 1048576; unused = 64 }) 0
    (begins 1 0 (call.Create (codes "f" ∷ []) (Some (1048576, (pos 1))))
    ∷ comes 3 2 0 (reply (life 0 1) 1 1 (txn 1 1) (txn 0 0) [] (target 2 0) [] (answer.Made (fid 1 1)))
    ∷ begins 4 0 (call.Open 0 (codes "f" ∷ []))
    ∷ comes 6 4 0 (reply (life 0 1) 1 2 (txn 1 2) (txn 0 0) (pair 1 1 ∷ []) (target 5 0) []
    (answer.OpenFile (fid 1 1) (txn 1 2) (striped 1048576 (1 ∷ []))))
    ∷ begins 10 0 (call.Write 0 0 (104 ∷ 105 ∷ []))
    ∷ comes 12 8 1 (reply (life 0 1) 1 1 (txn 0 0) (txn 0 0) [] (target 11 1) [] (answer.Granted (cookie 1 1) (extent 0 the_end) 0))
    ∷ comes 15 10 1 (ask (life 0 1) 1 (cookie 1 1) (life 1 1) 1)
    ∷ [])
    ≡
    ((entry.Begin 0 (call.Create (codes "f" ∷ []) (Some (1048576, (pos 1))))
    ∷ asks 0 (life 0 1) 1 1 0 (op.Create (codes "f" ∷ []) 1048576 (pos 1)) ∷ [])
    ∷ (entry.Take 2 ∷ heard 0 1 ∷ entry.Told 0 (target 2 0) (answer.Made (fid 1 1)) ∷ [])
    ∷ (entry.Begin 0 (call.Open 0 (codes "f" ∷ [])) ∷ asks 0 (life 0 1) 1 2 0 (op.Open (codes "f" ∷ [])) ∷ [])
    ∷ (entry.Take 4 ∷ heard 0 2 ∷ entry.Told 0 (target 5 0) (answer.Made (fid 1 1)) ∷ [])
    ∷ (entry.Begin 0 (call.Write 0 0 (104 ∷ 105 ∷ [])) ∷ asks 1 (life 0 1) 1 1 0 (op.Enqueue (object 1 1 0) mode.PW (extent 0 1)) ∷ [])
    ∷ (entry.Take 8 ∷ heard 1 1 ∷ hold 1 (cookie 1 1) ∷ entry.Told 0 (client 12 0) answer.Done ∷ [])
    ∷ (entry.Take 10 ∷ peek 1 (cookie 1 1) 2 ∷ reports 1 (life 0 1) 1 (cookie 1 1) (life 1 1) 1 (Some 2) 15 ∷ [])
    ∷ [])
unfolding stripe_of offset_of position_of greatest_end
glimpse_c0 = refl

-- A glimpse is told the holder's size.
pub glimpse_c1 :
    played (record { osts = 1; flight = 1; dirty = 1048576; unused = 64 }) 1
    (begins 7 0 (call.Open 0 (codes "f" ∷ []))
    ∷ comes 9 6 0 (reply (life 1 1) 1 1 (txn 1 3) (txn 0 0) (pair 1 1 ∷ []) (target 8 0) []
    (answer.OpenFile (fid 1 1) (txn 1 3) (striped 1048576 (1 ∷ []))))
    ∷ begins 13 0 (call.Glimpse 0)
    ∷ comes 17 12 1 (reply (life 1 1) 1 1 (txn 0 0) (txn 0 0) [] (client 15 0) [] (answer.Size 2))
    ∷ [])
    ≡
    ((entry.Begin 0 (call.Open 0 (codes "f" ∷ [])) ∷ asks 0 (life 1 1) 1 1 0 (op.Open (codes "f" ∷ [])) ∷ [])
    ∷ (entry.Take 6 ∷ heard 0 1 ∷ entry.Told 0 (target 8 0) (answer.Made (fid 1 1)) ∷ [])
    ∷ (entry.Begin 0 (call.Glimpse 0) ∷ asks 1 (life 1 1) 1 1 0 (op.Size (object 1 1 0)) ∷ [])
    ∷ (entry.Take 12 ∷ heard 1 1 ∷ entry.Told 0 (client 17 1) (answer.Sizes (2 ∷ [])) ∷ [])
    ∷ [])
unfolding stripe_of offset_of position_of greatest_end
glimpse_c1 = refl
