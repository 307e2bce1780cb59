-- Computed: calls on names: what is asked, what is told, what is known under locks.
use Rattle.std.proofs.Common.{◌≡◌, [], ◌∷◌, refl}
use Rattle.std.specs.Prelude.{codes}
use Rattle.lu_layout.specs.Raid0.{stripe_of, offset_of, position_of, greatest_end}
use Rattle.lu_msg.specs.declared.answers.Answer.TheVariants as answer
use Rattle.lu_msg.specs.declared.answers.Errno.TheVariants as errno
use Rattle.lu_msg.specs.declared.calls.Call.TheVariants as call
use Rattle.lu_msg.specs.declared.messages.Message.TheVariants as message
use Rattle.lu_msg.specs.declared.operations.Op.TheVariants as op
use Rattle.lu_trace.specs.declared.entries.Entry.TheVariants as entry
use Rattle.lu_spec_client.specs.Played.{played}
use Rattle.lu_proof_examples.proofs.Clients.Words.{pair, fid, txn, cookie, life, client, target, on_inode, begins, comes, ticks, reply}
use Rattle.lu_proof_examples.proofs.Clients.Words.{asks, cancels, heard, hold, drop}

-- Three calls one after another: each asks, and is told with the turn of its act.
pub one_client_c0 :
    played (record { osts = 1; flight = 1; dirty = 1048576; unused = 64 }) 0
    (begins 1 0 (call.Mkdir (codes "a" ∷ []))
    ∷ comes 3 2 0 (reply (life 0 1) 1 1 (txn 1 1) (txn 0 0) [] (target 2 0) [] (answer.Made (fid 1 1)))
    ∷ begins 4 0 (call.Mkdir (codes "a" ∷ []))
    ∷ comes 6 4 0 (reply (life 0 1) 1 2 (txn 0 0) (txn 0 0) (pair 1 1 ∷ []) (target 5 0) [] (answer.Refused errno.EEXIST))
    ∷ begins 7 0 (call.Lookup (codes "b" ∷ []))
    ∷ comes 9 6 0 (reply (life 0 1) 1 3 (txn 0 0) (txn 0 0) [] (target 8 0) [] (answer.Refused errno.ENOENT))
    ∷ begins 10 0 (call.Rmdir (codes "a" ∷ []))
    ∷ comes 12 8 0 (reply (life 0 1) 1 4 (txn 1 2) (txn 0 0) (pair 1 1 ∷ []) (target 11 0) [] answer.Done)
    ∷ [])
    ≡
    ((entry.Begin 0 (call.Mkdir (codes "a" ∷ [])) ∷ asks 0 (life 0 1) 1 1 0 (op.Mkdir (codes "a" ∷ [])) ∷ [])
    ∷ (entry.Take 2 ∷ heard 0 1 ∷ entry.Told 0 (target 2 0) (answer.Made (fid 1 1)) ∷ [])
    ∷ (entry.Begin 0 (call.Mkdir (codes "a" ∷ [])) ∷ asks 0 (life 0 1) 1 2 0 (op.Mkdir (codes "a" ∷ [])) ∷ [])
    ∷ (entry.Take 4 ∷ heard 0 2 ∷ entry.Told 0 (target 5 0) (answer.Refused errno.EEXIST) ∷ [])
    ∷ (entry.Begin 0 (call.Lookup (codes "b" ∷ [])) ∷ asks 0 (life 0 1) 1 3 0 (op.Lookup (codes "b" ∷ [])) ∷ [])
    ∷ (entry.Take 6 ∷ heard 0 3 ∷ entry.Told 0 (target 8 0) (answer.Refused errno.ENOENT) ∷ [])
    ∷ (entry.Begin 0 (call.Rmdir (codes "a" ∷ [])) ∷ asks 0 (life 0 1) 1 4 0 (op.Rmdir (codes "a" ∷ [])) ∷ [])
    ∷ (entry.Take 8 ∷ heard 0 4 ∷ entry.Told 0 (target 11 0) answer.Done ∷ [])
    ∷ [])
unfolding stripe_of offset_of position_of greatest_end
one_client_c0 = refl

-- A name that was looked up is told again without a request, in the turn of its begin.
pub known_name_c0 :
    played (record { osts = 1; flight = 1; dirty = 1048576; unused = 64 }) 0
    (begins 1 0 (call.Mkdir (codes "a" ∷ []))
    ∷ comes 3 2 0 (reply (life 0 1) 1 1 (txn 1 1) (txn 0 0) [] (target 2 0) [] (answer.Made (fid 1 1)))
    ∷ begins 4 0 (call.Lookup (codes "a" ∷ []))
    ∷ comes 6 4 0
    (reply (life 0 1) 1 2 (txn 0 0) (txn 0 0) (pair 1 1 ∷ []) (target 5 0) (on_inode (life 0 1) (cookie 1 1) (fid 1 1) 1 ∷ [])
    (answer.Dir (fid 1 1)))
    ∷ begins 7 0 (call.Lookup (codes "a" ∷ []))
    ∷ [])
    ≡
    ((entry.Begin 0 (call.Mkdir (codes "a" ∷ [])) ∷ asks 0 (life 0 1) 1 1 0 (op.Mkdir (codes "a" ∷ [])) ∷ [])
    ∷ (entry.Take 2 ∷ heard 0 1 ∷ entry.Told 0 (target 2 0) (answer.Made (fid 1 1)) ∷ [])
    ∷ (entry.Begin 0 (call.Lookup (codes "a" ∷ [])) ∷ asks 0 (life 0 1) 1 2 0 (op.Lookup (codes "a" ∷ [])) ∷ [])
    ∷ (entry.Take 4 ∷ heard 0 2 ∷ hold 0 (cookie 1 1) ∷ entry.Told 0 (target 5 0) (answer.Dir (fid 1 1)) ∷ [])
    ∷ (entry.Begin 0 (call.Lookup (codes "a" ∷ [])) ∷ entry.Told 0 (client 7 0) (answer.Dir (fid 1 1)) ∷ [])
    ∷ [])
unfolding stripe_of offset_of position_of greatest_end
known_name_c0 = refl

-- The lock of a known name is called back: it is given up at once.
pub name_called_back_c1 :
    played (record { osts = 1; flight = 1; dirty = 1048576; unused = 64 }) 1
    (begins 4 0 (call.Lookup (codes "a" ∷ []))
    ∷ comes 6 4 0
    (reply (life 1 1) 1 1 (txn 0 0) (txn 0 0) (pair 1 1 ∷ []) (target 5 0) (on_inode (life 1 1) (cookie 1 1) (fid 1 1) 1 ∷ [])
    (answer.Dir (fid 1 1)))
    ∷ comes 9 6 0 (message.Block (life 1 1) 1 (cookie 1 1))
    ∷ [])
    ≡
    ((entry.Begin 0 (call.Lookup (codes "a" ∷ [])) ∷ asks 0 (life 1 1) 1 1 0 (op.Lookup (codes "a" ∷ [])) ∷ [])
    ∷ (entry.Take 4 ∷ heard 0 1 ∷ hold 0 (cookie 1 1) ∷ entry.Told 0 (target 5 0) (answer.Dir (fid 1 1)) ∷ [])
    ∷ (entry.Take 6 ∷ drop 0 (cookie 1 1) ∷ cancels 0 (life 1 1) 1 (cookie 1 1) ∷ [])
    ∷ [])
unfolding stripe_of offset_of position_of greatest_end
name_called_back_c1 = refl

-- Above the limit of unused locks the least recently used is given up, in the turn that holds another.
pub unused_limit_c0 :
    played (record { osts = 1; flight = 1; dirty = 1048576; unused = 1 }) 0
    (begins 1 0 (call.Mkdir (codes "a" ∷ []))
    ∷ comes 3 2 0 (reply (life 0 1) 1 1 (txn 1 1) (txn 0 0) [] (target 2 0) [] (answer.Made (fid 1 1)))
    ∷ begins 4 0 (call.Mkdir (codes "b" ∷ []))
    ∷ comes 6 4 0 (reply (life 0 1) 1 2 (txn 1 2) (txn 0 0) [] (target 5 0) [] (answer.Made (fid 1 2)))
    ∷ begins 7 0 (call.Lookup (codes "a" ∷ []))
    ∷ comes 9 6 0
    (reply (life 0 1) 1 3 (txn 0 0) (txn 0 0) (pair 1 1 ∷ []) (target 8 0) (on_inode (life 0 1) (cookie 1 1) (fid 1 1) 1 ∷ [])
    (answer.Dir (fid 1 1)))
    ∷ begins 10 0 (call.Lookup (codes "b" ∷ []))
    ∷ comes 12 8 0
    (reply (life 0 1) 1 4 (txn 0 0) (txn 0 0) (pair 1 2 ∷ []) (target 11 0) (on_inode (life 0 1) (cookie 1 2) (fid 1 2) 1 ∷ [])
    (answer.Dir (fid 1 2)))
    ∷ [])
    ≡
    ((entry.Begin 0 (call.Mkdir (codes "a" ∷ [])) ∷ asks 0 (life 0 1) 1 1 0 (op.Mkdir (codes "a" ∷ [])) ∷ [])
    ∷ (entry.Take 2 ∷ heard 0 1 ∷ entry.Told 0 (target 2 0) (answer.Made (fid 1 1)) ∷ [])
    ∷ (entry.Begin 0 (call.Mkdir (codes "b" ∷ [])) ∷ asks 0 (life 0 1) 1 2 0 (op.Mkdir (codes "b" ∷ [])) ∷ [])
    ∷ (entry.Take 4 ∷ heard 0 2 ∷ entry.Told 0 (target 5 0) (answer.Made (fid 1 2)) ∷ [])
    ∷ (entry.Begin 0 (call.Lookup (codes "a" ∷ [])) ∷ asks 0 (life 0 1) 1 3 0 (op.Lookup (codes "a" ∷ [])) ∷ [])
    ∷ (entry.Take 6 ∷ heard 0 3 ∷ hold 0 (cookie 1 1) ∷ entry.Told 0 (target 8 0) (answer.Dir (fid 1 1)) ∷ [])
    ∷ (entry.Begin 0 (call.Lookup (codes "b" ∷ [])) ∷ asks 0 (life 0 1) 1 4 0 (op.Lookup (codes "b" ∷ [])) ∷ [])
    ∷ (entry.Take 8 ∷ heard 0 4 ∷ hold 0 (cookie 1 2) ∷ entry.Told 0 (target 11 0) (answer.Dir (fid 1 2)) ∷ drop 0 (cookie 1 1)
    ∷ cancels 0 (life 0 1) 1 (cookie 1 1) ∷ [])
    ∷ [])
unfolding stripe_of offset_of position_of greatest_end
unused_limit_c0 = refl

-- A tick sends a request in flight again; a reply that comes twice is heard once.
pub lost_reply_resent_c0 :
    played (record { osts = 1; flight = 1; dirty = 1048576; unused = 64 }) 0
    (begins 1 0 (call.Mkdir (codes "a" ∷ []))
    ∷ ticks 4
    ∷ comes 6 5 0 (reply (life 0 1) 1 1 (txn 1 1) (txn 0 0) [] (target 2 0) [] (answer.Made (fid 1 1)))
    ∷ [])
    ≡
    ((entry.Begin 0 (call.Mkdir (codes "a" ∷ [])) ∷ asks 0 (life 0 1) 1 1 0 (op.Mkdir (codes "a" ∷ [])) ∷ [])
    ∷ (entry.Tick ∷ asks 0 (life 0 1) 1 1 0 (op.Mkdir (codes "a" ∷ [])) ∷ [])
    ∷ (entry.Take 5 ∷ heard 0 1 ∷ entry.Told 0 (target 2 0) (answer.Made (fid 1 1)) ∷ [])
    ∷ [])
unfolding stripe_of offset_of position_of greatest_end
lost_reply_resent_c0 = refl
