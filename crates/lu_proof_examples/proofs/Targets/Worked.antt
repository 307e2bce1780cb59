-- Worked scenarios: what each target does in one, and the lines that are printed of it.
use Rattle.std.proofs.Common.{◌≡◌, List, [], ◌∷◌, Some, refl}
use Rattle.std.specs.Prelude.{codes}
use Rattle.lu_base.specs.declared.locks.Cause.TheVariants.{Expired}
use Rattle.lu_base.specs.declared.locks.Mode.TheVariants.{PR, PW}
use Rattle.lu_base.specs.declared.locks.Policy.TheVariants.{Range}
use Rattle.lu_msg.specs.declared.answers.Answer.TheVariants as answer
use Rattle.lu_msg.specs.declared.answers.Errno.TheVariants as errno
use Rattle.lu_msg.specs.declared.messages.Message.TheVariants as message
use Rattle.lu_msg.specs.declared.operations.Op.TheVariants as op
use Rattle.lu_trace.specs.declared.entries.Entry.TheVariants as entry
use Rattle.lu_spec_target.specs.Rows.{Ticks}
use Rattle.lu_proof_examples.proofs.Targets.Words.{pair, fid, txn, cookie, life, client_turn, target_turn, object, from, onward, lock, bits}
use Rattle.lu_proof_examples.proofs.Targets.Words.{request, size, reply, grant, ask, send, act, transaction, comes, Turn, made}
use Rattle.lu_proof_examples.proofs.Targets.Words.{all_lines, played}

-- One client makes a directory twice, looks for another and removes the first.
abbrev one_client_target_0_turns : List Turn
one_client_target_0_turns =
    made 2 (comes 1 0 (request (life 0 1) 1 1 0 (op.Mkdir ((codes "a") ∷ [])))) (
    entry.Take 1 ∷
    transaction (txn 1 1) (life 0 1) 1 [] (answer.Made (fid 1 1)) ∷
    send 0 (reply (life 0 1) 1 1 (txn 1 1) (txn 0 0) [] (target_turn 0 2) [] (answer.Made (fid 1 1))) ∷
    []) ∷
    made 5 (comes 3 0 (request (life 0 1) 1 2 0 (op.Mkdir ((codes "a") ∷ [])))) (
    entry.Take 3 ∷
    act (life 0 1) 2 (answer.Refused errno.EEXIST) ∷
    send 0 (reply (life 0 1) 1 2 (txn 0 0) (txn 0 0) (pair 1 1 ∷ []) (target_turn 0 5) [] (answer.Refused errno.EEXIST)) ∷
    []) ∷
    made 8 (comes 5 0 (request (life 0 1) 1 3 0 (op.Lookup ((codes "b") ∷ [])))) (
    entry.Take 5 ∷
    act (life 0 1) 3 (answer.Refused errno.ENOENT) ∷
    send 0 (reply (life 0 1) 1 3 (txn 0 0) (txn 0 0) [] (target_turn 0 8) [] (answer.Refused errno.ENOENT)) ∷
    []) ∷
    made 11 (comes 7 0 (request (life 0 1) 1 4 0 (op.Rmdir ((codes "a") ∷ [])))) (
    entry.Take 7 ∷
    transaction (txn 1 2) (life 0 1) 4 (pair 1 1 ∷ []) answer.Done ∷
    send 0 (reply (life 0 1) 1 4 (txn 1 2) (txn 0 0) (pair 1 1 ∷ []) (target_turn 0 11) [] answer.Done) ∷
    []) ∷
    []

pub one_client_target_0 : played 0 1 1 8 one_client_target_0_turns ≡ all_lines one_client_target_0_turns
one_client_target_0 = refl

-- A request comes again: its kept reply is sent again, and it makes one transaction.
abbrev lost_reply_resent_target_0_turns : List Turn
lost_reply_resent_target_0_turns =
    made 2 (comes 1 0 (request (life 0 1) 1 1 0 (op.Mkdir ((codes "a") ∷ [])))) (
    entry.Take 1 ∷
    transaction (txn 1 1) (life 0 1) 1 [] (answer.Made (fid 1 1)) ∷
    send 0 (reply (life 0 1) 1 1 (txn 1 1) (txn 0 0) [] (target_turn 0 2) [] (answer.Made (fid 1 1))) ∷
    []) ∷
    made 3 (comes 1 0 (request (life 0 1) 1 1 0 (op.Mkdir ((codes "a") ∷ [])))) (
    entry.Take 1 ∷
    send 0 (reply (life 0 1) 1 1 (txn 1 1) (txn 0 0) [] (target_turn 0 2) [] (answer.Made (fid 1 1))) ∷
    []) ∷
    made 5 (comes 4 0 (request (life 0 1) 1 1 0 (op.Mkdir ((codes "a") ∷ [])))) (
    entry.Take 4 ∷
    send 0 (reply (life 0 1) 1 1 (txn 1 1) (txn 0 0) [] (target_turn 0 2) [] (answer.Made (fid 1 1))) ∷
    []) ∷
    []

pub lost_reply_resent_target_0 : played 0 1 1 8 lost_reply_resent_target_0_turns ≡ all_lines lost_reply_resent_target_0_turns
lost_reply_resent_target_0 = refl

-- A change of a name waits until the lock on it was given back.
abbrev name_called_back_target_0_turns : List Turn
name_called_back_target_0_turns =
    made 2 (comes 1 0 (request (life 0 1) 1 1 0 (op.Mkdir ((codes "a") ∷ [])))) (
    entry.Take 1 ∷
    transaction (txn 1 1) (life 0 1) 1 [] (answer.Made (fid 1 1)) ∷
    send 0 (reply (life 0 1) 1 1 (txn 1 1) (txn 0 0) [] (target_turn 0 2) [] (answer.Made (fid 1 1))) ∷
    []) ∷
    made 5 (comes 3 1 (request (life 1 1) 1 1 0 (op.Lookup ((codes "a") ∷ [])))) (
    entry.Take 3 ∷
    act (life 1 1) 1 (answer.Dir (fid 1 1)) ∷
    entry.Grant (bits (cookie 1 1) (life 1 1) (fid 1 1) 1) ∷
    send 1 (reply (life 1 1) 1 1 (txn 0 0) (txn 0 0) (pair 1 1 ∷ []) (target_turn 0 5) (bits (cookie 1 1) (life 1 1) (fid 1 1) 1 ∷ [])
    (answer.Dir
    (fid 1 1))) ∷
    []) ∷
    made 8 (comes 5 0 (request (life 0 1) 1 2 0 (op.Rmdir ((codes "a") ∷ [])))) (
    entry.Take 5 ∷
    entry.Block (cookie 1 1) ∷
    send 1 (message.Block (life 1 1) 1 (cookie 1 1)) ∷
    []) ∷
    made 10 (comes 7 1 (message.Cancel (life 1 1) 1 (cookie 1 1))) (
    entry.Take 7 ∷
    entry.Release (cookie 1 1) ∷
    transaction (txn 1 2) (life 0 1) 2 (pair 1 1 ∷ []) answer.Done ∷
    send 0 (reply (life 0 1) 1 2 (txn 1 2) (txn 0 0) (pair 1 1 ∷ []) (target_turn 0 10) [] answer.Done) ∷
    []) ∷
    []

pub name_called_back_target_0 : played 0 2 1 8 name_called_back_target_0_turns ≡ all_lines name_called_back_target_0_turns
name_called_back_target_0 = refl

abbrev write_then_read_target_1_turns : List Turn
write_then_read_target_1_turns =
    made 11 (comes 7 0 (request (life 0 1) 1 1 0 (op.Enqueue (object 1 1 0) PW (from 0 1)))) (
    entry.Take 7 ∷
    entry.Grant (lock (cookie 1 1) (life 0 1) (object 1 1 0) PW (Range (onward 0))) ∷
    send 0 (reply (life 0 1) 1 1 (txn 0 0) (txn 0 0) [] (target_turn 1 11) [] (answer.Granted (cookie 1 1) (onward 0) 0)) ∷
    []) ∷
    made 14 (comes 9 1 (request (life 1 1) 1 1 0 (op.Enqueue (object 1 1 0) PR (from 0 7)))) (
    entry.Take 9 ∷
    entry.Wait (lock (cookie 1 2) (life 1 1) (object 1 1 0) PR (Range (from 0 7))) ∷
    send 1 (reply (life 1 1) 1 1 (txn 0 0) (txn 0 0) [] (target_turn 1 14) [] (answer.Waiting (cookie 1 2))) ∷
    entry.Block (cookie 1 1) ∷
    send 0 (message.Block (life 0 1) 1 (cookie 1 1)) ∷
    []) ∷
    made 17 (comes 12 0 (request (life 0 1) 1 2 0 (op.Put (object 1 1 0) (cookie 1 1) 0 (104 ∷ 105 ∷ [])))) (
    entry.Take 12 ∷
    transaction (txn 1 1) (life 0 1) 2 [] answer.Done ∷
    send 0 (reply (life 0 1) 1 2 (txn 1 1) (txn 0 0) [] (target_turn 1 17) [] answer.Done) ∷
    []) ∷
    made 19 (comes 14 0 (message.Cancel (life 0 1) 1 (cookie 1 1))) (
    entry.Take 14 ∷
    entry.Release (cookie 1 1) ∷
    entry.Grant (lock (cookie 1 2) (life 1 1) (object 1 1 0) PR (Range (onward 0))) ∷
    send 1 (grant (life 1 1) 1 (cookie 1 2) (onward 0) 2 (txn 0 0) (pair 1 1 ∷ [])) ∷
    []) ∷
    made 21 (comes 16 1 (request (life 1 1) 1 2 0 (op.Get (object 1 1 0) (cookie 1 2) 0))) (
    entry.Take 16 ∷
    send 1 (reply (life 1 1) 1 2 (txn 0 0) (txn 0 0) (pair 1 1 ∷ []) (target_turn 1 21) [] (answer.Content (104 ∷ 105 ∷ []))) ∷
    []) ∷
    []

pub write_then_read_target_1 : played 1 2 1 8 write_then_read_target_1_turns ≡ all_lines write_then_read_target_1_turns
write_then_read_target_1 = refl

abbrev glimpse_target_1_turns : List Turn
glimpse_target_1_turns =
    made 11 (comes 7 0 (request (life 0 1) 1 1 0 (op.Enqueue (object 1 1 0) PW (from 0 1)))) (
    entry.Take 7 ∷
    entry.Grant (lock (cookie 1 1) (life 0 1) (object 1 1 0) PW (Range (onward 0))) ∷
    send 0 (reply (life 0 1) 1 1 (txn 0 0) (txn 0 0) [] (target_turn 1 11) [] (answer.Granted (cookie 1 1) (onward 0) 0)) ∷
    []) ∷
    made 14 (comes 9 1 (request (life 1 1) 1 1 0 (op.Size (object 1 1 0)))) (
    entry.Take 9 ∷
    send 0 (ask (life 0 1) 1 (cookie 1 1) (life 1 1) 1) ∷
    []) ∷
    made 16 (comes 11 0 (size (life 0 1) 1 (cookie 1 1) (life 1 1) 1 (Some 2) 15)) (
    entry.Take 11 ∷
    send 1 (reply (life 1 1) 1 1 (txn 0 0) (txn 0 0) [] (client_turn 0 15) [] (answer.Size 2)) ∷
    []) ∷
    []

pub glimpse_target_1 : played 1 2 1 8 glimpse_target_1_turns ≡ all_lines glimpse_target_1_turns
glimpse_target_1 = refl

abbrev expired_holder_target_1_turns : List Turn
expired_holder_target_1_turns =
    made 11 (comes 7 0 (request (life 0 1) 1 1 0 (op.Enqueue (object 1 1 0) PW (from 0 1)))) (
    entry.Take 7 ∷
    entry.Grant (lock (cookie 1 1) (life 0 1) (object 1 1 0) PW (Range (onward 0))) ∷
    send 0 (reply (life 0 1) 1 1 (txn 0 0) (txn 0 0) [] (target_turn 1 11) [] (answer.Granted (cookie 1 1) (onward 0) 0)) ∷
    []) ∷
    made 14 (comes 9 1 (request (life 1 1) 1 1 0 (op.Enqueue (object 1 1 0) PR (from 0 7)))) (
    entry.Take 9 ∷
    entry.Wait (lock (cookie 1 2) (life 1 1) (object 1 1 0) PR (Range (from 0 7))) ∷
    send 1 (reply (life 1 1) 1 1 (txn 0 0) (txn 0 0) [] (target_turn 1 14) [] (answer.Waiting (cookie 1 2))) ∷
    entry.Block (cookie 1 1) ∷
    send 0 (message.Block (life 0 1) 1 (cookie 1 1)) ∷
    []) ∷
    made 15 Ticks (
    entry.Tick ∷
    send 0 (message.Block (life 0 1) 1 (cookie 1 1)) ∷
    []) ∷
    made 16 Ticks (
    entry.Tick ∷
    entry.Commit (txn 0 0) ∷
    entry.Evict (life 0 1) Expired ∷
    send 0 (message.Evicted (life 0 1) 1) ∷
    entry.Release (cookie 1 1) ∷
    entry.Grant (lock (cookie 1 2) (life 1 1) (object 1 1 0) PR (Range (onward 0))) ∷
    send 1 (grant (life 1 1) 1 (cookie 1 2) (onward 0) 0 (txn 0 0) []) ∷
    []) ∷
    made 21 (comes 16 0 (message.Join (life 0 2) 1)) (
    entry.Take 16 ∷
    entry.Commit (txn 0 0) ∷
    entry.Joined (life 0 2) ∷
    send 0 (message.Ready (life 0 2) 1 (txn 0 0)) ∷
    []) ∷
    []

pub expired_holder_target_1 : played 1 2 1 2 expired_holder_target_1_turns ≡ all_lines expired_holder_target_1_turns
expired_holder_target_1 = refl
