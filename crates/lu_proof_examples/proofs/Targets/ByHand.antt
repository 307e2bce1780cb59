-- Turns of targets, written by hand from the rules, of what the other scenarios do not show.
use Rattle.std.proofs.Common.{◌≡◌, List, [], ◌∷◌, refl}
use Rattle.std.specs.Prelude.{codes}
use Rattle.lu_msg.specs.declared.answers.Answer.TheVariants as answer
use Rattle.lu_msg.specs.declared.answers.Errno.TheVariants as errno
use Rattle.lu_msg.specs.declared.messages.Message.TheVariants as message
use Rattle.lu_msg.specs.declared.operations.Op.TheVariants as op
use Rattle.lu_trace.specs.declared.entries.Entry.TheVariants as entry
use Rattle.lu_proof_examples.proofs.Targets.Words.{pair, fid, txn, cookie, life, target_turn, bits, request, reply, send, act, transaction}
use Rattle.lu_proof_examples.proofs.Targets.Words.{comes, Turn, made, all_lines, played, object, from, onward, lock, lock_again, grant}
use Rattle.lu_base.specs.declared.locks.Mode.TheVariants.{PR, PW}
use Rattle.lu_base.specs.declared.locks.Policy.TheVariants.{Range}
use Rattle.lu_spec_target.specs.Rows.{Crashes, Boots}

-- A later request acts, and then an earlier one, since its answer became an error
abbrev from_the_oldest_again_target_0_turns : List Turn
from_the_oldest_again_target_0_turns =
    made 2 (comes 1 0 (request (life 0 1) 1 1 0 (op.Mkdir ((codes "a") ∷ [])))) (
    entry.Take 1 ∷
    transaction (txn 1 1) (life 0 1) 1 [] (answer.Made (fid 1 1)) ∷
    send 0 (reply (life 0 1) 1 1 (txn 1 1) (txn 0 0) [] (target_turn 0 2) [] (answer.Made (fid 1 1))) ∷
    []) ∷
    made 4 (comes 3 0 (request (life 0 1) 1 2 0 (op.Mkdir ((codes "a") ∷ (codes "x") ∷ [])))) (
    entry.Take 3 ∷
    transaction (txn 1 2) (life 0 1) 2 (pair 1 1 ∷ []) (answer.Made (fid 1 2)) ∷
    send 0 (reply (life 0 1) 1 2 (txn 1 2) (txn 0 0) (pair 1 1 ∷ []) (target_turn 0 4) [] (answer.Made (fid 1 2))) ∷
    []) ∷
    made 6 (comes 5 1 (request (life 1 1) 1 1 0 (op.Lookup ((codes "a") ∷ (codes "x") ∷ [])))) (
    entry.Take 5 ∷
    act (life 1 1) 1 (answer.Dir (fid 1 2)) ∷
    entry.Grant (bits (cookie 1 1) (life 1 1) (fid 1 1) 1) ∷
    entry.Grant (bits (cookie 1 2) (life 1 1) (fid 1 2) 1) ∷
    send 1 (reply (life 1 1) 1 1 (txn 0 0) (txn 0 0) (pair 1 1 ∷ pair 1 2 ∷ []) (target_turn 0 6)
    (bits (cookie 1 1) (life 1 1) (fid 1 1) 1 ∷ bits
    (cookie 1 2) (life 1 1) (fid 1 2) 1 ∷ []) (answer.Dir (fid 1 2))) ∷
    []) ∷
    made 8 (comes 7 2 (request (life 2 1) 1 1 0 (op.Lookup ((codes "a") ∷ [])))) (
    entry.Take 7 ∷
    act (life 2 1) 1 (answer.Dir (fid 1 1)) ∷
    entry.Grant (bits (cookie 1 3) (life 2 1) (fid 1 1) 1) ∷
    send 2 (reply (life 2 1) 1 1 (txn 0 0) (txn 0 0) (pair 1 1 ∷ []) (target_turn 0 8) (bits (cookie 1 3) (life 2 1) (fid 1 1) 1 ∷ [])
    (answer.Dir
    (fid 1 1))) ∷
    []) ∷
    made 10 (comes 9 3 (request (life 3 1) 1 1 0 (op.Rmdir ((codes "a") ∷ (codes "x") ∷ [])))) (
    entry.Take 9 ∷
    entry.Block (cookie 1 2) ∷
    send 1 (message.Block (life 1 1) 1 (cookie 1 2)) ∷
    []) ∷
    made 12 (comes 11 0 (request (life 0 1) 1 3 0 (op.Rename ((codes "a") ∷ []) ((codes "c") ∷ [])))) (
    entry.Take 11 ∷
    entry.Block (cookie 1 1) ∷
    send 1 (message.Block (life 1 1) 1 (cookie 1 1)) ∷
    entry.Block (cookie 1 3) ∷
    send 2 (message.Block (life 2 1) 1 (cookie 1 3)) ∷
    []) ∷
    made 14 (comes 14 1 (message.Cancel (life 1 1) 1 (cookie 1 1))) (
    entry.Take 14 ∷
    entry.Release (cookie 1 1) ∷
    []) ∷
    made 16 (comes 15 2 (message.Cancel (life 2 1) 1 (cookie 1 3))) (
    entry.Take 15 ∷
    entry.Release (cookie 1 3) ∷
    transaction (txn 1 3) (life 0 1) 3 (pair 1 1 ∷ []) answer.Done ∷
    send 0 (reply (life 0 1) 1 3 (txn 1 3) (txn 0 0) (pair 1 1 ∷ []) (target_turn 0 16) [] answer.Done) ∷
    act (life 3 1) 1 (answer.Refused errno.ENOENT) ∷
    send 3 (reply (life 3 1) 1 1 (txn 0 0) (txn 0 0) (pair 1 1 ∷ pair 1 3 ∷ []) (target_turn 0 16) [] (answer.Refused errno.ENOENT)) ∷
    []) ∷
    made 18 (comes 18 2 (message.Where (life 2 1) 1 (cookie 1 3))) (
    entry.Take 18 ∷
    []) ∷
    made 20 (comes 19 1 (message.Where (life 1 1) 1 (cookie 1 2))) (
    entry.Take 19 ∷
    []) ∷
    []

pub from_the_oldest_again_target_0 : played 0 4 1 8 from_the_oldest_again_target_0_turns ≡ all_lines from_the_oldest_again_target_0_turns
from_the_oldest_again_target_0 = refl

-- An extent grows up to the locks that wait, ahead of it and behind it, and not at all where one of them meets it
abbrev growth_beside_waiting_locks_target_1_turns : List Turn
growth_beside_waiting_locks_target_1_turns =
    made 2 (comes 1 0 (request (life 0 1) 1 1 0 (op.Enqueue (object 1 1 0) PR (from 0 99)))) (
    entry.Take 1 ∷
    entry.Grant (lock (cookie 1 1) (life 0 1) (object 1 1 0) PR (Range (onward 0))) ∷
    send 0 (reply (life 0 1) 1 1 (txn 0 0) (txn 0 0) [] (target_turn 1 2) [] (answer.Granted (cookie 1 1) (onward 0) 0)) ∷
    []) ∷
    made 4 (comes 3 1 (request (life 1 1) 1 1 0 (op.Enqueue (object 1 1 0) PW (from 50 60)))) (
    entry.Take 3 ∷
    entry.Wait (lock (cookie 1 2) (life 1 1) (object 1 1 0) PW (Range (from 50 60))) ∷
    send 1 (reply (life 1 1) 1 1 (txn 0 0) (txn 0 0) [] (target_turn 1 4) [] (answer.Waiting (cookie 1 2))) ∷
    entry.Block (cookie 1 1) ∷
    send 0 (message.Block (life 0 1) 1 (cookie 1 1)) ∷
    []) ∷
    made 6 (comes 6 2 (request (life 2 1) 1 1 0 (op.Enqueue (object 1 1 0) PR (from 200 299)))) (
    entry.Take 6 ∷
    entry.Grant (lock (cookie 1 3) (life 2 1) (object 1 1 0) PR (Range (onward 61))) ∷
    send 2 (reply (life 2 1) 1 1 (txn 0 0) (txn 0 0) [] (target_turn 1 6) [] (answer.Granted (cookie 1 3) (onward 61) 0)) ∷
    []) ∷
    made 8 (comes 8 3 (request (life 3 1) 1 1 0 (op.Enqueue (object 1 1 0) PR (from 55 70)))) (
    entry.Take 8 ∷
    entry.Wait (lock (cookie 1 4) (life 3 1) (object 1 1 0) PR (Range (from 55 70))) ∷
    send 3 (reply (life 3 1) 1 1 (txn 0 0) (txn 0 0) [] (target_turn 1 8) [] (answer.Waiting (cookie 1 4))) ∷
    []) ∷
    made 10 (comes 10 0 (message.Cancel (life 0 1) 1 (cookie 1 1))) (
    entry.Take 10 ∷
    entry.Release (cookie 1 1) ∷
    entry.Grant (lock (cookie 1 2) (life 1 1) (object 1 1 0) PW (Range (from 50 60))) ∷
    send 1 (grant (life 1 1) 1 (cookie 1 2) (from 50 60) 0 (txn 0 0) []) ∷
    entry.Block (cookie 1 2) ∷
    send 1 (message.Block (life 1 1) 1 (cookie 1 2)) ∷
    []) ∷
    []

pub growth_beside_waiting_locks_target_1 : played 1 4 1 8 growth_beside_waiting_locks_target_1_turns
    ≡ all_lines growth_beside_waiting_locks_target_1_turns
growth_beside_waiting_locks_target_1 = refl

-- Of two replayed locks in conflict the one of lower cookie stands again; a lock handed in twice counts once; what was called back in an
-- earlier boot is called back anew
abbrev restored_in_conflict_target_1_turns : List Turn
restored_in_conflict_target_1_turns =
    made 2 (comes 1 0 (request (life 0 1) 1 1 0 (op.Enqueue (object 1 1 0) PW (from 0 1)))) (
    entry.Take 1 ∷
    entry.Grant (lock (cookie 1 1) (life 0 1) (object 1 1 0) PW (Range (onward 0))) ∷
    send 0 (reply (life 0 1) 1 1 (txn 0 0) (txn 0 0) [] (target_turn 1 2) [] (answer.Granted (cookie 1 1) (onward 0) 0)) ∷
    []) ∷
    made 4 (comes 3 1 (request (life 1 1) 1 1 0 (op.Enqueue (object 1 1 0) PW (onward 0)))) (
    entry.Take 3 ∷
    entry.Wait (lock (cookie 1 2) (life 1 1) (object 1 1 0) PW (Range (onward 0))) ∷
    send 1 (reply (life 1 1) 1 1 (txn 0 0) (txn 0 0) [] (target_turn 1 4) [] (answer.Waiting (cookie 1 2))) ∷
    entry.Block (cookie 1 1) ∷
    send 0 (message.Block (life 0 1) 1 (cookie 1 1)) ∷
    []) ∷
    made 5 Crashes (
    entry.Crash ∷
    []) ∷
    made 6 Boots (
    entry.Boot 2 ∷
    send 0 (message.Up 2) ∷
    send 1 (message.Up 2) ∷
    []) ∷
    made 8 (comes 8 0 (lock_again (life 0 1) 2 (cookie 1 1) (object 1 1 0) PW (Range (onward 0)))) (
    entry.Take 8 ∷
    []) ∷
    made 10 (comes 9 0 (message.Word (life 0 1) 2 0 2 [])) (
    entry.Take 9 ∷
    []) ∷
    made 11 (comes 8 0 (lock_again (life 0 1) 2 (cookie 1 1) (object 1 1 0) PW (Range (onward 0)))) (
    entry.Take 8 ∷
    []) ∷
    made 13 (comes 10 0 (lock_again (life 0 1) 2 (cookie 1 3) (object 1 1 1) PR (Range (onward 0)))) (
    entry.Take 10 ∷
    entry.Back (life 0 1) ∷
    []) ∷
    made 15 (comes 11 1 (lock_again (life 1 1) 2 (cookie 1 2) (object 1 1 0) PW (Range (onward 0)))) (
    entry.Take 11 ∷
    []) ∷
    made 17 (comes 12 1 (message.Word (life 1 1) 2 0 1 [])) (
    entry.Take 12 ∷
    entry.Back (life 1 1) ∷
    entry.Close ∷
    entry.Commit (txn 0 0) ∷
    entry.Restore (lock (cookie 1 1) (life 0 1) (object 1 1 0) PW (Range (onward 0))) ∷
    entry.Restore (lock (cookie 1 3) (life 0 1) (object 1 1 1) PR (Range (onward 0))) ∷
    send 0 (message.Ready (life 0 1) 2 (txn 0 0)) ∷
    send 1 (message.Ready (life 1 1) 2 (txn 0 0)) ∷
    []) ∷
    made 19 (comes 15 1 (request (life 1 1) 2 2 0 (op.Enqueue (object 1 1 0) PR (from 0 7)))) (
    entry.Take 15 ∷
    entry.Wait (lock (cookie 2 1) (life 1 1) (object 1 1 0) PR (Range (from 0 7))) ∷
    send 1 (reply (life 1 1) 2 2 (txn 0 0) (txn 0 0) [] (target_turn 1 19) [] (answer.Waiting (cookie 2 1))) ∷
    entry.Block (cookie 1 1) ∷
    send 0 (message.Block (life 0 1) 2 (cookie 1 1)) ∷
    []) ∷
    []

pub restored_in_conflict_target_1 : played 1 2 1 8 restored_in_conflict_target_1_turns ≡ all_lines restored_in_conflict_target_1_turns
restored_in_conflict_target_1 = refl
