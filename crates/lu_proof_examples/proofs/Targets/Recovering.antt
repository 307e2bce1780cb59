-- Worked scenarios with restarts: what is kept and lost, who stays and who is out, and which locks stand again.
use Rattle.std.proofs.Common.{◌≡◌, List, [], ◌∷◌, refl}
use Rattle.std.specs.Prelude.{codes}
use Rattle.lu_base.specs.declared.locks.Cause.TheVariants.{Absent, Gap}
use Rattle.lu_base.specs.declared.locks.Mode.TheVariants.{PR}
use Rattle.lu_base.specs.declared.locks.Policy.TheVariants.{Bits}
use Rattle.lu_msg.specs.declared.answers.Answer.TheVariants as answer
use Rattle.lu_msg.specs.declared.messages.Message.TheVariants as message
use Rattle.lu_msg.specs.declared.operations.Op.TheVariants as op
use Rattle.lu_trace.specs.declared.entries.Entry.TheVariants as entry
use Rattle.lu_spec_target.specs.Rows.{Crashes, Boots, Closes}
use Rattle.lu_proof_examples.proofs.Targets.Words.{pair, fid, txn, cookie, life, target_turn, object, bits}
use Rattle.lu_proof_examples.proofs.Targets.Words.{request, replay, lock_again, reply, send, act, transaction, comes, Turn, made}
use Rattle.lu_proof_examples.proofs.Targets.Words.{all_lines, played}

-- Of three clients one didn't come back, one saw what it alone had made, and one stays.
abbrev absent_and_gap_target_0_turns : List Turn
absent_and_gap_target_0_turns =
    made 2 (comes 1 0 (request (life 0 1) 1 1 0 (op.Mkdir ((codes "a") ∷ [])))) (
    entry.Take 1 ∷
    transaction (txn 1 1) (life 0 1) 1 [] (answer.Made (fid 1 1)) ∷
    send 0 (reply (life 0 1) 1 1 (txn 1 1) (txn 0 0) [] (target_turn 0 2) [] (answer.Made (fid 1 1))) ∷
    []) ∷
    made 6 (comes 3 1 (request (life 1 1) 1 1 0 (op.Lookup ((codes "a") ∷ [])))) (
    entry.Take 3 ∷
    act (life 1 1) 1 (answer.Dir (fid 1 1)) ∷
    entry.Grant (bits (cookie 1 1) (life 1 1) (fid 1 1) 1) ∷
    send 1 (reply (life 1 1) 1 1 (txn 0 0) (txn 0 0) (pair 1 1 ∷ []) (target_turn 0 6) (bits (cookie 1 1) (life 1 1) (fid 1 1) 1 ∷ [])
    (answer.Dir
    (fid 1 1))) ∷
    []) ∷
    made 7 (comes 4 2 (request (life 2 1) 1 1 0 (op.Mkdir ((codes "b") ∷ [])))) (
    entry.Take 4 ∷
    transaction (txn 1 2) (life 2 1) 1 [] (answer.Made (fid 1 2)) ∷
    send 2 (reply (life 2 1) 1 1 (txn 1 2) (txn 0 0) [] (target_turn 0 7) [] (answer.Made (fid 1 2))) ∷
    []) ∷
    made 11 Crashes (
    entry.Crash ∷
    []) ∷
    made 12 Boots (
    entry.Boot 2 ∷
    send 0 (message.Up 2) ∷
    send 1 (message.Up 2) ∷
    send 2 (message.Up 2) ∷
    []) ∷
    made 15 (comes 10 1 (lock_again (life 1 1) 2 (cookie 1 1) (object 1 1 0) PR (Bits 1))) (
    entry.Take 10 ∷
    []) ∷
    made 16 (comes 11 1 (message.Word (life 1 1) 2 0 1 (pair 1 1 ∷ []))) (
    entry.Take 11 ∷
    entry.Back (life 1 1) ∷
    []) ∷
    made 17 (comes 12 2 (replay (life 2 1) 2 (txn 1 2) 1 0 [] (op.Mkdir ((codes "b") ∷ [])))) (
    entry.Take 12 ∷
    []) ∷
    made 18 (comes 13 2 (message.Word (life 2 1) 2 1 0 [])) (
    entry.Take 13 ∷
    entry.Back (life 2 1) ∷
    []) ∷
    made 19 Closes (
    entry.Close ∷
    entry.Commit (txn 1 2) ∷
    entry.Kept (txn 1 2) ∷
    entry.Evict (life 0 1) Absent ∷
    send 0 (message.Evicted (life 0 1) 2) ∷
    entry.Evict (life 1 1) Gap ∷
    send 1 (message.Evicted (life 1 1) 2) ∷
    send 2 (message.Ready (life 2 1) 2 (txn 1 2)) ∷
    []) ∷
    made 22 (comes 17 1 (message.Join (life 1 2) 2)) (
    entry.Take 17 ∷
    entry.Commit (txn 1 2) ∷
    entry.Joined (life 1 2) ∷
    send 1 (message.Ready (life 1 2) 2 (txn 1 2)) ∷
    []) ∷
    []

pub absent_and_gap_target_0 : played 0 3 1 8 absent_and_gap_target_0_turns ≡ all_lines absent_and_gap_target_0_turns
absent_and_gap_target_0 = refl
