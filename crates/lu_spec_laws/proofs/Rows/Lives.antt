-- Lawful traces in which a life ends or a lock outlives a boot, computed.
use Rattle.std.proofs.Common.{[], ◌∷◌, Some, refl, pos}
use Rattle.std.specs.Prelude.{codes}
use Rattle.lu_base.specs.declared.ids.Node.TheVariants.{Client, Target}
use Rattle.lu_base.specs.declared.locks.Cause.TheVariants.{Expired, Replaced}
use Rattle.lu_base.specs.declared.locks.Mode.TheVariants.{PW, PR}
use Rattle.lu_base.specs.declared.locks.Policy.TheVariants.{Range}
use Rattle.lu_msg.specs.declared.answers.Answer.TheVariants as told
use Rattle.lu_msg.specs.declared.calls.Call.TheVariants as call
use Rattle.lu_msg.specs.declared.messages.Message.TheVariants as message
use Rattle.lu_msg.specs.declared.operations.Op.TheVariants as op
use Rattle.lu_trace.specs.declared.entries.Entry.TheVariants as entry
use Rattle.lu_spec_laws.specs.Words.Pasts.{Past}
use Rattle.lu_spec_laws.proofs.Words.{turn, client, target, life, number, fid, txn_of, cookie, extent, onward, object, striped, lock}
use Rattle.lu_spec_laws.proofs.Words.{asks, replays, replies, grants}
use Rattle.lu_spec_laws.proofs.Words.{sends, heard, hold, drop, executes}
use Rattle.lu_spec_laws.specs.Lawful.{Lawful}
use Rattle.lu_spec_laws.proofs.Decides.{says_yes}
use Rattle.lu_spec_laws.proofs.Decides.Lawful.{decide_lawful}
use Rattle.lu_layout.specs.Raid0.{stripe_of, offset_of, position_of, below_of, greatest_end}

-- The holder of a lock does not answer its callback in time, and loses its life at that target; the reader goes on.
abbrev pub expired_holder_past : Past
expired_holder_past =
    client 24 0 (entry.Take 19) ∷
    client 23 0 (entry.Take 18) ∷
    client 22 0 (entry.Take 17) ∷
    target 21 1 (sends 19 (Client 0) (message.Ready (life 0 2) 1 (txn_of 0 0))) ∷
    target 21 1 (entry.Joined (life 0 2)) ∷
    target 21 1 (entry.Commit (txn_of 0 0)) ∷
    target 21 1 (entry.Take 16) ∷
    target 20 0 (sends 18 (Client 0) (message.Ready (life 0 2) 1 (txn_of 1 3))) ∷
    target 20 0 (entry.Joined (life 0 2)) ∷
    target 20 0 (sends 17 (Client 0) (message.Evicted (life 0 1) 1)) ∷
    target 20 0 (entry.Evict (life 0 1) Replaced) ∷
    target 20 0 (entry.Commit (txn_of 1 3)) ∷
    target 20 0 (entry.Take 15) ∷
    client 19 1 (entry.Told 0 (turn 19 (Client 1)) (told.Content [])) ∷
    client 19 1 (hold 1 (cookie 1 2)) ∷
    client 19 1 (entry.Take 14) ∷
    client 18 0 (sends 16 (Target 1) (message.Join (life 0 2) 1)) ∷
    client 18 0 (sends 15 (Target 0) (message.Join (life 0 2) 1)) ∷
    client 18 0 (entry.Life (life 0 2)) ∷
    client 18 0 (drop 1 (cookie 1 1)) ∷
    client 18 0 (entry.Take 13) ∷
    client 17 1 (heard 1 1) ∷
    client 17 1 (entry.Take 10) ∷
    target 16 1 (sends 14 (Client 1) (grants (life 1 1) 1 (cookie 1 2) (onward 0) 0 (txn_of 0 0) [])) ∷
    target 16 1 (entry.Grant (lock (cookie 1 2) (life 1 1) (object 1 1 0) PR (Range (onward 0)))) ∷
    target 16 1 (entry.Release (cookie 1 1)) ∷
    target 16 1 (sends 13 (Client 0) (message.Evicted (life 0 1) 1)) ∷
    target 16 1 (entry.Evict (life 0 1) Expired) ∷
    target 16 1 (entry.Commit (txn_of 0 0)) ∷
    target 16 1 entry.Tick ∷
    target 15 1 (sends 12 (Client 0) (message.Block (life 0 1) 1 (cookie 1 1))) ∷
    target 15 1 entry.Tick ∷
    target 14 1 (sends 11 (Client 0) (message.Block (life 0 1) 1 (cookie 1 1))) ∷
    target 14 1 (entry.Block (cookie 1 1)) ∷
    target 14 1 (sends 10 (Client 1) (replies (life 1 1) 1 1 (txn_of 0 0) (txn_of 0 0) [] (turn 14 (Target 1)) []
    (told.Waiting (cookie 1 2)))) ∷
    target 14 1 (entry.Wait (lock (cookie 1 2) (life 1 1) (object 1 1 0) PR (Range (extent 0 7)))) ∷
    target 14 1 (entry.Take 9) ∷
    client 13 1 (sends 9 (Target 1) (asks (life 1 1) 1 1 0 (op.Enqueue (object 1 1 0) PR (extent 0 7)))) ∷
    client 13 1 (entry.Begin 0 (call.Read 0 0 8)) ∷
    client 12 0 (entry.Told 0 (turn 12 (Client 0)) told.Done) ∷
    client 12 0 (hold 1 (cookie 1 1)) ∷
    client 12 0 (heard 1 1) ∷
    client 12 0 (entry.Take 8) ∷
    target 11 1 (sends 8 (Client 0) (replies (life 0 1) 1 1 (txn_of 0 0) (txn_of 0 0) [] (turn 11 (Target 1)) []
    (told.Granted (cookie 1 1) (onward 0) 0))) ∷
    target 11 1 (entry.Grant (lock (cookie 1 1) (life 0 1) (object 1 1 0) PW (Range (onward 0)))) ∷
    target 11 1 (entry.Take 7) ∷
    client 10 0 (sends 7 (Target 1) (asks (life 0 1) 1 1 0 (op.Enqueue (object 1 1 0) PW (extent 0 1)))) ∷
    client 10 0 (entry.Begin 0 (call.Write 0 0 (104 ∷ 105 ∷ []))) ∷
    client 9 1 (entry.Told 0 (turn 8 (Target 0)) (told.Made (fid 1 1))) ∷
    client 9 1 (heard 0 1) ∷
    client 9 1 (entry.Take 6) ∷
    target 8 0 (sends 6 (Client 1) (replies (life 1 1) 1 1 (txn_of 1 3) (txn_of 0 0) (number 1 1 ∷ []) (turn 8 (Target
    0)) [] (told.OpenFile (fid 1 1) (txn_of 1 3) (striped 1048576 (1 ∷ []))))) ∷
    target 8 0 (executes (txn_of 1 3) (life 1 1) 1 (number 1 1 ∷ []) (told.OpenFile (fid 1 1) (txn_of 1 3) (striped
    1048576 (1 ∷ [])))) ∷
    target 8 0 (entry.Take 5) ∷
    client 7 1 (sends 5 (Target 0) (asks (life 1 1) 1 1 0 (op.Open (codes "f" ∷ [])))) ∷
    client 7 1 (entry.Begin 0 (call.Open 0 (codes "f" ∷ []))) ∷
    client 6 0 (entry.Told 0 (turn 5 (Target 0)) (told.Made (fid 1 1))) ∷
    client 6 0 (heard 0 2) ∷
    client 6 0 (entry.Take 4) ∷
    target 5 0 (sends 4 (Client 0) (replies (life 0 1) 1 2 (txn_of 1 2) (txn_of 0 0) (number 1 1 ∷ []) (turn 5 (Target
    0)) [] (told.OpenFile (fid 1 1) (txn_of 1 2) (striped 1048576 (1 ∷ []))))) ∷
    target 5 0 (executes (txn_of 1 2) (life 0 1) 2 (number 1 1 ∷ []) (told.OpenFile (fid 1 1) (txn_of 1 2) (striped
    1048576 (1 ∷ [])))) ∷
    target 5 0 (entry.Take 3) ∷
    client 4 0 (sends 3 (Target 0) (asks (life 0 1) 1 2 0 (op.Open (codes "f" ∷ [])))) ∷
    client 4 0 (entry.Begin 0 (call.Open 0 (codes "f" ∷ []))) ∷
    client 3 0 (entry.Told 0 (turn 2 (Target 0)) (told.Made (fid 1 1))) ∷
    client 3 0 (heard 0 1) ∷
    client 3 0 (entry.Take 2) ∷
    target 2 0 (sends 2 (Client 0) (replies (life 0 1) 1 1 (txn_of 1 1) (txn_of 0 0) [] (turn 2 (Target 0)) []
    (told.Made (fid 1 1)))) ∷
    target 2 0 (executes (txn_of 1 1) (life 0 1) 1 [] (told.Made (fid 1 1))) ∷
    target 2 0 (entry.Take 1) ∷
    client 1 0 (sends 1 (Target 0) (asks (life 0 1) 1 1 0 (op.Create (codes "f" ∷ []) 1048576 (pos 1)))) ∷
    client 1 0 (entry.Begin 0 (call.Create (codes "f" ∷ []) (Some (1048576, (pos 1))))) ∷
    []

pub expired_holder : Lawful 1 expired_holder_past
unfolding stripe_of offset_of position_of below_of greatest_end
expired_holder = says_yes (decide_lawful 1 expired_holder_past) refl

-- A grant of an old boot comes after the client has come back, and only makes its take.
abbrev pub old_grant_after_crash_past : Past
old_grant_after_crash_past =
    client 33 1 (entry.Told 0 (turn 33 (Client 1)) (told.Content (104 ∷ 105 ∷ []))) ∷
    client 33 1 (heard 1 3) ∷
    client 33 1 (entry.Take 26) ∷
    target 32 1 (sends 26 (Client 1) (replies (life 1 1) 2 3 (txn_of 0 0) (txn_of 1 1) [] (turn 32 (Target 1)) []
    (told.Content (104 ∷ 105 ∷ [])))) ∷
    target 32 1 (entry.Take 25) ∷
    client 31 1 (sends 25 (Target 1) (asks (life 1 1) 2 3 0 (op.Get (object 1 1 0) (cookie 2 1) 0))) ∷
    client 31 1 (hold 1 (cookie 2 1)) ∷
    client 31 1 (heard 1 2) ∷
    client 31 1 (entry.Take 24) ∷
    target 30 1 (sends 24 (Client 1) (replies (life 1 1) 2 2 (txn_of 0 0) (txn_of 1 1) [] (turn 30 (Target 1)) []
    (told.Granted (cookie 2 1) (onward 0) 2))) ∷
    target 30 1 (entry.Grant (lock (cookie 2 1) (life 1 1) (object 1 1 0) PR (Range (onward 0)))) ∷
    target 30 1 (entry.Take 23) ∷
    client 29 1 (sends 23 (Target 1) (asks (life 1 1) 2 2 0 (op.Enqueue (object 1 1 0) PR (extent 0 7)))) ∷
    client 29 1 (entry.Take 22) ∷
    client 28 0 (entry.Take 21) ∷
    target 27 1 (sends 22 (Client 1) (message.Ready (life 1 1) 2 (txn_of 1 1))) ∷
    target 27 1 (sends 21 (Client 0) (message.Ready (life 0 1) 2 (txn_of 1 1))) ∷
    target 27 1 (entry.Kept (txn_of 1 1)) ∷
    target 27 1 (entry.Commit (txn_of 1 1)) ∷
    target 27 1 entry.Close ∷
    target 27 1 (entry.Back (life 0 1)) ∷
    target 27 1 (entry.Take 20) ∷
    target 26 1 (entry.Take 19) ∷
    target 25 1 (entry.Back (life 1 1)) ∷
    target 25 1 (entry.Take 18) ∷
    client 24 0 (sends 20 (Target 1) (message.Word (life 0 1) 2 1 0 [])) ∷
    client 24 0 (sends 19 (Target 1) (replays (life 0 1) 2 (txn_of 1 1) 2 0 [] (op.Put (object 1 1 0) (cookie 1 1) 0
    (104 ∷ 105 ∷ [])))) ∷
    client 24 0 (entry.Take 16) ∷
    client 23 1 (entry.Take 15) ∷
    client 22 1 (sends 18 (Target 1) (message.Word (life 1 1) 2 0 0 [])) ∷
    client 22 1 (entry.Take 17) ∷
    target 21 1 (sends 17 (Client 1) (message.Up 2)) ∷
    target 21 1 (sends 16 (Client 0) (message.Up 2)) ∷
    target 21 1 (entry.Boot 2) ∷
    target 20 1 entry.Crash ∷
    target 19 1 (sends 15 (Client 1) (grants (life 1 1) 1 (cookie 1 2) (onward 0) 2 (txn_of 0 0) (number 1 1 ∷ []))) ∷
    target 19 1 (entry.Grant (lock (cookie 1 2) (life 1 1) (object 1 1 0) PR (Range (onward 0)))) ∷
    target 19 1 (entry.Release (cookie 1 1)) ∷
    target 19 1 (entry.Take 14) ∷
    client 18 0 (sends 14 (Target 1) (message.Cancel (life 0 1) 1 (cookie 1 1))) ∷
    client 18 0 (drop 1 (cookie 1 1)) ∷
    client 18 0 (heard 1 2) ∷
    client 18 0 (entry.Take 13) ∷
    target 17 1 (sends 13 (Client 0) (replies (life 0 1) 1 2 (txn_of 1 1) (txn_of 0 0) [] (turn 17 (Target 1)) []
    told.Done)) ∷
    target 17 1 (executes (txn_of 1 1) (life 0 1) 2 [] told.Done) ∷
    target 17 1 (entry.Take 12) ∷
    client 16 0 (sends 12 (Target 1) (asks (life 0 1) 1 2 0 (op.Put (object 1 1 0) (cookie 1 1) 0 (104 ∷ 105 ∷ [])))) ∷
    client 16 0 (entry.Take 11) ∷
    client 15 1 (heard 1 1) ∷
    client 15 1 (entry.Take 10) ∷
    target 14 1 (sends 11 (Client 0) (message.Block (life 0 1) 1 (cookie 1 1))) ∷
    target 14 1 (entry.Block (cookie 1 1)) ∷
    target 14 1 (sends 10 (Client 1) (replies (life 1 1) 1 1 (txn_of 0 0) (txn_of 0 0) [] (turn 14 (Target 1)) []
    (told.Waiting (cookie 1 2)))) ∷
    target 14 1 (entry.Wait (lock (cookie 1 2) (life 1 1) (object 1 1 0) PR (Range (extent 0 7)))) ∷
    target 14 1 (entry.Take 9) ∷
    client 13 1 (sends 9 (Target 1) (asks (life 1 1) 1 1 0 (op.Enqueue (object 1 1 0) PR (extent 0 7)))) ∷
    client 13 1 (entry.Begin 0 (call.Read 0 0 8)) ∷
    client 12 0 (entry.Told 0 (turn 12 (Client 0)) told.Done) ∷
    client 12 0 (hold 1 (cookie 1 1)) ∷
    client 12 0 (heard 1 1) ∷
    client 12 0 (entry.Take 8) ∷
    target 11 1 (sends 8 (Client 0) (replies (life 0 1) 1 1 (txn_of 0 0) (txn_of 0 0) [] (turn 11 (Target 1)) []
    (told.Granted (cookie 1 1) (onward 0) 0))) ∷
    target 11 1 (entry.Grant (lock (cookie 1 1) (life 0 1) (object 1 1 0) PW (Range (onward 0)))) ∷
    target 11 1 (entry.Take 7) ∷
    client 10 0 (sends 7 (Target 1) (asks (life 0 1) 1 1 0 (op.Enqueue (object 1 1 0) PW (extent 0 1)))) ∷
    client 10 0 (entry.Begin 0 (call.Write 0 0 (104 ∷ 105 ∷ []))) ∷
    client 9 1 (entry.Told 0 (turn 8 (Target 0)) (told.Made (fid 1 1))) ∷
    client 9 1 (heard 0 1) ∷
    client 9 1 (entry.Take 6) ∷
    target 8 0 (sends 6 (Client 1) (replies (life 1 1) 1 1 (txn_of 1 3) (txn_of 0 0) (number 1 1 ∷ []) (turn 8 (Target
    0)) [] (told.OpenFile (fid 1 1) (txn_of 1 3) (striped 1048576 (1 ∷ []))))) ∷
    target 8 0 (executes (txn_of 1 3) (life 1 1) 1 (number 1 1 ∷ []) (told.OpenFile (fid 1 1) (txn_of 1 3) (striped
    1048576 (1 ∷ [])))) ∷
    target 8 0 (entry.Take 5) ∷
    client 7 1 (sends 5 (Target 0) (asks (life 1 1) 1 1 0 (op.Open (codes "f" ∷ [])))) ∷
    client 7 1 (entry.Begin 0 (call.Open 0 (codes "f" ∷ []))) ∷
    client 6 0 (entry.Told 0 (turn 5 (Target 0)) (told.Made (fid 1 1))) ∷
    client 6 0 (heard 0 2) ∷
    client 6 0 (entry.Take 4) ∷
    target 5 0 (sends 4 (Client 0) (replies (life 0 1) 1 2 (txn_of 1 2) (txn_of 0 0) (number 1 1 ∷ []) (turn 5 (Target
    0)) [] (told.OpenFile (fid 1 1) (txn_of 1 2) (striped 1048576 (1 ∷ []))))) ∷
    target 5 0 (executes (txn_of 1 2) (life 0 1) 2 (number 1 1 ∷ []) (told.OpenFile (fid 1 1) (txn_of 1 2) (striped
    1048576 (1 ∷ [])))) ∷
    target 5 0 (entry.Take 3) ∷
    client 4 0 (sends 3 (Target 0) (asks (life 0 1) 1 2 0 (op.Open (codes "f" ∷ [])))) ∷
    client 4 0 (entry.Begin 0 (call.Open 0 (codes "f" ∷ []))) ∷
    client 3 0 (entry.Told 0 (turn 2 (Target 0)) (told.Made (fid 1 1))) ∷
    client 3 0 (heard 0 1) ∷
    client 3 0 (entry.Take 2) ∷
    target 2 0 (sends 2 (Client 0) (replies (life 0 1) 1 1 (txn_of 1 1) (txn_of 0 0) [] (turn 2 (Target 0)) []
    (told.Made (fid 1 1)))) ∷
    target 2 0 (executes (txn_of 1 1) (life 0 1) 1 [] (told.Made (fid 1 1))) ∷
    target 2 0 (entry.Take 1) ∷
    client 1 0 (sends 1 (Target 0) (asks (life 0 1) 1 1 0 (op.Create (codes "f" ∷ []) 1048576 (pos 1)))) ∷
    client 1 0 (entry.Begin 0 (call.Create (codes "f" ∷ []) (Some (1048576, (pos 1))))) ∷
    []

pub old_grant_after_crash : Lawful 1 old_grant_after_crash_past
unfolding stripe_of offset_of position_of below_of greatest_end
old_grant_after_crash = says_yes (decide_lawful 1 old_grant_after_crash_past) refl
