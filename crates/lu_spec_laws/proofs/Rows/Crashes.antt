-- Lawful traces with a recovery of the metadata target, computed.
use Rattle.std.proofs.Common.{[], ◌∷◌, refl}
use Rattle.std.specs.Prelude.{codes}
use Rattle.lu_base.specs.declared.ids.Node.TheVariants.{Client, Target}
use Rattle.lu_base.specs.declared.locks.Cause.TheVariants.{Absent, Gap, Replaced}
use Rattle.lu_base.specs.declared.locks.Mode.TheVariants.{PR}
use Rattle.lu_base.specs.declared.locks.Policy.TheVariants.{Bits}
use Rattle.lu_msg.specs.declared.answers.Answer.TheVariants as told
use Rattle.lu_msg.specs.declared.calls.Call.TheVariants as call
use Rattle.lu_msg.specs.declared.messages.Message.TheVariants as message
use Rattle.lu_msg.specs.declared.operations.Op.TheVariants as op
use Rattle.lu_trace.specs.declared.entries.Entry.TheVariants as entry
use Rattle.lu_spec_laws.specs.Words.Pasts.{Past}
use Rattle.lu_spec_laws.proofs.Words.{turn, client, target, life, number, fid, txn_of, cookie, object, lock}
use Rattle.lu_spec_laws.proofs.Words.{asks, replays, hands_in, replies}
use Rattle.lu_spec_laws.proofs.Words.{sends, heard, hold, drop, acts, executes}
use Rattle.lu_spec_laws.specs.Lawful.{Lawful}
use Rattle.lu_spec_laws.proofs.Decides.{says_yes}
use Rattle.lu_spec_laws.proofs.Decides.Lawful.{decide_lawful}
use Rattle.lu_layout.specs.Raid0.{stripe_of, offset_of, position_of, below_of, greatest_end}

-- One client is dead when the target recovers, so what it made is lost; a second, which had seen that, has a gap.
abbrev pub absent_and_gap_past : Past
absent_and_gap_past =
    client 26 1 (entry.Take 21) ∷
    client 25 1 (entry.Take 20) ∷
    client 24 1 (entry.Take 19) ∷
    target 23 1 (sends 21 (Client 1) (message.Ready (life 1 2) 1 (txn_of 0 0))) ∷
    target 23 1 (entry.Joined (life 1 2)) ∷
    target 23 1 (sends 20 (Client 1) (message.Evicted (life 1 1) 1)) ∷
    target 23 1 (entry.Evict (life 1 1) Replaced) ∷
    target 23 1 (entry.Commit (txn_of 0 0)) ∷
    target 23 1 (entry.Take 18) ∷
    target 22 0 (sends 19 (Client 1) (message.Ready (life 1 2) 2 (txn_of 1 2))) ∷
    target 22 0 (entry.Joined (life 1 2)) ∷
    target 22 0 (entry.Commit (txn_of 1 2)) ∷
    target 22 0 (entry.Take 17) ∷
    client 21 2 (entry.Take 16) ∷
    client 20 1 (sends 18 (Target 1) (message.Join (life 1 2) 1)) ∷
    client 20 1 (sends 17 (Target 0) (message.Join (life 1 2) 2)) ∷
    client 20 1 (entry.Life (life 1 2)) ∷
    client 20 1 (drop 0 (cookie 1 1)) ∷
    client 20 1 (entry.Take 15) ∷
    target 19 0 (sends 16 (Client 2) (message.Ready (life 2 1) 2 (txn_of 1 2))) ∷
    target 19 0 (sends 15 (Client 1) (message.Evicted (life 1 1) 2)) ∷
    target 19 0 (entry.Evict (life 1 1) Gap) ∷
    target 19 0 (sends 14 (Client 0) (message.Evicted (life 0 1) 2)) ∷
    target 19 0 (entry.Evict (life 0 1) Absent) ∷
    target 19 0 (entry.Kept (txn_of 1 2)) ∷
    target 19 0 (entry.Commit (txn_of 1 2)) ∷
    target 19 0 entry.Close ∷
    target 18 0 (entry.Back (life 2 1)) ∷
    target 18 0 (entry.Take 13) ∷
    target 17 0 (entry.Take 12) ∷
    target 16 0 (entry.Back (life 1 1)) ∷
    target 16 0 (entry.Take 11) ∷
    target 15 0 (entry.Take 10) ∷
    client 14 2 (sends 13 (Target 0) (message.Word (life 2 1) 2 1 0 [])) ∷
    client 14 2 (sends 12 (Target 0) (replays (life 2 1) 2 (txn_of 1 2) 1 0 [] (op.Mkdir (codes "b" ∷ [])))) ∷
    client 14 2 (entry.Take 9) ∷
    client 13 1 (sends 11 (Target 0) (message.Word (life 1 1) 2 0 1 (number 1 1 ∷ []))) ∷
    client 13 1 (sends 10 (Target 0) (hands_in (life 1 1) 2 (cookie 1 1) (object 1 1 0) PR (Bits 1))) ∷
    client 13 1 (entry.Take 8) ∷
    target 12 0 (sends 9 (Client 2) (message.Up 2)) ∷
    target 12 0 (sends 8 (Client 1) (message.Up 2)) ∷
    target 12 0 (sends 7 (Client 0) (message.Up 2)) ∷
    target 12 0 (entry.Boot 2) ∷
    target 11 0 entry.Crash ∷
    client 10 0 entry.Die ∷
    client 9 2 (entry.Told 0 (turn 7 (Target 0)) (told.Made (fid 1 2))) ∷
    client 9 2 (heard 0 1) ∷
    client 9 2 (entry.Take 6) ∷
    client 8 1 (entry.Told 0 (turn 6 (Target 0)) (told.Dir (fid 1 1))) ∷
    client 8 1 (hold 0 (cookie 1 1)) ∷
    client 8 1 (heard 0 1) ∷
    client 8 1 (entry.Take 5) ∷
    target 7 0 (sends 6 (Client 2) (replies (life 2 1) 1 1 (txn_of 1 2) (txn_of 0 0) [] (turn 7 (Target 0)) []
    (told.Made (fid 1 2)))) ∷
    target 7 0 (executes (txn_of 1 2) (life 2 1) 1 [] (told.Made (fid 1 2))) ∷
    target 7 0 (entry.Take 4) ∷
    target 6 0 (sends 5 (Client 1) (replies (life 1 1) 1 1 (txn_of 0 0) (txn_of 0 0) (number 1 1 ∷ []) (turn 6 (Target
    0)) (lock (cookie 1 1) (life 1 1) (object 1 1 0) PR (Bits 1) ∷ []) (told.Dir (fid 1 1)))) ∷
    target 6 0 (entry.Grant (lock (cookie 1 1) (life 1 1) (object 1 1 0) PR (Bits 1))) ∷
    target 6 0 (acts (life 1 1) 1 (told.Dir (fid 1 1))) ∷
    target 6 0 (entry.Take 3) ∷
    client 5 2 (sends 4 (Target 0) (asks (life 2 1) 1 1 0 (op.Mkdir (codes "b" ∷ [])))) ∷
    client 5 2 (entry.Begin 0 (call.Mkdir (codes "b" ∷ []))) ∷
    client 4 1 (sends 3 (Target 0) (asks (life 1 1) 1 1 0 (op.Lookup (codes "a" ∷ [])))) ∷
    client 4 1 (entry.Begin 0 (call.Lookup (codes "a" ∷ []))) ∷
    client 3 0 (entry.Told 0 (turn 2 (Target 0)) (told.Made (fid 1 1))) ∷
    client 3 0 (heard 0 1) ∷
    client 3 0 (entry.Take 2) ∷
    target 2 0 (sends 2 (Client 0) (replies (life 0 1) 1 1 (txn_of 1 1) (txn_of 0 0) [] (turn 2 (Target 0)) []
    (told.Made (fid 1 1)))) ∷
    target 2 0 (executes (txn_of 1 1) (life 0 1) 1 [] (told.Made (fid 1 1))) ∷
    target 2 0 (entry.Take 1) ∷
    client 1 0 (sends 1 (Target 0) (asks (life 0 1) 1 1 0 (op.Mkdir (codes "a" ∷ [])))) ∷
    client 1 0 (entry.Begin 0 (call.Mkdir (codes "a" ∷ []))) ∷
    []

pub absent_and_gap : Lawful 1 absent_and_gap_past
unfolding stripe_of offset_of position_of below_of greatest_end
absent_and_gap = says_yes (decide_lawful 1 absent_and_gap_past) refl
