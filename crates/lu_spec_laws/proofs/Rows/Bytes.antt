-- Lawful traces of calls on bytes, computed.
use Rattle.std.proofs.Common.{[], ◌∷◌, Some, refl, pos}
use Rattle.std.specs.Prelude.{codes, replicate}
use Rattle.lu_base.specs.declared.ids.Node.TheVariants.{Client, Target}
use Rattle.lu_base.specs.declared.locks.Mode.TheVariants.{PW, PR}
use Rattle.lu_base.specs.declared.locks.Policy.TheVariants.{Bits, Range}
use Rattle.lu_msg.specs.declared.answers.Answer.TheVariants as told
use Rattle.lu_msg.specs.declared.calls.Call.TheVariants as call
use Rattle.lu_msg.specs.declared.messages.Message.TheVariants as message
use Rattle.lu_msg.specs.declared.operations.Op.TheVariants as op
use Rattle.lu_trace.specs.declared.entries.Entry.TheVariants as entry
use Rattle.lu_spec_laws.specs.Words.Pasts.{Past}
use Rattle.lu_spec_laws.proofs.Words.{turn, client, target, life, number, fid, txn_of, cookie, extent, onward, object, striped, lock}
use Rattle.lu_spec_laws.proofs.Words.{asks, reports, replies, grants, glimpses}
use Rattle.lu_spec_laws.proofs.Words.{sends, heard, hold, drop, peek, acts, executes}
use Rattle.lu_spec_laws.specs.Lawful.{Lawful}
use Rattle.lu_spec_laws.proofs.Decides.{says_yes}
use Rattle.lu_spec_laws.proofs.Decides.Lawful.{decide_lawful}
use Rattle.lu_layout.specs.Raid0.{stripe_of, offset_of, position_of, below_of, greatest_end}

-- A file over two object targets: a cut makes it longer, cuts make it shorter, a write leaves a gap, reads end at its
-- size.
abbrev pub striped_file_past : Past
striped_file_past =
    client 25 0 (entry.Told 0 (turn 25 (Client 0)) (told.FileSize (fid 1 1) 420 1 0)) ∷
    client 25 0 (entry.Begin 0 (call.Stat (codes "f" ∷ []))) ∷
    client 24 0 (entry.Told 0 (turn 24 (Client 0)) (told.Content [])) ∷
    client 24 0 (entry.Begin 0 (call.Read 0 0 1)) ∷
    client 23 0 (entry.Told 0 (turn 23 (Client 0)) told.Done) ∷
    client 23 0 (entry.Begin 0 (call.Cut 0 0)) ∷
    client 22 0 (entry.Told 0 (turn 22 (Client 0)) (told.Content (0 ∷ 0 ∷ 0 ∷ 0 ∷ 0 ∷ 97 ∷ 98 ∷ []))) ∷
    client 22 0 (heard 2 2) ∷
    client 22 0 (entry.Take 14) ∷
    target 21 2 (sends 14 (Client 0) (replies (life 0 1) 1 2 (txn_of 0 0) (txn_of 0 0) [] (turn 21 (Target 2)) []
    (told.Content []))) ∷
    target 21 2 (entry.Take 13) ∷
    client 20 0 (sends 13 (Target 2) (asks (life 0 1) 1 2 0 (op.Get (object 1 1 0) (cookie 1 1) 0))) ∷
    client 20 0 (entry.Begin 0 (call.Read 0 0 100)) ∷
    client 19 0 (entry.Told 0 (turn 19 (Client 0)) told.Done) ∷
    client 19 0 (entry.Begin 0 (call.Write 0 5 (97 ∷ 98 ∷ []))) ∷
    client 18 0 (entry.Told 0 (turn 18 (Client 0)) told.Done) ∷
    client 18 0 (entry.Begin 0 (call.Cut 0 3)) ∷
    client 17 0 (entry.Told 0 (turn 17 (Client 0)) (told.Content (replicate 2 0))) ∷
    client 17 0 (heard 1 2) ∷
    client 17 0 (entry.Take 12) ∷
    target 16 1 (sends 12 (Client 0) (replies (life 0 1) 1 2 (txn_of 0 0) (txn_of 0 0) [] (turn 16 (Target 1)) []
    (told.Content []))) ∷
    target 16 1 (entry.Take 11) ∷
    client 15 0 (sends 11 (Target 1) (asks (life 0 1) 1 2 0 (op.Get (object 1 1 1) (cookie 1 1) 1))) ∷
    client 15 0 (entry.Begin 0 (call.Read 0 69998 10)) ∷
    client 14 0 (entry.Told 0 (turn 14 (Client 0)) (told.FileSize (fid 1 1) 420 1 70000)) ∷
    client 14 0 (hold 0 (cookie 1 1)) ∷
    client 14 0 (heard 0 3) ∷
    client 14 0 (entry.Take 10) ∷
    target 13 0 (sends 10 (Client 0) (replies (life 0 1) 1 3 (txn_of 0 0) (txn_of 0 0) (number 1 1 ∷ []) (turn 13
    (Target 0)) (lock (cookie 1 1) (life 0 1) (object 1 1 0) PR (Bits 7) ∷ []) (told.FileStat (fid 1 1) 420 1
    (striped 65536 (2 ∷ 1 ∷ []))))) ∷
    target 13 0 (entry.Grant (lock (cookie 1 1) (life 0 1) (object 1 1 0) PR (Bits 7))) ∷
    target 13 0 (acts (life 0 1) 3 (told.FileStat (fid 1 1) 420 1 (striped 65536 (2 ∷ 1 ∷ [])))) ∷
    target 13 0 (entry.Take 9) ∷
    client 12 0 (sends 9 (Target 0) (asks (life 0 1) 1 3 0 (op.Stat (codes "f" ∷ [])))) ∷
    client 12 0 (entry.Begin 0 (call.Stat (codes "f" ∷ []))) ∷
    client 11 0 (entry.Told 0 (turn 11 (Client 0)) told.Done) ∷
    client 11 0 (hold 1 (cookie 1 1)) ∷
    client 11 0 (heard 1 1) ∷
    client 11 0 (entry.Take 8) ∷
    target 10 1 (sends 8 (Client 0) (replies (life 0 1) 1 1 (txn_of 0 0) (txn_of 0 0) [] (turn 10 (Target 1)) []
    (told.Granted (cookie 1 1) (onward 0) 0))) ∷
    target 10 1 (entry.Grant (lock (cookie 1 1) (life 0 1) (object 1 1 1) PW (Range (onward 0)))) ∷
    target 10 1 (entry.Take 7) ∷
    client 9 0 (sends 7 (Target 1) (asks (life 0 1) 1 1 0 (op.Enqueue (object 1 1 1) PW (onward 4463)))) ∷
    client 9 0 (hold 2 (cookie 1 1)) ∷
    client 9 0 (heard 2 1) ∷
    client 9 0 (entry.Take 6) ∷
    target 8 2 (sends 6 (Client 0) (replies (life 0 1) 1 1 (txn_of 0 0) (txn_of 0 0) [] (turn 8 (Target 2)) []
    (told.Granted (cookie 1 1) (onward 0) 0))) ∷
    target 8 2 (entry.Grant (lock (cookie 1 1) (life 0 1) (object 1 1 0) PW (Range (onward 0)))) ∷
    target 8 2 (entry.Take 5) ∷
    client 7 0 (sends 5 (Target 2) (asks (life 0 1) 1 1 0 (op.Enqueue (object 1 1 0) PW (onward 65535)))) ∷
    client 7 0 (entry.Begin 0 (call.Cut 0 70000)) ∷
    client 6 0 (entry.Told 0 (turn 5 (Target 0)) (told.Made (fid 1 1))) ∷
    client 6 0 (heard 0 2) ∷
    client 6 0 (entry.Take 4) ∷
    target 5 0 (sends 4 (Client 0) (replies (life 0 1) 1 2 (txn_of 1 2) (txn_of 0 0) (number 1 1 ∷ []) (turn 5 (Target
    0)) [] (told.OpenFile (fid 1 1) (txn_of 1 2) (striped 65536 (2 ∷ 1 ∷ []))))) ∷
    target 5 0 (executes (txn_of 1 2) (life 0 1) 2 (number 1 1 ∷ []) (told.OpenFile (fid 1 1) (txn_of 1 2) (striped
    65536 (2 ∷ 1 ∷ [])))) ∷
    target 5 0 (entry.Take 3) ∷
    client 4 0 (sends 3 (Target 0) (asks (life 0 1) 1 2 0 (op.Open (codes "f" ∷ [])))) ∷
    client 4 0 (entry.Begin 0 (call.Open 0 (codes "f" ∷ []))) ∷
    client 3 0 (entry.Told 0 (turn 2 (Target 0)) (told.Made (fid 1 1))) ∷
    client 3 0 (heard 0 1) ∷
    client 3 0 (entry.Take 2) ∷
    target 2 0 (sends 2 (Client 0) (replies (life 0 1) 1 1 (txn_of 1 1) (txn_of 0 0) [] (turn 2 (Target 0)) []
    (told.Made (fid 1 1)))) ∷
    target 2 0 (executes (txn_of 1 1) (life 0 1) 1 [] (told.Made (fid 1 1))) ∷
    target 2 0 (entry.Take 1) ∷
    client 1 0 (sends 1 (Target 0) (asks (life 0 1) 1 1 0 (op.Create (codes "f" ∷ []) 65536 (pos 2)))) ∷
    client 1 0 (entry.Begin 0 (call.Create (codes "f" ∷ []) (Some (65536, (pos 2))))) ∷
    []

pub striped_file : Lawful 2 striped_file_past
unfolding stripe_of offset_of position_of below_of greatest_end
striped_file = says_yes (decide_lawful 2 striped_file_past) refl

-- A second client reads what the first has in its cache alone: the lock of the writer is called back.
abbrev pub write_then_read_past : Past
write_then_read_past =
    client 22 1 (entry.Told 0 (turn 22 (Client 1)) (told.Content (104 ∷ 105 ∷ []))) ∷
    client 22 1 (heard 1 2) ∷
    client 22 1 (entry.Take 17) ∷
    target 21 1 (sends 17 (Client 1) (replies (life 1 1) 1 2 (txn_of 0 0) (txn_of 0 0) (number 1 1 ∷ []) (turn 21
    (Target 1)) [] (told.Content (104 ∷ 105 ∷ [])))) ∷
    target 21 1 (entry.Take 16) ∷
    client 20 1 (sends 16 (Target 1) (asks (life 1 1) 1 2 0 (op.Get (object 1 1 0) (cookie 1 2) 0))) ∷
    client 20 1 (hold 1 (cookie 1 2)) ∷
    client 20 1 (entry.Take 15) ∷
    target 19 1 (sends 15 (Client 1) (grants (life 1 1) 1 (cookie 1 2) (onward 0) 2 (txn_of 0 0) (number 1 1 ∷ []))) ∷
    target 19 1 (entry.Grant (lock (cookie 1 2) (life 1 1) (object 1 1 0) PR (Range (onward 0)))) ∷
    target 19 1 (entry.Release (cookie 1 1)) ∷
    target 19 1 (entry.Take 14) ∷
    client 18 0 (sends 14 (Target 1) (message.Cancel (life 0 1) 1 (cookie 1 1))) ∷
    client 18 0 (drop 1 (cookie 1 1)) ∷
    client 18 0 (heard 1 2) ∷
    client 18 0 (entry.Take 13) ∷
    target 17 1 (sends 13 (Client 0) (replies (life 0 1) 1 2 (txn_of 1 1) (txn_of 0 0) [] (turn 17 (Target 1)) []
    told.Done)) ∷
    target 17 1 (executes (txn_of 1 1) (life 0 1) 2 [] told.Done) ∷
    target 17 1 (entry.Take 12) ∷
    client 16 0 (sends 12 (Target 1) (asks (life 0 1) 1 2 0 (op.Put (object 1 1 0) (cookie 1 1) 0 (104 ∷ 105 ∷ [])))) ∷
    client 16 0 (entry.Take 11) ∷
    client 15 1 (heard 1 1) ∷
    client 15 1 (entry.Take 10) ∷
    target 14 1 (sends 11 (Client 0) (message.Block (life 0 1) 1 (cookie 1 1))) ∷
    target 14 1 (entry.Block (cookie 1 1)) ∷
    target 14 1 (sends 10 (Client 1) (replies (life 1 1) 1 1 (txn_of 0 0) (txn_of 0 0) [] (turn 14 (Target 1)) []
    (told.Waiting (cookie 1 2)))) ∷
    target 14 1 (entry.Wait (lock (cookie 1 2) (life 1 1) (object 1 1 0) PR (Range (extent 0 7)))) ∷
    target 14 1 (entry.Take 9) ∷
    client 13 1 (sends 9 (Target 1) (asks (life 1 1) 1 1 0 (op.Enqueue (object 1 1 0) PR (extent 0 7)))) ∷
    client 13 1 (entry.Begin 0 (call.Read 0 0 8)) ∷
    client 12 0 (entry.Told 0 (turn 12 (Client 0)) told.Done) ∷
    client 12 0 (hold 1 (cookie 1 1)) ∷
    client 12 0 (heard 1 1) ∷
    client 12 0 (entry.Take 8) ∷
    target 11 1 (sends 8 (Client 0) (replies (life 0 1) 1 1 (txn_of 0 0) (txn_of 0 0) [] (turn 11 (Target 1)) []
    (told.Granted (cookie 1 1) (onward 0) 0))) ∷
    target 11 1 (entry.Grant (lock (cookie 1 1) (life 0 1) (object 1 1 0) PW (Range (onward 0)))) ∷
    target 11 1 (entry.Take 7) ∷
    client 10 0 (sends 7 (Target 1) (asks (life 0 1) 1 1 0 (op.Enqueue (object 1 1 0) PW (extent 0 1)))) ∷
    client 10 0 (entry.Begin 0 (call.Write 0 0 (104 ∷ 105 ∷ []))) ∷
    client 9 1 (entry.Told 0 (turn 8 (Target 0)) (told.Made (fid 1 1))) ∷
    client 9 1 (heard 0 1) ∷
    client 9 1 (entry.Take 6) ∷
    target 8 0 (sends 6 (Client 1) (replies (life 1 1) 1 1 (txn_of 1 3) (txn_of 0 0) (number 1 1 ∷ []) (turn 8 (Target
    0)) [] (told.OpenFile (fid 1 1) (txn_of 1 3) (striped 1048576 (1 ∷ []))))) ∷
    target 8 0 (executes (txn_of 1 3) (life 1 1) 1 (number 1 1 ∷ []) (told.OpenFile (fid 1 1) (txn_of 1 3) (striped
    1048576 (1 ∷ [])))) ∷
    target 8 0 (entry.Take 5) ∷
    client 7 1 (sends 5 (Target 0) (asks (life 1 1) 1 1 0 (op.Open (codes "f" ∷ [])))) ∷
    client 7 1 (entry.Begin 0 (call.Open 0 (codes "f" ∷ []))) ∷
    client 6 0 (entry.Told 0 (turn 5 (Target 0)) (told.Made (fid 1 1))) ∷
    client 6 0 (heard 0 2) ∷
    client 6 0 (entry.Take 4) ∷
    target 5 0 (sends 4 (Client 0) (replies (life 0 1) 1 2 (txn_of 1 2) (txn_of 0 0) (number 1 1 ∷ []) (turn 5 (Target
    0)) [] (told.OpenFile (fid 1 1) (txn_of 1 2) (striped 1048576 (1 ∷ []))))) ∷
    target 5 0 (executes (txn_of 1 2) (life 0 1) 2 (number 1 1 ∷ []) (told.OpenFile (fid 1 1) (txn_of 1 2) (striped
    1048576 (1 ∷ [])))) ∷
    target 5 0 (entry.Take 3) ∷
    client 4 0 (sends 3 (Target 0) (asks (life 0 1) 1 2 0 (op.Open (codes "f" ∷ [])))) ∷
    client 4 0 (entry.Begin 0 (call.Open 0 (codes "f" ∷ []))) ∷
    client 3 0 (entry.Told 0 (turn 2 (Target 0)) (told.Made (fid 1 1))) ∷
    client 3 0 (heard 0 1) ∷
    client 3 0 (entry.Take 2) ∷
    target 2 0 (sends 2 (Client 0) (replies (life 0 1) 1 1 (txn_of 1 1) (txn_of 0 0) [] (turn 2 (Target 0)) []
    (told.Made (fid 1 1)))) ∷
    target 2 0 (executes (txn_of 1 1) (life 0 1) 1 [] (told.Made (fid 1 1))) ∷
    target 2 0 (entry.Take 1) ∷
    client 1 0 (sends 1 (Target 0) (asks (life 0 1) 1 1 0 (op.Create (codes "f" ∷ []) 1048576 (pos 1)))) ∷
    client 1 0 (entry.Begin 0 (call.Create (codes "f" ∷ []) (Some (1048576, (pos 1))))) ∷
    []

pub write_then_read : Lawful 1 write_then_read_past
unfolding stripe_of offset_of position_of below_of greatest_end
write_then_read = says_yes (decide_lawful 1 write_then_read_past) refl

-- A second client asks for the size of a file that the first has changed in its cache alone.
abbrev pub glimpse_past : Past
glimpse_past =
    client 17 1 (entry.Told 0 (turn 17 (Client 1)) (told.Sizes (2 ∷ []))) ∷
    client 17 1 (heard 1 1) ∷
    client 17 1 (entry.Take 12) ∷
    target 16 1 (sends 12 (Client 1) (replies (life 1 1) 1 1 (txn_of 0 0) (txn_of 0 0) [] (turn 15 (Client 0)) []
    (told.Size 2))) ∷
    target 16 1 (entry.Take 11) ∷
    client 15 0 (sends 11 (Target 1) (reports (life 0 1) 1 (cookie 1 1) (life 1 1) 1 (Some 2) 15)) ∷
    client 15 0 (peek 1 (cookie 1 1) 2) ∷
    client 15 0 (entry.Take 10) ∷
    target 14 1 (sends 10 (Client 0) (glimpses (life 0 1) 1 (cookie 1 1) (life 1 1) 1)) ∷
    target 14 1 (entry.Take 9) ∷
    client 13 1 (sends 9 (Target 1) (asks (life 1 1) 1 1 0 (op.Size (object 1 1 0)))) ∷
    client 13 1 (entry.Begin 0 (call.Glimpse 0)) ∷
    client 12 0 (entry.Told 0 (turn 12 (Client 0)) told.Done) ∷
    client 12 0 (hold 1 (cookie 1 1)) ∷
    client 12 0 (heard 1 1) ∷
    client 12 0 (entry.Take 8) ∷
    target 11 1 (sends 8 (Client 0) (replies (life 0 1) 1 1 (txn_of 0 0) (txn_of 0 0) [] (turn 11 (Target 1)) []
    (told.Granted (cookie 1 1) (onward 0) 0))) ∷
    target 11 1 (entry.Grant (lock (cookie 1 1) (life 0 1) (object 1 1 0) PW (Range (onward 0)))) ∷
    target 11 1 (entry.Take 7) ∷
    client 10 0 (sends 7 (Target 1) (asks (life 0 1) 1 1 0 (op.Enqueue (object 1 1 0) PW (extent 0 1)))) ∷
    client 10 0 (entry.Begin 0 (call.Write 0 0 (104 ∷ 105 ∷ []))) ∷
    client 9 1 (entry.Told 0 (turn 8 (Target 0)) (told.Made (fid 1 1))) ∷
    client 9 1 (heard 0 1) ∷
    client 9 1 (entry.Take 6) ∷
    target 8 0 (sends 6 (Client 1) (replies (life 1 1) 1 1 (txn_of 1 3) (txn_of 0 0) (number 1 1 ∷ []) (turn 8 (Target
    0)) [] (told.OpenFile (fid 1 1) (txn_of 1 3) (striped 1048576 (1 ∷ []))))) ∷
    target 8 0 (executes (txn_of 1 3) (life 1 1) 1 (number 1 1 ∷ []) (told.OpenFile (fid 1 1) (txn_of 1 3) (striped
    1048576 (1 ∷ [])))) ∷
    target 8 0 (entry.Take 5) ∷
    client 7 1 (sends 5 (Target 0) (asks (life 1 1) 1 1 0 (op.Open (codes "f" ∷ [])))) ∷
    client 7 1 (entry.Begin 0 (call.Open 0 (codes "f" ∷ []))) ∷
    client 6 0 (entry.Told 0 (turn 5 (Target 0)) (told.Made (fid 1 1))) ∷
    client 6 0 (heard 0 2) ∷
    client 6 0 (entry.Take 4) ∷
    target 5 0 (sends 4 (Client 0) (replies (life 0 1) 1 2 (txn_of 1 2) (txn_of 0 0) (number 1 1 ∷ []) (turn 5 (Target
    0)) [] (told.OpenFile (fid 1 1) (txn_of 1 2) (striped 1048576 (1 ∷ []))))) ∷
    target 5 0 (executes (txn_of 1 2) (life 0 1) 2 (number 1 1 ∷ []) (told.OpenFile (fid 1 1) (txn_of 1 2) (striped
    1048576 (1 ∷ [])))) ∷
    target 5 0 (entry.Take 3) ∷
    client 4 0 (sends 3 (Target 0) (asks (life 0 1) 1 2 0 (op.Open (codes "f" ∷ [])))) ∷
    client 4 0 (entry.Begin 0 (call.Open 0 (codes "f" ∷ []))) ∷
    client 3 0 (entry.Told 0 (turn 2 (Target 0)) (told.Made (fid 1 1))) ∷
    client 3 0 (heard 0 1) ∷
    client 3 0 (entry.Take 2) ∷
    target 2 0 (sends 2 (Client 0) (replies (life 0 1) 1 1 (txn_of 1 1) (txn_of 0 0) [] (turn 2 (Target 0)) []
    (told.Made (fid 1 1)))) ∷
    target 2 0 (executes (txn_of 1 1) (life 0 1) 1 [] (told.Made (fid 1 1))) ∷
    target 2 0 (entry.Take 1) ∷
    client 1 0 (sends 1 (Target 0) (asks (life 0 1) 1 1 0 (op.Create (codes "f" ∷ []) 1048576 (pos 1)))) ∷
    client 1 0 (entry.Begin 0 (call.Create (codes "f" ∷ []) (Some (1048576, (pos 1))))) ∷
    []

pub glimpse : Lawful 1 glimpse_past
unfolding stripe_of offset_of position_of below_of greatest_end
glimpse = says_yes (decide_lawful 1 glimpse_past) refl
