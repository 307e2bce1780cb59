-- Lawful traces of calls on names, computed.
use Rattle.std.proofs.Common.{[], ◌∷◌, refl}
use Rattle.std.specs.Prelude.{codes}
use Rattle.lu_base.specs.declared.ids.Node.TheVariants.{Client, Target}
use Rattle.lu_base.specs.declared.locks.Mode.TheVariants.{PR}
use Rattle.lu_base.specs.declared.locks.Policy.TheVariants.{Bits}
use Rattle.lu_msg.specs.declared.answers.Answer.TheVariants as told
use Rattle.lu_msg.specs.declared.answers.Errno.TheVariants.{ENOENT, EEXIST}
use Rattle.lu_msg.specs.declared.calls.Call.TheVariants as call
use Rattle.lu_msg.specs.declared.messages.Message.TheVariants as message
use Rattle.lu_msg.specs.declared.operations.Op.TheVariants as op
use Rattle.lu_trace.specs.declared.entries.Entry.TheVariants as entry
use Rattle.lu_spec_laws.specs.Words.Pasts.{Past}
use Rattle.lu_spec_laws.proofs.Words.{turn, client, target, life, number, fid, txn_of, cookie, object, lock}
use Rattle.lu_spec_laws.proofs.Words.{asks, replies}
use Rattle.lu_spec_laws.proofs.Words.{sends, heard, hold, drop, acts, executes}
use Rattle.lu_spec_laws.specs.Lawful.{Lawful}
use Rattle.lu_spec_laws.proofs.Decides.{says_yes}
use Rattle.lu_spec_laws.proofs.Decides.Lawful.{decide_lawful}
use Rattle.lu_layout.specs.Raid0.{stripe_of, offset_of, position_of, below_of, greatest_end}

-- One client makes a directory twice, looks for another and removes the first: two transactions and two acts.
abbrev pub one_client_past : Past
one_client_past =
    client 12 0 (entry.Told 0 (turn 11 (Target 0)) told.Done) ∷
    client 12 0 (heard 0 4) ∷
    client 12 0 (entry.Take 8) ∷
    target 11 0 (sends 8 (Client 0) (replies (life 0 1) 1 4 (txn_of 1 2) (txn_of 0 0) (number 1 1 ∷ []) (turn 11 (Target
    0)) [] told.Done)) ∷
    target 11 0 (executes (txn_of 1 2) (life 0 1) 4 (number 1 1 ∷ []) told.Done) ∷
    target 11 0 (entry.Take 7) ∷
    client 10 0 (sends 7 (Target 0) (asks (life 0 1) 1 4 0 (op.Rmdir (codes "a" ∷ [])))) ∷
    client 10 0 (entry.Begin 0 (call.Rmdir (codes "a" ∷ []))) ∷
    client 9 0 (entry.Told 0 (turn 8 (Target 0)) (told.Refused ENOENT)) ∷
    client 9 0 (heard 0 3) ∷
    client 9 0 (entry.Take 6) ∷
    target 8 0 (sends 6 (Client 0) (replies (life 0 1) 1 3 (txn_of 0 0) (txn_of 0 0) [] (turn 8 (Target 0)) []
    (told.Refused ENOENT))) ∷
    target 8 0 (acts (life 0 1) 3 (told.Refused ENOENT)) ∷
    target 8 0 (entry.Take 5) ∷
    client 7 0 (sends 5 (Target 0) (asks (life 0 1) 1 3 0 (op.Lookup (codes "b" ∷ [])))) ∷
    client 7 0 (entry.Begin 0 (call.Lookup (codes "b" ∷ []))) ∷
    client 6 0 (entry.Told 0 (turn 5 (Target 0)) (told.Refused EEXIST)) ∷
    client 6 0 (heard 0 2) ∷
    client 6 0 (entry.Take 4) ∷
    target 5 0 (sends 4 (Client 0) (replies (life 0 1) 1 2 (txn_of 0 0) (txn_of 0 0) (number 1 1 ∷ []) (turn 5 (Target
    0)) [] (told.Refused EEXIST))) ∷
    target 5 0 (acts (life 0 1) 2 (told.Refused EEXIST)) ∷
    target 5 0 (entry.Take 3) ∷
    client 4 0 (sends 3 (Target 0) (asks (life 0 1) 1 2 0 (op.Mkdir (codes "a" ∷ [])))) ∷
    client 4 0 (entry.Begin 0 (call.Mkdir (codes "a" ∷ []))) ∷
    client 3 0 (entry.Told 0 (turn 2 (Target 0)) (told.Made (fid 1 1))) ∷
    client 3 0 (heard 0 1) ∷
    client 3 0 (entry.Take 2) ∷
    target 2 0 (sends 2 (Client 0) (replies (life 0 1) 1 1 (txn_of 1 1) (txn_of 0 0) [] (turn 2 (Target 0)) []
    (told.Made (fid 1 1)))) ∷
    target 2 0 (executes (txn_of 1 1) (life 0 1) 1 [] (told.Made (fid 1 1))) ∷
    target 2 0 (entry.Take 1) ∷
    client 1 0 (sends 1 (Target 0) (asks (life 0 1) 1 1 0 (op.Mkdir (codes "a" ∷ [])))) ∷
    client 1 0 (entry.Begin 0 (call.Mkdir (codes "a" ∷ []))) ∷
    []

pub one_client : Lawful 1 one_client_past
unfolding stripe_of offset_of position_of below_of greatest_end
one_client = says_yes (decide_lawful 1 one_client_past) refl

-- A request comes twice, both replies to it are lost, and a tick sends it again: it acts once, and the kept reply is
-- told.
abbrev pub lost_reply_resent_past : Past
lost_reply_resent_past =
    client 6 0 (entry.Told 0 (turn 2 (Target 0)) (told.Made (fid 1 1))) ∷
    client 6 0 (heard 0 1) ∷
    client 6 0 (entry.Take 5) ∷
    target 5 0 (sends 5 (Client 0) (replies (life 0 1) 1 1 (txn_of 1 1) (txn_of 0 0) [] (turn 2 (Target 0)) []
    (told.Made (fid 1 1)))) ∷
    target 5 0 (entry.Take 4) ∷
    client 4 0 (sends 4 (Target 0) (asks (life 0 1) 1 1 0 (op.Mkdir (codes "a" ∷ [])))) ∷
    client 4 0 entry.Tick ∷
    target 3 0 (sends 3 (Client 0) (replies (life 0 1) 1 1 (txn_of 1 1) (txn_of 0 0) [] (turn 2 (Target 0)) []
    (told.Made (fid 1 1)))) ∷
    target 3 0 (entry.Take 1) ∷
    target 2 0 (sends 2 (Client 0) (replies (life 0 1) 1 1 (txn_of 1 1) (txn_of 0 0) [] (turn 2 (Target 0)) []
    (told.Made (fid 1 1)))) ∷
    target 2 0 (executes (txn_of 1 1) (life 0 1) 1 [] (told.Made (fid 1 1))) ∷
    target 2 0 (entry.Take 1) ∷
    client 1 0 (sends 1 (Target 0) (asks (life 0 1) 1 1 0 (op.Mkdir (codes "a" ∷ [])))) ∷
    client 1 0 (entry.Begin 0 (call.Mkdir (codes "a" ∷ []))) ∷
    []

pub lost_reply_resent : Lawful 1 lost_reply_resent_past
unfolding stripe_of offset_of position_of below_of greatest_end
lost_reply_resent = says_yes (decide_lawful 1 lost_reply_resent_past) refl

-- A name that one client has looked up is called back from it, since another removes the name.
abbrev pub name_called_back_past : Past
name_called_back_past =
    client 11 0 (entry.Told 0 (turn 10 (Target 0)) told.Done) ∷
    client 11 0 (heard 0 2) ∷
    client 11 0 (entry.Take 8) ∷
    target 10 0 (sends 8 (Client 0) (replies (life 0 1) 1 2 (txn_of 1 2) (txn_of 0 0) (number 1 1 ∷ []) (turn 10 (Target
    0)) [] told.Done)) ∷
    target 10 0 (executes (txn_of 1 2) (life 0 1) 2 (number 1 1 ∷ []) told.Done) ∷
    target 10 0 (entry.Release (cookie 1 1)) ∷
    target 10 0 (entry.Take 7) ∷
    client 9 1 (sends 7 (Target 0) (message.Cancel (life 1 1) 1 (cookie 1 1))) ∷
    client 9 1 (drop 0 (cookie 1 1)) ∷
    client 9 1 (entry.Take 6) ∷
    target 8 0 (sends 6 (Client 1) (message.Block (life 1 1) 1 (cookie 1 1))) ∷
    target 8 0 (entry.Block (cookie 1 1)) ∷
    target 8 0 (entry.Take 5) ∷
    client 7 0 (sends 5 (Target 0) (asks (life 0 1) 1 2 0 (op.Rmdir (codes "a" ∷ [])))) ∷
    client 7 0 (entry.Begin 0 (call.Rmdir (codes "a" ∷ []))) ∷
    client 6 1 (entry.Told 0 (turn 5 (Target 0)) (told.Dir (fid 1 1))) ∷
    client 6 1 (hold 0 (cookie 1 1)) ∷
    client 6 1 (heard 0 1) ∷
    client 6 1 (entry.Take 4) ∷
    target 5 0 (sends 4 (Client 1) (replies (life 1 1) 1 1 (txn_of 0 0) (txn_of 0 0) (number 1 1 ∷ []) (turn 5 (Target
    0)) (lock (cookie 1 1) (life 1 1) (object 1 1 0) PR (Bits 1) ∷ []) (told.Dir (fid 1 1)))) ∷
    target 5 0 (entry.Grant (lock (cookie 1 1) (life 1 1) (object 1 1 0) PR (Bits 1))) ∷
    target 5 0 (acts (life 1 1) 1 (told.Dir (fid 1 1))) ∷
    target 5 0 (entry.Take 3) ∷
    client 4 1 (sends 3 (Target 0) (asks (life 1 1) 1 1 0 (op.Lookup (codes "a" ∷ [])))) ∷
    client 4 1 (entry.Begin 0 (call.Lookup (codes "a" ∷ []))) ∷
    client 3 0 (entry.Told 0 (turn 2 (Target 0)) (told.Made (fid 1 1))) ∷
    client 3 0 (heard 0 1) ∷
    client 3 0 (entry.Take 2) ∷
    target 2 0 (sends 2 (Client 0) (replies (life 0 1) 1 1 (txn_of 1 1) (txn_of 0 0) [] (turn 2 (Target 0)) []
    (told.Made (fid 1 1)))) ∷
    target 2 0 (executes (txn_of 1 1) (life 0 1) 1 [] (told.Made (fid 1 1))) ∷
    target 2 0 (entry.Take 1) ∷
    client 1 0 (sends 1 (Target 0) (asks (life 0 1) 1 1 0 (op.Mkdir (codes "a" ∷ [])))) ∷
    client 1 0 (entry.Begin 0 (call.Mkdir (codes "a" ∷ []))) ∷
    []

pub name_called_back : Lawful 1 name_called_back_past
unfolding stripe_of offset_of position_of below_of greatest_end
name_called_back = says_yes (decide_lawful 1 name_called_back_past) refl
