-- Traces that break the law of history in what is told or in a transaction of the metadata target, and lawful ones
-- beside them. They have only the lines that this law looks at, the newest first.
use Rattle.std.proofs.Common.{[], ◌∷◌, Some, refl, pos}
use Rattle.std.specs.Prelude.{codes}
use Rattle.lu_base.specs.declared.ids.Node.TheVariants.{Client, Target}
use Rattle.lu_base.specs.declared.locks.Cause.TheVariants.{Expired}
use Rattle.lu_msg.specs.declared.answers.Answer.TheVariants as told
use Rattle.lu_msg.specs.declared.answers.Errno.TheVariants.{ENOENT, EIO}
use Rattle.lu_msg.specs.declared.calls.Call.TheVariants as call
use Rattle.lu_msg.specs.declared.operations.Op.TheVariants as op
use Rattle.lu_trace.specs.declared.entries.Entry.TheVariants as entry
use Rattle.lu_spec_laws.specs.Words.Pasts.{Past}
use Rattle.lu_spec_laws.proofs.Words.{turn, client, target, life, number, fid, txn_of, cookie, object, striped}
use Rattle.lu_spec_laws.proofs.Words.{asks, replies}
use Rattle.lu_spec_laws.proofs.Words.{sends, heard, acts, executes}
use Rattle.lu_layout.specs.Raid0.{position_of, below_of, stripe_of, offset_of, greatest_end}
use Rattle.lu_spec_laws.specs.Holds.{Holds}
use Rattle.lu_spec_laws.specs.Laws.History.{History}
use Rattle.lu_spec_laws.proofs.Decides.{Decided, says_yes, says_no, holds}
use Rattle.lu_spec_laws.proofs.Decides.History.{decide_history}

abbrev pub Breaks : Past → Type 0
Breaks past = Holds (History 1 past) past → ⊥

abbrev pub Keeps : Past → Type 0
Keeps past = Holds (History 1 past) past

abbrev decide : (whole : Past) → Decided (Holds (History 1 whole) whole)
decide whole = holds (decide_history 1 whole) whole

-- c0 made /f and opened it as handle 0
abbrev pub opened : Past
opened =
    client 6 0 (entry.Told 0 (turn 5 (Target 0)) (told.Made (fid 1 1))) ∷
    client 6 0 (heard 0 2) ∷
    target 5 0 (executes (txn_of 1 2) (life 0 1) 2 (number 1 1 ∷ []) (told.OpenFile (fid 1 1) (txn_of 1 2) (striped
    65536 (1 ∷ [])))) ∷
    client 4 0 (sends 3 (Target 0) (asks (life 0 1) 1 2 0 (op.Open (codes "f" ∷ [])))) ∷
    client 4 0 (entry.Begin 0 (call.Open 0 (codes "f" ∷ []))) ∷
    client 3 0 (entry.Told 0 (turn 2 (Target 0)) (told.Made (fid 1 1))) ∷
    client 3 0 (heard 0 1) ∷
    target 2 0 (executes (txn_of 1 1) (life 0 1) 1 [] (told.Made (fid 1 1))) ∷
    client 1 0 (sends 1 (Target 0) (asks (life 0 1) 1 1 0 (op.Create (codes "f" ∷ []) 65536 (pos 1)))) ∷
    client 1 0 (entry.Begin 0 (call.Create (codes "f" ∷ []) (Some (65536, (pos 1))))) ∷
    []

-- it wrote two bytes
abbrev pub written : Past
written =
    client 8 0 (entry.Told 0 (turn 8 (Client 0)) told.Done) ∷
    client 7 0 (entry.Begin 0 (call.Write 0 0 (104 ∷ 105 ∷ []))) ∷
    opened

-- c1 opened the file too
abbrev pub both_opened : Past
both_opened =
    client 9 1 (entry.Told 0 (turn 8 (Target 0)) (told.Made (fid 1 1))) ∷
    client 9 1 (heard 0 1) ∷
    target 8 0 (executes (txn_of 1 3) (life 1 1) 1 (number 1 1 ∷ []) (told.OpenFile (fid 1 1) (txn_of 1 3) (striped
    65536 (1 ∷ [])))) ∷
    client 7 1 (sends 5 (Target 0) (asks (life 1 1) 1 1 0 (op.Open (codes "f" ∷ [])))) ∷
    client 7 1 (entry.Begin 0 (call.Open 0 (codes "f" ∷ []))) ∷
    opened

-- the same, with the reply that tells c1 where the bytes lie
abbrev pub heard_opened : Past
heard_opened =
    client 9 1 (entry.Told 0 (turn 8 (Target 0)) (told.Made (fid 1 1))) ∷
    client 9 1 (heard 0 1) ∷
    client 9 1 (entry.Take 6) ∷
    target 8 0 (sends 6 (Client 1) (replies (life 1 1) 1 1 (txn_of 1 3) (txn_of 0 0) (number 1 1 ∷ []) (turn 8 (Target
    0)) [] (told.OpenFile (fid 1 1) (txn_of 1 3) (striped 65536 (1 ∷ []))))) ∷
    target 8 0 (executes (txn_of 1 3) (life 1 1) 1 (number 1 1 ∷ []) (told.OpenFile (fid 1 1) (txn_of 1 3) (striped
    65536 (1 ∷ [])))) ∷
    client 7 1 (sends 5 (Target 0) (asks (life 1 1) 1 1 0 (op.Open (codes "f" ∷ [])))) ∷
    client 7 1 (entry.Begin 0 (call.Open 0 (codes "f" ∷ []))) ∷
    opened

-- c0 asks to make a directory
abbrev pub asked : Past
asked =
    client 1 0 (sends 1 (Target 0) (asks (life 0 1) 1 1 0 (op.Mkdir (codes "a" ∷ [])))) ∷
    client 1 0 (entry.Begin 0 (call.Mkdir (codes "a" ∷ []))) ∷
    []

-- and it is made
abbrev pub made : Past
made =
    target 2 0 (executes (txn_of 1 1) (life 0 1) 1 [] (told.Made (fid 1 1))) ∷
    asked

-- it is lost at a close, since c0 isn't back
abbrev pub lost : Past
lost =
    target 5 0 (entry.Commit (txn_of 0 0)) ∷
    target 5 0 entry.Close ∷
    target 4 0 (entry.Boot 2) ∷
    target 3 0 entry.Crash ∷
    made

-- ---- told in the turn in which it acted

-- another byte is read than was written
abbrev pub reads_another_byte_past : Past
reads_another_byte_past =
    client 9 0 (entry.Told 0 (turn 9 (Client 0)) (told.Content (104 ∷ 104 ∷ []))) ∷
    client 9 0 (entry.Begin 0 (call.Read 0 0 8)) ∷
    written

pub reads_another_byte : Breaks reads_another_byte_past
unfolding position_of below_of stripe_of offset_of greatest_end
reads_another_byte = says_no (decide reads_another_byte_past) refl

-- a read ends before the last byte
abbrev pub reads_too_few_past : Past
reads_too_few_past =
    client 9 0 (entry.Told 0 (turn 9 (Client 0)) (told.Content (104 ∷ []))) ∷
    client 9 0 (entry.Begin 0 (call.Read 0 0 8)) ∷
    written

pub reads_too_few : Breaks reads_too_few_past
unfolding position_of below_of stripe_of offset_of greatest_end
reads_too_few = says_no (decide reads_too_few_past) refl

-- a write is read that is told only later
abbrev pub reads_too_early_past : Past
reads_too_early_past =
    client 9 0 (entry.Told 0 (turn 9 (Client 0)) told.Done) ∷
    client 8 0 (entry.Told 1 (turn 8 (Client 0)) (told.Content (104 ∷ 105 ∷ []))) ∷
    client 8 0 (entry.Begin 1 (call.Read 0 0 8)) ∷
    client 7 0 (entry.Begin 0 (call.Write 0 0 (104 ∷ 105 ∷ []))) ∷
    opened

pub reads_too_early : Breaks reads_too_early_past
unfolding position_of below_of stripe_of offset_of greatest_end
reads_too_early = says_no (decide reads_too_early_past) refl

-- what a life wrote that is gone is read, and didn't reach the object
abbrev pub reads_the_gone_past : Past
reads_the_gone_past =
    target 12 1 (entry.Evict (life 1 1) Expired) ∷
    client 11 0 (entry.Told 0 (turn 11 (Client 0)) (told.Content (104 ∷ 105 ∷ []))) ∷
    client 11 0 (entry.Begin 0 (call.Read 0 0 8)) ∷
    client 10 1 (entry.Told 0 (turn 10 (Client 1)) told.Done) ∷
    client 10 1 (entry.Begin 0 (call.Write 0 0 (104 ∷ 105 ∷ []))) ∷
    both_opened

pub reads_the_gone : Breaks reads_the_gone_past
unfolding position_of below_of stripe_of offset_of greatest_end
reads_the_gone = says_no (decide reads_the_gone_past) refl

-- a size is told that the file doesn't have any more
abbrev pub stats_old_size_past : Past
stats_old_size_past =
    client 10 0 (entry.Told 0 (turn 10 (Client 0)) (told.FileSize (fid 1 1) 420 1 2)) ∷
    client 10 0 (entry.Begin 0 (call.Stat (codes "f" ∷ []))) ∷
    client 9 0 (entry.Told 0 (turn 9 (Client 0)) told.Done) ∷
    client 9 0 (entry.Begin 0 (call.Cut 0 0)) ∷
    written

pub stats_old_size : Breaks stats_old_size_past
unfolding position_of below_of stripe_of offset_of greatest_end
stats_old_size = says_no (decide stats_old_size_past) refl

-- the size that it has is told
abbrev pub stats_new_size_past : Past
stats_new_size_past =
    client 10 0 (entry.Told 0 (turn 10 (Client 0)) (told.FileSize (fid 1 1) 420 1 0)) ∷
    client 10 0 (entry.Begin 0 (call.Stat (codes "f" ∷ []))) ∷
    client 9 0 (entry.Told 0 (turn 9 (Client 0)) told.Done) ∷
    client 9 0 (entry.Begin 0 (call.Cut 0 0)) ∷
    written

pub stats_new_size : Keeps stats_new_size_past
unfolding position_of below_of stripe_of offset_of greatest_end
stats_new_size = says_yes (decide stats_new_size_past) refl

-- a directory is made in a turn of the client
abbrev pub makes_silently_past : Past
makes_silently_past =
    client 1 0 (entry.Told 0 (turn 1 (Client 0)) (told.Made (fid 1 1))) ∷
    client 1 0 (entry.Begin 0 (call.Mkdir (codes "a" ∷ []))) ∷
    []

pub makes_silently : Breaks makes_silently_past
unfolding position_of below_of stripe_of offset_of greatest_end
makes_silently = says_no (decide makes_silently_past) refl

-- the bytes that were written are read
abbrev pub reads_what_it_wrote_past : Past
reads_what_it_wrote_past =
    client 9 0 (entry.Told 0 (turn 9 (Client 0)) (told.Content (104 ∷ 105 ∷ []))) ∷
    client 9 0 (entry.Begin 0 (call.Read 0 0 8)) ∷
    written

pub reads_what_it_wrote : Keeps reads_what_it_wrote_past
unfolding position_of below_of stripe_of offset_of greatest_end
reads_what_it_wrote = says_yes (decide reads_what_it_wrote_past) refl

-- of a life that is gone what reached the object is read
abbrev pub reads_what_reached_past : Past
reads_what_reached_past =
    target 14 1 (entry.Evict (life 1 1) Expired) ∷
    client 13 0 (entry.Told 0 (turn 13 (Client 0)) (told.Content (104 ∷ 105 ∷ []))) ∷
    client 13 0 (entry.Begin 0 (call.Read 0 0 8)) ∷
    target 12 1 (executes (txn_of 1 1) (life 1 1) 1 [] told.Done) ∷
    client 11 1 (sends 9 (Target 1) (asks (life 1 1) 1 1 0 (op.Put (object 1 1 0) (cookie 1 1) 0 (104 ∷ 105 ∷ [])))) ∷
    client 10 1 (entry.Told 0 (turn 10 (Client 1)) told.Done) ∷
    client 10 1 (entry.Begin 0 (call.Write 0 0 (104 ∷ 105 ∷ []))) ∷
    heard_opened

pub reads_what_reached : Keeps reads_what_reached_past
unfolding position_of below_of stripe_of offset_of greatest_end
reads_what_reached = says_yes (decide reads_what_reached_past) refl

-- a life that is gone is told anything
abbrev pub gone_reads_anything_past : Past
gone_reads_anything_past =
    target 10 1 (entry.Evict (life 0 1) Expired) ∷
    client 9 0 (entry.Told 0 (turn 9 (Client 0)) (told.Content (104 ∷ 104 ∷ []))) ∷
    client 9 0 (entry.Begin 0 (call.Read 0 0 8)) ∷
    written

pub gone_reads_anything : Keeps gone_reads_anything_past
unfolding position_of below_of stripe_of offset_of greatest_end
gone_reads_anything = says_yes (decide gone_reads_anything_past) refl

-- a call ends with its life
abbrev pub ends_with_its_life_past : Past
ends_with_its_life_past =
    client 9 0 (entry.Told 0 (turn 9 (Client 0)) (told.Refused EIO)) ∷
    client 9 0 (entry.Begin 0 (call.Read 0 0 8)) ∷
    written

pub ends_with_its_life : Keeps ends_with_its_life_past
unfolding position_of below_of stripe_of offset_of greatest_end
ends_with_its_life = says_yes (decide ends_with_its_life_past) refl

-- ---- told with the turn in which the metadata target executed it

-- another inode is told
abbrev pub another_inode_past : Past
another_inode_past =
    client 3 0 (entry.Told 0 (turn 2 (Target 0)) (told.Made (fid 1 2))) ∷
    client 3 0 (heard 0 1) ∷
    made

pub another_inode : Breaks another_inode_past
unfolding position_of below_of stripe_of offset_of greatest_end
another_inode = says_no (decide another_inode_past) refl

-- an answer is told that was right only after the turn that it names
abbrev pub right_too_late_past : Past
right_too_late_past =
    client 4 1 (entry.Told 0 (turn 2 (Target 0)) (told.Dir (fid 1 1))) ∷
    client 4 1 (heard 0 1) ∷
    target 3 0 (executes (txn_of 1 1) (life 0 1) 1 [] (told.Made (fid 1 1))) ∷
    target 2 0 (acts (life 1 1) 1 (told.Refused ENOENT)) ∷
    client 1 1 (sends 2 (Target 0) (asks (life 1 1) 1 1 0 (op.Lookup (codes "a" ∷ [])))) ∷
    client 1 1 (entry.Begin 0 (call.Lookup (codes "a" ∷ []))) ∷
    asked

pub right_too_late : Breaks right_too_late_past
unfolding position_of below_of stripe_of offset_of greatest_end
right_too_late = says_no (decide right_too_late_past) refl

-- a directory is told whose transaction is lost
abbrev pub lost_is_found_past : Past
lost_is_found_past =
    client 8 1 (entry.Told 0 (turn 7 (Target 0)) (told.Dir (fid 1 1))) ∷
    client 8 1 (heard 0 1) ∷
    target 7 0 (acts (life 1 1) 1 (told.Dir (fid 1 1))) ∷
    client 6 1 (sends 2 (Target 0) (asks (life 1 1) 1 1 0 (op.Lookup (codes "a" ∷ [])))) ∷
    client 6 1 (entry.Begin 0 (call.Lookup (codes "a" ∷ []))) ∷
    lost

pub lost_is_found : Breaks lost_is_found_past
unfolding position_of below_of stripe_of offset_of greatest_end
lost_is_found = says_no (decide lost_is_found_past) refl

-- a transaction is told that is lost
abbrev pub lost_is_told_past : Past
lost_is_told_past =
    client 6 0 (entry.Told 0 (turn 2 (Target 0)) (told.Made (fid 1 1))) ∷
    client 6 0 (heard 0 1) ∷
    lost

pub lost_is_told : Breaks lost_is_told_past
unfolding position_of below_of stripe_of offset_of greatest_end
lost_is_told = says_no (decide lost_is_told_past) refl

-- the turn executed another request than the one that was heard
abbrev pub turn_of_another_request_past : Past
turn_of_another_request_past =
    client 3 0 (entry.Told 0 (turn 2 (Target 0)) (told.Made (fid 1 1))) ∷
    client 3 0 (heard 0 2) ∷
    made

pub turn_of_another_request : Breaks turn_of_another_request_past
unfolding position_of below_of stripe_of offset_of greatest_end
turn_of_another_request = says_no (decide turn_of_another_request_past) refl

-- the turn executed a request of another life
abbrev pub turn_of_another_life_past : Past
turn_of_another_life_past =
    client 3 1 (entry.Told 0 (turn 2 (Target 0)) (told.Made (fid 1 1))) ∷
    client 3 1 (heard 0 1) ∷
    client 2 1 (sends 2 (Target 0) (asks (life 1 1) 1 1 0 (op.Mkdir (codes "a" ∷ [])))) ∷
    client 2 1 (entry.Begin 0 (call.Mkdir (codes "a" ∷ []))) ∷
    made

pub turn_of_another_life : Breaks turn_of_another_life_past
unfolding position_of below_of stripe_of offset_of greatest_end
turn_of_another_life = says_no (decide turn_of_another_life_past) refl

-- of two requests that are heard in one turn the first counts
abbrev pub second_heard_past : Past
second_heard_past =
    client 5 0 (entry.Told 1 (turn 4 (Target 0)) (told.Made (fid 1 2))) ∷
    client 5 0 (heard 0 2) ∷
    client 5 0 (heard 0 1) ∷
    target 4 0 (executes (txn_of 1 2) (life 0 1) 2 [] (told.Made (fid 1 2))) ∷
    client 3 0 (sends 3 (Target 0) (asks (life 0 1) 1 2 0 (op.Mkdir (codes "b" ∷ [])))) ∷
    client 3 0 (entry.Begin 1 (call.Mkdir (codes "b" ∷ []))) ∷
    made

pub second_heard : Breaks second_heard_past
unfolding position_of below_of stripe_of offset_of greatest_end
second_heard = says_no (decide second_heard_past) refl

-- an answer is told that was right in the turn that it names, and isn't any more
abbrev pub right_when_it_acted_past : Past
right_when_it_acted_past =
    client 4 1 (entry.Told 0 (turn 2 (Target 0)) (told.Refused ENOENT)) ∷
    client 4 1 (heard 0 1) ∷
    target 3 0 (executes (txn_of 1 1) (life 0 1) 1 [] (told.Made (fid 1 1))) ∷
    target 2 0 (acts (life 1 1) 1 (told.Refused ENOENT)) ∷
    client 1 1 (sends 2 (Target 0) (asks (life 1 1) 1 1 0 (op.Lookup (codes "a" ∷ [])))) ∷
    client 1 1 (entry.Begin 0 (call.Lookup (codes "a" ∷ []))) ∷
    asked

pub right_when_it_acted : Keeps right_when_it_acted_past
unfolding position_of below_of stripe_of offset_of greatest_end
right_when_it_acted = says_yes (decide right_when_it_acted_past) refl

-- a directory isn't found whose transaction is lost
abbrev pub lost_isnt_found_past : Past
lost_isnt_found_past =
    client 8 1 (entry.Told 0 (turn 7 (Target 0)) (told.Refused ENOENT)) ∷
    client 8 1 (heard 0 1) ∷
    target 7 0 (acts (life 1 1) 1 (told.Refused ENOENT)) ∷
    client 6 1 (sends 2 (Target 0) (asks (life 1 1) 1 1 0 (op.Lookup (codes "a" ∷ [])))) ∷
    client 6 1 (entry.Begin 0 (call.Lookup (codes "a" ∷ []))) ∷
    lost

pub lost_isnt_found : Keeps lost_isnt_found_past
unfolding position_of below_of stripe_of offset_of greatest_end
lost_isnt_found = says_yes (decide lost_isnt_found_past) refl

-- ---- transactions of the metadata target

-- a transaction is what the machine refuses
abbrev pub refused_and_done_past : Past
refused_and_done_past =
    target 4 0 (executes (txn_of 1 2) (life 1 1) 1 [] (told.Made (fid 1 2))) ∷
    client 3 1 (sends 2 (Target 0) (asks (life 1 1) 1 1 0 (op.Mkdir (codes "a" ∷ [])))) ∷
    made

pub refused_and_done : Breaks refused_and_done_past
unfolding position_of below_of stripe_of offset_of greatest_end
refused_and_done = says_no (decide refused_and_done_past) refl

-- its number isn't above all before it
abbrev pub number_used_again_past : Past
number_used_again_past =
    target 4 0 (executes (txn_of 1 1) (life 1 1) 1 [] (told.Made (fid 1 1))) ∷
    client 3 1 (sends 2 (Target 0) (asks (life 1 1) 1 1 0 (op.Mkdir (codes "b" ∷ [])))) ∷
    made

pub number_used_again : Breaks number_used_again_past
unfolding position_of below_of stripe_of offset_of greatest_end
number_used_again = says_no (decide number_used_again_past) refl

-- its number is the root's
abbrev pub number_of_the_root_past : Past
number_of_the_root_past =
    target 2 0 (executes (txn_of 0 1) (life 0 1) 1 [] (told.Made (fid 0 1))) ∷
    asked

pub number_of_the_root : Breaks number_of_the_root_past
unfolding position_of below_of stripe_of offset_of greatest_end
number_of_the_root = says_no (decide number_of_the_root_past) refl

-- it stands before its request is sent
abbrev pub before_its_request_past : Past
before_its_request_past =
    client 2 0 (sends 1 (Target 0) (asks (life 0 1) 1 1 0 (op.Mkdir (codes "a" ∷ [])))) ∷
    target 1 0 (executes (txn_of 1 1) (life 0 1) 1 [] (told.Made (fid 1 1))) ∷
    []

pub before_its_request : Breaks before_its_request_past
unfolding position_of below_of stripe_of offset_of greatest_end
before_its_request = says_no (decide before_its_request_past) refl

-- its request is one for an object
abbrev pub of_another_target_past : Past
of_another_target_past =
    target 2 0 (executes (txn_of 1 1) (life 0 1) 1 [] told.Done) ∷
    client 1 0 (sends 1 (Target 0) (asks (life 0 1) 1 1 0 (op.Cut (object 1 1 0) (cookie 1 1) 0))) ∷
    []

pub of_another_target : Breaks of_another_target_past
unfolding position_of below_of stripe_of offset_of greatest_end
of_another_target = says_no (decide of_another_target_past) refl

-- a lost one may be what the machine refuses
abbrev pub lost_may_be_refused_past : Past
lost_may_be_refused_past =
    target 5 0 (entry.Commit (txn_of 0 0)) ∷
    target 5 0 entry.Close ∷
    target 4 0 (entry.Boot 2) ∷
    target 3 0 entry.Crash ∷
    target 2 0 (executes (txn_of 1 1) (life 1 1) 1 [] told.Done) ∷
    client 1 1 (sends 2 (Target 0) (asks (life 1 1) 1 1 0 (op.Rmdir (codes "b" ∷ [])))) ∷
    []

pub lost_may_be_refused : Keeps lost_may_be_refused_past
unfolding position_of below_of stripe_of offset_of greatest_end
lost_may_be_refused = says_yes (decide lost_may_be_refused_past) refl

-- what is told at a target says nothing to this law
abbrev pub nothing_at_a_target_past : Past
nothing_at_a_target_past =
    target 3 0 (entry.Told 0 (turn 3 (Target 0)) (told.Refused ENOENT)) ∷
    made

pub nothing_at_a_target : Keeps nothing_at_a_target_past
unfolding position_of below_of stripe_of offset_of greatest_end
nothing_at_a_target = says_yes (decide nothing_at_a_target_past) refl
