-- Traces that break the law of acts, each named after what is wrong with it. They have only the lines that this law looks
-- at, the newest first.
use Rattle.std.proofs.Common.{[], ◌∷◌, refl, pos}
use Rattle.std.specs.Prelude.{codes}
use Rattle.lu_base.specs.declared.ids.Node.TheVariants.{Client, Target}
use Rattle.lu_base.specs.declared.locks.Cause.TheVariants.{Expired}
use Rattle.lu_base.specs.declared.locks.Mode.TheVariants.{PR}
use Rattle.lu_msg.specs.declared.answers.Answer.TheVariants as told
use Rattle.lu_msg.specs.declared.answers.Errno.TheVariants.{EEXIST, ENOENT, EBADF, EIO}
use Rattle.lu_msg.specs.declared.calls.Call.TheVariants as call
use Rattle.lu_msg.specs.declared.operations.Op.TheVariants as op
use Rattle.lu_msg.specs.declared.messages.Message.TheVariants as message
use Rattle.lu_trace.specs.declared.entries.Entry.TheVariants as entry
use Rattle.lu_spec_laws.specs.Words.Pasts.{Past}
use Rattle.lu_spec_laws.specs.Holds.{Holds}
use Rattle.lu_spec_laws.specs.Laws.Acts.{Acts}
use Rattle.lu_spec_laws.proofs.Decides.{says_no, holds as decide_all}
use Rattle.lu_spec_laws.proofs.Decides.Acts.{decide_acts}
use Rattle.lu_spec_laws.proofs.Words.{number, turn, client, target, who, first, request, reply, sends, heard, txn, act}

-- two calls are told one act
abbrev pub act_answered_twice_past : Past
act_answered_twice_past =
    client 4 0 (entry.Told 1 (turn 3 (Target 0)) (told.Made (record { 0 = (first 1) })))
    ∷ client 4 0 (entry.Told 0 (turn 3 (Target 0)) (told.Made (record { 0 = (first 1) })))
    ∷ client 4 0 (heard 0 1)
    ∷ client 4 0 (entry.Take 2)
    ∷ target 3 0 (sends 2 (Client 0) (reply 0 1 (first 1) [] (turn 3 (Target 0)) (told.Made (record { 0 = (first 1) }))))
    ∷ target 3 0 (txn (first 1) 0 1 [] (told.Made (record { 0 = (first 1) })))
    ∷ target 3 0 (entry.Take 1)
    ∷ client 2 0 (entry.Begin 1 (call.Mkdir (codes "a" ∷ [])))
    ∷ client 1 0 (sends 1 (Target 0) (request 0 1 0 (op.Mkdir (codes "a" ∷ []))))
    ∷ client 1 0 (entry.Begin 0 (call.Mkdir (codes "a" ∷ [])))
    ∷ []

pub act_answered_twice : Holds (Acts act_answered_twice_past) act_answered_twice_past → ⊥
act_answered_twice = says_no (decide_all (decide_acts act_answered_twice_past) act_answered_twice_past) refl

-- a turn is named in which nothing acted
abbrev pub told_names_another_turn_past : Past
told_names_another_turn_past =
    client 3 0 (entry.Told 0 (turn 1 (Target 0)) (told.Made (record { 0 = (first 1) })))
    ∷ client 3 0 (heard 0 1)
    ∷ client 3 0 (entry.Take 2)
    ∷ target 2 0 (sends 2 (Client 0) (reply 0 1 (first 1) [] (turn 2 (Target 0)) (told.Made (record { 0 = (first 1) }))))
    ∷ target 2 0 (txn (first 1) 0 1 [] (told.Made (record { 0 = (first 1) })))
    ∷ target 2 0 (entry.Take 1)
    ∷ client 1 0 (sends 1 (Target 0) (request 0 1 0 (op.Mkdir (codes "a" ∷ []))))
    ∷ client 1 0 (entry.Begin 0 (call.Mkdir (codes "a" ∷ [])))
    ∷ []

pub told_names_another_turn : Holds (Acts told_names_another_turn_past) told_names_another_turn_past → ⊥
told_names_another_turn = says_no (decide_all (decide_acts told_names_another_turn_past) told_names_another_turn_past) refl

-- a turn after the answer is named
abbrev pub told_names_a_later_turn_past : Past
told_names_a_later_turn_past =
    client 3 0 (entry.Told 0 (turn 4 (Target 0)) (told.Made (record { 0 = (first 1) })))
    ∷ client 3 0 (heard 0 1)
    ∷ client 3 0 (entry.Take 2)
    ∷ target 2 0 (sends 2 (Client 0) (reply 0 1 (first 1) [] (turn 2 (Target 0)) (told.Made (record { 0 = (first 1) }))))
    ∷ target 2 0 (txn (first 1) 0 1 [] (told.Made (record { 0 = (first 1) })))
    ∷ target 2 0 (entry.Take 1)
    ∷ client 1 0 (sends 1 (Target 0) (request 0 1 0 (op.Mkdir (codes "a" ∷ []))))
    ∷ client 1 0 (entry.Begin 0 (call.Mkdir (codes "a" ∷ [])))
    ∷ []

pub told_names_a_later_turn : Holds (Acts told_names_a_later_turn_past) told_names_a_later_turn_past → ⊥
told_names_a_later_turn = says_no (decide_all (decide_acts told_names_a_later_turn_past) told_names_a_later_turn_past) refl

-- one request makes two transactions, and both stand
abbrev pub request_executed_again_past : Past
request_executed_again_past =
    target 3 0 (txn (first 2) 0 1 ((first 1) ∷ []) (told.Made (record { 0 = (first 2) })))
    ∷ target 3 0 (entry.Take 1)
    ∷ target 2 0 (sends 2 (Client 0) (reply 0 1 (first 1) [] (turn 2 (Target 0)) (told.Made (record { 0 = (first 1) }))))
    ∷ target 2 0 (txn (first 1) 0 1 [] (told.Made (record { 0 = (first 1) })))
    ∷ target 2 0 (entry.Take 1)
    ∷ client 1 0 (sends 1 (Target 0) (request 0 1 0 (op.Mkdir (codes "a" ∷ []))))
    ∷ client 1 0 (entry.Begin 0 (call.Mkdir (codes "a" ∷ [])))
    ∷ []

pub request_executed_again : Holds (Acts request_executed_again_past) request_executed_again_past → ⊥
request_executed_again = says_no (decide_all (decide_acts request_executed_again_past) request_executed_again_past) refl

-- an act is told, and a transaction of its request stands
abbrev pub told_refusal_of_what_was_done_past : Past
told_refusal_of_what_was_done_past =
    target 4 0 (txn (first 1) 0 1 [] told.Done)
    ∷ target 4 0 (entry.Take 1)
    ∷ client 3 0 (entry.Told 0 (turn 2 (Target 0)) (told.Refused ENOENT))
    ∷ client 3 0 (heard 0 1)
    ∷ client 3 0 (entry.Take 2)
    ∷ target 2 0 (sends 2 (Client 0) (reply 0 1 0 [] (turn 2 (Target 0)) (told.Refused ENOENT)))
    ∷ target 2 0 (entry.Act (who 0) (record { 0 = 1 }) (told.Refused ENOENT))
    ∷ target 2 0 (entry.Take 1)
    ∷ client 1 0 (sends 1 (Target 0) (request 0 1 0 (op.Rmdir (codes "a" ∷ []))))
    ∷ client 1 0 (entry.Begin 0 (call.Rmdir (codes "a" ∷ [])))
    ∷ []

pub told_refusal_of_what_was_done : Holds (Acts told_refusal_of_what_was_done_past) told_refusal_of_what_was_done_past → ⊥
told_refusal_of_what_was_done = says_no (decide_all (decide_acts told_refusal_of_what_was_done_past) told_refusal_of_what_was_done_past)
    refl

-- two requests are in flight with one tag
abbrev pub tag_given_twice_past : Past
tag_given_twice_past =
    client 2 0 (sends 2 (Target 0) (request 0 2 0 (op.Mkdir (codes "b" ∷ []))))
    ∷ client 2 0 (entry.Begin 1 (call.Mkdir (codes "b" ∷ [])))
    ∷ client 1 0 (sends 1 (Target 0) (request 0 1 0 (op.Mkdir (codes "a" ∷ []))))
    ∷ client 1 0 (entry.Begin 0 (call.Mkdir (codes "a" ∷ [])))
    ∷ []

pub tag_given_twice : Holds (Acts tag_given_twice_past) tag_given_twice_past → ⊥
tag_given_twice = says_no (decide_all (decide_acts tag_given_twice_past) tag_given_twice_past) refl

-- a request is sent again with another tag
abbrev pub tag_changed_past : Past
tag_changed_past =
    client 2 0 (sends 2 (Target 0) (request 0 1 1 (op.Mkdir (codes "a" ∷ []))))
    ∷ client 2 0 entry.Tick
    ∷ client 1 0 (sends 1 (Target 0) (request 0 1 0 (op.Mkdir (codes "a" ∷ []))))
    ∷ client 1 0 (entry.Begin 0 (call.Mkdir (codes "a" ∷ [])))
    ∷ []

pub tag_changed : Holds (Acts tag_changed_past) tag_changed_past → ⊥
tag_changed = says_no (decide_all (decide_acts tag_changed_past) tag_changed_past) refl

-- a read through a handle that is not bound is answered
abbrev pub unbound_handle_read_past : Past
unbound_handle_read_past =
    client 1 0 (entry.Told 0 (turn 1 (Client 0)) (told.Content []))
    ∷ client 1 0 (entry.Begin 0 (call.Read 0 0 1))
    ∷ []

pub unbound_handle_read : Holds (Acts unbound_handle_read_past) unbound_handle_read_past → ⊥
unbound_handle_read = says_no (decide_all (decide_acts unbound_handle_read_past) unbound_handle_read_past) refl

-- EIO is told, and no eviction was taken
abbrev pub life_ended_untold_past : Past
life_ended_untold_past =
    client 2 0 (entry.Told 0 (turn 2 (Client 0)) (told.Refused EIO))
    ∷ client 2 0 entry.Tick
    ∷ client 1 0 (sends 1 (Target 0) (request 0 1 0 (op.Mkdir (codes "a" ∷ []))))
    ∷ client 1 0 (entry.Begin 0 (call.Mkdir (codes "a" ∷ [])))
    ∷ []

pub life_ended_untold : Holds (Acts life_ended_untold_past) life_ended_untold_past → ⊥
life_ended_untold = says_no (decide_all (decide_acts life_ended_untold_past) life_ended_untold_past) refl

-- the turn of a transaction is named that a close has lost
abbrev pub told_names_a_lost_transaction_past : Past
told_names_a_lost_transaction_past =
    client 7 0 (entry.Told 0 (turn 2 (Target 0)) (told.Made (record { 0 = (first 1) })))
    ∷ client 7 0 (heard 0 1)
    ∷ client 7 0 (entry.Take 2)
    ∷ target 6 0 entry.Close
    ∷ target 6 0 (entry.Back (who 0))
    ∷ target 6 0 (entry.Take 4)
    ∷ client 5 0 (sends 4 (Target 0) (message.Word (who 0) 2 0 0 []))
    ∷ client 5 0 (entry.Take 3)
    ∷ target 4 0 (sends 3 (Client 0) (message.Up 2))
    ∷ target 4 0 (entry.Boot 2)
    ∷ target 3 0 entry.Crash
    ∷ target 2 0 (sends 2 (Client 0) (reply 0 1 (first 1) [] (turn 2 (Target 0)) (told.Made (record { 0 = (first 1) }))))
    ∷ target 2 0 (txn (first 1) 0 1 [] (told.Made (record { 0 = (first 1) })))
    ∷ target 2 0 (entry.Take 1)
    ∷ client 1 0 (sends 1 (Target 0) (request 0 1 0 (op.Mkdir (codes "a" ∷ []))))
    ∷ client 1 0 (entry.Begin 0 (call.Mkdir (codes "a" ∷ [])))
    ∷ []

pub told_names_a_lost_transaction : Holds (Acts told_names_a_lost_transaction_past) told_names_a_lost_transaction_past → ⊥
told_names_a_lost_transaction = says_no (decide_all (decide_acts told_names_a_lost_transaction_past) told_names_a_lost_transaction_past)
    refl

-- after a close that keeps a transaction its request makes another one
abbrev pub executed_while_another_stands_past : Past
executed_while_another_stands_past =
    target 9 0 (txn (number 2 1) 0 1 ((first 1) ∷ []) (told.Made (record { 0 = (number 2 1) })))
    ∷ target 9 0 (entry.Take 1)
    ∷ target 8 0 entry.Close
    ∷ target 8 0 (entry.Back (who 0))
    ∷ target 8 0 (entry.Take 5)
    ∷ target 7 0 (entry.Take 4)
    ∷ client 6 0 (sends 5 (Target 0) (message.Word (who 0) 2 1 0 []))
    ∷ client 6 0 (sends 4 (Target 0) (message.Replay (record {
      who = (who 0);
      boot = 2;
      txn = (record { 0 = (first 1) });
      xid =
          (record { 0 = 1 });
      tag = 0;
      seen = [];
      op = (op.Mkdir (codes "a" ∷ []));
    })))
    ∷ client 6 0 (entry.Take 3)
    ∷ target 5 0 (sends 3 (Client 0) (message.Up 2))
    ∷ target 5 0 (entry.Boot 2)
    ∷ target 4 0 entry.Crash
    ∷ client 3 0 (entry.Told 0 (turn 2 (Target 0)) (told.Made (record { 0 = (first 1) })))
    ∷ client 3 0 (heard 0 1)
    ∷ client 3 0 (entry.Take 2)
    ∷ target 2 0 (sends 2 (Client 0) (reply 0 1 (first 1) [] (turn 2 (Target 0)) (told.Made (record { 0 = (first 1) }))))
    ∷ target 2 0 (txn (first 1) 0 1 [] (told.Made (record { 0 = (first 1) })))
    ∷ target 2 0 (entry.Take 1)
    ∷ client 1 0 (sends 1 (Target 0) (request 0 1 0 (op.Mkdir (codes "a" ∷ []))))
    ∷ client 1 0 (entry.Begin 0 (call.Mkdir (codes "a" ∷ [])))
    ∷ []

pub executed_while_another_stands : Holds (Acts executed_while_another_stands_past) executed_while_another_stands_past → ⊥
executed_while_another_stands = says_no (decide_all (decide_acts executed_while_another_stands_past) executed_while_another_stands_past)
    refl

-- two requests on one object are in flight
abbrev pub two_on_one_object_past : Past
two_on_one_object_past =
    client 2 0 (sends 2 (Target 1) (request 0 2 1 (op.Size (record { fid = (record { 0 = (first 1) }); stripe = 0 }))))
    ∷ client 2 0 entry.Tick
    ∷ client 1 0 (sends 1 (Target 1) (request 0 1 0 (op.Enqueue (record { fid = (record { 0 = (first 1) }); stripe = 0 }) PR
    (record { first = 0; last = 9 }))))
    ∷ client 1 0 (entry.Begin 0 (call.Mkdir (codes "a" ∷ [])))
    ∷ []

pub two_on_one_object : Holds (Acts two_on_one_object_past) two_on_one_object_past → ⊥
two_on_one_object = says_no (decide_all (decide_acts two_on_one_object_past) two_on_one_object_past) refl

-- a call begins on a handle that isn't bound, and isn't told
abbrev pub bad_handle_not_told_past : Past
bad_handle_not_told_past =
    client 1 0 (entry.Begin 0 (call.Read 0 0 10))
    ∷ []

pub bad_handle_not_told : Holds (Acts bad_handle_not_told_past) bad_handle_not_told_past → ⊥
bad_handle_not_told = says_no (decide_all (decide_acts bad_handle_not_told_past) bad_handle_not_told_past) refl

-- it is told EBADF in a later turn
abbrev pub bad_handle_told_late_past : Past
bad_handle_told_late_past =
    client 2 0 (entry.Told 0 (turn 2 (Client 0)) (told.Refused EBADF))
    ∷ client 1 0 (entry.Begin 0 (call.Read 0 0 10))
    ∷ []

pub bad_handle_told_late : Holds (Acts bad_handle_told_late_past) bad_handle_told_late_past → ⊥
bad_handle_told_late = says_no (decide_all (decide_acts bad_handle_told_late_past) bad_handle_told_late_past) refl

-- a `flush` of it is told `ok`
abbrev pub bad_handle_told_ok_past : Past
bad_handle_told_ok_past =
    client 1 0 (entry.Told 0 (turn 1 (Client 0)) told.Done)
    ∷ client 1 0 (entry.Begin 0 (call.Flush 0))
    ∷ []

pub bad_handle_told_ok : Holds (Acts bad_handle_told_ok_past) bad_handle_told_ok_past → ⊥
bad_handle_told_ok = says_no (decide_all (decide_acts bad_handle_told_ok_past) bad_handle_told_ok_past) refl

-- the other slot is told EBADF
abbrev pub bad_handle_told_of_another_slot_past : Past
bad_handle_told_of_another_slot_past =
    client 1 0 (entry.Told 1 (turn 1 (Client 0)) (told.Refused EBADF))
    ∷ client 1 0 (entry.Begin 1 (call.Close 0))
    ∷ client 1 0 (entry.Begin 0 (call.Close 0))
    ∷ []

pub bad_handle_told_of_another_slot : Holds (Acts bad_handle_told_of_another_slot_past) bad_handle_told_of_another_slot_past → ⊥
bad_handle_told_of_another_slot = says_no (decide_all (decide_acts bad_handle_told_of_another_slot_past)
    bad_handle_told_of_another_slot_past) refl

-- a `mkdir` is told EBADF
abbrev pub good_call_told_bad_handle_past : Past
good_call_told_bad_handle_past =
    client 1 0 (entry.Told 0 (turn 1 (Client 0)) (told.Refused EBADF))
    ∷ client 1 0 (entry.Begin 0 (call.Mkdir (codes "a" ∷ [])))
    ∷ []

pub good_call_told_bad_handle : Holds (Acts good_call_told_bad_handle_past) good_call_told_bad_handle_past → ⊥
good_call_told_bad_handle = says_no (decide_all (decide_acts good_call_told_bad_handle_past) good_call_told_bad_handle_past) refl

-- EBADF names another turn
abbrev pub refusal_names_another_turn_past : Past
refusal_names_another_turn_past =
    client 1 0 (entry.Told 0 (turn 1 (Target 0)) (told.Refused EBADF))
    ∷ client 1 0 (entry.Begin 0 (call.Read 0 0 10))
    ∷ []

pub refusal_names_another_turn : Holds (Acts refusal_names_another_turn_past) refusal_names_another_turn_past → ⊥
refusal_names_another_turn = says_no (decide_all (decide_acts refusal_names_another_turn_past) refusal_names_another_turn_past) refl

-- EIO is told on the notice of a target that evicted nobody
abbrev pub notice_without_eviction_past : Past
notice_without_eviction_past =
    client 3 0 (entry.Told 0 (turn 3 (Client 0)) (told.Refused EIO))
    ∷ client 3 0 (entry.Take 1)
    ∷ target 2 0 (sends 1 (Client 0) (message.Evicted (who 0) 1))
    ∷ client 1 0 (entry.Begin 0 (call.Mkdir (codes "a" ∷ [])))
    ∷ []

pub notice_without_eviction : Holds (Acts notice_without_eviction_past) notice_without_eviction_past → ⊥
notice_without_eviction = says_no (decide_all (decide_acts notice_without_eviction_past) notice_without_eviction_past) refl

-- EIO is told on the notice of another client's life
abbrev pub notice_of_another_life_past : Past
notice_of_another_life_past =
    client 3 0 (entry.Told 0 (turn 3 (Client 0)) (told.Refused EIO))
    ∷ client 3 0 (entry.Take 1)
    ∷ target 2 0 (sends 1 (Client 0) (message.Evicted (who 1) 1))
    ∷ target 2 0 (entry.Evict (who 1) Expired)
    ∷ client 1 0 (entry.Begin 0 (call.Mkdir (codes "a" ∷ [])))
    ∷ []

pub notice_of_another_life : Holds (Acts notice_of_another_life_past) notice_of_another_life_past → ⊥
notice_of_another_life = says_no (decide_all (decide_acts notice_of_another_life_past) notice_of_another_life_past) refl

-- nine requests are in flight
abbrev pub nine_in_flight_past : Past
nine_in_flight_past =
    client 1 0 (sends 9 (Target 0) (request 0 9 8 (op.Mkdir (codes "a" ∷ []))))
    ∷ client 1 0 (sends 8 (Target 0) (request 0 8 7 (op.Mkdir (codes "a" ∷ []))))
    ∷ client 1 0 (sends 7 (Target 0) (request 0 7 6 (op.Mkdir (codes "a" ∷ []))))
    ∷ client 1 0 (sends 6 (Target 0) (request 0 6 5 (op.Mkdir (codes "a" ∷ []))))
    ∷ client 1 0 (sends 5 (Target 0) (request 0 5 4 (op.Mkdir (codes "a" ∷ []))))
    ∷ client 1 0 (sends 4 (Target 0) (request 0 4 3 (op.Mkdir (codes "a" ∷ []))))
    ∷ client 1 0 (sends 3 (Target 0) (request 0 3 2 (op.Mkdir (codes "a" ∷ []))))
    ∷ client 1 0 (sends 2 (Target 0) (request 0 2 1 (op.Mkdir (codes "a" ∷ []))))
    ∷ client 1 0 (sends 1 (Target 0) (request 0 1 0 (op.Mkdir (codes "a" ∷ []))))
    ∷ []

pub nine_in_flight : Holds (Acts nine_in_flight_past) nine_in_flight_past → ⊥
nine_in_flight = says_no (decide_all (decide_acts nine_in_flight_past) nine_in_flight_past) refl
