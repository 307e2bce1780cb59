-- Traces that break the law of messages, each named after what is wrong with it. They have only the lines that this law looks
-- at, the newest first.
use Rattle.std.proofs.Common.{[], ◌∷◌, refl}
use Rattle.std.specs.Prelude.{codes}
use Rattle.lu_base.specs.declared.ids.Node.TheVariants.{Client, Target}
use Rattle.lu_msg.specs.declared.answers.Answer.TheVariants as told
use Rattle.lu_msg.specs.declared.answers.Errno.TheVariants.{ENOENT}
use Rattle.lu_msg.specs.declared.calls.Call.TheVariants as call
use Rattle.lu_msg.specs.declared.operations.Op.TheVariants as op
use Rattle.lu_trace.specs.declared.entries.Entry.TheVariants as entry
use Rattle.lu_spec_laws.specs.Words.Pasts.{Past}
use Rattle.lu_spec_laws.specs.Holds.{Holds}
use Rattle.lu_spec_laws.specs.Laws.Messages.{Messages}
use Rattle.lu_spec_laws.proofs.Decides.{says_no, holds as decide_all}
use Rattle.lu_spec_laws.proofs.Decides.Messages.{decide_messages}
use Rattle.lu_spec_laws.proofs.Words.{turn, client, target, first, request, reply, sends, heard, txn}

-- a message is taken that was never sent
abbrev pub taken_but_never_sent_past : Past
taken_but_never_sent_past =
    target 2 0 (entry.Take 2)
    ∷ client 1 0 (sends 1 (Target 0) (request 0 1 0 (op.Mkdir (codes "a" ∷ []))))
    ∷ client 1 0 (entry.Begin 0 (call.Mkdir (codes "a" ∷ [])))
    ∷ []

pub taken_but_never_sent : Holds Messages taken_but_never_sent_past → ⊥
taken_but_never_sent = says_no (decide_all decide_messages taken_but_never_sent_past) refl

-- a message is taken by a node to which it was not sent
abbrev pub taken_by_another_node_past : Past
taken_by_another_node_past =
    target 2 1 (entry.Take 1)
    ∷ client 1 0 (sends 1 (Target 0) (request 0 1 0 (op.Mkdir (codes "a" ∷ []))))
    ∷ client 1 0 (entry.Begin 0 (call.Mkdir (codes "a" ∷ [])))
    ∷ []

pub taken_by_another_node : Holds Messages taken_by_another_node_past → ⊥
taken_by_another_node = says_no (decide_all decide_messages taken_by_another_node_past) refl

-- two messages have one number
abbrev pub message_number_used_again_past : Past
message_number_used_again_past =
    client 2 0 (sends 1 (Target 0) (request 0 1 0 (op.Mkdir (codes "a" ∷ []))))
    ∷ client 2 0 entry.Tick
    ∷ client 1 0 (sends 1 (Target 0) (request 0 1 0 (op.Mkdir (codes "a" ∷ []))))
    ∷ client 1 0 (entry.Begin 0 (call.Mkdir (codes "a" ∷ [])))
    ∷ []

pub message_number_used_again : Holds Messages message_number_used_again_past → ⊥
message_number_used_again = says_no (decide_all decide_messages message_number_used_again_past) refl

-- a later line has an earlier stamp
abbrev pub stamps_fall_past : Past
stamps_fall_past =
    client 1 0 entry.Tick
    ∷ client 2 0 (entry.Begin 0 (call.Mkdir (codes "a" ∷ [])))
    ∷ []

pub stamps_fall : Holds Messages stamps_fall_past → ⊥
stamps_fall = says_no (decide_all decide_messages stamps_fall_past) refl

-- a client has a line after its death
abbrev pub the_dead_go_on_past : Past
the_dead_go_on_past =
    client 2 0 entry.Tick
    ∷ client 1 0 entry.Die
    ∷ []

pub the_dead_go_on : Holds Messages the_dead_go_on_past → ⊥
the_dead_go_on = says_no (decide_all decide_messages the_dead_go_on_past) refl

-- an answer is told on a slot without a call
abbrev pub told_without_a_call_past : Past
told_without_a_call_past =
    client 4 0 (entry.Told 0 (turn 2 (Target 0)) (told.Made (record { 0 = (first 1) })))
    ∷ client 3 0 (entry.Told 0 (turn 2 (Target 0)) (told.Made (record { 0 = (first 1) })))
    ∷ client 3 0 (heard 0 1)
    ∷ client 3 0 (entry.Take 2)
    ∷ target 2 0 (sends 2 (Client 0) (reply 0 1 (first 1) [] (turn 2 (Target 0)) (told.Made (record { 0 = (first 1) }))))
    ∷ target 2 0 (txn (first 1) 0 1 [] (told.Made (record { 0 = (first 1) })))
    ∷ target 2 0 (entry.Take 1)
    ∷ client 1 0 (sends 1 (Target 0) (request 0 1 0 (op.Mkdir (codes "a" ∷ []))))
    ∷ client 1 0 (entry.Begin 0 (call.Mkdir (codes "a" ∷ [])))
    ∷ []

pub told_without_a_call : Holds Messages told_without_a_call_past → ⊥
told_without_a_call = says_no (decide_all decide_messages told_without_a_call_past) refl

-- the first message has number 2
abbrev pub number_left_out_past : Past
number_left_out_past =
    client 1 0 (sends 2 (Target 0) (request 0 1 0 (op.Mkdir (codes "a" ∷ []))))
    ∷ []

pub number_left_out : Holds Messages number_left_out_past → ⊥
number_left_out = says_no (decide_all decide_messages number_left_out_past) refl

-- in one stamp a client has a line after a target
abbrev pub targets_before_clients_past : Past
targets_before_clients_past =
    client 1 0 entry.Tick
    ∷ target 1 0 entry.Tick
    ∷ []

pub targets_before_clients : Holds Messages targets_before_clients_past → ⊥
targets_before_clients = says_no (decide_all decide_messages targets_before_clients_past) refl

-- a call begins on a slot that has one
abbrev pub slot_begun_twice_past : Past
slot_begun_twice_past =
    client 2 0 (entry.Begin 0 (call.Mkdir (codes "b" ∷ [])))
    ∷ client 1 0 (entry.Begin 0 (call.Mkdir (codes "a" ∷ [])))
    ∷ []

pub slot_begun_twice : Holds Messages slot_begun_twice_past → ⊥
slot_begun_twice = says_no (decide_all decide_messages slot_begun_twice_past) refl

-- a call begins at a target
abbrev pub begun_at_a_target_past : Past
begun_at_a_target_past =
    target 1 0 (entry.Begin 0 (call.Mkdir (codes "a" ∷ [])))
    ∷ []

pub begun_at_a_target : Holds Messages begun_at_a_target_past → ⊥
begun_at_a_target = says_no (decide_all decide_messages begun_at_a_target_past) refl

-- an answer is told on another slot than the call's
abbrev pub told_in_another_slot_past : Past
told_in_another_slot_past =
    client 1 0 (entry.Told 1 (turn 1 (Client 0)) told.Done)
    ∷ client 1 0 (entry.Begin 0 (call.Mkdir (codes "a" ∷ [])))
    ∷ []

pub told_in_another_slot : Holds Messages told_in_another_slot_past → ⊥
told_in_another_slot = says_no (decide_all decide_messages told_in_another_slot_past) refl

-- a message is taken and sent after that
abbrev pub taken_before_it_is_sent_past : Past
taken_before_it_is_sent_past =
    client 2 0 (sends 1 (Target 0) (request 0 1 0 (op.Mkdir (codes "a" ∷ []))))
    ∷ target 1 0 (entry.Take 1)
    ∷ []

pub taken_before_it_is_sent : Holds Messages taken_before_it_is_sent_past → ⊥
taken_before_it_is_sent = says_no (decide_all decide_messages taken_before_it_is_sent_past) refl
