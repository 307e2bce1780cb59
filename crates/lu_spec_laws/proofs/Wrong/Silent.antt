-- Traces that break the law of silent repeats, and lawful ones beside them in which the call isn't a repeat. They have
-- only the lines that this law looks at, the newest first.
use Rattle.std.proofs.Common.{[], ◌∷◌, refl}
use Rattle.std.specs.Prelude.{codes}
use Rattle.lu_base.specs.declared.ids.Node.TheVariants.{Client, Target}
use Rattle.lu_base.specs.declared.locks.Mode.TheVariants.{PW, PR}
use Rattle.lu_base.specs.declared.locks.Policy.TheVariants.{Range}
use Rattle.lu_msg.specs.declared.answers.Answer.TheVariants as told
use Rattle.lu_msg.specs.declared.answers.Errno.TheVariants.{ENOENT, EEXIST}
use Rattle.lu_msg.specs.declared.calls.Call.TheVariants as call
use Rattle.lu_msg.specs.declared.messages.Message.TheVariants as message
use Rattle.lu_msg.specs.declared.operations.Op.TheVariants as op
use Rattle.lu_trace.specs.declared.entries.Entry.TheVariants as entry
use Rattle.lu_spec_laws.specs.Words.Pasts.{Past}
use Rattle.lu_spec_laws.proofs.Words.{turn, client, target, life, fid, txn_of, cookie, extent, object, striped, lock}
use Rattle.lu_spec_laws.proofs.Words.{asks, sends, hold, drop}
use Rattle.lu_spec_laws.specs.Holds.{Holds}
use Rattle.lu_spec_laws.specs.Laws.Silent.{Silent}
use Rattle.lu_spec_laws.proofs.Decides.{says_yes, says_no, holds as decide_all}
use Rattle.lu_spec_laws.proofs.Decides.Silent.{decide_silent}

abbrev pub Breaks : Past → Type 0
Breaks past = Holds Silent past → ⊥

abbrev pub Keeps : Past → Type 0
Keeps past = Holds Silent past

-- c0 was told what /a is
abbrev pub a_is_known : Past
a_is_known =
    client 2 0 (entry.Told 0 (turn 2 (Target 0)) (told.Dir (fid 1 1)))
    ∷ client 1 0 (sends 1 (Target 0) (asks (life 0 1) 1 1 0 (op.Lookup (codes "a" ∷ []))))
    ∷ client 1 0 (entry.Begin 0 (call.Lookup (codes "a" ∷ [])))
    ∷ []

-- ---- a known call isn't told silently in the turn of its begin

-- a known lookup is asked of the target again
abbrev pub asked_again_past : Past
asked_again_past =
    client 9 0 (sends 9 (Target 0) (asks (life 0 1) 1 9 0 (op.Lookup (codes "a" ∷ []))))
    ∷ client 9 0 (entry.Begin 0 (call.Lookup (codes "a" ∷ [])))
    ∷ a_is_known

pub asked_again : Breaks asked_again_past
asked_again = says_no (decide_all decide_silent asked_again_past) refl

-- a known lookup is told in a later turn
abbrev pub told_later_past : Past
told_later_past =
    client 10 0 (entry.Told 0 (turn 10 (Client 0)) (told.Dir (fid 1 1)))
    ∷ client 9 0 (entry.Begin 0 (call.Lookup (codes "a" ∷ [])))
    ∷ a_is_known

pub told_later : Breaks told_later_past
told_later = says_no (decide_all decide_silent told_later_past) refl

-- a message is sent before a known lookup is told
abbrev pub told_after_a_send_past : Past
told_after_a_send_past =
    client 9 0 (entry.Told 0 (turn 9 (Client 0)) (told.Dir (fid 1 1)))
    ∷ client 9 0 (sends 9 (Target 0) (message.Join (life 0 1) 1))
    ∷ client 9 0 (entry.Begin 0 (call.Lookup (codes "a" ∷ [])))
    ∷ a_is_known

pub told_after_a_send : Breaks told_after_a_send_past
told_after_a_send = says_no (decide_all decide_silent told_after_a_send_past) refl

-- another slot is told
abbrev pub told_to_another_slot_past : Past
told_to_another_slot_past =
    client 9 0 (entry.Told 1 (turn 9 (Client 0)) (told.Refused EEXIST))
    ∷ client 9 0 (entry.Begin 0 (call.Lookup (codes "a" ∷ [])))
    ∷ client 8 0 (entry.Begin 1 (call.Mkdir (codes "b" ∷ [])))
    ∷ a_is_known

pub told_to_another_slot : Breaks told_to_another_slot_past
told_to_another_slot = says_no (decide_all decide_silent told_to_another_slot_past) refl

-- a known lookup is never told
abbrev pub never_told_past : Past
never_told_past =
    client 9 0 (entry.Begin 0 (call.Lookup (codes "a" ∷ [])))
    ∷ a_is_known

pub never_told : Breaks never_told_past
never_told = says_no (decide_all decide_silent never_told_past) refl

-- it may send once the call is told
abbrev pub told_at_once_past : Past
told_at_once_past =
    client 9 0 (sends 9 (Target 0) (message.Join (life 0 1) 1))
    ∷ client 9 0 (entry.Told 0 (turn 9 (Client 0)) (told.Dir (fid 1 1)))
    ∷ client 9 0 (entry.Begin 0 (call.Lookup (codes "a" ∷ [])))
    ∷ a_is_known

pub told_at_once : Keeps told_at_once_past
told_at_once = says_yes (decide_all decide_silent told_at_once_past) refl

-- ---- each kind of call that may be known

-- a known stat is asked again
abbrev pub stat_asked_again_past : Past
stat_asked_again_past =
    client 9 0 (sends 9 (Target 0) (message.Join (life 0 1) 1))
    ∷ client 9 0 (entry.Begin 0 (call.Stat (codes "a" ∷ [])))
    ∷ client 2 0 (entry.Told 0 (turn 2 (Client 0)) (told.DirStat (fid 1 1) 493))
    ∷ client 1 0 (entry.Begin 0 (call.Stat (codes "a" ∷ [])))
    ∷ []

pub stat_asked_again : Breaks stat_asked_again_past
stat_asked_again = says_no (decide_all decide_silent stat_asked_again_past) refl

-- a known list is asked again
abbrev pub list_asked_again_past : Past
list_asked_again_past =
    client 9 0 (sends 9 (Target 0) (message.Join (life 0 1) 1))
    ∷ client 9 0 (entry.Begin 0 (call.List (codes "a" ∷ [])))
    ∷ client 2 0 (entry.Told 0 (turn 2 (Client 0)) (told.Names []))
    ∷ client 1 0 (entry.Begin 0 (call.List (codes "a" ∷ [])))
    ∷ []

pub list_asked_again : Breaks list_asked_again_past
list_asked_again = says_no (decide_all decide_silent list_asked_again_past) refl

-- a known layout is asked again
abbrev pub layout_asked_again_past : Past
layout_asked_again_past =
    client 9 0 (sends 9 (Target 0) (message.Join (life 0 1) 1))
    ∷ client 9 0 (entry.Begin 0 (call.Layout (codes "a" ∷ [])))
    ∷ client 2 0 (entry.Told 0 (turn 2 (Client 0)) (told.Layout (striped 65536 (1 ∷ []))))
    ∷ client 1 0 (entry.Begin 0 (call.Layout (codes "a" ∷ [])))
    ∷ []

pub layout_asked_again : Breaks layout_asked_again_past
layout_asked_again = says_no (decide_all decide_silent layout_asked_again_past) refl

-- a known read is asked again
abbrev pub read_asked_again_past : Past
read_asked_again_past =
    client 9 0 (sends 9 (Target 0) (message.Join (life 0 1) 1))
    ∷ client 9 0 (entry.Begin 0 (call.Read 0 0 8))
    ∷ client 2 0 (entry.Told 0 (turn 2 (Client 0)) (told.Content []))
    ∷ client 1 0 (entry.Begin 0 (call.Read 0 0 8))
    ∷ []

pub read_asked_again : Breaks read_asked_again_past
read_asked_again = says_no (decide_all decide_silent read_asked_again_past) refl

-- ---- what doesn't change what a life knows

-- the first lookup had another slot
abbrev pub known_from_another_slot_past : Past
known_from_another_slot_past =
    client 9 0 (sends 9 (Target 0) (message.Join (life 0 1) 1))
    ∷ client 9 0 (entry.Begin 2 (call.Lookup (codes "a" ∷ [])))
    ∷ client 2 0 (entry.Told 0 (turn 2 (Target 0)) (told.Dir (fid 1 1)))
    ∷ client 1 0 (entry.Begin 1 (call.Mkdir (codes "b" ∷ [])))
    ∷ client 1 0 (entry.Begin 0 (call.Lookup (codes "a" ∷ [])))
    ∷ []

pub known_from_another_slot : Breaks known_from_another_slot_past
known_from_another_slot = says_no (decide_all decide_silent known_from_another_slot_past) refl

-- a lock was called back before the lookup began
abbrev pub known_after_a_block_past : Past
known_after_a_block_past =
    client 9 0 (sends 9 (Target 0) (message.Join (life 0 1) 1))
    ∷ client 9 0 (entry.Begin 0 (call.Lookup (codes "a" ∷ [])))
    ∷ client 4 0 (entry.Told 0 (turn 2 (Target 0)) (told.Dir (fid 1 1)))
    ∷ client 3 0 (entry.Begin 0 (call.Lookup (codes "a" ∷ [])))
    ∷ client 2 0 (entry.Take 1)
    ∷ target 1 1 (sends 1 (Client 0) (message.Block (life 0 1) 1 (cookie 1 1)))
    ∷ []

pub known_after_a_block : Breaks known_after_a_block_past
known_after_a_block = says_no (decide_all decide_silent known_after_a_block_past) refl

-- a lock was dropped before the lookup began, and another client's since
abbrev pub known_after_a_drop_past : Past
known_after_a_drop_past =
    client 9 0 (sends 9 (Target 0) (message.Join (life 0 1) 1))
    ∷ client 9 0 (entry.Begin 0 (call.Lookup (codes "a" ∷ [])))
    ∷ client 5 1 (drop 0 (cookie 1 2))
    ∷ client 4 0 (entry.Told 0 (turn 2 (Target 0)) (told.Dir (fid 1 1)))
    ∷ client 3 0 (entry.Begin 0 (call.Lookup (codes "a" ∷ [])))
    ∷ client 1 0 (drop 0 (cookie 1 1))
    ∷ []

pub known_after_a_drop : Breaks known_after_a_drop_past
known_after_a_drop = says_no (decide_all decide_silent known_after_a_drop_past) refl

-- another client's lock is called back
abbrev pub known_while_another_is_blocked_past : Past
known_while_another_is_blocked_past =
    client 9 0 (sends 9 (Target 0) (message.Join (life 0 1) 1))
    ∷ client 9 0 (entry.Begin 0 (call.Lookup (codes "a" ∷ [])))
    ∷ client 6 1 (entry.Take 1)
    ∷ target 5 1 (sends 1 (Client 1) (message.Block (life 1 1) 1 (cookie 1 1)))
    ∷ client 4 0 (entry.Told 0 (turn 2 (Target 0)) (told.Dir (fid 1 1)))
    ∷ client 3 0 (entry.Begin 0 (call.Lookup (codes "a" ∷ [])))
    ∷ []

pub known_while_another_is_blocked : Breaks known_while_another_is_blocked_past
known_while_another_is_blocked = says_no (decide_all decide_silent known_while_another_is_blocked_past) refl

-- another handle is opened and closed
abbrev pub known_after_another_open_past : Past
known_after_another_open_past =
    client 9 0 (sends 9 (Target 0) (message.Join (life 0 1) 1))
    ∷ client 9 0 (entry.Begin 0 (call.Read 0 0 8))
    ∷ client 6 0 (entry.Begin 2 (call.Close 1))
    ∷ client 5 0 (entry.Begin 1 (call.Open 1 (codes "f" ∷ [])))
    ∷ client 4 0 (entry.Told 0 (turn 4 (Client 0)) (told.Content []))
    ∷ client 3 0 (entry.Begin 0 (call.Read 0 0 8))
    ∷ []

pub known_after_another_open : Breaks known_after_another_open_past
known_after_another_open = says_no (decide_all decide_silent known_after_another_open_past) refl

-- the client is ready again before the lookup begins
abbrev pub known_after_a_ready_past : Past
known_after_a_ready_past =
    client 9 0 (sends 9 (Target 0) (message.Join (life 0 1) 1))
    ∷ client 9 0 (entry.Begin 0 (call.Lookup (codes "a" ∷ [])))
    ∷ client 6 0 (entry.Told 0 (turn 2 (Target 0)) (told.Dir (fid 1 1)))
    ∷ client 5 0 (entry.Begin 0 (call.Lookup (codes "a" ∷ [])))
    ∷ client 4 0 (entry.Take 2)
    ∷ target 3 1 (sends 2 (Client 0) (message.Ready (life 0 1) 2 (txn_of 0 0)))
    ∷ client 2 0 (entry.Take 1)
    ∷ target 1 1 (sends 1 (Client 0) (message.Up 2))
    ∷ []

pub known_after_a_ready : Breaks known_after_a_ready_past
known_after_a_ready = says_no (decide_all decide_silent known_after_a_ready_past) refl

-- another client holds a PW lock
abbrev pub known_while_another_writes_past : Past
known_while_another_writes_past =
    client 9 0 (sends 9 (Target 0) (message.Join (life 0 1) 1))
    ∷ client 9 0 (entry.Begin 0 (call.Lookup (codes "a" ∷ [])))
    ∷ client 4 0 (entry.Told 0 (turn 2 (Target 0)) (told.Dir (fid 1 1)))
    ∷ client 3 0 (entry.Begin 0 (call.Lookup (codes "a" ∷ [])))
    ∷ client 2 1 (hold 1 (cookie 1 1))
    ∷ target 1 1 (entry.Restore (lock (cookie 1 1) (life 1 1) (object 1 1 0) PW (Range (extent 0 9))))
    ∷ []

pub known_while_another_writes : Breaks known_while_another_writes_past
known_while_another_writes = says_no (decide_all decide_silent known_while_another_writes_past) refl

-- a PR lock is held
abbrev pub known_while_it_reads_past : Past
known_while_it_reads_past =
    client 9 0 (sends 9 (Target 0) (message.Join (life 0 1) 1))
    ∷ client 9 0 (entry.Begin 0 (call.Lookup (codes "a" ∷ [])))
    ∷ client 4 0 (entry.Told 0 (turn 2 (Target 0)) (told.Dir (fid 1 1)))
    ∷ client 3 0 (entry.Begin 0 (call.Lookup (codes "a" ∷ [])))
    ∷ client 2 0 (hold 1 (cookie 1 1))
    ∷ target 1 1 (entry.Restore (lock (cookie 1 1) (life 0 1) (object 1 1 0) PR (Range (extent 0 9))))
    ∷ []

pub known_while_it_reads : Breaks known_while_it_reads_past
known_while_it_reads = says_no (decide_all decide_silent known_while_it_reads_past) refl

-- another call was refused since
abbrev pub known_after_an_error_past : Past
known_after_an_error_past =
    client 9 0 (sends 9 (Target 0) (message.Join (life 0 1) 1))
    ∷ client 9 0 (entry.Begin 0 (call.Lookup (codes "a" ∷ [])))
    ∷ client 4 0 (entry.Told 0 (turn 4 (Target 0)) (told.Refused ENOENT))
    ∷ client 3 0 (entry.Begin 0 (call.Lookup (codes "b" ∷ [])))
    ∷ client 2 0 (entry.Told 0 (turn 2 (Target 0)) (told.Dir (fid 1 1)))
    ∷ client 1 0 (entry.Begin 0 (call.Lookup (codes "a" ∷ [])))
    ∷ []

pub known_after_an_error : Breaks known_after_an_error_past
known_after_an_error = says_no (decide_all decide_silent known_after_an_error_past) refl

-- the same call was refused before
abbrev pub known_since_before_an_error_past : Past
known_since_before_an_error_past =
    client 9 0 (sends 9 (Target 0) (message.Join (life 0 1) 1))
    ∷ client 9 0 (entry.Begin 0 (call.Lookup (codes "a" ∷ [])))
    ∷ client 4 0 (entry.Told 0 (turn 4 (Target 0)) (told.Dir (fid 1 1)))
    ∷ client 3 0 (entry.Begin 0 (call.Lookup (codes "a" ∷ [])))
    ∷ client 2 0 (entry.Told 0 (turn 2 (Target 0)) (told.Refused ENOENT))
    ∷ client 1 0 (entry.Begin 0 (call.Lookup (codes "a" ∷ [])))
    ∷ []

pub known_since_before_an_error : Breaks known_since_before_an_error_past
known_since_before_an_error = says_no (decide_all decide_silent known_since_before_an_error_past) refl

-- ---- calls whose answers aren't known: lawful

-- it was refused
abbrev pub not_error_past : Past
not_error_past =
    client 9 0 (sends 9 (Target 0) (asks (life 0 1) 1 9 0 (op.Lookup (codes "a" ∷ []))))
    ∷ client 9 0 (entry.Begin 0 (call.Lookup (codes "a" ∷ [])))
    ∷ client 2 0 (entry.Told 0 (turn 2 (Target 0)) (told.Refused ENOENT))
    ∷ client 1 0 (entry.Begin 0 (call.Lookup (codes "a" ∷ [])))
    ∷ []

pub not_error : Keeps not_error_past
not_error = says_yes (decide_all decide_silent not_error_past) refl

-- it wasn't told yet
abbrev pub not_untold_past : Past
not_untold_past =
    client 9 0 (sends 9 (Target 0) (asks (life 0 1) 1 9 0 (op.Lookup (codes "a" ∷ []))))
    ∷ client 9 0 (entry.Begin 0 (call.Lookup (codes "a" ∷ [])))
    ∷ client 1 0 (entry.Begin 1 (call.Lookup (codes "a" ∷ [])))
    ∷ []

pub not_untold : Keeps not_untold_past
not_untold = says_yes (decide_all decide_silent not_untold_past) refl

-- another path was looked up
abbrev pub not_other_path_past : Past
not_other_path_past =
    client 9 0 (sends 9 (Target 0) (asks (life 0 1) 1 9 0 (op.Lookup (codes "a" ∷ []))))
    ∷ client 9 0 (entry.Begin 0 (call.Lookup (codes "a" ∷ [])))
    ∷ client 2 0 (entry.Told 0 (turn 2 (Target 0)) (told.Dir (fid 1 1)))
    ∷ client 1 0 (sends 1 (Target 0) (asks (life 0 1) 1 1 0 (op.Lookup (codes "a" ∷ codes "a" ∷ []))))
    ∷ client 1 0 (entry.Begin 0 (call.Lookup (codes "a" ∷ codes "a" ∷ [])))
    ∷ []

pub not_other_path : Keeps not_other_path_past
not_other_path = says_yes (decide_all decide_silent not_other_path_past) refl

-- a stat is no lookup
abbrev pub not_other_kind_past : Past
not_other_kind_past =
    client 9 0 (sends 9 (Target 0) (asks (life 0 1) 1 9 0 (op.Lookup (codes "a" ∷ []))))
    ∷ client 9 0 (entry.Begin 0 (call.Lookup (codes "a" ∷ [])))
    ∷ client 2 0 (entry.Told 0 (turn 2 (Target 0)) (told.Dir (fid 1 1)))
    ∷ client 1 0 (sends 1 (Target 0) (asks (life 0 1) 1 1 0 (op.Stat (codes "a" ∷ []))))
    ∷ client 1 0 (entry.Begin 0 (call.Stat (codes "a" ∷ [])))
    ∷ []

pub not_other_kind : Keeps not_other_kind_past
not_other_kind = says_yes (decide_all decide_silent not_other_kind_past) refl

-- another client knows it
abbrev pub not_other_client_past : Past
not_other_client_past =
    client 9 0 (sends 9 (Target 0) (asks (life 0 1) 1 9 0 (op.Lookup (codes "a" ∷ []))))
    ∷ client 9 0 (entry.Begin 0 (call.Lookup (codes "a" ∷ [])))
    ∷ client 2 1 (entry.Told 0 (turn 2 (Target 0)) (told.Dir (fid 1 1)))
    ∷ client 1 1 (sends 1 (Target 0) (asks (life 1 1) 1 1 0 (op.Lookup (codes "a" ∷ []))))
    ∷ client 1 1 (entry.Begin 0 (call.Lookup (codes "a" ∷ [])))
    ∷ []

pub not_other_client : Keeps not_other_client_past
not_other_client = says_yes (decide_all decide_silent not_other_client_past) refl

-- the life before knew it
abbrev pub not_other_life_past : Past
not_other_life_past =
    client 9 0 (sends 9 (Target 0) (asks (life 0 1) 1 9 0 (op.Lookup (codes "a" ∷ []))))
    ∷ client 9 0 (entry.Begin 0 (call.Lookup (codes "a" ∷ [])))
    ∷ client 3 0 (entry.Life (life 0 2))
    ∷ a_is_known

pub not_other_life : Keeps not_other_life_past
not_other_life = says_yes (decide_all decide_silent not_other_life_past) refl

-- a lock was called back since
abbrev pub not_after_block_past : Past
not_after_block_past =
    client 9 0 (sends 9 (Target 0) (asks (life 0 1) 1 9 0 (op.Lookup (codes "a" ∷ []))))
    ∷ client 9 0 (entry.Begin 0 (call.Lookup (codes "a" ∷ [])))
    ∷ client 4 0 (entry.Take 2)
    ∷ target 3 0 (sends 2 (Client 0) (message.Block (life 0 1) 1 (cookie 1 1)))
    ∷ a_is_known

pub not_after_block : Keeps not_after_block_past
not_after_block = says_yes (decide_all decide_silent not_after_block_past) refl

-- a lock was called back while it was asked
abbrev pub not_with_block_while_asked_past : Past
not_with_block_while_asked_past =
    client 9 0 (sends 9 (Target 0) (asks (life 0 1) 1 9 0 (op.Lookup (codes "a" ∷ []))))
    ∷ client 9 0 (entry.Begin 0 (call.Lookup (codes "a" ∷ [])))
    ∷ client 5 0 (entry.Told 0 (turn 2 (Target 0)) (told.Dir (fid 1 1)))
    ∷ client 4 0 (entry.Take 2)
    ∷ target 3 0 (sends 2 (Client 0) (message.Block (life 0 1) 1 (cookie 1 1)))
    ∷ client 1 0 (entry.Begin 0 (call.Lookup (codes "a" ∷ [])))
    ∷ []

pub not_with_block_while_asked : Keeps not_with_block_while_asked_past
not_with_block_while_asked = says_yes (decide_all decide_silent not_with_block_while_asked_past) refl

-- a target booted since
abbrev pub not_after_up_past : Past
not_after_up_past =
    client 9 0 (sends 9 (Target 0) (asks (life 0 1) 1 9 0 (op.Lookup (codes "a" ∷ []))))
    ∷ client 9 0 (entry.Begin 0 (call.Lookup (codes "a" ∷ [])))
    ∷ client 4 0 (entry.Take 2)
    ∷ target 3 0 (sends 2 (Client 0) (message.Up 2))
    ∷ a_is_known

pub not_after_up : Keeps not_after_up_past
not_after_up = says_yes (decide_all decide_silent not_after_up_past) refl

-- a target booted while it was asked
abbrev pub not_with_up_while_asked_past : Past
not_with_up_while_asked_past =
    client 9 0 (sends 9 (Target 0) (asks (life 0 1) 1 9 0 (op.Lookup (codes "a" ∷ []))))
    ∷ client 9 0 (entry.Begin 0 (call.Lookup (codes "a" ∷ [])))
    ∷ client 5 0 (entry.Told 0 (turn 2 (Target 0)) (told.Dir (fid 1 1)))
    ∷ client 4 0 (entry.Take 2)
    ∷ target 3 0 (sends 2 (Client 0) (message.Up 2))
    ∷ client 1 0 (entry.Begin 0 (call.Lookup (codes "a" ∷ [])))
    ∷ []

pub not_with_up_while_asked : Keeps not_with_up_while_asked_past
not_with_up_while_asked = says_yes (decide_all decide_silent not_with_up_while_asked_past) refl

-- an eviction notice came since
abbrev pub not_after_evicted_past : Past
not_after_evicted_past =
    client 9 0 (sends 9 (Target 0) (asks (life 0 1) 1 9 0 (op.Lookup (codes "a" ∷ []))))
    ∷ client 9 0 (entry.Begin 0 (call.Lookup (codes "a" ∷ [])))
    ∷ client 4 0 (entry.Take 2)
    ∷ target 3 0 (sends 2 (Client 0) (message.Evicted (life 0 1) 1))
    ∷ a_is_known

pub not_after_evicted : Keeps not_after_evicted_past
not_after_evicted = says_yes (decide_all decide_silent not_after_evicted_past) refl

-- an eviction notice came while it was asked
abbrev pub not_with_evicted_while_asked_past : Past
not_with_evicted_while_asked_past =
    client 9 0 (sends 9 (Target 0) (asks (life 0 1) 1 9 0 (op.Lookup (codes "a" ∷ []))))
    ∷ client 9 0 (entry.Begin 0 (call.Lookup (codes "a" ∷ [])))
    ∷ client 5 0 (entry.Told 0 (turn 2 (Target 0)) (told.Dir (fid 1 1)))
    ∷ client 4 0 (entry.Take 2)
    ∷ target 3 0 (sends 2 (Client 0) (message.Evicted (life 0 1) 1))
    ∷ client 1 0 (entry.Begin 0 (call.Lookup (codes "a" ∷ [])))
    ∷ []

pub not_with_evicted_while_asked : Keeps not_with_evicted_while_asked_past
not_with_evicted_while_asked = says_yes (decide_all decide_silent not_with_evicted_while_asked_past) refl

-- a lock of an older life was called back since
abbrev pub not_after_block_old_past : Past
not_after_block_old_past =
    client 9 0 (sends 9 (Target 0) (asks (life 0 1) 1 9 0 (op.Lookup (codes "a" ∷ []))))
    ∷ client 9 0 (entry.Begin 0 (call.Lookup (codes "a" ∷ [])))
    ∷ client 4 0 (entry.Take 2)
    ∷ target 3 0 (sends 2 (Client 0) (message.Block (life 0 0) 1 (cookie 1 1)))
    ∷ a_is_known

pub not_after_block_old : Keeps not_after_block_old_past
not_after_block_old = says_yes (decide_all decide_silent not_after_block_old_past) refl

-- a lock of an older life was called back while it was asked
abbrev pub not_with_block_old_while_asked_past : Past
not_with_block_old_while_asked_past =
    client 9 0 (sends 9 (Target 0) (asks (life 0 1) 1 9 0 (op.Lookup (codes "a" ∷ []))))
    ∷ client 9 0 (entry.Begin 0 (call.Lookup (codes "a" ∷ [])))
    ∷ client 5 0 (entry.Told 0 (turn 2 (Target 0)) (told.Dir (fid 1 1)))
    ∷ client 4 0 (entry.Take 2)
    ∷ target 3 0 (sends 2 (Client 0) (message.Block (life 0 0) 1 (cookie 1 1)))
    ∷ client 1 0 (entry.Begin 0 (call.Lookup (codes "a" ∷ [])))
    ∷ []

pub not_with_block_old_while_asked : Keeps not_with_block_old_while_asked_past
not_with_block_old_while_asked = says_yes (decide_all decide_silent not_with_block_old_while_asked_past) refl

-- a lock was dropped since
abbrev pub not_after_drop_past : Past
not_after_drop_past =
    client 9 0 (sends 9 (Target 0) (asks (life 0 1) 1 9 0 (op.Lookup (codes "a" ∷ []))))
    ∷ client 9 0 (entry.Begin 0 (call.Lookup (codes "a" ∷ [])))
    ∷ client 3 0 (drop 0 (cookie 1 1))
    ∷ a_is_known

pub not_after_drop : Keeps not_after_drop_past
not_after_drop = says_yes (decide_all decide_silent not_after_drop_past) refl

-- a target that booted wasn't ready again when it began
abbrev pub not_unready_past : Past
not_unready_past =
    client 9 0 (sends 9 (Target 0) (asks (life 0 1) 1 9 0 (op.Lookup (codes "a" ∷ []))))
    ∷ client 9 0 (entry.Begin 0 (call.Lookup (codes "a" ∷ [])))
    ∷ client 4 0 (entry.Told 0 (turn 2 (Target 0)) (told.Dir (fid 1 1)))
    ∷ client 3 0 (entry.Begin 0 (call.Lookup (codes "a" ∷ [])))
    ∷ client 2 0 (entry.Take 1)
    ∷ target 1 1 (sends 1 (Client 0) (message.Up 2))
    ∷ []

pub not_unready : Keeps not_unready_past
not_unready = says_yes (decide_all decide_silent not_unready_past) refl

-- another boot, and another target, was ready
abbrev pub not_unready_other_boot_past : Past
not_unready_other_boot_past =
    client 9 0 (sends 9 (Target 0) (asks (life 0 1) 1 9 0 (op.Lookup (codes "a" ∷ []))))
    ∷ client 9 0 (entry.Begin 0 (call.Lookup (codes "a" ∷ [])))
    ∷ client 6 0 (entry.Told 0 (turn 2 (Target 0)) (told.Dir (fid 1 1)))
    ∷ client 5 0 (entry.Begin 0 (call.Lookup (codes "a" ∷ [])))
    ∷ client 4 0 (entry.Take 3)
    ∷ client 4 0 (entry.Take 2)
    ∷ target 3 2 (sends 3 (Client 0) (message.Ready (life 0 1) 2 (txn_of 0 0)))
    ∷ target 3 1 (sends 2 (Client 0) (message.Ready (life 0 1) 1 (txn_of 0 0)))
    ∷ client 2 0 (entry.Take 1)
    ∷ target 1 1 (sends 1 (Client 0) (message.Up 2))
    ∷ []

pub not_unready_other_boot : Keeps not_unready_other_boot_past
not_unready_other_boot = says_yes (decide_all decide_silent not_unready_other_boot_past) refl

-- the target was ready only after it began
abbrev pub not_ready_after_begin_past : Past
not_ready_after_begin_past =
    client 9 0 (sends 9 (Target 0) (asks (life 0 1) 1 9 0 (op.Lookup (codes "a" ∷ []))))
    ∷ client 9 0 (entry.Begin 0 (call.Lookup (codes "a" ∷ [])))
    ∷ client 6 0 (entry.Told 0 (turn 2 (Target 0)) (told.Dir (fid 1 1)))
    ∷ client 5 0 (entry.Take 2)
    ∷ client 5 0 (entry.Begin 0 (call.Lookup (codes "a" ∷ [])))
    ∷ target 3 1 (sends 2 (Client 0) (message.Ready (life 0 1) 2 (txn_of 0 0)))
    ∷ client 2 0 (entry.Take 1)
    ∷ target 1 1 (sends 1 (Client 0) (message.Up 2))
    ∷ []

pub not_ready_after_begin : Keeps not_ready_after_begin_past
not_ready_after_begin = says_yes (decide_all decide_silent not_ready_after_begin_past) refl

-- the life holds a PW lock
abbrev pub not_while_writing_past : Past
not_while_writing_past =
    client 9 0 (sends 9 (Target 0) (message.Join (life 0 1) 1))
    ∷ client 9 0 (entry.Begin 0 (call.Lookup (codes "a" ∷ [])))
    ∷ client 4 0 (entry.Told 0 (turn 2 (Target 0)) (told.Dir (fid 1 1)))
    ∷ client 3 0 (entry.Begin 0 (call.Lookup (codes "a" ∷ [])))
    ∷ client 2 0 (hold 1 (cookie 1 1))
    ∷ target 1 1 (entry.Restore (lock (cookie 1 1) (life 0 1) (object 1 1 0) PW (Range (extent 0 9))))
    ∷ []

pub not_while_writing : Keeps not_while_writing_past
not_while_writing = says_yes (decide_all decide_silent not_while_writing_past) refl

-- the handle was opened since
abbrev pub not_after_open_past : Past
not_after_open_past =
    client 9 0 (sends 9 (Target 1) (asks (life 0 1) 1 9 0 (op.Get (object 1 1 0) (cookie 1 1) 0)))
    ∷ client 9 0 (entry.Begin 0 (call.Read 0 0 8))
    ∷ client 5 0 (entry.Begin 1 (call.Open 0 (codes "f" ∷ [])))
    ∷ client 4 0 (entry.Told 0 (turn 4 (Client 0)) (told.Content []))
    ∷ client 3 0 (entry.Begin 0 (call.Read 0 0 8))
    ∷ []

pub not_after_open : Keeps not_after_open_past
not_after_open = says_yes (decide_all decide_silent not_after_open_past) refl

-- the handle was opened while it was asked
abbrev pub not_with_open_while_asked_past : Past
not_with_open_while_asked_past =
    client 9 0 (sends 9 (Target 1) (asks (life 0 1) 1 9 0 (op.Get (object 1 1 0) (cookie 1 1) 0)))
    ∷ client 9 0 (entry.Begin 0 (call.Read 0 0 8))
    ∷ client 5 0 (entry.Told 0 (turn 4 (Client 0)) (told.Content []))
    ∷ client 4 0 (entry.Begin 1 (call.Open 0 (codes "f" ∷ [])))
    ∷ client 3 0 (entry.Begin 0 (call.Read 0 0 8))
    ∷ []

pub not_with_open_while_asked : Keeps not_with_open_while_asked_past
not_with_open_while_asked = says_yes (decide_all decide_silent not_with_open_while_asked_past) refl

-- the handle was closed since
abbrev pub not_after_close_past : Past
not_after_close_past =
    client 9 0 (sends 9 (Target 1) (asks (life 0 1) 1 9 0 (op.Get (object 1 1 0) (cookie 1 1) 0)))
    ∷ client 9 0 (entry.Begin 0 (call.Read 0 0 8))
    ∷ client 5 0 (entry.Begin 1 (call.Close 0))
    ∷ client 4 0 (entry.Told 0 (turn 4 (Client 0)) (told.Content []))
    ∷ client 3 0 (entry.Begin 0 (call.Read 0 0 8))
    ∷ []

pub not_after_close : Keeps not_after_close_past
not_after_close = says_yes (decide_all decide_silent not_after_close_past) refl

-- the handle was closed while it was asked
abbrev pub not_with_close_while_asked_past : Past
not_with_close_while_asked_past =
    client 9 0 (sends 9 (Target 1) (asks (life 0 1) 1 9 0 (op.Get (object 1 1 0) (cookie 1 1) 0)))
    ∷ client 9 0 (entry.Begin 0 (call.Read 0 0 8))
    ∷ client 5 0 (entry.Told 0 (turn 4 (Client 0)) (told.Content []))
    ∷ client 4 0 (entry.Begin 1 (call.Close 0))
    ∷ client 3 0 (entry.Begin 0 (call.Read 0 0 8))
    ∷ []

pub not_with_close_while_asked : Keeps not_with_close_while_asked_past
not_with_close_while_asked = says_yes (decide_all decide_silent not_with_close_while_asked_past) refl

-- another length was read
abbrev pub not_other_length_past : Past
not_other_length_past =
    client 9 0 (sends 9 (Target 1) (asks (life 0 1) 1 9 0 (op.Get (object 1 1 0) (cookie 1 1) 0)))
    ∷ client 9 0 (entry.Begin 0 (call.Read 0 0 8))
    ∷ client 4 0 (entry.Told 0 (turn 4 (Client 0)) (told.Content []))
    ∷ client 3 0 (entry.Begin 0 (call.Read 0 0 7))
    ∷ []

pub not_other_length : Keeps not_other_length_past
not_other_length = says_yes (decide_all decide_silent not_other_length_past) refl

-- another offset was read
abbrev pub not_other_offset_past : Past
not_other_offset_past =
    client 9 0 (sends 9 (Target 1) (asks (life 0 1) 1 9 0 (op.Get (object 1 1 0) (cookie 1 1) 0)))
    ∷ client 9 0 (entry.Begin 0 (call.Read 0 0 8))
    ∷ client 4 0 (entry.Told 0 (turn 4 (Client 0)) (told.Content []))
    ∷ client 3 0 (entry.Begin 0 (call.Read 0 1 8))
    ∷ []

pub not_other_offset : Keeps not_other_offset_past
not_other_offset = says_yes (decide_all decide_silent not_other_offset_past) refl

-- another handle was read
abbrev pub not_other_handle_past : Past
not_other_handle_past =
    client 9 0 (sends 9 (Target 1) (asks (life 0 1) 1 9 0 (op.Get (object 1 1 0) (cookie 1 1) 0)))
    ∷ client 9 0 (entry.Begin 0 (call.Read 0 0 8))
    ∷ client 4 0 (entry.Told 0 (turn 4 (Client 0)) (told.Content []))
    ∷ client 3 0 (entry.Begin 0 (call.Read 1 0 8))
    ∷ []

pub not_other_handle : Keeps not_other_handle_past
not_other_handle = says_yes (decide_all decide_silent not_other_handle_past) refl

-- what changes something is no reading
abbrev pub not_mkdir_past : Past
not_mkdir_past =
    client 9 0 (sends 9 (Target 0) (asks (life 0 1) 1 9 0 (op.Mkdir (codes "a" ∷ []))))
    ∷ client 9 0 (entry.Begin 0 (call.Mkdir (codes "a" ∷ [])))
    ∷ client 4 0 (entry.Told 0 (turn 4 (Target 0)) (told.Made (fid 1 1)))
    ∷ client 3 0 (entry.Begin 0 (call.Mkdir (codes "a" ∷ [])))
    ∷ []

pub not_mkdir : Keeps not_mkdir_past
not_mkdir = says_yes (decide_all decide_silent not_mkdir_past) refl
