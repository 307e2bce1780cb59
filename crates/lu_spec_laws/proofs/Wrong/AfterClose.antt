-- Traces that break the law of recovery after a close, each with the lines at which it does, and lawful ones beside them.
-- The close of the window loses 1.1, which c0 made; it keeps 1.2 and 1.3, restores the locks of c2 and c3, and evicts c0,
-- which isn't back, and c1, which saw 1.1.
use Rattle.std.proofs.Common.{ℕ, List, [], ◌∷◌, ◌++◌, refl}
use Rattle.lu_base.specs.declared.ids.Node.TheVariants.{Client, Target}
use Rattle.lu_base.specs.declared.locks.Cause.TheVariants.{Absent, Gap, Expired}
use Rattle.lu_base.specs.declared.locks.Mode.TheVariants.{PW, PR}
use Rattle.lu_base.specs.declared.locks.Policy.TheVariants.{Bits, Range}
use Rattle.lu_msg.specs.declared.answers.Answer.TheVariants as told
use Rattle.lu_msg.specs.declared.messages.Message.TheVariants.{Word}
use Rattle.lu_msg.specs.declared.operations.Op.TheVariants as op
use Rattle.lu_trace.specs.declared.entries.Entry.{Entry}
use Rattle.lu_trace.specs.declared.entries.Entry.TheVariants.{Take, Grant, Commit, Close, Kept, Restore, Crash, Boot, Fail}
use Rattle.lu_spec_laws.specs.Words.Pasts.{Past}
use Rattle.lu_spec_laws.proofs.Words.{target, turn, life, number, txn_of, cookie, onward, object, lock, asks, replies, grants, sends, heard}
use Rattle.lu_spec_laws.proofs.Words.{hold, executes}
use Rattle.lu_spec_laws.proofs.Wrong.Recovering.{BreaksAt, Keeps, turn_of, client_turn, mkdir, first_reply, makes, word, served, two_back}
use Rattle.lu_spec_laws.proofs.Wrong.Recovering.{window, back, commit}
use Rattle.lu_spec_laws.proofs.Wrong.Recovering.{kept, restored, evict, closing, here}
use Rattle.lu_spec_laws.proofs.Wrong.Recovering.{closes, both_kept, both_restored, both_evicted}

whole_close : Keeps (closes both_kept both_restored both_evicted)
whole_close = refl

-- ---- what is kept

kept_missing : BreaksAt (closes (kept 3 ∷ []) both_restored both_evicted) (here Close ∷ [])
kept_missing = refl

none_kept : BreaksAt (closes [] both_restored both_evicted) (here Close ∷ [])
none_kept = refl

kept_too_early : BreaksAt (closing (kept 2 ∷ Close ∷ commit 3 ∷ kept 3 ∷ both_restored ++ both_evicted)) (here Close ∷ [])
kept_too_early = refl

kept_in_another_turn : BreaksAt (turn_of 0 31 (kept 3 ∷ []) (closes (kept 2 ∷ []) both_restored both_evicted)) (here Close ∷ [])
kept_in_another_turn = refl

lost_kept : BreaksAt (closes (kept 1 ∷ kept 2 ∷ kept 3 ∷ []) both_restored both_evicted) (here (kept 1) ∷ [])
lost_kept = refl

unknown_kept : BreaksAt (closes (kept 2 ∷ kept 3 ∷ kept 4 ∷ []) both_restored both_evicted) (here (kept 4) ∷ [])
unknown_kept = refl

kept_falls : BreaksAt (closes (kept 3 ∷ kept 2 ∷ []) both_restored both_evicted) (here (kept 2) ∷ [])
kept_falls = refl

kept_twice : BreaksAt (closes (kept 2 ∷ kept 3 ∷ kept 3 ∷ []) both_restored both_evicted) (here (kept 3) ∷ [])
kept_twice = refl

-- 1.1 was committed, and no life is back
abbrev none_back : List Entry → Past
none_back es =
    turn_of 0 33 (Close ∷ commit 1 ∷ es ++ evict 0 Absent ∷ evict 1 Absent ∷ evict 2 Absent ∷ evict 3 Absent ∷ [])
    (turn_of 0 32 (Boot 2 ∷ []) (turn_of 0 31 (commit 1 ∷ Crash ∷ []) served))

-- what was committed at the close is kept by no line, there or later
committed_kept : BreaksAt (none_back (kept 1 ∷ [])) (target 33 0 (kept 1) ∷ [])
committed_kept = refl

committed_kept_later : BreaksAt (turn_of 0 34 (kept 1 ∷ []) (none_back [])) (target 34 0 (kept 1) ∷ [])
committed_kept_later = refl

-- where there was no close
nothing_kept : BreaksAt (turn_of 0 31 (Kept (txn_of 0 0) ∷ []) served) (target 31 0 (Kept (txn_of 0 0)) ∷ [])
nothing_kept = refl

-- ---- what is restored

restore_missing : BreaksAt (closes both_kept (restored 3 3 ∷ []) both_evicted) (here Close ∷ [])
restore_missing = refl

none_restored : BreaksAt (closes both_kept [] both_evicted) (here Close ∷ [])
none_restored = refl

restored_in_another_turn : BreaksAt (turn_of 0 31 (restored 3 3 ∷ []) (closes both_kept (restored 2 2 ∷ []) both_evicted)) (here Close ∷ [])
restored_in_another_turn = refl

abbrev in_mode_PW : Entry
in_mode_PW = Restore (lock (cookie 1 2) (life 2 1) (object 1 2 0) PW (Bits 3))

restored_in_another_mode : BreaksAt (closes both_kept (in_mode_PW ∷ restored 3 3 ∷ []) both_evicted) (here in_mode_PW ∷ here Close ∷ [])
restored_in_another_mode = refl

abbrev with_more_bits : Entry
with_more_bits = Restore (lock (cookie 1 2) (life 2 1) (object 1 2 0) PR (Bits 7))

restored_with_more_bits : BreaksAt (closes both_kept (with_more_bits ∷ restored 3 3 ∷ []) both_evicted)
    (here with_more_bits ∷ here Close ∷ [])
restored_with_more_bits = refl

restored_to_another : BreaksAt (closes both_kept (restored 3 2 ∷ restored 3 3 ∷ []) both_evicted) (here (restored 3 2) ∷ here Close ∷ [])
restored_to_another = refl

unknown_restored : BreaksAt (closes both_kept (restored 2 2 ∷ restored 3 3 ∷ restored 3 4 ∷ []) both_evicted) (here (restored 3 4) ∷ [])
unknown_restored = refl

evicted_restored : BreaksAt (closes both_kept (restored 1 1 ∷ both_restored) both_evicted) (here (restored 1 1) ∷ [])
evicted_restored = refl

restored_twice : BreaksAt (closes both_kept (restored 2 2 ∷ restored 3 3 ∷ restored 2 2 ∷ []) both_evicted) (here (restored 2 2) ∷ [])
restored_twice = refl

-- in what order they are restored isn't asked
restored_in_another_order : Keeps (closes both_kept (restored 3 3 ∷ restored 2 2 ∷ []) both_evicted)
restored_in_another_order = refl

-- ---- who is evicted

absent_missing : BreaksAt (closes both_kept both_restored (evict 1 Gap ∷ [])) (here Close ∷ [])
absent_missing = refl

gap_missing : BreaksAt (closes both_kept both_restored (evict 0 Absent ∷ [])) (here Close ∷ [])
gap_missing = refl

-- what a later turn evicts comes too late, and without its cause
evicted_in_another_turn : BreaksAt (turn_of 0 31 (commit 3 ∷ evict 1 Gap ∷ []) (closes both_kept both_restored (evict 0 Absent ∷ [])))
    (target 31 0 (evict 1 Gap) ∷ here Close ∷ [])
evicted_in_another_turn = refl

absent_for_a_gap : BreaksAt (closes both_kept both_restored (evict 0 Gap ∷ evict 1 Gap ∷ [])) (here (evict 0 Gap) ∷ here Close ∷ [])
absent_for_a_gap = refl

gap_as_absent : BreaksAt (closes both_kept both_restored (evict 0 Absent ∷ evict 1 Absent ∷ [])) (here (evict 1 Absent) ∷ here Close ∷ [])
gap_as_absent = refl

stayer_evicted : BreaksAt (closes both_kept both_restored (evict 0 Absent ∷ evict 1 Gap ∷ evict 2 Gap ∷ [])) (here (evict 2 Gap) ∷ [])
stayer_evicted = refl

stayer_expired : BreaksAt (closes both_kept both_restored (evict 0 Absent ∷ evict 1 Gap ∷ evict 3 Expired ∷ []))
    (here (evict 3 Expired) ∷ [])
stayer_expired = refl

evictions_fall : BreaksAt (closes both_kept both_restored (evict 1 Gap ∷ evict 0 Absent ∷ [])) (here (evict 0 Absent) ∷ [])
evictions_fall = refl

evicted_twice : BreaksAt (closes both_kept both_restored (evict 0 Absent ∷ evict 0 Absent ∷ evict 1 Gap ∷ [])) (here (evict 0 Absent) ∷ [])
evicted_twice = refl

-- ---- what is lost

-- c3 heard of 1.3, but isn't back
close_without_c3 : Keeps (turn_of 0 30 (Close ∷ commit 2 ∷ kept 2 ∷ restored 2 2 ∷ both_evicted ++ evict 3 Absent ∷ []) two_back)
close_without_c3 = refl

kept_of_who_is_absent : BreaksAt (turn_of 0 30 (Close ∷ commit 2 ∷ both_kept ++ restored 2 2 ∷ both_evicted ++ evict 3 Absent ∷ [])
    two_back) (here (kept 3) ∷ [])
kept_of_who_is_absent = refl

-- c0 is back too, but never heard of 1.1
abbrev all_back : List Entry → Past
all_back es = turn_of 0 30 es (turn_of 0 26 (Take 16 ∷ back 0 ∷ []) (client_turn 0 25 (sends 16 (Target 0) (word 0 0 0) ∷ []) window))

unheard_lost : Keeps (all_back (Close ∷ commit 3 ∷ both_kept ++ both_restored ++ evict 1 Gap ∷ []))
unheard_lost = refl

unheard_kept : BreaksAt (all_back (Close ∷ commit 3 ∷ kept 1 ∷ both_kept ++ both_restored ++ evict 1 Gap ∷ [])) (here (kept 1) ∷ [])
unheard_kept = refl

-- c0 made /a, and c1 set its mode; c1 alone heard of it. Both are back
abbrev rests_on_the_unheard : List ℕ → ℕ → List Entry → Past
rests_on_the_unheard seen answered es =
    turn_of 0 30 (Close ∷ Commit (txn_of 0 0) ∷ es)
    (turn_of 0 12 (Take 5 ∷ back 1 ∷ []) (turn_of 0 11 (Take 4 ∷ back 0 ∷ [])
    (client_turn 1 10 (sends 5 (Target 0) (word 1 0 0) ∷ []) (client_turn 0 9 (sends 4 (Target 0) (word 0 0 0) ∷ [])
    (turn_of 0 8 (Boot 2 ∷ []) (turn_of 0 7 (Crash ∷ [])
    (client_turn 1 6 (Take 3 ∷ heard 0 1 ∷ [])
    (turn_of 0 answered (sends 3 (Client 1) (replies (life 1 1) 1 1 (txn_of 1 2) (txn_of 0 0) seen (turn 4 (Target 0)) [] told.Done) ∷ [])
    (turn_of 0 4 (executes (txn_of 1 2) (life 1 1) 1 (number 1 1 ∷ []) told.Done ∷ [])
    (client_turn 1 3 (sends 2 (Target 0) (asks (life 1 1) 1 1 0 (op.Chmod ((97 ∷ []) ∷ []) 448)) ∷ [])
    (turn_of 0 2 (makes 0 1 ∷ []) (client_turn 0 1 (sends 1 (Target 0) (mkdir 0 97) ∷ []) []))))))))))))

lost_by_what_it_saw : Keeps (rests_on_the_unheard (number 1 1 ∷ []) 4 (evict 1 Gap ∷ []))
lost_by_what_it_saw = refl

kept_that_saw_the_lost : BreaksAt (rests_on_the_unheard (number 1 1 ∷ []) 4 (kept 2 ∷ evict 1 Gap ∷ [])) (here (kept 2) ∷ [])
kept_that_saw_the_lost = refl

stays_on_the_lost : BreaksAt (rests_on_the_unheard (number 1 1 ∷ []) 4 []) (here Close ∷ [])
stays_on_the_lost = refl

-- its own lost number is enough: the reply came in a later turn and named nothing
gap_of_its_own : Keeps (rests_on_the_unheard [] 5 (evict 1 Gap ∷ []))
gap_of_its_own = refl

-- c0 put two bytes into an object and is absent; c1 is back, and holds a lock by a grant that lets it see the put
abbrev saw_by_a_grant : ℕ → List Entry → Past
saw_by_a_grant held es =
    turn_of 1 8 (Close ∷ Commit (txn_of 0 0) ∷ es)
    (turn_of 1 7 (Take 3 ∷ back 1 ∷ []) (client_turn 1 6 (sends 3 (Target 1) (word 1 0 0) ∷ [])
    (turn_of 1 5 (Crash ∷ Boot 2 ∷ [])
    (client_turn 1 4 (Take 2 ∷ hold 1 (cookie 1 held) ∷ [])
    (turn_of 1 3 (Grant (lock (cookie 1 2) (life 1 1) (object 1 1 0) PR (Range (onward 0)))
    ∷ sends 2 (Client 1) (grants (life 1 1) 1 (cookie 1 2) (onward 0) 2 (txn_of 0 0) (number 1 1 ∷ [])) ∷ [])
    (turn_of 1 2 (executes (txn_of 1 1) (life 0 1) 1 [] told.Done ∷ [])
    (client_turn 0 1 (sends 1 (Target 1) (asks (life 0 1) 1 1 0 (op.Put (object 1 1 0) (cookie 1 1) 0 (1 ∷ 2 ∷ []))) ∷ []) [])))))))

gap_by_a_grant : Keeps (saw_by_a_grant 2 (evict 0 Absent ∷ evict 1 Gap ∷ []))
gap_by_a_grant = refl

-- it came to hold another lock
no_gap_by_a_grant : BreaksAt (saw_by_a_grant 3 (evict 0 Absent ∷ evict 1 Gap ∷ [])) (target 8 1 (evict 1 Gap) ∷ [])
no_gap_by_a_grant = refl

-- what one close lost stays lost at the next, though c0 hears of it in between
abbrev heard_too_late : List Entry → Past
heard_too_late es =
    turn_of 0 12 (Take 3 ∷ back 0 ∷ Close ∷ Commit (txn_of 0 0) ∷ es)
    (client_turn 0 11 (sends 3 (Target 0) (Word (life 0 1) 3 0 0 []) ∷ [])
    (turn_of 0 10 (Crash ∷ Boot 3 ∷ []) (client_turn 0 9 (Take 2 ∷ heard 0 1 ∷ [])
    (turn_of 0 8 (Take 4 ∷ back 0 ∷ Close ∷ Commit (txn_of 0 0) ∷ []) (client_turn 0 7 (sends 4 (Target 0) (word 0 0 0) ∷ [])
    (turn_of 0 6 (Crash ∷ Boot 2 ∷ [])
    (turn_of 0 2 (makes 0 1 ∷ sends 2 (Client 0) (first_reply 0 1 2 []) ∷ [])
    (client_turn 0 1 (sends 1 (Target 0) (mkdir 0 97) ∷ []) []))))))))

lost_for_good : Keeps (heard_too_late [])
lost_for_good = refl

kept_once_lost : BreaksAt (heard_too_late (kept 1 ∷ [])) (target 12 0 (kept 1) ∷ [])
kept_once_lost = refl

-- ---- a close in whose turn the disk fails isn't finished: nothing follows it

failed_close : Keeps (closing (Close ∷ Fail ∷ []))
failed_close = refl

evicted_by_a_failed_close : BreaksAt (closing (Close ∷ commit 3 ∷ evict 0 Absent ∷ Fail ∷ [])) (here (evict 0 Absent) ∷ [])
evicted_by_a_failed_close = refl
