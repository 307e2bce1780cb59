-- Traces that break the law of recovery by a `back` line or one that is missing, or by a close that may not be, each with
-- the lines at which it does, and lawful ones beside them.
use Rattle.std.proofs.Common.{ℕ, List, [], ◌∷◌, ◌++◌, refl}
use Rattle.lu_base.specs.declared.ids.Node.TheVariants.{Client, Target}
use Rattle.lu_base.specs.declared.locks.Cause.TheVariants.{Absent, Gap}
use Rattle.lu_msg.specs.declared.messages.Message.TheVariants.{Word, Join}
use Rattle.lu_trace.specs.declared.entries.Entry.{Entry}
use Rattle.lu_trace.specs.declared.entries.Entry.TheVariants.{Take, Commit, Back, Close, Joined, Crash, Boot}
use Rattle.lu_spec_laws.specs.Words.Pasts.{Past}
use Rattle.lu_spec_laws.proofs.Words.{target, life, txn_of, sends}
use Rattle.lu_spec_laws.proofs.Wrong.Recovering.{BreaksAt, Keeps, turn_of, client_turn, served, booted, back, window, commit, restored}
use Rattle.lu_spec_laws.proofs.Wrong.Recovering.{evict, makes, hand_in, word}
use Rattle.lu_spec_laws.proofs.Wrong.Recovering.{both_kept, both_restored, both_evicted}

-- ---- a `back` line that isn't due

back_before_the_boot : BreaksAt (turn_of 0 12 (back 1 ∷ []) served) (target 12 0 (back 1) ∷ [])
back_before_the_boot = refl

back_without_a_word : BreaksAt (turn_of 0 17 (back 1 ∷ []) booted) (target 17 0 (back 1) ∷ [])
back_without_a_word = refl

back_of_another : BreaksAt (turn_of 0 18 (Take 9 ∷ back 1 ∷ back 0 ∷ []) (turn_of 0 17 (Take 8 ∷ []) booted)) (target 18 0 (back 0) ∷ [])
back_of_another = refl

-- the word came before the lock that it speaks of
back_before_its_lock : BreaksAt (turn_of 0 18 (Take 12 ∷ back 2 ∷ []) (turn_of 0 17 (Take 10 ∷ []) booted)) (target 18 0 (back 2) ∷ [])
back_before_its_lock = refl

back_before_its_replay : BreaksAt (turn_of 0 18 (Take 12 ∷ back 2 ∷ []) (turn_of 0 17 (Take 11 ∷ []) booted)) (target 18 0 (back 2) ∷ [])
back_before_its_replay = refl

-- another life's replay and lock don't count
back_by_anothers_replay : BreaksAt (turn_of 0 19 (Take 12 ∷ back 2 ∷ []) (turn_of 0 18 (Take 11 ∷ []) (turn_of 0 17 (Take 13 ∷ []) booted)))
    (target 19 0 (back 2) ∷ [])
back_by_anothers_replay = refl

back_by_anothers_lock : BreaksAt (turn_of 0 19 (Take 12 ∷ back 2 ∷ []) (turn_of 0 18 (Take 10 ∷ []) (turn_of 0 17 (Take 14 ∷ []) booted)))
    (target 19 0 (back 2) ∷ [])
back_by_anothers_lock = refl

-- a word of two replays, or of two locks, after the same one twice
abbrev twice : ℕ → ℕ → ℕ → Past
twice again replays locks =
    turn_of 0 21 (Take 16 ∷ back 2 ∷ [])
    (turn_of 0 20 (Take again ∷ [])
    (turn_of 0 19 (Take 11 ∷ [])
    (turn_of 0 18 (Take 10 ∷ []) (client_turn 2 17 (sends 16 (Target 0) (word 2 replays locks) ∷ []) booted))))

back_by_the_same_replay : BreaksAt (twice 10 2 1) (target 21 0 (back 2) ∷ [])
back_by_the_same_replay = refl

back_by_the_same_lock : BreaksAt (twice 11 1 2) (target 21 0 (back 2) ∷ [])
back_by_the_same_lock = refl

back_twice : BreaksAt (turn_of 0 18 (Take 9 ∷ back 1 ∷ back 1 ∷ []) (turn_of 0 17 (Take 8 ∷ []) booted)) (target 18 0 (back 1) ∷ [])
back_twice = refl

back_again_later : BreaksAt (turn_of 0 25 (back 1 ∷ []) window) (target 25 0 (back 1) ∷ [])
back_again_later = refl

back_again_by_the_same_word : BreaksAt (turn_of 0 25 (Take 9 ∷ back 1 ∷ []) window) (target 25 0 (back 1) ∷ [])
back_again_by_the_same_word = refl

-- a word and a join of the last boot
abbrev of_the_last_boot : Past
of_the_last_boot =
    client_turn 1 14 (sends 8 (Target 0) (Word (life 1 1) 1 0 0 []) ∷ sends 9 (Target 0) (Join (life 1 1) 1) ∷ [])
    (turn_of 0 13 (Boot 2 ∷ []) (turn_of 0 12 (Crash ∷ []) served))

back_by_an_old_word : BreaksAt (turn_of 0 15 (Take 8 ∷ back 1 ∷ []) of_the_last_boot) (target 15 0 (back 1) ∷ [])
back_by_an_old_word = refl

back_by_an_old_join : BreaksAt (turn_of 0 15 (Take 9 ∷ back 1 ∷ []) of_the_last_boot) (target 15 0 (back 1) ∷ [])
back_by_an_old_join = refl

-- what came before another crash is forgotten
back_by_the_window_before : BreaksAt (turn_of 0 27 (back 1 ∷ []) (turn_of 0 26 (Boot 3 ∷ []) (turn_of 0 25 (Crash ∷ []) window)))
    (target 27 0 (back 1) ∷ [])
back_by_the_window_before = refl

-- ---- a `back` line that is missing

back_missing : BreaksAt (turn_of 0 18 (Take 9 ∷ []) (turn_of 0 17 (Take 8 ∷ []) booted)) (target 18 0 (Take 9) ∷ [])
back_missing = refl

back_in_another_turn : BreaksAt (turn_of 0 19 (back 1 ∷ []) (turn_of 0 18 (Take 9 ∷ []) (turn_of 0 17 (Take 8 ∷ []) booted)))
    (target 19 0 (back 1) ∷ target 18 0 (Take 9) ∷ [])
back_in_another_turn = refl

back_missing_after_the_lock : BreaksAt (turn_of 0 18 (Take 8 ∷ []) (turn_of 0 17 (Take 9 ∷ []) booted)) (target 18 0 (Take 8) ∷ [])
back_missing_after_the_lock = refl

back_missing_after_the_replay : BreaksAt (turn_of 0 19 (Take 10 ∷ []) (turn_of 0 18 (Take 12 ∷ []) (turn_of 0 17 (Take 11 ∷ []) booted)))
    (target 19 0 (Take 10) ∷ [])
back_missing_after_the_replay = refl

-- after the close it comes too late
back_after_the_close : BreaksAt (turn_of 0 18 (Take 8 ∷ Close ∷ back 1 ∷ []) (turn_of 0 17 (Take 9 ∷ []) booted))
    (target 18 0 (back 1) ∷ target 18 0 Close ∷ [])
back_after_the_close = refl

-- a slot that comes in the window brings back the life that asked for it
abbrev joined_in_the_window : List Entry → Past
joined_in_the_window es =
    turn_of 0 18 (Take 16 ∷ Joined (life 1 2) ∷ es) (client_turn 1 17 (sends 16 (Target 0) (Join (life 1 2) 2) ∷ []) booted)

back_by_a_slot : Keeps (joined_in_the_window (Back (life 1 2) ∷ []))
back_by_a_slot = refl

back_missing_after_a_slot : BreaksAt (joined_in_the_window []) (target 18 0 (Joined (life 1 2)) ∷ [])
back_missing_after_a_slot = refl

-- a join of the life that has the slot
abbrev joins_again : Past
joins_again = client_turn 0 17 (sends 16 (Target 0) (Join (life 0 1) 2) ∷ []) booted

back_by_a_join : Keeps (turn_of 0 18 (Take 16 ∷ back 0 ∷ []) joins_again)
back_by_a_join = refl

back_missing_after_a_join : BreaksAt (turn_of 0 18 (Take 16 ∷ []) joins_again) (target 18 0 (Take 16) ∷ [])
back_missing_after_a_join = refl

-- ---- a close that may not be

-- of nothing
bare_close : BreaksAt (turn_of 0 1 (Close ∷ []) []) (target 1 0 Close ∷ [])
bare_close = refl

-- after two transactions of one request
close_after_two : BreaksAt (turn_of 0 3 (Close ∷ []) (turn_of 0 2 (makes 0 2 ∷ []) (turn_of 0 1 (makes 0 1 ∷ []) [])))
    (target 3 0 Close ∷ [])
close_after_two = refl

close_while_down : BreaksAt (turn_of 1 2 (Close ∷ []) (turn_of 1 1 (Crash ∷ []) [])) (target 2 1 Close ∷ [])
close_while_down = refl

close_after_another_crash : BreaksAt (turn_of 1 4 (Close ∷ []) (turn_of 1 3 (Crash ∷ [])
    (turn_of 1 2 (Boot 2 ∷ []) (turn_of 1 1 (Crash ∷ []) [])))) (target 4 1 Close ∷ [])
close_after_another_crash = refl

close_again : BreaksAt (turn_of 1 4 (Close ∷ []) (turn_of 1 3 (Close ∷ []) (turn_of 1 2 (Boot 2 ∷ []) (turn_of 1 1 (Crash ∷ []) []))))
    (target 4 1 Close ∷ [])
close_again = refl

close_twice : BreaksAt (turn_of 1 3 (Close ∷ Close ∷ []) (turn_of 1 2 (Boot 2 ∷ []) (turn_of 1 1 (Crash ∷ []) []))) (target 3 1 Close ∷ [])
close_twice = refl

close_of_another_target : BreaksAt (turn_of 1 3 (Close ∷ []) (turn_of 0 2 (Boot 2 ∷ []) (turn_of 0 1 (Crash ∷ []) [])))
    (target 3 1 Close ∷ [])
close_of_another_target = refl

-- a window closes by itself where all are back, or where a newer life asked to join
abbrev closes_at : ℕ → List Entry → Past → Past
closes_at stamp evicted past = turn_of 0 stamp (Close ∷ commit 3 ∷ both_kept ++ both_restored ++ evicted) past

abbrev closes_by_itself : ℕ → ℕ → List Entry → Past → Past
closes_by_itself stamp message es past = turn_of 0 stamp (Take message ∷ Close ∷ commit 3 ∷ both_kept ++ es) past

closed_by_itself_too_early : BreaksAt (closes_by_itself 25 8 (both_restored ++ both_evicted) window) (target 25 0 Close ∷ [])
closed_by_itself_too_early = refl

closed_by_command : Keeps (closes_at 25 both_evicted window)
closed_by_command = refl

-- a client joins as a new life
abbrev newer_life : ℕ → ℕ → Past
newer_life c boot = client_turn c 25 (sends 16 (Target 0) (Join (life c 2) boot) ∷ []) window

closed_by_a_newer_life : Keeps (closes_by_itself 26 16 (both_restored ++ both_evicted) (newer_life 0 2))
closed_by_a_newer_life = refl

-- whose message is of the last boot
closed_by_an_old_message : BreaksAt (closes_by_itself 26 16 (both_restored ++ both_evicted) (newer_life 0 1)) (target 26 0 Close ∷ [])
closed_by_an_old_message = refl

-- c2 is back, and gone for all that
replaced_in_the_window : Keeps (turn_of 0 27 (Close ∷ commit 3 ∷ both_kept ++ restored 3 3 ∷ both_evicted ++ evict 2 Absent ∷ [])
    (turn_of 0 26 (Take 16 ∷ []) (newer_life 2 2)))
replaced_in_the_window = refl

stays_beside_a_newer_life : BreaksAt (closes_at 27 both_evicted (turn_of 0 26 (Take 16 ∷ []) (newer_life 2 2)))
    (target 27 0 (restored 2 2) ∷ target 27 0 Close ∷ [])
stays_beside_a_newer_life = refl

-- c4 is named later alone; as a client it had a slot
named_later : BreaksAt (client_turn 4 32 (Take 9 ∷ []) (closes_at 25 both_evicted window)) (target 25 0 Close ∷ [])
named_later = refl

-- a word of the coming boot came before it
abbrev word_before_the_boot : Past
word_before_the_boot =
    turn_of 1 4 (Boot 2 ∷ [])
    (turn_of 1 3 (Crash ∷ [])
    (turn_of 1 2 (Take 1 ∷ []) (client_turn 0 1 (sends 1 (Target 1) (word 0 0 0) ∷ sends 2 (Target 1) (hand_in 0 1) ∷ []) [])))

closed_by_a_word_before_the_boot : BreaksAt (turn_of 1 5 (Take 2 ∷ Close ∷ Commit (txn_of 0 0) ∷ evict 0 Absent ∷ []) word_before_the_boot)
    (target 5 1 Close ∷ [])
closed_by_a_word_before_the_boot = refl
