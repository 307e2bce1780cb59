-- Traces that break the law of recovery by the number of a transaction, by seen numbers or by a commit, each with the
-- lines at which it does, and lawful ones beside them.
use Rattle.std.proofs.Common.{ℕ, List, [], ◌∷◌, Option, Some, refl}
use Rattle.lu_base.specs.declared.ids.At.{At}
use Rattle.lu_base.specs.declared.ids.Node.TheVariants.{Client, Target}
use Rattle.lu_base.specs.declared.locks.Mode.TheVariants.{PR}
use Rattle.lu_base.specs.declared.locks.Policy.TheVariants.{Range}
use Rattle.lu_base.specs.declared.locks.Cause.TheVariants.{Absent}
use Rattle.lu_msg.specs.declared.answers.Answer.TheVariants as told
use Rattle.lu_msg.specs.declared.operations.Op.TheVariants as op
use Rattle.lu_trace.specs.declared.entries.Entry.{Entry}
use Rattle.lu_trace.specs.declared.entries.Entry.TheVariants.{Take, Commit, Boot, Crash, Close, Grant, Restore}
use Rattle.lu_spec_laws.specs.Words.Pasts.{Past}
use Rattle.lu_spec_laws.proofs.Words.{target, turn, life, number, fid, txn_of, cookie, extent, onward, object, lock, asks, reports, replies}
use Rattle.lu_spec_laws.proofs.Words.{grants, sends, executes}
use Rattle.lu_spec_laws.proofs.Wrong.Recovering.{BreaksAt, Keeps, turn_of, client_turn, mkdir, makes, served, commit, evict, closes}
use Rattle.lu_spec_laws.proofs.Wrong.Recovering.{both_kept, both_restored, both_evicted}

-- ---- numbers

number_again : BreaksAt (turn_of 0 2 (makes 1 1 ∷ []) (turn_of 0 1 (makes 0 1 ∷ []) [])) (target 2 0 (makes 1 1) ∷ [])
number_again = refl

number_falls : BreaksAt (turn_of 0 2 (makes 1 1 ∷ []) (turn_of 0 1 (makes 0 2 ∷ []) [])) (target 2 0 (makes 1 1) ∷ [])
number_falls = refl

number_falls_later : BreaksAt (turn_of 0 3 (makes 2 2 ∷ []) (turn_of 0 2 (makes 1 3 ∷ []) (turn_of 0 1 (makes 0 1 ∷ []) [])))
    (target 3 0 (makes 2 2) ∷ [])
number_falls_later = refl

-- above the last one, but not above all
number_between : BreaksAt (turn_of 0 3 (makes 2 4 ∷ []) (turn_of 0 2 (makes 1 3 ∷ []) (turn_of 0 1 (makes 0 5 ∷ []) [])))
    (target 3 0 (makes 2 4) ∷ target 2 0 (makes 1 3) ∷ [])
number_between = refl

-- each target has its own numbers, and none need be used
number_of_another_target : Keeps (turn_of 1 2 (makes 1 1 ∷ []) (turn_of 0 1 (makes 0 2 ∷ []) []))
number_of_another_target = refl

abbrev makes_in : ℕ → ℕ → Entry
makes_in boot count = executes (txn_of boot count) (life 0 1) 1 [] (told.Made (fid boot count))

number_of_a_later_boot : BreaksAt (turn_of 0 1 (makes_in 2 1 ∷ []) []) (target 1 0 (makes_in 2 1) ∷ [])
number_of_a_later_boot = refl

number_of_no_boot : BreaksAt (turn_of 0 1 (makes_in 0 7 ∷ []) []) (target 1 0 (makes_in 0 7) ∷ [])
number_of_no_boot = refl

number_of_the_last_boot : BreaksAt (turn_of 0 3 (makes_in 1 1 ∷ []) (turn_of 0 2 (Boot 2 ∷ []) (turn_of 0 1 (Crash ∷ []) [])))
    (target 3 0 (makes_in 1 1) ∷ [])
number_of_the_last_boot = refl

-- ---- what a transaction saw: c0 made /a, and another client sets its mode

abbrev sets : List ℕ → Entry
sets seen = executes (txn_of 1 2) (life 1 1) 1 seen told.Done

abbrev mode_set : List ℕ → Past
mode_set seen =
    turn_of 0 4 (sets seen ∷ [])
    (client_turn 1 3 (sends 2 (Target 0) (asks (life 1 1) 1 1 0 (op.Chmod ((97 ∷ []) ∷ []) 448)) ∷ [])
    (turn_of 0 2 (makes 0 1 ∷ [])
    (client_turn 0 1 (sends 1 (Target 0) (mkdir 0 97) ∷ []) [])))

saw_what_it_touched : Keeps (mode_set (number 1 1 ∷ []))
saw_what_it_touched = refl

saw_nothing : BreaksAt (mode_set []) (target 4 0 (sets []) ∷ [])
saw_nothing = refl

saw_itself : BreaksAt (mode_set (number 1 1 ∷ number 1 2 ∷ [])) (target 4 0 (sets (number 1 1 ∷ number 1 2 ∷ [])) ∷ [])
saw_itself = refl

saw_it_twice : BreaksAt (mode_set (number 1 1 ∷ number 1 1 ∷ [])) (target 4 0 (sets (number 1 1 ∷ number 1 1 ∷ [])) ∷ [])
saw_it_twice = refl

-- and sets it back, after a commit
abbrev sets_back : List ℕ → Entry
sets_back seen = executes (txn_of 1 3) (life 1 1) 2 seen told.Done

abbrev set_back_after : Entry → List ℕ → Past
set_back_after committed seen =
    turn_of 0 7 (sets_back seen ∷ [])
    (client_turn 1 6 (sends 3 (Target 0) (asks (life 1 1) 1 2 0 (op.Chmod ((97 ∷ []) ∷ []) 493)) ∷ [])
    (turn_of 0 5 (committed ∷ []) (mode_set (number 1 1 ∷ []))))

saw_the_uncommitted : Keeps (set_back_after (commit 1) (number 1 2 ∷ []))
saw_the_uncommitted = refl

saw_the_committed : BreaksAt (set_back_after (commit 1) (number 1 1 ∷ number 1 2 ∷ []))
    (target 7 0 (sets_back (number 1 1 ∷ number 1 2 ∷ [])) ∷ [])
saw_the_committed = refl

saw_in_falling_order : BreaksAt (set_back_after (Commit (txn_of 0 0)) (number 1 2 ∷ number 1 1 ∷ []))
    (target 7 0 (sets_back (number 1 2 ∷ number 1 1 ∷ [])) ∷ [])
saw_in_falling_order = refl

-- 1.1 was lost at a close: the name is free again, and the next one doesn't see it
abbrev makes_again : List ℕ → Entry
makes_again seen = executes (txn_of 2 1) (life 1 1) 1 seen (told.Made (fid 2 1))

abbrev made_again : List ℕ → Past
made_again seen =
    turn_of 0 7 (makes_again seen ∷ [])
    (client_turn 1 6 (sends 2 (Target 0) (mkdir 1 97) ∷ [])
    (turn_of 0 5 (Close ∷ Commit (txn_of 0 0) ∷ evict 0 Absent ∷ evict 1 Absent ∷ [])
    (turn_of 0 4 (Boot 2 ∷ []) (turn_of 0 3 (Crash ∷ [])
    (turn_of 0 2 (makes 0 1 ∷ []) (client_turn 0 1 (sends 1 (Target 0) (mkdir 0 97) ∷ []) []))))))

saw_only_what_stands : Keeps (made_again [])
saw_only_what_stands = refl

saw_the_lost : BreaksAt (made_again (number 1 1 ∷ [])) (target 7 0 (makes_again (number 1 1 ∷ [])) ∷ [])
saw_the_lost = refl

-- ---- what a reply and a grant let see

abbrev answered : List ℕ → At → Entry
answered seen at = sends 2 (Client 0) (replies (life 0 1) 1 1 (txn_of 1 1) (txn_of 0 0) seen at [] (told.Made (fid 1 1)))

abbrev made_and_answered : List ℕ → At → Past
made_and_answered seen at = turn_of 0 2 (makes 0 1 ∷ answered seen at ∷ []) (client_turn 0 1 (sends 1 (Target 0) (mkdir 0 97) ∷ []) [])

reply_saw_itself : BreaksAt (made_and_answered (number 1 1 ∷ []) (turn 2 (Target 0)))
    (target 2 0 (answered (number 1 1 ∷ []) (turn 2 (Target 0))) ∷ [])
reply_saw_itself = refl

-- a kept reply that is sent again, in another turn than it names, is free
kept_reply_is_free : Keeps (made_and_answered (number 1 1 ∷ []) (turn 1 (Target 0)))
kept_reply_is_free = refl

abbrev looked_up : List ℕ → Entry
looked_up seen = sends 3 (Client 1) (replies (life 1 1) 1 2 (txn_of 0 0) (txn_of 0 0) seen (turn 6 (Target 0)) [] (told.Dir (fid 1 1)))

abbrev answers_lookup : List ℕ → Past
answers_lookup seen =
    turn_of 0 6 (looked_up seen ∷ [])
    (client_turn 1 5 (sends 3 (Target 0) (asks (life 1 1) 1 2 0 (op.Lookup ((97 ∷ []) ∷ []))) ∷ []) (mode_set (number 1 1 ∷ [])))

reply_saw_what_it_touched : Keeps (answers_lookup (number 1 1 ∷ []))
reply_saw_what_it_touched = refl

reply_saw_nothing : BreaksAt (answers_lookup []) (target 6 0 (looked_up []) ∷ [])
reply_saw_nothing = refl

-- the mode isn't looked at
reply_saw_more : BreaksAt (answers_lookup (number 1 1 ∷ number 1 2 ∷ [])) (target 6 0 (looked_up (number 1 1 ∷ number 1 2 ∷ [])) ∷ [])
reply_saw_more = refl

-- c0 put two bytes into an object
abbrev put : Past
put =
    turn_of 1 2 (executes (txn_of 1 1) (life 0 1) 1 [] told.Done ∷ [])
    (client_turn 0 1 (sends 1 (Target 1) (asks (life 0 1) 1 1 0 (op.Put (object 1 1 0) (cookie 1 1) 0 (1 ∷ 2 ∷ []))) ∷ []) [])

-- c1 glimpses, and c0 answers
abbrev glimpsed : List ℕ → Entry
glimpsed seen = sends 4 (Client 1) (replies (life 1 1) 1 1 (txn_of 0 0) (txn_of 0 0) seen (turn 4 (Client 0)) [] (told.Size 2))

abbrev glimpse_answered : List ℕ → Past
glimpse_answered seen =
    turn_of 1 5 (Take 3 ∷ glimpsed seen ∷ [])
    (client_turn 0 4 (sends 3 (Target 1) (reports (life 0 1) 1 (cookie 1 1) (life 1 1) 1 (Some 2) 4) ∷ [])
    (client_turn 1 3 (sends 2 (Target 1) (asks (life 1 1) 1 1 0 (op.Size (object 1 1 0))) ∷ []) put))

glimpse_saw_the_put : Keeps (glimpse_answered (number 1 1 ∷ []))
glimpse_saw_the_put = refl

glimpse_saw_nothing : BreaksAt (glimpse_answered []) (target 5 1 (glimpsed []) ∷ [])
glimpse_saw_nothing = refl

-- a lock on the object is granted to c1
abbrev lets_see : List ℕ → Entry
lets_see seen = sends 2 (Client 1) (grants (life 1 1) 1 (cookie 1 2) (onward 0) 2 (txn_of 0 0) seen)

abbrev granted_on : ℕ → Entry
granted_on from = Grant (lock (cookie 1 2) (life 1 1) (object 1 1 0) PR (Range (onward from)))

grant_lets_see_the_put : Keeps (turn_of 1 3 (granted_on 0 ∷ lets_see (number 1 1 ∷ []) ∷ []) put)
grant_lets_see_the_put = refl

grant_lets_see_nothing : BreaksAt (turn_of 1 3 (granted_on 0 ∷ lets_see [] ∷ []) put) (target 3 1 (lets_see []) ∷ [])
grant_lets_see_nothing = refl

-- the range is that of the `grant` line
grant_of_another_range : BreaksAt (turn_of 1 3 (granted_on 2 ∷ lets_see (number 1 1 ∷ []) ∷ []) put)
    (target 3 1 (lets_see (number 1 1 ∷ [])) ∷ [])
grant_of_another_range = refl

grant_without_its_line : BreaksAt (turn_of 1 3 (lets_see (number 1 1 ∷ []) ∷ []) put) (target 3 1 (lets_see (number 1 1 ∷ [])) ∷ [])
grant_without_its_line = refl

-- and of a restored lock without one that of the message
abbrev restored_from : ℕ → Entry
restored_from from = Restore (lock (cookie 1 2) (life 1 1) (object 1 1 0) PR (Range (onward from)))

grant_of_a_restored_lock : Keeps (turn_of 1 3 (restored_from 2 ∷ lets_see (number 1 1 ∷ []) ∷ []) put)
grant_of_a_restored_lock = refl

-- ---- commits

commit_of_none : BreaksAt (turn_of 0 12 (commit 4 ∷ []) served) (target 12 0 (commit 4) ∷ [])
commit_of_none = refl

commit_of_another_target : BreaksAt (turn_of 1 12 (commit 1 ∷ []) served) (target 12 1 (commit 1) ∷ [])
commit_of_another_target = refl

commit_too_early : BreaksAt (turn_of 0 2 (makes 0 1 ∷ []) (turn_of 0 1 (commit 1 ∷ []) [])) (target 1 0 (commit 1) ∷ [])
commit_too_early = refl

-- 1.1 was lost
commit_of_a_lost_one : BreaksAt (turn_of 1 31 (commit 1 ∷ []) (turn_of 0 31 (commit 1 ∷ []) (closes both_kept both_restored both_evicted)))
    (target 31 1 (commit 1) ∷ target 31 0 (commit 1) ∷ [])
commit_of_a_lost_one = refl

commit_falls : BreaksAt (turn_of 0 12 (commit 3 ∷ commit 2 ∷ []) served) (target 12 0 (commit 2) ∷ [])
commit_falls = refl

commit_falls_to_none : BreaksAt (turn_of 0 12 (commit 1 ∷ Commit (txn_of 0 0) ∷ []) served) (target 12 0 (Commit (txn_of 0 0)) ∷ [])
commit_falls_to_none = refl

commit_falls_later : BreaksAt (turn_of 0 31 (commit 2 ∷ []) (closes both_kept both_restored both_evicted)) (target 31 0 (commit 2) ∷ [])
commit_falls_later = refl

commit_again : Keeps (turn_of 0 13 (commit 2 ∷ []) (turn_of 0 12 (commit 2 ∷ []) served))
commit_again = refl
