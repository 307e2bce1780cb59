-- Traces that break the law of recovery by an eviction while the target serves, each with the lines at which it does, and
-- lawful ones beside them.
use Rattle.std.proofs.Common.{ℕ, List, [], ◌∷◌, refl}
use Rattle.lu_base.specs.declared.ids.Node.TheVariants.{Client, Target}
use Rattle.lu_base.specs.declared.locks.Cause.{Cause}
use Rattle.lu_base.specs.declared.locks.Cause.TheVariants.{Absent, Gap, Expired, Replaced}
use Rattle.lu_base.specs.declared.locks.Mode.TheVariants.{PW, PR}
use Rattle.lu_base.specs.declared.locks.Policy.TheVariants.{Range}
use Rattle.lu_msg.specs.declared.answers.Answer.TheVariants as told
use Rattle.lu_msg.specs.declared.answers.Errno.TheVariants.{ENOENT}
use Rattle.lu_msg.specs.declared.calls.Call.TheVariants as call
use Rattle.lu_msg.specs.declared.messages.Message.TheVariants.{Cancel, Join}
use Rattle.lu_trace.specs.declared.entries.Entry.{Entry}
use Rattle.lu_trace.specs.declared.entries.Entry.TheVariants.{Begin, Told, Take, Tick, Commit, Grant, Wait, Block, Release, Crash, Boot}
use Rattle.lu_trace.specs.declared.entries.Entry.TheVariants.{Close, Evict, Joined}
use Rattle.lu_spec_laws.specs.Words.Pasts.{Past}
use Rattle.lu_spec_laws.proofs.Words.{target, turn, life, txn_of, cookie, onward, object, lock, sends}
use Rattle.lu_spec_laws.proofs.Wrong.Recovering.{BreaksAt, Keeps, turn_of, client_turn, evict}

abbrev nothing_new : Entry
nothing_new = Commit (txn_of 0 0)

-- ---- without a cause

-- a line that would let go of what a life was told
bare_eviction : BreaksAt (turn_of 1 2 (evict 0 Gap ∷ []) (client_turn 0 1
    (Begin 0 (call.Mkdir ((97 ∷ []) ∷ [])) ∷ Told 0 (turn 1 (Client 0)) (told.Refused ENOENT) ∷ []) [])) (target 2 1 (evict 0 Gap) ∷ [])
bare_eviction = refl

gap_without_a_close : BreaksAt (turn_of 1 1 (nothing_new ∷ evict 0 Gap ∷ []) []) (target 1 1 (evict 0 Gap) ∷ [])
gap_without_a_close = refl

absent_without_a_close : BreaksAt (turn_of 1 1 (nothing_new ∷ evict 0 Absent ∷ []) []) (target 1 1 (evict 0 Absent) ∷ [])
absent_without_a_close = refl

absent_before_its_close : BreaksAt (turn_of 1 3 (nothing_new ∷ evict 0 Absent ∷ Close ∷ [])
    (turn_of 1 2 (Boot 2 ∷ []) (turn_of 1 1 (Crash ∷ []) []))) (target 3 1 (evict 0 Absent) ∷ [])
absent_before_its_close = refl

-- ---- expired: c0 holds a lock for which c1 waits, and was called back

abbrev queue : Past
queue =
    turn_of 1 2 (Wait (lock (cookie 1 2) (life 1 1) (object 1 1 0) PR (Range (onward 0))) ∷ [])
    (turn_of 1 1 (Grant (lock (cookie 1 1) (life 0 1) (object 1 1 0) PW (Range (onward 0))) ∷ []) [])

abbrev called : ℕ → Past
called count = turn_of 1 3 (Block (cookie 1 count) ∷ []) queue

expires : Keeps (turn_of 1 4 (Tick ∷ nothing_new ∷ evict 0 Expired ∷ []) (called 1))
expires = refl

expired_without_a_tick : BreaksAt (turn_of 1 4 (nothing_new ∷ evict 0 Expired ∷ []) (called 1)) (target 4 1 (evict 0 Expired) ∷ [])
expired_without_a_tick = refl

expired_after_the_tick : BreaksAt (turn_of 1 5 (nothing_new ∷ evict 0 Expired ∷ []) (turn_of 1 4 (Tick ∷ []) (called 1)))
    (target 5 1 (evict 0 Expired) ∷ [])
expired_after_the_tick = refl

expired_before_the_tick : BreaksAt (turn_of 1 4 (nothing_new ∷ evict 0 Expired ∷ Tick ∷ []) (called 1)) (target 4 1 (evict 0 Expired) ∷ [])
expired_before_the_tick = refl

expired_uncalled : BreaksAt (turn_of 1 4 (Tick ∷ nothing_new ∷ evict 0 Expired ∷ []) queue) (target 4 1 (evict 0 Expired) ∷ [])
expired_uncalled = refl

expired_in_the_turn_of_the_call : BreaksAt (turn_of 1 3 (Tick ∷ Block (cookie 1 1) ∷ nothing_new ∷ evict 0 Expired ∷ []) queue)
    (target 3 1 (evict 0 Expired) ∷ [])
expired_in_the_turn_of_the_call = refl

-- c1 was called back, but has no lock
expired_while_it_waits : BreaksAt (turn_of 1 4 (Tick ∷ nothing_new ∷ evict 1 Expired ∷ []) (called 2)) (target 4 1 (evict 1 Expired) ∷ [])
expired_while_it_waits = refl

expired_for_another : BreaksAt (turn_of 1 4 (Tick ∷ nothing_new ∷ evict 1 Expired ∷ []) (called 1)) (target 4 1 (evict 1 Expired) ∷ [])
expired_for_another = refl

expired_at_another_target : BreaksAt (turn_of 2 4 (Tick ∷ nothing_new ∷ evict 0 Expired ∷ []) (called 1))
    (target 4 2 (evict 0 Expired) ∷ [])
expired_at_another_target = refl

-- the lock was given back before
expired_once_released : BreaksAt (turn_of 1 4 (Tick ∷ nothing_new ∷ evict 0 Expired ∷ [])
    (turn_of 1 3 (Release (cookie 1 1) ∷ Block (cookie 1 1) ∷ []) queue)) (target 4 1 (evict 0 Expired) ∷ [])
expired_once_released = refl

-- the call was of the last boot
expired_after_a_boot : BreaksAt (turn_of 1 6 (Tick ∷ nothing_new ∷ evict 0 Expired ∷ [])
    (turn_of 1 5 (Boot 2 ∷ []) (turn_of 1 4 (Crash ∷ []) (called 1)))) (target 6 1 (evict 0 Expired) ∷ [])
expired_after_a_boot = refl

-- ---- replaced: c0 joins as a new life

abbrev joining : ℕ → ℕ → Past
joining c number = client_turn c 1 (sends 1 (Target 1) (Join (life c number) 1) ∷ sends 2 (Target 1) (Cancel (life c number) 1 (cookie 1 1))
    ∷ []) []

replaces : Keeps (turn_of 1 2 (Take 1 ∷ nothing_new ∷ evict 0 Replaced ∷ Joined (life 0 2) ∷ []) (joining 0 2))
replaces = refl

replaced_without_a_message : BreaksAt (turn_of 1 2 (nothing_new ∷ evict 0 Replaced ∷ []) (joining 0 2)) (target 2 1 (evict 0 Replaced) ∷ [])
replaced_without_a_message = refl

replaced_by_another_message : BreaksAt (turn_of 1 2 (Take 2 ∷ nothing_new ∷ evict 0 Replaced ∷ []) (joining 0 2))
    (target 2 1 (evict 0 Replaced) ∷ [])
replaced_by_another_message = refl

replaced_by_itself : BreaksAt (turn_of 1 2 (Take 1 ∷ nothing_new ∷ evict 0 Replaced ∷ []) (joining 0 1))
    (target 2 1 (evict 0 Replaced) ∷ [])
replaced_by_itself = refl

replaced_by_another_client : BreaksAt (turn_of 1 2 (Take 1 ∷ nothing_new ∷ evict 0 Replaced ∷ []) (joining 1 2))
    (target 2 1 (evict 0 Replaced) ∷ [])
replaced_by_another_client = refl

-- ---- without a commit, and of a life without a slot

uncommitted_replaced : BreaksAt (turn_of 1 2 (Take 1 ∷ evict 0 Replaced ∷ nothing_new ∷ Joined (life 0 2) ∷ []) (joining 0 2))
    (target 2 1 (evict 0 Replaced) ∷ [])
uncommitted_replaced = refl

uncommitted_expired : BreaksAt (turn_of 1 4 (Tick ∷ evict 0 Expired ∷ []) (called 1)) (target 4 1 (evict 0 Expired) ∷ [])
uncommitted_expired = refl

committed_in_another_turn : BreaksAt (turn_of 1 5 (Tick ∷ evict 0 Expired ∷ []) (turn_of 1 4 (nothing_new ∷ []) (called 1)))
    (target 5 1 (evict 0 Expired) ∷ [])
committed_in_another_turn = refl

evicted_twice : BreaksAt (turn_of 1 4 (Tick ∷ nothing_new ∷ evict 0 Expired ∷ evict 0 Expired ∷ []) (called 1))
    (target 4 1 (evict 0 Expired) ∷ [])
evicted_twice = refl

-- life 2 of c0 never joined, or did so at another target
never_joined : BreaksAt (turn_of 1 2 (Take 1 ∷ nothing_new ∷ Evict (life 0 2) Replaced ∷ []) (joining 0 3))
    (target 2 1 (Evict (life 0 2) Replaced) ∷ [])
never_joined = refl

joined_elsewhere : BreaksAt (turn_of 1 2 (Take 1 ∷ nothing_new ∷ Evict (life 0 2) Replaced ∷ [])
    (turn_of 2 1 (Joined (life 0 2) ∷ []) (joining 0 3))) (target 2 1 (Evict (life 0 2) Replaced) ∷ [])
joined_elsewhere = refl

joined_here : Keeps (turn_of 1 2 (Take 1 ∷ nothing_new ∷ Evict (life 0 2) Replaced ∷ [])
    (turn_of 1 1 (Joined (life 0 2) ∷ []) (joining 0 3)))
joined_here = refl
