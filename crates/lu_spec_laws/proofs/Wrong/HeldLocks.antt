-- Traces that break the law of locks at a `hold` or a transaction, each by one clause alone, and lawful ones beside
-- them. They have only the lines that this law looks at, the newest first.
use Rattle.std.proofs.Common.{[], ◌∷◌, refl, pos}
use Rattle.std.specs.Prelude.{codes}
use Rattle.lu_base.specs.declared.ids.Node.TheVariants.{Target}
use Rattle.lu_base.specs.declared.locks.Cause.TheVariants.{Expired}
use Rattle.lu_base.specs.declared.locks.Mode.TheVariants.{PW, PR}
use Rattle.lu_base.specs.declared.locks.Policy.TheVariants.{Bits, Range}
use Rattle.lu_msg.specs.declared.answers.Answer.TheVariants as told
use Rattle.lu_msg.specs.declared.operations.Op.TheVariants as op
use Rattle.lu_trace.specs.declared.entries.Entry.TheVariants as entry
use Rattle.lu_spec_laws.specs.Words.Pasts.{Past}
use Rattle.lu_spec_laws.proofs.Words.{client, target, life, number, fid, txn_of, cookie, extent, onward, object, lock}
use Rattle.lu_spec_laws.proofs.Words.{asks, sends, hold, drop, acts, executes}
use Rattle.lu_spec_laws.specs.Holds.{Holds}
use Rattle.lu_spec_laws.specs.Laws.Locks.{Locks}
use Rattle.lu_spec_laws.proofs.Decides.{says_yes, says_no, holds as decide_all}
use Rattle.lu_spec_laws.proofs.Decides.Locks.{decide_locks}

abbrev pub Breaks : Past → Type 0
Breaks past = Holds (Locks 2) past → ⊥

abbrev pub Keeps : Past → Type 0
Keeps past = Holds (Locks 2) past

-- c0 holds a PW lock on bytes 0 to 9
abbrev pub c0_writes : Past
c0_writes =
    client 2 0 (hold 1 (cookie 1 1))
    ∷ target 1 1 (entry.Restore (lock (cookie 1 1) (life 0 1) (object 1 1 0) PW (Range (extent 0 9))))
    ∷ []

-- a directory /a with a file /a/f
abbrev pub with_names : Past
with_names =
    target 4 0 (executes (txn_of 1 2) (life 0 1) 2 (number 1 1 ∷ []) (told.Made (fid 1 2)))
    ∷ client 3 0 (sends 2 (Target 0) (asks (life 0 1) 1 2 0 (op.Create (codes "a" ∷ codes "f" ∷ []) 1048576 (pos 1))))
    ∷ target 2 0 (executes (txn_of 1 1) (life 0 1) 1 [] (told.Made (fid 1 1)))
    ∷ client 1 0 (sends 1 (Target 0) (asks (life 0 1) 1 1 0 (op.Mkdir (codes "a" ∷ []))))
    ∷ []

-- c1 holds the LOOKUP and UPDATE lock of /a
abbrev pub c1_saw_a : Past
c1_saw_a =
    client 7 1 (hold 0 (cookie 1 1))
    ∷ target 6 0 (entry.Grant (lock (cookie 1 1) (life 1 1) (object 1 1 0) PR (Bits 3)))
    ∷ target 6 0 (acts (life 1 1) 1 (told.DirStat (fid 1 1) 493))
    ∷ client 5 1 (sends 3 (Target 0) (asks (life 1 1) 1 1 0 (op.Stat (codes "a" ∷ []))))
    ∷ with_names

-- ---- a `hold` of what wasn't granted or restored to that life before

-- a lock is held that was never granted
abbrev pub held_without_grant_past : Past
held_without_grant_past =
    client 1 0 (hold 1 (cookie 1 1))
    ∷ []

pub held_without_grant : Breaks held_without_grant_past
held_without_grant = says_no (decide_all (decide_locks 2) held_without_grant_past) refl

-- a life holds what was granted to another
abbrev pub held_by_another_past : Past
held_by_another_past =
    client 3 0 (hold 1 (cookie 1 1))
    ∷ target 2 1 (entry.Grant (lock (cookie 1 1) (life 1 1) (object 1 1 0) PR (Range (onward 0))))
    ∷ target 2 1 (entry.Take 1)
    ∷ client 1 1 (sends 1 (Target 1) (asks (life 1 1) 1 1 0 (op.Enqueue (object 1 1 0) PR (extent 0 9))))
    ∷ []

pub held_by_another : Breaks held_by_another_past
held_by_another = says_no (decide_all (decide_locks 2) held_by_another_past) refl

-- a lock is held that still waits
abbrev pub held_while_it_waits_past : Past
held_while_it_waits_past =
    client 2 0 (hold 1 (cookie 1 1))
    ∷ target 1 1 (entry.Wait (lock (cookie 1 1) (life 0 1) (object 1 1 0) PR (Range (extent 0 9))))
    ∷ []

pub held_while_it_waits : Breaks held_while_it_waits_past
held_while_it_waits = says_no (decide_all (decide_locks 2) held_while_it_waits_past) refl

-- another target granted the lock
abbrev pub held_of_another_target_past : Past
held_of_another_target_past =
    client 3 0 (hold 2 (cookie 1 1))
    ∷ target 2 1 (entry.Grant (lock (cookie 1 1) (life 0 1) (object 1 1 0) PR (Range (onward 0))))
    ∷ target 2 1 (entry.Take 1)
    ∷ client 1 0 (sends 1 (Target 1) (asks (life 0 1) 1 1 0 (op.Enqueue (object 1 1 0) PR (extent 0 9))))
    ∷ []

pub held_of_another_target : Breaks held_of_another_target_past
held_of_another_target = says_no (decide_all (decide_locks 2) held_of_another_target_past) refl

-- the lock was granted to the life before
abbrev pub held_by_a_new_life_past : Past
held_by_a_new_life_past =
    client 4 0 (hold 1 (cookie 1 1))
    ∷ client 3 0 (entry.Life (life 0 2))
    ∷ target 2 1 (entry.Grant (lock (cookie 1 1) (life 0 1) (object 1 1 0) PR (Range (onward 0))))
    ∷ target 2 1 (entry.Take 1)
    ∷ client 1 0 (sends 1 (Target 1) (asks (life 0 1) 1 1 0 (op.Enqueue (object 1 1 0) PR (extent 0 9))))
    ∷ []

pub held_by_a_new_life : Breaks held_by_a_new_life_past
held_by_a_new_life = says_no (decide_all (decide_locks 2) held_by_a_new_life_past) refl

-- a lock is held before it is granted
abbrev pub held_before_the_grant_past : Past
held_before_the_grant_past =
    target 2 1 (entry.Grant (lock (cookie 1 1) (life 0 1) (object 1 1 0) PR (Range (onward 0))))
    ∷ target 2 1 (entry.Take 1)
    ∷ client 1 0 (hold 1 (cookie 1 1))
    ∷ client 1 0 (sends 1 (Target 1) (asks (life 0 1) 1 1 0 (op.Enqueue (object 1 1 0) PR (extent 0 9))))
    ∷ []

pub held_before_the_grant : Breaks held_before_the_grant_past
held_before_the_grant = says_no (decide_all (decide_locks 2) held_before_the_grant_past) refl

-- a restored lock may be held
abbrev pub held_once_restored_past : Past
held_once_restored_past =
    client 2 0 (hold 1 (cookie 1 1))
    ∷ target 1 1 (entry.Restore (lock (cookie 1 1) (life 0 1) (object 1 1 0) PR (Range (extent 0 9))))
    ∷ []

pub held_once_restored : Keeps held_once_restored_past
held_once_restored = says_yes (decide_all (decide_locks 2) held_once_restored_past) refl

-- ---- a `hold` of what conflicts with another held lock

-- a lock is released, but its holder doesn't drop it
abbrev pub both_held_past : Past
both_held_past =
    client 5 1 (hold 1 (cookie 1 2))
    ∷ target 4 1 (entry.Restore (lock (cookie 1 2) (life 1 1) (object 1 1 0) PW (Range (extent 9 20))))
    ∷ target 3 1 (entry.Release (cookie 1 1))
    ∷ c0_writes

pub both_held : Breaks both_held_past
both_held = says_no (decide_all (decide_locks 2) both_held_past) refl

-- what is held stays held over a crash
abbrev pub both_held_after_a_crash_past : Past
both_held_after_a_crash_past =
    client 5 1 (hold 1 (cookie 1 2))
    ∷ target 4 1 (entry.Restore (lock (cookie 1 2) (life 1 1) (object 1 1 0) PR (Range (extent 5 5))))
    ∷ target 3 1 entry.Crash
    ∷ c0_writes

pub both_held_after_a_crash : Breaks both_held_after_a_crash_past
both_held_after_a_crash = says_no (decide_all (decide_locks 2) both_held_after_a_crash_past) refl

-- a life's own locks conflict too
abbrev pub both_held_by_one_past : Past
both_held_by_one_past =
    client 4 0 (hold 1 (cookie 1 2))
    ∷ target 3 1 (entry.Restore (lock (cookie 1 2) (life 0 1) (object 1 1 0) PR (Range (onward 0))))
    ∷ c0_writes

pub both_held_by_one : Breaks both_held_by_one_past
both_held_by_one = says_no (decide_all (decide_locks 2) both_held_by_one_past) refl

-- another target evicted the holder
abbrev pub both_held_evicted_elsewhere_past : Past
both_held_evicted_elsewhere_past =
    client 5 1 (hold 1 (cookie 1 2))
    ∷ target 4 1 (entry.Restore (lock (cookie 1 2) (life 1 1) (object 1 1 0) PW (Range (extent 0 9))))
    ∷ target 3 2 (entry.Evict (life 0 1) Expired)
    ∷ c0_writes

pub both_held_evicted_elsewhere : Breaks both_held_evicted_elsewhere_past
both_held_evicted_elsewhere = says_no (decide_all (decide_locks 2) both_held_evicted_elsewhere_past) refl

-- another lock is dropped
abbrev pub both_held_other_dropped_past : Past
both_held_other_dropped_past =
    client 6 1 (hold 1 (cookie 1 2))
    ∷ target 5 1 (entry.Restore (lock (cookie 1 2) (life 1 1) (object 1 1 0) PW (Range (extent 0 9))))
    ∷ client 4 0 (drop 1 (cookie 1 3))
    ∷ client 4 0 (hold 1 (cookie 1 3))
    ∷ target 3 1 (entry.Restore (lock (cookie 1 3) (life 0 1) (object 1 1 0) PW (Range (extent 50 60))))
    ∷ c0_writes

pub both_held_other_dropped : Breaks both_held_other_dropped_past
both_held_other_dropped = says_no (decide_all (decide_locks 2) both_held_other_dropped_past) refl

-- a life doesn't end what it holds
abbrev pub both_held_by_a_life_gone_by_past : Past
both_held_by_a_life_gone_by_past =
    client 5 1 (hold 1 (cookie 1 2))
    ∷ target 4 1 (entry.Restore (lock (cookie 1 2) (life 1 1) (object 1 1 0) PW (Range (extent 0 9))))
    ∷ client 3 0 (entry.Life (life 0 2))
    ∷ c0_writes

pub both_held_by_a_life_gone_by : Breaks both_held_by_a_life_gone_by_past
both_held_by_a_life_gone_by = says_no (decide_all (decide_locks 2) both_held_by_a_life_gone_by_past) refl

-- that target evicted the holder
abbrev pub apart_evicted_past : Past
apart_evicted_past =
    client 5 1 (hold 1 (cookie 1 2))
    ∷ target 4 1 (entry.Restore (lock (cookie 1 2) (life 1 1) (object 1 1 0) PW (Range (extent 0 9))))
    ∷ target 3 1 (entry.Evict (life 0 1) Expired)
    ∷ c0_writes

pub apart_evicted : Keeps apart_evicted_past
apart_evicted = says_yes (decide_all (decide_locks 2) apart_evicted_past) refl

-- its holder dropped it
abbrev pub apart_dropped_past : Past
apart_dropped_past =
    client 5 1 (hold 1 (cookie 1 2))
    ∷ target 4 1 (entry.Restore (lock (cookie 1 2) (life 1 1) (object 1 1 0) PW (Range (extent 0 9))))
    ∷ client 3 0 (drop 1 (cookie 1 1))
    ∷ c0_writes

pub apart_dropped : Keeps apart_dropped_past
apart_dropped = says_yes (decide_all (decide_locks 2) apart_dropped_past) refl

-- locks of other objects, and of other targets, conflict with none
abbrev pub apart_other_object_past : Past
apart_other_object_past =
    client 6 1 (hold 2 (cookie 1 3))
    ∷ target 5 2 (entry.Restore (lock (cookie 1 3) (life 1 1) (object 1 1 0) PW (Range (extent 0 9))))
    ∷ client 4 1 (hold 1 (cookie 1 2))
    ∷ target 3 1 (entry.Restore (lock (cookie 1 2) (life 1 1) (object 1 1 1) PW (Range (extent 0 9))))
    ∷ c0_writes

pub apart_other_object : Keeps apart_other_object_past
apart_other_object = says_yes (decide_all (decide_locks 2) apart_other_object_past) refl

-- that target evicted the life that comes to hold the lock
abbrev pub apart_self_evicted_past : Past
apart_self_evicted_past =
    client 5 1 (hold 1 (cookie 1 2))
    ∷ target 4 1 (entry.Restore (lock (cookie 1 2) (life 1 1) (object 1 1 0) PW (Range (extent 0 9))))
    ∷ target 3 1 (entry.Evict (life 1 1) Expired)
    ∷ c0_writes

pub apart_self_evicted : Keeps apart_self_evicted_past
apart_self_evicted = says_yes (decide_all (decide_locks 2) apart_self_evicted_past) refl

-- a lock that is held already is no other one
abbrev pub apart_again_past : Past
apart_again_past =
    client 3 0 (hold 1 (cookie 1 1))
    ∷ c0_writes

pub apart_again : Keeps apart_again_past
apart_again = says_yes (decide_all (decide_locks 2) apart_again_past) refl

-- ---- a transaction on names that writes what a held lock guards

-- a name is made in a directory whose UPDATE lock is held
abbrev pub made_under_a_lock_past : Past
made_under_a_lock_past =
    target 9 0 (executes (txn_of 1 3) (life 0 1) 3 (number 1 1 ∷ []) (told.Made (fid 1 3)))
    ∷ client 8 0 (sends 4 (Target 0) (asks (life 0 1) 1 3 0 (op.Mkdir (codes "a" ∷ codes "b" ∷ []))))
    ∷ c1_saw_a

pub made_under_a_lock : Breaks made_under_a_lock_past
made_under_a_lock = says_no (decide_all (decide_locks 2) made_under_a_lock_past) refl

-- a directory is moved whose LOOKUP lock is held
abbrev pub moved_under_a_lock_past : Past
moved_under_a_lock_past =
    target 9 0 (executes (txn_of 1 3) (life 0 1) 3 (number 1 1 ∷ []) told.Done)
    ∷ client 8 0 (sends 4 (Target 0) (asks (life 0 1) 1 3 0 (op.Rename (codes "a" ∷ []) (codes "b" ∷ []))))
    ∷ client 7 1 (hold 0 (cookie 1 1))
    ∷ target 6 0 (entry.Grant (lock (cookie 1 1) (life 1 1) (object 1 1 0) PR (Bits 1)))
    ∷ target 6 0 (acts (life 1 1) 1 (told.Dir (fid 1 1)))
    ∷ client 5 1 (sends 3 (Target 0) (asks (life 1 1) 1 1 0 (op.Lookup (codes "a" ∷ []))))
    ∷ with_names

pub moved_under_a_lock : Breaks moved_under_a_lock_past
moved_under_a_lock = says_no (decide_all (decide_locks 2) moved_under_a_lock_past) refl

-- a mode is set while the UPDATE lock is held
abbrev pub set_under_a_lock_past : Past
set_under_a_lock_past =
    target 9 0 (executes (txn_of 1 3) (life 0 1) 3 (number 1 1 ∷ []) told.Done)
    ∷ client 8 0 (sends 4 (Target 0) (asks (life 0 1) 1 3 0 (op.Chmod (codes "a" ∷ []) 448)))
    ∷ c1_saw_a

pub set_under_a_lock : Breaks set_under_a_lock_past
set_under_a_lock = says_no (decide_all (decide_locks 2) set_under_a_lock_past) refl

-- what was released is held until it is dropped
abbrev pub set_under_a_released_lock_past : Past
set_under_a_released_lock_past =
    target 10 0 (executes (txn_of 1 3) (life 0 1) 3 (number 1 1 ∷ []) told.Done)
    ∷ client 9 0 (sends 4 (Target 0) (asks (life 0 1) 1 3 0 (op.Chmod (codes "a" ∷ []) 448)))
    ∷ target 8 0 (entry.Release (cookie 1 1))
    ∷ c1_saw_a

pub set_under_a_released_lock : Breaks set_under_a_released_lock_past
set_under_a_released_lock = says_no (decide_all (decide_locks 2) set_under_a_released_lock_past) refl

-- the life that asks holds the lock itself
abbrev pub set_under_its_own_lock_past : Past
set_under_its_own_lock_past =
    target 9 0 (executes (txn_of 1 3) (life 1 1) 2 (number 1 1 ∷ []) told.Done)
    ∷ client 8 1 (sends 4 (Target 0) (asks (life 1 1) 1 2 0 (op.Chmod (codes "a" ∷ []) 448)))
    ∷ c1_saw_a

pub set_under_its_own_lock : Breaks set_under_its_own_lock_past
set_under_its_own_lock = says_no (decide_all (decide_locks 2) set_under_its_own_lock_past) refl

-- another target evicted the holder
abbrev pub set_under_a_lock_evicted_elsewhere_past : Past
set_under_a_lock_evicted_elsewhere_past =
    target 10 0 (executes (txn_of 1 3) (life 0 1) 3 (number 1 1 ∷ []) told.Done)
    ∷ client 9 0 (sends 4 (Target 0) (asks (life 0 1) 1 3 0 (op.Chmod (codes "a" ∷ []) 448)))
    ∷ target 8 1 (entry.Evict (life 1 1) Expired)
    ∷ c1_saw_a

pub set_under_a_lock_evicted_elsewhere : Breaks set_under_a_lock_evicted_elsewhere_past
set_under_a_lock_evicted_elsewhere = says_no (decide_all (decide_locks 2) set_under_a_lock_evicted_elsewhere_past) refl

-- the metadata target evicted the holder
abbrev pub set_once_evicted_past : Past
set_once_evicted_past =
    target 10 0 (executes (txn_of 1 3) (life 0 1) 3 (number 1 1 ∷ []) told.Done)
    ∷ client 9 0 (sends 4 (Target 0) (asks (life 0 1) 1 3 0 (op.Chmod (codes "a" ∷ []) 448)))
    ∷ target 8 0 (entry.Evict (life 1 1) Expired)
    ∷ c1_saw_a

pub set_once_evicted : Keeps set_once_evicted_past
set_once_evicted = says_yes (decide_all (decide_locks 2) set_once_evicted_past) refl

-- the holder dropped the lock
abbrev pub set_once_dropped_past : Past
set_once_dropped_past =
    target 10 0 (executes (txn_of 1 3) (life 0 1) 3 (number 1 1 ∷ []) told.Done)
    ∷ client 9 0 (sends 4 (Target 0) (asks (life 0 1) 1 3 0 (op.Chmod (codes "a" ∷ []) 448)))
    ∷ client 8 1 (drop 0 (cookie 1 1))
    ∷ c1_saw_a

pub set_once_dropped : Keeps set_once_dropped_past
set_once_dropped = says_yes (decide_all (decide_locks 2) set_once_dropped_past) refl

-- a LOOKUP lock guards neither a mode nor the names in a directory
abbrev pub set_under_a_lookup_past : Past
set_under_a_lookup_past =
    target 11 0 (executes (txn_of 1 4) (life 0 1) 4 (number 1 2 ∷ []) told.Done)
    ∷ client 10 0 (sends 5 (Target 0) (asks (life 0 1) 1 4 0 (op.Unlink (codes "a" ∷ codes "f" ∷ []))))
    ∷ target 9 0 (executes (txn_of 1 3) (life 0 1) 3 (number 1 1 ∷ []) told.Done)
    ∷ client 8 0 (sends 4 (Target 0) (asks (life 0 1) 1 3 0 (op.Chmod (codes "a" ∷ []) 448)))
    ∷ client 7 1 (hold 0 (cookie 1 1))
    ∷ target 6 0 (entry.Grant (lock (cookie 1 1) (life 1 1) (object 1 1 0) PR (Bits 1)))
    ∷ target 6 0 (acts (life 1 1) 1 (told.Dir (fid 1 1)))
    ∷ client 5 1 (sends 3 (Target 0) (asks (life 1 1) 1 1 0 (op.Lookup (codes "a" ∷ []))))
    ∷ with_names

pub set_under_a_lookup : Keeps set_under_a_lookup_past
set_under_a_lookup = says_yes (decide_all (decide_locks 2) set_under_a_lookup_past) refl
