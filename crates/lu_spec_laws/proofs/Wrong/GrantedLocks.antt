-- Traces that break the law of locks at a grant, each by one clause alone, and lawful ones beside
-- them. They have only the lines that this law looks at, the newest first.
use Rattle.std.proofs.Common.{[], ◌∷◌, refl, pos}
use Rattle.std.specs.Prelude.{codes}
use Rattle.lu_base.specs.declared.ids.Node.TheVariants.{Target}
use Rattle.lu_base.specs.declared.locks.Cause.TheVariants.{Expired}
use Rattle.lu_base.specs.declared.locks.Mode.TheVariants.{PW, PR}
use Rattle.lu_base.specs.declared.locks.Policy.TheVariants.{Bits, Range}
use Rattle.lu_msg.specs.declared.answers.Answer.TheVariants as told
use Rattle.lu_msg.specs.declared.answers.Errno.TheVariants.{ENOENT}
use Rattle.lu_msg.specs.declared.operations.Op.TheVariants as op
use Rattle.lu_trace.specs.declared.entries.Entry.TheVariants as entry
use Rattle.lu_spec_laws.specs.Words.Pasts.{Past}
use Rattle.lu_spec_laws.proofs.Words.{client, target, life, number, fid, txn_of, cookie, extent, onward, object, striped, lock}
use Rattle.lu_spec_laws.proofs.Words.{asks, sends, acts, executes}
use Rattle.lu_spec_laws.specs.Holds.{Holds}
use Rattle.lu_spec_laws.specs.Laws.Locks.{Locks}
use Rattle.lu_spec_laws.proofs.Decides.{says_yes, says_no, holds as decide_all}
use Rattle.lu_spec_laws.proofs.Decides.Locks.{decide_locks}

abbrev pub Breaks : Past → Type 0
Breaks past = Holds (Locks 2) past → ⊥

abbrev pub Keeps : Past → Type 0
Keeps past = Holds (Locks 2) past

-- PW is granted on 0 to 99 and waits on 500 to 599, and c2 asks for 200 to 299
abbrev pub two_more : Past
two_more =
    target 3 1 (entry.Take 1)
    ∷ client 2 2 (sends 1 (Target 1) (asks (life 2 1) 1 1 0 (op.Enqueue (object 1 1 0) PW (extent 200 299))))
    ∷ target 1 1 (entry.Wait (lock (cookie 1 2) (life 1 1) (object 1 1 0) PW (Range (extent 500 599))))
    ∷ target 1 1 (entry.Restore (lock (cookie 1 1) (life 0 1) (object 1 1 0) PW (Range (extent 0 99))))
    ∷ []

-- a directory /a with a file /a/f
abbrev pub with_names : Past
with_names =
    target 4 0 (executes (txn_of 1 2) (life 0 1) 2 (number 1 1 ∷ []) (told.Made (fid 1 2)))
    ∷ client 3 0 (sends 2 (Target 0) (asks (life 0 1) 1 2 0 (op.Create (codes "a" ∷ codes "f" ∷ []) 1048576 (pos 1))))
    ∷ target 2 0 (executes (txn_of 1 1) (life 0 1) 1 [] (told.Made (fid 1 1)))
    ∷ client 1 0 (sends 1 (Target 0) (asks (life 0 1) 1 1 0 (op.Mkdir (codes "a" ∷ []))))
    ∷ []

-- ---- a grant in conflict with a granted lock

-- PR is granted beside PW, and both have byte 4095
abbrev pub granted_in_conflict_past : Past
granted_in_conflict_past =
    target 3 1 (entry.Grant (lock (cookie 1 2) (life 1 1) (object 1 1 0) PR (Range (onward 0))))
    ∷ target 3 1 (entry.Take 1)
    ∷ client 2 1 (sends 1 (Target 1) (asks (life 1 1) 1 1 0 (op.Enqueue (object 1 1 0) PR (extent 0 4095))))
    ∷ target 1 1 (entry.Restore (lock (cookie 1 1) (life 0 1) (object 1 1 0) PW (Range (extent 4095 8191))))
    ∷ []

pub granted_in_conflict : Breaks granted_in_conflict_past
granted_in_conflict = says_no (decide_all (decide_locks 2) granted_in_conflict_past) refl

-- a life's own granted lock is in the way
abbrev pub granted_in_conflict_with_its_own_past : Past
granted_in_conflict_with_its_own_past =
    target 3 1 (entry.Grant (lock (cookie 1 2) (life 0 1) (object 1 1 0) PW (Range (onward 0))))
    ∷ target 3 1 (entry.Take 1)
    ∷ client 2 0 (sends 1 (Target 1) (asks (life 0 1) 1 1 0 (op.Enqueue (object 1 1 0) PW (extent 5 9))))
    ∷ target 1 1 (entry.Restore (lock (cookie 1 1) (life 0 1) (object 1 1 0) PW (Range (onward 0))))
    ∷ []

pub granted_in_conflict_with_its_own : Breaks granted_in_conflict_with_its_own_past
granted_in_conflict_with_its_own = says_no (decide_all (decide_locks 2) granted_in_conflict_with_its_own_past) refl

-- the lock that it waits for was called back, but not released
abbrev pub granted_after_waiting_in_conflict_past : Past
granted_after_waiting_in_conflict_past =
    target 3 1 (entry.Grant (lock (cookie 1 2) (life 1 1) (object 1 1 0) PR (Range (onward 0))))
    ∷ target 2 1 (entry.Block (cookie 1 1))
    ∷ target 2 1 (entry.Wait (lock (cookie 1 2) (life 1 1) (object 1 1 0) PR (Range (extent 0 9))))
    ∷ target 1 1 (entry.Restore (lock (cookie 1 1) (life 0 1) (object 1 1 0) PW (Range (onward 0))))
    ∷ []

pub granted_after_waiting_in_conflict : Breaks granted_after_waiting_in_conflict_past
granted_after_waiting_in_conflict = says_no (decide_all (decide_locks 2) granted_after_waiting_in_conflict_past) refl

-- an evicted life's lock stays granted until it is released
abbrev pub granted_once_evicted_past : Past
granted_once_evicted_past =
    target 3 1 (entry.Release (cookie 1 1))
    ∷ target 3 1 (entry.Grant (lock (cookie 1 2) (life 1 1) (object 1 1 0) PR (Range (onward 0))))
    ∷ target 3 1 (entry.Evict (life 0 1) Expired)
    ∷ target 2 1 (entry.Wait (lock (cookie 1 2) (life 1 1) (object 1 1 0) PR (Range (extent 0 9))))
    ∷ target 1 1 (entry.Restore (lock (cookie 1 1) (life 0 1) (object 1 1 0) PW (Range (onward 0))))
    ∷ []

pub granted_once_evicted : Breaks granted_once_evicted_past
granted_once_evicted = says_no (decide_all (decide_locks 2) granted_once_evicted_past) refl

-- an evicted life's lock was released
abbrev pub free_released_past : Past
free_released_past =
    target 3 1 (entry.Grant (lock (cookie 1 2) (life 1 1) (object 1 1 0) PR (Range (onward 0))))
    ∷ target 3 1 (entry.Release (cookie 1 1))
    ∷ target 3 1 (entry.Evict (life 0 1) Expired)
    ∷ target 2 1 (entry.Wait (lock (cookie 1 2) (life 1 1) (object 1 1 0) PR (Range (extent 0 9))))
    ∷ target 1 1 (entry.Restore (lock (cookie 1 1) (life 0 1) (object 1 1 0) PW (Range (onward 0))))
    ∷ []

pub free_released : Keeps free_released_past
free_released = says_yes (decide_all (decide_locks 2) free_released_past) refl

-- locks that meet in no byte don't conflict
abbrev pub free_4096_past : Past
free_4096_past =
    target 3 1 (entry.Grant (lock (cookie 1 2) (life 1 1) (object 1 1 0) PR (Range (extent 0 4095))))
    ∷ target 3 1 (entry.Take 1)
    ∷ client 2 1 (sends 1 (Target 1) (asks (life 1 1) 1 1 0 (op.Enqueue (object 1 1 0) PR (extent 0 4095))))
    ∷ target 1 1 (entry.Restore (lock (cookie 1 1) (life 0 1) (object 1 1 0) PW (Range (extent 4096 8191))))
    ∷ []

pub free_4096 : Keeps free_4096_past
free_4096 = says_yes (decide_all (decide_locks 2) free_4096_past) refl

-- ---- a grant in conflict with a lock that waits ahead

-- PR is granted past a PW that waits
abbrev pub granted_past_a_wait_past : Past
granted_past_a_wait_past =
    target 4 1 (entry.Grant (lock (cookie 1 3) (life 2 1) (object 1 1 0) PR (Range (extent 0 9))))
    ∷ target 4 1 (entry.Take 1)
    ∷ client 3 2 (sends 1 (Target 1) (asks (life 2 1) 1 1 0 (op.Enqueue (object 1 1 0) PR (extent 0 9))))
    ∷ target 2 1 (entry.Wait (lock (cookie 1 2) (life 1 1) (object 1 1 0) PW (Range (extent 0 9))))
    ∷ target 1 1 (entry.Restore (lock (cookie 1 1) (life 0 1) (object 1 1 0) PR (Range (onward 0))))
    ∷ []

pub granted_past_a_wait : Breaks granted_past_a_wait_past
granted_past_a_wait = says_no (decide_all (decide_locks 2) granted_past_a_wait_past) refl

-- of two that wait the second is granted first
abbrev pub granted_before_the_first_past : Past
granted_before_the_first_past =
    target 2 1 (entry.Grant (lock (cookie 1 3) (life 2 1) (object 1 1 0) PW (Range (extent 5 5))))
    ∷ target 1 1 (entry.Wait (lock (cookie 1 3) (life 2 1) (object 1 1 0) PW (Range (extent 5 5))))
    ∷ target 1 1 (entry.Wait (lock (cookie 1 2) (life 1 1) (object 1 1 0) PW (Range (extent 0 9))))
    ∷ []

pub granted_before_the_first : Breaks granted_before_the_first_past
granted_before_the_first = says_no (decide_all (decide_locks 2) granted_before_the_first_past) refl

-- an eviction ends the waits of its life alone
abbrev pub granted_before_a_wait_past : Past
granted_before_a_wait_past =
    target 2 1 (entry.Grant (lock (cookie 1 4) (life 3 1) (object 1 1 0) PW (Range (extent 0 9))))
    ∷ target 2 1 (entry.Evict (life 2 1) Expired)
    ∷ target 1 1 (entry.Wait (lock (cookie 1 4) (life 3 1) (object 1 1 0) PW (Range (extent 0 9))))
    ∷ target 1 1 (entry.Wait (lock (cookie 1 3) (life 2 1) (object 1 1 0) PW (Range (extent 0 9))))
    ∷ target 1 1 (entry.Wait (lock (cookie 1 2) (life 1 1) (object 1 1 0) PW (Range (extent 0 9))))
    ∷ []

pub granted_before_a_wait : Breaks granted_before_a_wait_past
granted_before_a_wait = says_no (decide_all (decide_locks 2) granted_before_a_wait_past) refl

-- a release ends no wait
abbrev pub granted_past_a_released_wait_past : Past
granted_past_a_released_wait_past =
    target 2 1 (entry.Grant (lock (cookie 1 3) (life 2 1) (object 1 1 0) PW (Range (extent 0 9))))
    ∷ target 2 1 (entry.Release (cookie 1 2))
    ∷ target 1 1 (entry.Wait (lock (cookie 1 3) (life 2 1) (object 1 1 0) PW (Range (extent 0 9))))
    ∷ target 1 1 (entry.Wait (lock (cookie 1 2) (life 1 1) (object 1 1 0) PW (Range (extent 0 9))))
    ∷ []

pub granted_past_a_released_wait : Breaks granted_past_a_released_wait_past
granted_past_a_released_wait = says_no (decide_all (decide_locks 2) granted_past_a_released_wait_past) refl

-- the wait ahead ended by an eviction
abbrev pub first_evicted_past : Past
first_evicted_past =
    target 2 1 (entry.Grant (lock (cookie 1 3) (life 2 1) (object 1 1 0) PW (Range (onward 0))))
    ∷ target 2 1 (entry.Evict (life 1 1) Expired)
    ∷ target 1 1 (entry.Wait (lock (cookie 1 3) (life 2 1) (object 1 1 0) PW (Range (extent 5 5))))
    ∷ target 1 1 (entry.Wait (lock (cookie 1 2) (life 1 1) (object 1 1 0) PW (Range (extent 0 9))))
    ∷ []

pub first_evicted : Keeps first_evicted_past
first_evicted = says_yes (decide_all (decide_locks 2) first_evicted_past) refl

-- a wait ahead whose mode is compatible is in nobody's way
abbrev pub first_in_order_past : Past
first_in_order_past =
    target 2 1 (entry.Grant (lock (cookie 1 2) (life 1 1) (object 1 1 0) PR (Range (onward 0))))
    ∷ target 2 1 (entry.Grant (lock (cookie 1 3) (life 2 1) (object 1 1 0) PR (Range (onward 0))))
    ∷ target 1 1 (entry.Wait (lock (cookie 1 3) (life 2 1) (object 1 1 0) PR (Range (extent 5 5))))
    ∷ target 1 1 (entry.Wait (lock (cookie 1 2) (life 1 1) (object 1 1 0) PR (Range (extent 0 9))))
    ∷ []

pub first_in_order : Keeps first_in_order_past
first_in_order = says_yes (decide_all (decide_locks 2) first_in_order_past) refl

-- ---- a grant on another resource than what was asked for

-- the lock waited on another stripe's object
abbrev pub granted_on_another_stripe_past : Past
granted_on_another_stripe_past =
    target 2 1 (entry.Grant (lock (cookie 1 2) (life 1 1) (object 1 1 1) PW (Range (onward 0))))
    ∷ target 1 1 (entry.Wait (lock (cookie 1 2) (life 1 1) (object 1 1 0) PW (Range (extent 0 9))))
    ∷ []

pub granted_on_another_stripe : Breaks granted_on_another_stripe_past
granted_on_another_stripe = says_no (decide_all (decide_locks 2) granted_on_another_stripe_past) refl

-- the lock waited on another file's object
abbrev pub granted_on_another_file_past : Past
granted_on_another_file_past =
    target 2 1 (entry.Grant (lock (cookie 1 2) (life 1 1) (object 1 2 0) PR (Range (onward 0))))
    ∷ target 1 1 (entry.Wait (lock (cookie 1 2) (life 1 1) (object 1 1 0) PR (Range (extent 0 9))))
    ∷ []

pub granted_on_another_file : Breaks granted_on_another_file_past
granted_on_another_file = says_no (decide_all (decide_locks 2) granted_on_another_file_past) refl

-- a lock that waited on an object is granted on an inode of t0's form
abbrev pub granted_on_an_inode_past : Past
granted_on_an_inode_past =
    target 2 1 (entry.Grant (lock (cookie 1 2) (life 1 1) (object 1 1 0) PR (Range (onward 0))))
    ∷ target 1 1 (entry.Wait (lock (cookie 1 2) (life 1 1) (object 1 1 1) PR (Range (extent 0 9))))
    ∷ []

pub granted_on_an_inode : Breaks granted_on_an_inode_past
granted_on_an_inode = says_no (decide_all (decide_locks 2) granted_on_an_inode_past) refl

-- ---- a grant of another ask than what was asked for, grown

-- it grows up to granted locks, and past one that waits behind it
abbrev pub grown_past_a_wait_past : Past
grown_past_a_wait_past =
    target 2 1 (entry.Grant (lock (cookie 1 2) (life 1 1) (object 1 1 0) PW (Range (onward 100))))
    ∷ target 1 1 (entry.Wait (lock (cookie 1 3) (life 2 1) (object 1 1 0) PW (Range (extent 500 599))))
    ∷ target 1 1 (entry.Wait (lock (cookie 1 2) (life 1 1) (object 1 1 0) PW (Range (extent 200 299))))
    ∷ target 1 1 (entry.Restore (lock (cookie 1 1) (life 0 1) (object 1 1 0) PW (Range (extent 0 99))))
    ∷ []

pub grown_past_a_wait : Breaks grown_past_a_wait_past
grown_past_a_wait = says_no (decide_all (decide_locks 2) grown_past_a_wait_past) refl

-- it is granted as it was asked
abbrev pub not_grown_past : Past
not_grown_past =
    target 3 1 (entry.Grant (lock (cookie 1 3) (life 2 1) (object 1 1 0) PW (Range (extent 200 299))))
    ∷ two_more

pub not_grown : Breaks not_grown_past
not_grown = says_no (decide_all (decide_locks 2) not_grown_past) refl

-- it doesn't reach down to the granted lock
abbrev pub grown_short_past : Past
grown_short_past =
    target 3 1 (entry.Grant (lock (cookie 1 3) (life 2 1) (object 1 1 0) PW (Range (extent 101 499))))
    ∷ two_more

pub grown_short : Breaks grown_short_past
grown_short = says_no (decide_all (decide_locks 2) grown_short_past) refl

-- another that waits meets what was asked: it doesn't grow
abbrev pub grown_where_one_waits_past : Past
grown_where_one_waits_past =
    target 2 1 (entry.Grant (lock (cookie 1 2) (life 1 1) (object 1 1 0) PW (Range (extent 100 249))))
    ∷ target 1 1 (entry.Wait (lock (cookie 1 3) (life 2 1) (object 1 1 0) PW (Range (extent 250 260))))
    ∷ target 1 1 (entry.Wait (lock (cookie 1 2) (life 1 1) (object 1 1 0) PW (Range (extent 200 299))))
    ∷ target 1 1 (entry.Restore (lock (cookie 1 1) (life 0 1) (object 1 1 0) PW (Range (extent 0 99))))
    ∷ []

pub grown_where_one_waits : Breaks grown_where_one_waits_past
grown_where_one_waits = says_no (decide_all (decide_locks 2) grown_where_one_waits_past) refl

-- PR was asked for, and PW is granted
abbrev pub granted_in_another_mode_past : Past
granted_in_another_mode_past =
    target 2 1 (entry.Grant (lock (cookie 1 3) (life 2 1) (object 1 1 0) PW (Range (onward 0))))
    ∷ target 2 1 (entry.Take 1)
    ∷ client 1 2 (sends 1 (Target 1) (asks (life 2 1) 1 1 0 (op.Enqueue (object 1 1 0) PR (extent 200 299))))
    ∷ []

pub granted_in_another_mode : Breaks granted_in_another_mode_past
granted_in_another_mode = says_no (decide_all (decide_locks 2) granted_in_another_mode_past) refl

-- another life waited
abbrev pub granted_to_another_life_past : Past
granted_to_another_life_past =
    target 2 1 (entry.Grant (lock (cookie 1 2) (life 1 2) (object 1 1 0) PW (Range (onward 0))))
    ∷ target 1 1 (entry.Wait (lock (cookie 1 2) (life 1 1) (object 1 1 0) PW (Range (extent 0 9))))
    ∷ []

pub granted_to_another_life : Breaks granted_to_another_life_past
granted_to_another_life = says_no (decide_all (decide_locks 2) granted_to_another_life_past) refl

-- it reaches down to the granted lock, and up to the one that waits
abbrev pub grown_rightly_past : Past
grown_rightly_past =
    target 3 1 (entry.Grant (lock (cookie 1 3) (life 2 1) (object 1 1 0) PW (Range (extent 100 499))))
    ∷ two_more

pub grown_rightly : Keeps grown_rightly_past
grown_rightly = says_yes (decide_all (decide_locks 2) grown_rightly_past) refl

-- a lookup asks for LOOKUP alone
abbrev pub more_bits_than_a_lookup_past : Past
more_bits_than_a_lookup_past =
    target 6 0 (entry.Grant (lock (cookie 1 1) (life 1 1) (object 1 1 0) PR (Bits 3)))
    ∷ target 6 0 (acts (life 1 1) 1 (told.Dir (fid 1 1)))
    ∷ client 5 1 (sends 3 (Target 0) (asks (life 1 1) 1 1 0 (op.Lookup (codes "a" ∷ []))))
    ∷ with_names

pub more_bits_than_a_lookup : Breaks more_bits_than_a_lookup_past
more_bits_than_a_lookup = says_no (decide_all (decide_locks 2) more_bits_than_a_lookup_past) refl

-- a stat of a file asks for LAYOUT too
abbrev pub fewer_bits_than_a_stat_past : Past
fewer_bits_than_a_stat_past =
    target 6 0 (entry.Grant (lock (cookie 1 2) (life 1 1) (object 1 2 0) PR (Bits 3)))
    ∷ target 6 0 (entry.Grant (lock (cookie 1 1) (life 1 1) (object 1 1 0) PR (Bits 1)))
    ∷ target 6 0 (acts (life 1 1) 1 (told.FileStat (fid 1 2) 420 1 (striped 1048576 (1 ∷ []))))
    ∷ client 5 1 (sends 3 (Target 0) (asks (life 1 1) 1 1 0 (op.Stat (codes "a" ∷ codes "f" ∷ []))))
    ∷ with_names

pub fewer_bits_than_a_stat : Breaks fewer_bits_than_a_stat_past
fewer_bits_than_a_stat = says_no (decide_all (decide_locks 2) fewer_bits_than_a_stat_past) refl

-- the root is locked without LOOKUP
abbrev pub lookup_of_the_root_past : Past
lookup_of_the_root_past =
    target 6 0 (entry.Grant (lock (cookie 1 1) (life 1 1) (object 0 1 0) PR (Bits 3)))
    ∷ target 6 0 (acts (life 1 1) 1 (told.Names (codes "a" ∷ [])))
    ∷ client 5 1 (sends 3 (Target 0) (asks (life 1 1) 1 1 0 (op.List [])))
    ∷ with_names

pub lookup_of_the_root : Breaks lookup_of_the_root_past
lookup_of_the_root = says_no (decide_all (decide_locks 2) lookup_of_the_root_past) refl

-- each row asks for its own bits
abbrev pub names_rightly_past : Past
names_rightly_past =
    target 10 0 (entry.Grant (lock (cookie 1 5) (life 1 1) (object 1 2 0) PR (Bits 5)))
    ∷ target 10 0 (entry.Grant (lock (cookie 1 4) (life 1 1) (object 1 1 0) PR (Bits 1)))
    ∷ target 10 0 (acts (life 1 1) 3 (told.Layout (striped 1048576 (1 ∷ []))))
    ∷ client 9 1 (sends 5 (Target 0) (asks (life 1 1) 1 3 0 (op.Layout (codes "a" ∷ codes "f" ∷ []))))
    ∷ target 8 0 (entry.Grant (lock (cookie 1 3) (life 1 1) (object 0 1 0) PR (Bits 2)))
    ∷ target 8 0 (acts (life 1 1) 2 (told.Names (codes "a" ∷ [])))
    ∷ client 7 1 (sends 4 (Target 0) (asks (life 1 1) 1 2 0 (op.List [])))
    ∷ target 6 0 (entry.Grant (lock (cookie 1 2) (life 1 1) (object 1 2 0) PR (Bits 7)))
    ∷ target 6 0 (entry.Grant (lock (cookie 1 1) (life 1 1) (object 1 1 0) PR (Bits 1)))
    ∷ target 6 0 (acts (life 1 1) 1 (told.FileStat (fid 1 2) 420 1 (striped 1048576 (1 ∷ []))))
    ∷ client 5 1 (sends 3 (Target 0) (asks (life 1 1) 1 1 0 (op.Stat (codes "a" ∷ codes "f" ∷ []))))
    ∷ with_names

pub names_rightly : Keeps names_rightly_past
names_rightly = says_yes (decide_all (decide_locks 2) names_rightly_past) refl

-- ---- a grant that nothing asked for

-- no request and no wait stands behind the grant
abbrev pub granted_unasked_past : Past
granted_unasked_past =
    target 1 1 (entry.Grant (lock (cookie 1 1) (life 0 1) (object 1 1 0) PW (Range (onward 0))))
    ∷ target 1 1 entry.Tick
    ∷ []

pub granted_unasked : Breaks granted_unasked_past
granted_unasked = says_no (decide_all (decide_locks 2) granted_unasked_past) refl

-- the request was taken in an earlier turn, and doesn't wait
abbrev pub granted_in_a_later_turn_past : Past
granted_in_a_later_turn_past =
    target 3 1 (entry.Grant (lock (cookie 1 1) (life 0 1) (object 1 1 0) PW (Range (onward 0))))
    ∷ target 2 1 (entry.Take 1)
    ∷ client 1 0 (sends 1 (Target 1) (asks (life 0 1) 1 1 0 (op.Enqueue (object 1 1 0) PW (extent 0 9))))
    ∷ []

pub granted_in_a_later_turn : Breaks granted_in_a_later_turn_past
granted_in_a_later_turn = says_no (decide_all (decide_locks 2) granted_in_a_later_turn_past) refl

-- an eviction ended the wait
abbrev pub granted_after_its_eviction_past : Past
granted_after_its_eviction_past =
    target 2 1 (entry.Grant (lock (cookie 1 2) (life 1 1) (object 1 1 0) PW (Range (onward 0))))
    ∷ target 2 1 (entry.Evict (life 1 1) Expired)
    ∷ target 1 1 (entry.Wait (lock (cookie 1 2) (life 1 1) (object 1 1 0) PW (Range (extent 0 9))))
    ∷ []

pub granted_after_its_eviction : Breaks granted_after_its_eviction_past
granted_after_its_eviction = says_no (decide_all (decide_locks 2) granted_after_its_eviction_past) refl

-- a crash ended the wait
abbrev pub granted_after_a_crash_past : Past
granted_after_a_crash_past =
    target 3 1 (entry.Grant (lock (cookie 1 2) (life 1 1) (object 1 1 0) PW (Range (onward 0))))
    ∷ target 2 1 entry.Crash
    ∷ target 1 1 (entry.Wait (lock (cookie 1 2) (life 1 1) (object 1 1 0) PW (Range (extent 0 9))))
    ∷ []

pub granted_after_a_crash : Breaks granted_after_a_crash_past
granted_after_a_crash = says_no (decide_all (decide_locks 2) granted_after_a_crash_past) refl

-- one wait, two grants
abbrev pub granted_twice_past : Past
granted_twice_past =
    target 2 1 (entry.Grant (lock (cookie 1 2) (life 1 1) (object 1 1 0) PR (Range (onward 0))))
    ∷ target 2 1 (entry.Grant (lock (cookie 1 2) (life 1 1) (object 1 1 0) PR (Range (onward 0))))
    ∷ target 1 1 (entry.Wait (lock (cookie 1 2) (life 1 1) (object 1 1 0) PR (Range (extent 0 9))))
    ∷ []

pub granted_twice : Breaks granted_twice_past
granted_twice = says_no (decide_all (decide_locks 2) granted_twice_past) refl

-- the request is for another object
abbrev pub granted_for_another_object_past : Past
granted_for_another_object_past =
    target 2 1 (entry.Grant (lock (cookie 1 1) (life 0 1) (object 1 2 0) PW (Range (onward 0))))
    ∷ target 2 1 (entry.Take 1)
    ∷ client 1 0 (sends 1 (Target 1) (asks (life 0 1) 1 1 0 (op.Enqueue (object 1 1 0) PW (extent 0 9))))
    ∷ []

pub granted_for_another_object : Breaks granted_for_another_object_past
granted_for_another_object = says_no (decide_all (decide_locks 2) granted_for_another_object_past) refl

-- the request that was taken asks for no lock
abbrev pub granted_for_a_put_past : Past
granted_for_a_put_past =
    target 2 1 (entry.Grant (lock (cookie 1 1) (life 0 1) (object 1 1 0) PW (Range (onward 0))))
    ∷ target 2 1 (entry.Take 1)
    ∷ client 1 0 (sends 1 (Target 1) (asks (life 0 1) 1 1 0 (op.Size (object 1 1 0))))
    ∷ []

pub granted_for_a_put : Breaks granted_for_a_put_past
granted_for_a_put = says_no (decide_all (decide_locks 2) granted_for_a_put_past) refl

-- a transaction asks for no lock
abbrev pub granted_without_an_act_past : Past
granted_without_an_act_past =
    target 6 0 (acts (life 1 1) 1 (told.Dir (fid 1 1)))
    ∷ target 6 0 (entry.Grant (lock (cookie 1 1) (life 1 1) (object 1 1 0) PR (Bits 1)))
    ∷ target 6 0 (entry.Take 3)
    ∷ client 5 1 (sends 3 (Target 0) (asks (life 1 1) 1 1 0 (op.Lookup (codes "a" ∷ []))))
    ∷ with_names

pub granted_without_an_act : Breaks granted_without_an_act_past
granted_without_an_act = says_no (decide_all (decide_locks 2) granted_without_an_act_past) refl

-- the lookup acted in an earlier turn
abbrev pub granted_for_an_earlier_act_past : Past
granted_for_an_earlier_act_past =
    target 7 0 (entry.Grant (lock (cookie 1 1) (life 1 1) (object 1 1 0) PR (Bits 1)))
    ∷ target 6 0 (acts (life 1 1) 1 (told.Dir (fid 1 1)))
    ∷ client 5 1 (sends 3 (Target 0) (asks (life 1 1) 1 1 0 (op.Lookup (codes "a" ∷ []))))
    ∷ with_names

pub granted_for_an_earlier_act : Breaks granted_for_an_earlier_act_past
granted_for_an_earlier_act = says_no (decide_all (decide_locks 2) granted_for_an_earlier_act_past) refl

-- the path doesn't lead over this inode
abbrev pub granted_for_another_inode_past : Past
granted_for_another_inode_past =
    target 6 0 (entry.Grant (lock (cookie 1 1) (life 1 1) (object 1 2 0) PR (Bits 1)))
    ∷ target 6 0 (acts (life 1 1) 1 (told.Dir (fid 1 1)))
    ∷ client 5 1 (sends 3 (Target 0) (asks (life 1 1) 1 1 0 (op.Lookup (codes "a" ∷ []))))
    ∷ with_names

pub granted_for_another_inode : Breaks granted_for_another_inode_past
granted_for_another_inode = says_no (decide_all (decide_locks 2) granted_for_another_inode_past) refl

-- the last act is another life's
abbrev pub granted_for_another_act_past : Past
granted_for_another_act_past =
    target 6 0 (entry.Grant (lock (cookie 1 1) (life 1 1) (object 1 1 0) PR (Bits 1)))
    ∷ target 6 0 (acts (life 2 1) 1 (told.Dir (fid 1 1)))
    ∷ target 6 0 (acts (life 1 1) 1 (told.Dir (fid 1 1)))
    ∷ client 5 2 (sends 4 (Target 0) (asks (life 2 1) 1 1 0 (op.Lookup (codes "a" ∷ []))))
    ∷ client 5 1 (sends 3 (Target 0) (asks (life 1 1) 1 1 0 (op.Lookup (codes "a" ∷ []))))
    ∷ with_names

pub granted_for_another_act : Breaks granted_for_another_act_past
granted_for_another_act = says_no (decide_all (decide_locks 2) granted_for_another_act_past) refl

-- a lookup that finds nothing asks for no lock
abbrev pub granted_for_a_refusal_past : Past
granted_for_a_refusal_past =
    target 6 0 (entry.Grant (lock (cookie 1 1) (life 1 1) (object 1 1 0) PR (Bits 1)))
    ∷ target 6 0 (acts (life 1 1) 1 (told.Refused ENOENT))
    ∷ client 5 1 (sends 3 (Target 0) (asks (life 1 1) 1 1 0 (op.Lookup (codes "b" ∷ []))))
    ∷ with_names

pub granted_for_a_refusal : Breaks granted_for_a_refusal_past
granted_for_a_refusal = says_no (decide_all (decide_locks 2) granted_for_a_refusal_past) refl

-- of two waits under one cookie the first is granted first
abbrev pub asked_first_wait_past : Past
asked_first_wait_past =
    target 2 1 (entry.Grant (lock (cookie 1 2) (life 2 1) (object 1 1 0) PR (Range (onward 0))))
    ∷ target 2 1 (entry.Grant (lock (cookie 1 2) (life 1 1) (object 1 1 0) PR (Range (onward 0))))
    ∷ target 1 1 (entry.Wait (lock (cookie 1 2) (life 2 1) (object 1 1 0) PR (Range (extent 0 9))))
    ∷ target 1 1 (entry.Wait (lock (cookie 1 2) (life 1 1) (object 1 1 0) PR (Range (extent 0 9))))
    ∷ []

pub asked_first_wait : Keeps asked_first_wait_past
asked_first_wait = says_yes (decide_all (decide_locks 2) asked_first_wait_past) refl
