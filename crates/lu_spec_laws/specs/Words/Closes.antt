-- What a close decides, from the lines before it: which transactions it keeps, which lives it evicts and why, and
-- which locks it restores (this project's profile; Lustre Operations Manual, recovery, for the eviction of who isn't
-- back).
use Rattle.std.specs.Prelude.{ℕ, Bool, true, false, not, ◌==◌, ◌&&◌, ◌||◌, if◌then◌else◌, Option, Some, None, is_none, List, [], ◌∷◌, map}
use Rattle.std.specs.Prelude.{filter, reverse, unwrap_or}
use Rattle.std.specs.Bool.{then_some}
use Rattle.std.specs.List.{list_any, find}
use Rattle.lu_base.specs.declared.ids.At.{At}
use Rattle.lu_base.specs.declared.ids.Who.{Who}
use Rattle.lu_base.specs.declared.locks.Cause.{Cause}
use Rattle.lu_base.specs.declared.locks.Cause.TheVariants.{Absent, Gap}
use Rattle.lu_base.specs.declared.locks.Lock.{Lock as LockOf}
use Rattle.lu_msg.specs.declared.messages.LockReplay.{LockReplay}
use Rattle.lu_trace.specs.declared.entries.Entry.{Entry}
use Rattle.lu_trace.specs.declared.entries.Entry.TheVariants.{Close, Kept, Restore, Evict}
use Rattle.lu_trace.specs.declared.entries.Line.{Line}
use Rattle.lu_spec_machine.specs.Tree.{same_life}
use Rattle.lu_spec_laws.specs.Words.Pasts.{Past, is_target, same_turn, newest}
use Rattle.lu_spec_laws.specs.Words.Scopes.{last_in, any_in, next_in, any_later}
use Rattle.lu_spec_laws.specs.Words.Boots.{boot, committed}
use Rattle.lu_spec_laws.specs.Words.Slots.{has_slot}
use Rattle.lu_spec_laws.specs.Words.Handed.{handed, locks, is_back, has_newer}
use Rattle.lu_spec_laws.specs.Words.Learned.{heard_number, saw}
use Rattle.lu_spec_laws.specs.Words.Lost.{Transaction, transactions, is_among, undecided, loses, lost_numbers, is_fail}

-- ---- what a close after the past decides

-- the numbers that it loses
abbrev pub lost_at : ℕ → Past → List ℕ
lost_at t past = loses t past (lost_numbers t past)

abbrev pub kept_of : List Transaction → List ℕ → List ℕ
kept_of xs lost = filter (λ n. not (is_among lost n)) (map (λ (x : Transaction). x.number) (reverse xs))

-- the numbers that it keeps, in rising order
abbrev pub kept_at : ℕ → Past → List ℕ
kept_at t past = kept_of (undecided (committed t past) (lost_numbers t past) (transactions t past)) (lost_at t past)

-- the life heard the reply to one of these transactions, or saw one
abbrev pub rests_on : ℕ → Past → Who → List ℕ → Bool
rests_on t past who lost = list_any (λ n. heard_number t who n past || saw t who n past) lost

-- why it evicts a life with a slot: the life isn't back, or a newer one of its client asked to join; or it rests on
-- what is lost
abbrev pub cause_at : ℕ → Past → Who → Option Cause
cause_at t past who =
    if not (is_back t past who) || has_newer t past who then Some Absent
    else (if rests_on t past who (lost_at t past) then Some Gap else None)

abbrev pub stays_at : ℕ → Past → Who → Bool
stays_at t past who = has_slot t past who && is_none (cause_at t past who)

abbrev pub lock_of : LockReplay → LockOf
lock_of r =
    record { cookie = r.cookie; resource = r.resource; ask = record { who = r.who; mode = r.mode; policy = r.policy } }

-- the locks that it restores: those that the lives that stay handed in
abbrev pub restored_at : ℕ → Past → List LockOf
restored_at t past =
    map lock_of (filter (λ (r : LockReplay). stays_at t past r.who) (locks (boot t past) (handed t past)))

abbrev pub is_lock : Who → ℕ → LockOf → Bool
is_lock who cookie lock = same_life lock.ask.who who && lock.cookie.0 == cookie

-- of these locks that of the life with the cookie
abbrev pub find_lock : Who → ℕ → List LockOf → Option LockOf
find_lock who cookie locks = find (is_lock who cookie) locks

-- ---- the close that a line follows

-- a close of this turn is finished: the disk doesn't fail in the turn
abbrev pub is_finished : At → Past → List Line → Bool
is_finished at past later = not (any_in is_fail at past || any_later is_fail at later)

abbrev pub closes_in : {A : Type 0} → (Past → A) → At → Past → Line → Option A
closes_in decides at past l = elim l.entry [ Close ↦ then_some (same_turn l.at at) (decides past) | _ ↦ None ]

-- what the last close so far of this turn decided, where it is finished
abbrev pub decided : {A : Type 0} → (Past → A) → At → Past → List Line → Option A
decided decides at past later = if is_finished at past later then newest (closes_in decides at) past else None

abbrev pub closes_up_to : ℕ → Past → Line → Option ℕ
closes_up_to t past l = elim l.entry [ Close ↦ then_some (is_target t l.at.node) (committed t past) | _ ↦ None ]

-- the committed number at the target's last close so far, or 0
abbrev pub committed_at_close : ℕ → Past → ℕ
committed_at_close t past = unwrap_or (newest (closes_up_to t) past) 0

-- ---- the lines of this turn that followed its last close so far

abbrev pub kept_last : Entry → Option ℕ
kept_last (Kept number) = Some number.0
kept_last Close = Some 0
kept_last _ = None

-- the number of the last `kept` line, or 0
abbrev pub last_kept : At → Past → ℕ
last_kept at past = unwrap_or (last_in kept_last at past) 0

abbrev pub evicted_last : Entry → Option (Option Who)
evicted_last (Evict who cause) = Some (Some who)
evicted_last Close = Some None
evicted_last _ = None

-- the life of the last `evict` line
abbrev pub last_evicted : At → Past → Option Who
last_evicted at past = unwrap_or (last_in evicted_last at past) None

abbrev pub restores_it : Who → ℕ → Entry → Option Bool
restores_it who cookie (Restore lock) = then_some (is_lock who cookie lock) true
restores_it who cookie Close = Some false
restores_it who cookie _ = None

-- the lock has a `restore` line
abbrev pub has_restored : At → Who → ℕ → Past → Bool
has_restored at who cookie past = unwrap_or (last_in (restores_it who cookie) at past) false

-- ---- the later lines of this turn

abbrev pub is_kept : ℕ → Entry → Bool
is_kept n (Kept number) = number.0 == n
is_kept n _ = false

abbrev pub will_keep : At → List Line → ℕ → Bool
will_keep at later n = any_later (is_kept n) at later

abbrev pub evicts_for : Who → Entry → Option Cause
evicts_for who (Evict other cause) = then_some (same_life other who) cause
evicts_for who _ = None

-- the cause in the life's next `evict` line
abbrev pub will_evict : At → List Line → Who → Option Cause
will_evict at later who = next_in (evicts_for who) at later

abbrev pub restores_as : Who → ℕ → Entry → Option LockOf
restores_as who cookie (Restore lock) = then_some (is_lock who cookie lock) lock
restores_as who cookie _ = None

-- the lock in the next `restore` line of that life and cookie
abbrev pub will_restore : At → List Line → Who → ℕ → Option LockOf
will_restore at later who cookie = next_in (restores_as who cookie) at later
