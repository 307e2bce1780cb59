-- What adding locks leaves of the lockspace and of what stands beside it.
use Rattle.std.specs.Prelude.{◌≡◌, ◌+◌, ◌≤◌, List, length}
use Rattle.lu_base.specs.declared.ids.Cookie.{Cookie}
use Rattle.lu_base.specs.declared.ids.Who.{Who}
use Rattle.lu_base.specs.declared.locks.Ask.{Ask}
use Rattle.lu_base.specs.declared.locks.Lock.{Lock}
use Rattle.lu_base.specs.declared.locks.Mode.TheVariants.{PR}
use Rattle.lu_base.specs.declared.locks.Policy.TheVariants.{Bits}
use Rattle.lu_base.specs.declared.locks.Resource.{Resource}
use Rattle.lu_part.specs.declared.parts.Want.{Want}
use Rattle.lu_queue.specs.declared.locks.Placed.{Placed}
use Rattle.lu_queue.specs.Queues.{lock_under, with_lock, placed}
use Rattle.lu_lockspace.specs.Spaces.{queue_of, KeepsOthers, IsSpace}
use Rattle.lu_spec_target.specs.Names.{locks_from}
use Rattle.lu_target_refines.specs.Locks.{AreEnqueued}
use Rattle.lu_target_locks.specs.Servers.{ServerState, greatest, most_cookies}

-- one lock, under the next cookie
pub record IsAdded (resource : Resource) (ask : Ask) (cookie : Cookie) (p : Placed) (old new : ServerState) : Type 0 where
  pub next : cookie.0 ≡ greatest old + 1
  pub is : p ≡ placed (lock_under cookie ask) (queue_of resource old.space)
  pub added : queue_of resource new.space ≡ with_lock (lock_under cookie ask) (queue_of resource old.space)
  pub others : KeepsOthers resource old.space new.space
  pub lawful : IsSpace new.space
  pub asked : new.asked ≡ old.asked
  pub boots : new.boot ≡ old.boot
  pub counted : new.count ≤ most_cookies
  pub greater : greatest new ≡ greatest old + 1
  pub ticks : new.ticks ≡ old.ticks

-- a lock that is wanted: for reading
abbrev pub wanted_on : Want → Resource
wanted_on want = record { fid = want.fid; stripe = 0 }

abbrev pub reading_ask : Who → Want → Ask
reading_ask who want = record { who = who; mode = PR; policy = Bits want.bits }

-- one of them, which is answered
pub record IsAdmitted (who : Who) (want : Want) (lock : Lock) (old new : ServerState) : Type 0 where
  pub placed : Placed
  pub lock_is : lock ≡ record { cookie = lock.cookie; resource = wanted_on want; ask = reading_ask who want }
  pub added : IsAdded (wanted_on want) (reading_ask who want) lock.cookie placed old new

-- those of these wants, one after another
pub record AllAdmitted (who : Who) (wants : List Want) (locks : List Lock) (old new : ServerState) : Type 0 where
  pub locks_are : locks ≡ locks_from (greatest old) who wants
  pub spaces : AreEnqueued locks old.space new.space
  pub asked : new.asked ≡ old.asked
  pub boots : new.boot ≡ old.boot
  pub counted : old.count ≤ most_cookies → new.count ≤ most_cookies
  pub greater : greatest new ≡ greatest old + length wants
  pub ticks : new.ticks ≡ old.ticks
