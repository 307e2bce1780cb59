-- A `restore` stands in a turn that closed the target's window, and its lock was handed in there since the last boot,
-- under that boot (Lustre Operations Manual, recovery).
use Rattle.std.specs.Prelude.{◌≡◌, ℕ, true, ◌==◌, ◌&&◌, if◌then◌else◌, Option, Some, None, List, [], ◌∷◌}
use Rattle.lu_base.specs.declared.ids.At.{At}
use Rattle.lu_base.specs.declared.ids.Node.{Node}
use Rattle.lu_base.specs.declared.ids.Node.TheVariants.{Client, Target}
use Rattle.lu_base.specs.declared.ids.Who.{Who}
use Rattle.lu_base.specs.declared.locks.Lock.{Lock as LockOf}
use Rattle.lu_msg.specs.declared.messages.LockReplay.{LockReplay}
use Rattle.lu_msg.specs.declared.messages.Message.{Message}
use Rattle.lu_msg.specs.declared.messages.Message.TheVariants.{Lock}
use Rattle.lu_trace.specs.declared.entries.Entry.{Entry}
use Rattle.lu_trace.specs.declared.entries.Entry.TheVariants.{Restore}
use Rattle.lu_trace.specs.declared.entries.Line.{Line}
use Rattle.lu_spec_machine.specs.Tree.{same_life}
use Rattle.lu_spec_laws.specs.Words.Pasts.{Past}
use Rattle.lu_spec_laws.specs.Words.Boots.{boot}
use Rattle.lu_spec_laws.specs.Order.Handed.{has_closed, since_boot}

abbrev pub lock_of : LockReplay → LockOf
lock_of r =
    record { cookie = r.cookie; resource = r.resource; ask = record { who = r.who; mode = r.mode; policy = r.policy } }

abbrev pub as_lock : ℕ → Who → ℕ → Message → Option LockOf → Option LockOf
as_lock b who cookie (Lock r) rest =
    if r.boot == b && same_life r.who who && r.cookie.0 == cookie then Some (lock_of r) else rest
as_lock b who cookie _ rest = rest

-- the lock of that life and cookie, as it was last handed in under that boot
abbrev pub lock_in : ℕ → Who → ℕ → List Message → Option LockOf
lock_in b who cookie [] = None
lock_in b who cookie (m ∷ messages) = as_lock b who cookie m (lock_in b who cookie messages)

pub record RestoreAt (past : Past) (at : At) (t : ℕ) (lock : LockOf) : Type 0 where
  pub closed : has_closed past at ≡ true
  pub handed : lock_in (boot t past) lock.ask.who lock.cookie.0 (since_boot t past) ≡ Some lock

abbrev pub RestoreBy : Past → At → Node → LockOf → Type 0
RestoreBy past at (Target t) lock = RestoreAt past at t lock
RestoreBy past at (Client c) lock = ⊥

abbrev pub RestoresAt : Past → At → Entry → Type 0
RestoresAt past at (Restore lock) = RestoreBy past at at.node lock
RestoresAt past at _ = Unit {0}

abbrev pub Restored : Past → Line → List Line → Type 0
Restored past l later = RestoresAt past l.at l.entry
