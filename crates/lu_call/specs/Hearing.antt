-- How a call stands for its client: without locks to look for, or waiting for a lock, and what that lock's grant brings.
use Rattle.std.specs.Prelude.{ℕ, ◌==◌, if◌then◌else◌, Bool, true, false, List, [], ◌∷◌, Option, Some, None}
use Rattle.lu_base.specs.declared.ids.Node.TheVariants.{Target}
use Rattle.lu_base.specs.declared.ids.TargetId.{TargetId}
use Rattle.lu_base.specs.declared.ids.Who.{Who}
use Rattle.lu_msg.specs.declared.messages.GrantNotice.{GrantNotice}
use Rattle.lu_msg.specs.declared.messages.Message.TheVariants as message
use Rattle.lu_held.specs.declared.names.LockName.{LockName}
use Rattle.lu_held.specs.Locks.{named}
use Rattle.lu_spec_entries.specs.Carried.{Stage, Plain, Waits, Running}
use Rattle.lu_spec_entries.specs.Words.{Entry, Send, Hold, Settles, Stands}
use Rattle.lu_call.specs.declared.hearing.CameLock.{CameLock}

-- it has no locks to look for
abbrev pub is_plain : Stage → Bool
is_plain Plain = true
is_plain _ = false

-- the name of the lock that it waits for
abbrev pub waited : Stage → Option LockName
waited (Waits w target l marked) = Some (named target l.cookie)
waited _ = None

-- it waits for a lock of this target
abbrev pub waits_at : TargetId → Stage → Bool
waits_at t (Waits w target l marked) = target.0 == t.0
waits_at t _ = false

-- a target is asked where the lock of this name is, where it is one of that target's
abbrev pub asks_where : Who → ℕ → ℕ → Option LockName → List Entry
asks_where who boot t None = []
asks_where who boot t (Some name) = if name.target.0 == t then Send (Target t) (message.Where who boot name.cookie) ∷ [] else []

-- the lock came by this grant, if it was waited for, and the call stands so
abbrev pub comes_by_grant : ℕ → GrantNotice → ℕ → Running → Option CameLock → List Entry
comes_by_grant t g slot new None = []
comes_by_grant t g slot new (Some came) =
    Hold t came.lock came.marked (Some g.size) g.seen ∷ Settles t g.committed.0 ∷ Stands slot new ∷ []
