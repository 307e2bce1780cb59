-- A held lock: its name, what a call does to it, and which uses it serves (this project's profile; Lustre's manual
-- calls a lock that is kept for later uses an unused one).
use Rattle.std.specs.Prelude.{ℕ, ◌+◌, ◌-◌, ◌^◌, ◌==◌, ◌&&◌, nat_le, min, Bool, true, false, not}
use Rattle.lu_base.specs.declared.ids.TargetId.{TargetId}
use Rattle.lu_base.specs.declared.ids.Cookie.{Cookie}
use Rattle.lu_base.specs.declared.locks.Lock.{Lock}
use Rattle.lu_base.specs.declared.locks.Mode.{Mode}
use Rattle.lu_base.specs.declared.locks.Resource.{Resource}
use Rattle.lu_base.specs.declared.locks.Policy.{Policy}
use Rattle.lu_base.specs.declared.locks.Policy.TheVariants.{Bits, Range}
use Rattle.lu_lock.specs.Modes.{serves}
use Rattle.lu_lock.specs.Growth.{the_end}
use Rattle.lu_lock.specs.Overlap.{covers}
use Rattle.lu_held.specs.declared.names.LockName.{LockName}
use Rattle.lu_held.specs.declared.locks.HeldLock.{HeldLock}
use Rattle.lu_held.specs.declared.locks.Use.{Use}
use Rattle.lu_held.specs.declared.locks.Change.{Change}
use Rattle.lu_held.specs.declared.locks.Change.TheVariants.{Mark, Unmark, Pin, Unpin}
use Rattle.lu_held.specs.declared.locks.Wanted.{Wanted}
use Rattle.lu_held.specs.declared.locks.Wanted.TheVariants.{Of, Marked, Ready, Serving, ServingToTheEnd, Holding}
use Rattle.lu_held.specs.Names.{same_name}

-- The name of a lock of this target.
abbrev pub named : TargetId → Cookie → LockName
named target cookie = record { target = target; cookie = cookie }

-- The name under which it is held.
abbrev pub name_of : HeldLock → LockName
name_of held = named held.target held.lock.cookie

-- A held lock as it was granted, its cookie, and both its target and its cookie.
abbrev pub lock_of : HeldLock → Lock
lock_of held = held.lock

abbrev pub cookie_of : HeldLock → Cookie
cookie_of held = held.lock.cookie

abbrev pub pair_of : HeldLock → TargetId × Cookie
pair_of held = (held.target, held.lock.cookie)

-- A use of this target and resource, which wants this mode and policy.
abbrev pub use_of : TargetId → Resource → Mode → Policy → Use
use_of target resource mode policy = record { target = target; resource = resource; mode = mode; policy = policy }

-- It is held under this name.
abbrev pub is_named : LockName → HeldLock → Bool
is_named name held = same_name name (name_of held)

-- The most pins that are counted.
abbrev pub most_pins : ℕ
most_pins = 2 ^ 64 - 1

-- What a call does to one lock.
abbrev pub after : Change → HeldLock → HeldLock
after Mark held = record held { marked = true }
after Unmark held = record held { marked = false }
after Pin held = record held { pins = min (held.pins + 1) most_pins }
after Unpin held = record held { pins = held.pins - 1 }

-- Both are one resource.
abbrev pub same_resource : Resource → Resource → Bool
same_resource one other = one.fid.0 == other.fid.0 && one.stripe == other.stripe

-- It is a range to the end.
abbrev pub reaches_end : Policy → Bool
reaches_end (Range extent) = extent.last == the_end
reaches_end (Bits _) = false

-- It is a range that holds this offset.
abbrev pub holds_offset : ℕ → Policy → Bool
holds_offset offset (Range extent) = nat_le extent.first offset && nat_le offset extent.last
holds_offset offset (Bits _) = false

-- It is of that target, on that resource, and not marked.
abbrev pub is_for : TargetId → Resource → HeldLock → Bool
is_for target resource held = held.target.0 == target.0 && same_resource held.lock.resource resource && not held.marked

-- It does for this use: it isn't marked, its mode serves, and it covers what is wanted.
abbrev pub serves_use : Use → HeldLock → Bool
serves_use wanted held =
    is_for wanted.target wanted.resource held
    && serves held.lock.ask.mode wanted.mode
    && covers held.lock.ask.policy wanted.policy

-- It is one of those that are looked for.
abbrev pub matches : Wanted → HeldLock → Bool
matches (Of target) held = held.target.0 == target.0
matches (Marked target) held = held.target.0 == target.0 && held.marked
matches Ready held = held.marked && held.pins == 0
matches (Serving wanted) held = serves_use wanted held
matches (ServingToTheEnd wanted) held = serves_use wanted held && reaches_end held.lock.ask.policy
matches (Holding target resource offset) held = is_for target resource held && holds_offset offset held.lock.ask.policy

-- It is neither pinned nor marked.
abbrev pub is_free : HeldLock → Bool
is_free held = held.pins == 0 && not held.marked
