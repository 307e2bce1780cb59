-- What a client does with its held locks: which it marks, which need a write-back, and where one may be given up.
use Rattle.std.specs.Prelude.{◌≡◌, ℕ, ◌&&◌, ◌||◌, nat_lt, if◌then◌else◌, Bool, true, false, List, [], ◌∷◌, Option, Some, None}
use Rattle.lu_base.specs.declared.locks.Extent.{Extent}
use Rattle.lu_held.specs.declared.locks.HeldLock.{HeldLock}
use Rattle.lu_held.specs.declared.names.LockName.{LockName}
use Rattle.lu_spec_entries.specs.Words.{Entry, Marks}
use Rattle.lu_spec_client.specs.Caches.{patch_at}
use Rattle.lu_spec_client.specs.Imports.{Import, import_of, is_serving}
use Rattle.lu_spec_client.specs.Locks.{is_called, trims, gives_up, writes_under}
use Rattle.lu_spec_client.specs.Patches.{Patch, has_change, dirty_in}
use Rattle.lu_spec_client.specs.States.{Client}
use Rattle.lu_client_store.specs.Stored.{stored_after}
use Rattle.lu_client.specs.Clients.{ClientState, stored_of, with_store}

-- ---- unused locks

-- One is marked, and the rows mark it first.
pub record IsTrimmed (old new : ClientState) : Type 0 where
  pub name : LockName
  pub row : trims old.limits old.client ≡ Marks name ∷ trims new.limits new.client
  pub shows : new ≡ with_store (stored_after (stored_of old) (Marks name)) old

-- None is to be marked.
pub record IsFull (old new : ClientState) : Type 0 where
  pub row : trims old.limits old.client ≡ []
  pub stays : new ≡ old

abbrev pub TrimsOne : Bool → ClientState → ClientState → Type 0
TrimsOne true old new = IsTrimmed old new
TrimsOne false old new = IsFull old new

-- ---- write-back

-- whether a change must be written back under a lock that lets its client change this range, if any
abbrev pub must_write_in : Bool → HeldLock → Option Extent → Patch → Bool
must_write_in over h None p = false
must_write_in over h (Some extent) p = (is_called h && has_change extent p) || (over && nat_lt 0 (dirty_in extent p))

-- the row of it
abbrev pub back_row : HeldLock → Client → List Entry
back_row h k = writes_under h (patch_at h.lock.resource k.store.patches)

-- ---- giving up

-- the row of it
abbrev pub gives_row : HeldLock → Client → List Entry
gives_row h k = gives_up k.who h (import_of h.target.0 k.imports)

-- the boot that is known of a target, where it serves the life
abbrev pub boot_served : Import → Option ℕ
boot_served i = if is_serving i.standing then Some i.boot else None
