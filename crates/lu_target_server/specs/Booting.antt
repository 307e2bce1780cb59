-- A target that begins.
use Rattle.std.specs.Prelude.{◌≡◌, ℕ, ◌+◌, ◌≤◌, List, []}
use Rattle.lu_msg.specs.declared.commits.Batch.{Batch}
use Rattle.lu_service.specs.declared.services.Kind.{Kind}
use Rattle.lu_service.specs.Contents.{Contents}
use Rattle.lu_spec_entries.specs.Words.{Boot}
use Rattle.lu_spec_target.specs.States.{Setting, Target, no_contents, after}
use Rattle.lu_target_refines.specs.Journals.{ShowsDisk}
use Rattle.lu_target_refines.specs.Lives.{OfClients}
use Rattle.lu_spec_target.specs.Phase.{first_of}
use Rattle.lu_window.specs.States.{State, opened}
use Rattle.lu_target_store.specs.Stores.{StoreState}
use Rattle.lu_target_locks.specs.Servers as locking
use Rattle.lu_target_locks.specs.Servers.{HasNoLocks}
use Rattle.lu_target_redo.specs.Shown as redo
use Rattle.lu_target_server.specs.declared.booting.Place.{Place}
use Rattle.lu_target_server.specs.Servers.{ServerState, IsKindOf}
use Rattle.lu_target_server.specs.Recovering.{Gathers}

-- the numbers of the run are those that the target knows, and its service is a new one of its kind
pub record IsStart (place : Place) (kind : Kind) (own : Contents) (setting : Setting) : Type 0 where
  pub id : setting.id ≡ place.id.0
  pub sort : IsKindOf place.id.0 kind
  pub expire : setting.expire ≡ place.expire
  pub contents : redo.Shows kind setting.osts 1 own no_contents

-- And this is what stands on its disk: each client has one life there.
pub record StandsOn (place : Place) (kind : Kind) (own : Contents) (batches : List Batch) (v : Target) : Type 0 where
  pub start : IsStart place kind own v.setting
  pub disk : ShowsDisk batches v
  pub closed : v.closed ≤ v.boot
  pub clients : OfClients v.lives

-- A server of this boot over this store, without locks and requests.
pub record IsOver (place : Place) (boot : ℕ) (kind : Kind) (own : Contents) (store : StoreState) (s : ServerState) : Type 0 where
  pub id : s.id ≡ place.id.0
  pub booted : s.boot ≡ boot
  pub expire : s.expire ≡ place.expire
  pub sort : s.kind ≡ kind
  pub contents : s.contents ≡ own
  pub stored : s.store ≡ store
  pub requests : s.requests ≡ []
  pub locks : (v : Target) → HasNoLocks boot v → locking.Shows s.locks v
  pub counts : (v : Target) → v.boot ≡ boot → v.cookie ≡ first_of boot → v.ticks ≡ 0 → locking.ShowsCounts s.locks v

-- It gathers with a new window.
abbrev pub IsFresh : ServerState → Target → Type 0
IsFresh s w = (x : State) → x ≡ opened w.lives w.committed → Gathers s x w

-- it gathers so in the boot after this state's
abbrev pub IsBooting : ServerState → Target → Type 0
IsBooting s v = IsFresh s (after v (Boot (v.disk.boot + 1) v.disk))
