-- The rows of a call on bytes, at a state of which `IsSoundAt` holds.
use Rattle.std.specs.Prelude.{◌≡◌, ℕ, List, ◌∷◌, Option, Some}
use Rattle.lu_base.specs.declared.ids.At.{At}
use Rattle.lu_base.specs.declared.ids.Fid.{Fid}
use Rattle.lu_base.specs.declared.locks.Lock.{Lock}
use Rattle.lu_layout.specs.Raid0.{Raid0}
use Rattle.lu_layout.specs.Sound.{IsLayout}
use Rattle.lu_held.specs.declared.locks.Use.{Use}
use Rattle.lu_held.specs.declared.names.LockName.{LockName}
use Rattle.lu_spec_entries.specs.Carried.{HandleFile, Kind, Work, Running}
use Rattle.lu_spec_entries.specs.Words.{Entry}
use Rattle.lu_spec_client.specs.States.{Client}
use Rattle.lu_spec_client.specs.Starts.{looks_at, comes_at, starts_bytes, stats}
use Rattle.lu_proof_objects.specs.Sound.{IsSoundAt}
use Rattle.lu_proof_objects.specs.Uses.{IsFor, IsOnBytes, IsShort, IsWork}
use Rattle.lu_proof_objects.specs.Oks.{CallGoes}

-- it looks for its locks, and acts once it has them
abbrev pub LooksGo : Type 0
LooksGo =
    (at : At) (before : Option Entry) (slot : ℕ) (r : Running) (w : Work) (k : Client)
    → IsSoundAt k → IsOnBytes w.kind → IsWork k.store.held r.pins w → CallGoes at before k (looks_at at slot w.kind r w k.store)

-- the lock that it asked for came
abbrev pub ComesGo : Type 0
ComesGo =
    (at : At) (before : Option Entry) (slot : ℕ) (r : Running) (w : Work) (l : Lock) (k : Client)
    → IsSoundAt k → IsOnBytes w.kind → IsWork k.store.held r.pins w
    → ((wanted : Use) (left : List Use) → w.left ≡ wanted ∷ left → IsFor k.store.held wanted l)
    → CallGoes at before k (comes_at at slot w.kind r w k.store l)

-- it begins
abbrev pub StartsGo : Type 0
StartsGo =
    (at : At) (before : Option Entry) (slot : ℕ) (kind : Kind) (r : Running) (f : HandleFile) (k : Client)
    → IsSoundAt k → IsOnBytes kind → IsShort kind → IsLayout f.layout → CallGoes at before k (starts_bytes at slot kind r k.store (Some f))

-- a stat of a file goes on for its size
abbrev pub StatsGo : Type 0
StatsGo =
    (at : At) (before : Option Entry) (slot : ℕ) (fid : Fid) (layout : Raid0) (kind : Kind) (names : List LockName) (r : Running)
    (k : Client)
    → IsSoundAt k → IsOnBytes kind → IsShort kind → IsLayout layout → CallGoes at before k (stats at slot fid layout kind names r k.store)
