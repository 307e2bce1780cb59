-- The rows that write changes back and give locks up, at a state of which `IsSound` holds.
use Rattle.std.specs.Prelude.{◌≡◌, ℕ, List, [], Option}
use Rattle.lu_base.specs.declared.ids.At.{At}
use Rattle.lu_spec_entries.specs.Carried.{HandleFile, Running}
use Rattle.lu_spec_entries.specs.Words.{Entry}
use Rattle.lu_spec_client.specs.States.{Client, Limits}
use Rattle.lu_spec_client.specs.WriteBack.{flush_from, flushing}
use Rattle.lu_spec_client.specs.Locks.{trims, locks_go}
use Rattle.lu_proof_objects.specs.Sound.{IsSound}
use Rattle.lu_proof_objects.specs.Oks.{Goes}

-- unused locks are marked
abbrev pub TrimsGo : Type 0
TrimsGo = (limits : Limits) (at : At) (before : Option Entry) (k : Client) → IsSound k → Goes at before k (trims limits k)

-- the pass over the held locks: changes are written back, and locks given up
abbrev pub LocksGo : Type 0
LocksGo = (limits : Limits) (at : At) (before : Option Entry) (k : Client) → IsSound k → Goes at before k (locks_go limits k)

-- the call that writes a file back, which pins nothing
abbrev pub FlushGoes : Type 0
FlushGoes =
    (at : At) (before : Option Entry) (slot : ℕ) (r : Running) (f : HandleFile) (stripes : List ℕ) (k : Client)
    → r.pins ≡ [] → IsSound k → Goes at before k (flush_from at slot r f stripes k.store)

-- the same, on its way
abbrev pub FlushingGoes : Type 0
FlushingGoes =
    (at : At) (before : Option Entry) (slot stripe : ℕ) (r : Running) (k : Client)
    → r.pins ≡ [] → IsSound k → Goes at before k (flushing at slot stripe r r.file k.store)
