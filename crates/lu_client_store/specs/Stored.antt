-- What a client holds, as one state: how many unused locks it may keep, what it knows of names, and its store of locks,
-- bytes, sizes, offsets shown and changes. Each entry of its turns makes of the parts what the client's rows say.
use Rattle.std.specs.Prelude.{ℕ, ◌+◌, ◌≤◌, ◌^◌, List, [], ◌∷◌, length, filter, drop, reverse, Option, Some, None}
use Rattle.lu_base.specs.declared.locks.Resource.{Resource}
use Rattle.lu_held.specs.declared.names.LockName.{LockName}
use Rattle.lu_held.specs.Locks.{is_free}
use Rattle.lu_held.specs.Held.{HeldState}
use Rattle.lu_spec_entries.specs.declared.changes.Flush.{Flush}
use Rattle.lu_spec_entries.specs.declared.changes.Flush.TheVariants.{Cut, Put}
use Rattle.lu_spec_entries.specs.Words.{Entry, Marks, WritesBack}
use Rattle.lu_spec_client.specs.Facts.{Fact, facts_after}
use Rattle.lu_spec_client.specs.Patches.{Patch}
use Rattle.lu_spec_client.specs.Caches.{patches_after}
use Rattle.lu_spec_client.specs.Locks.{marks_of}
use Rattle.lu_spec_client.specs.States.{Store, empty_store, store_after}

pub record StoreState : Type 0 where
  pub unused : ℕ
  pub facts : List Fact
  pub store : Store

-- nothing is held, known or changed
abbrev pub first_state : ℕ → StoreState
first_state unused = record { unused = unused; facts = []; store = empty_store }

-- ---- after entries

abbrev pub stored_after : StoreState → Entry → StoreState
stored_after s e = record { unused = s.unused; facts = facts_after s.facts e; store = store_after s.store e }

abbrev pub stored_turn : StoreState → List Entry → StoreState
stored_turn s [] = s
stored_turn s (e ∷ es) = stored_turn (stored_after s e) es

abbrev pub facts_turn : List Fact → List Entry → List Fact
facts_turn facts [] = facts
facts_turn facts (e ∷ es) = facts_turn (facts_after facts e) es

-- ---- write-backs

-- what a change writes lies below 2^40, the greatest size of a file
abbrev pub IsInFile : Flush → Type 0
IsInFile (Cut n) = n ≤ 2 ^ 40
IsInFile (Put at bs) = at + length bs ≤ 2 ^ 40

-- a change, if any, of an object is written back
abbrev pub patches_sent : Resource → Option Flush → List (Resource × Patch) → List (Resource × Patch)
patches_sent r None patches = patches
patches_sent r (Some flush) patches = patches_after patches (WritesBack r flush)

abbrev pub stored_sent : Resource → Option Flush → StoreState → StoreState
stored_sent r None s = s
stored_sent r (Some flush) s = stored_after s (WritesBack r flush)

-- ---- unused locks

-- the held locks, as they are by themselves
abbrev pub locks_held : StoreState → HeldState
locks_held s = record { unused = s.unused; locks = s.store.held }

-- a lock, if any, is marked
abbrev pub stored_marked : Option LockName → StoreState → StoreState
stored_marked None s = s
stored_marked (Some name) s = stored_after s (Marks name)

-- the marks that are still to be put: on the least recently used of those that are neither pinned nor marked, where these
-- are more than may be kept
abbrev pub trims_left : StoreState → List Entry
trims_left s = marks_of (reverse (drop s.unused (filter is_free s.store.held)))
