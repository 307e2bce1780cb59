-- What calls change of the object, in the words of the theory.
use Rattle.std.specs.Prelude.{ℕ, List, Option, option_map}
use Rattle.lu_spec_entries.specs.declared.changes.Flush.{Flush}
use Rattle.lu_proof_bytes.specs.Object.Words.{Change, Did, Entry, Takes, Tells}
use Rattle.lu_proof_objects.specs.Points.{change_of}
use Rattle.lu_proof_lawful.specs.Projection.Locks.{held, lock_over}

-- a call changes the object, and what is written back is taken: under the held PW lock that is over the change
abbrev pub did_under : ℕ → Change → Option ℕ → Option Entry
did_under c change k = option_map (λ k. Tells c (Did k change)) k

abbrev pub did : ℕ → Flush → List Entry → Option Entry
did c flush h = did_under c (change_of flush) (lock_over c (change_of flush) (held h))

abbrev pub takes_under : ℕ → Change → Option ℕ → Option Entry
takes_under c change k = option_map (λ k. Takes c k change) k

abbrev pub takes : ℕ → Flush → List Entry → Option Entry
takes c flush h = takes_under c (change_of flush) (lock_over c (change_of flush) (held h))
