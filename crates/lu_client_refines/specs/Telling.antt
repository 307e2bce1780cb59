-- What a client tells a target that doesn't serve its life, by how the life stands there.
use Rattle.std.specs.Prelude.{ℕ, List, [], ◌∷◌, map, Option}
use Rattle.lu_base.specs.declared.ids.Who.{Who}
use Rattle.lu_base.specs.declared.locks.Lock.{Lock}
use Rattle.lu_held.specs.declared.locks.HeldLock.{HeldLock}
use Rattle.lu_spec_entries.specs.Carried.{Running}
use Rattle.lu_spec_entries.specs.Words.{Entry, Unmarks}
use Rattle.lu_spec_client.specs.Imports.{Kept, Standing, Joining, Recovering, Serving}
use Rattle.lu_spec_client.specs.Recovery.{joins, tells_all, forgets_stage, on_calls}

-- The locks that are told, as they are held.
abbrev pub locks_of : List HeldLock → List Lock
locks_of held = map (λ (h : HeldLock). h.lock) held

-- What is told under this boot: a life that is joining joins, another tells its replays, these locks, and the word.
abbrev pub tells_as : Who → ℕ → ℕ → Kept → List HeldLock → Standing → List Entry
tells_as who boot t kept held Joining = joins who boot t ∷ []
tells_as who boot t kept held Recovering = tells_all who boot t kept held
tells_as who boot t kept held Serving = []

-- What a client forgets before it tells a target that is up again what it has: marks of locks, and asks that wait. A life
-- that is joining has none.
abbrev pub forgets : ℕ → List (Option Running) → Standing → List Entry
forgets t calls Joining = []
forgets t calls _ = Unmarks t ∷ on_calls (forgets_stage t) 0 calls
