-- The lists of locks that are held, by a key.
use Rattle.std.specs.Prelude.{Bool, List, [], map, unwrap_or}
use Rattle.std.specs.Option.{option_map}
use Rattle.std.specs.HashMap.{get}
use Rattle.lu_spec_laws.specs.Words.Held.{Held}
use Rattle.lu_judge_windows.specs.declared.lists.Holding.{Holding}
use Rattle.lu_judge_windows.specs.declared.lists.Lists.{Lists}

-- the lock as the laws see it
abbrev pub held_of : Holding → Held
held_of h = record { who = h.who; target = h.target; lock = h.lock.now }

-- the list of a key
abbrev pub listed : {K : Type 0} → (K → K → Bool) → Lists K → K → List Held
listed same t k = unwrap_or (option_map (λ list. map held_of list.items) (get same t.lists k)) []
