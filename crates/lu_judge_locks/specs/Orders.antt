-- Locks that wait, without their places.
use Rattle.std.specs.Prelude.{List, map}
use Rattle.lu_base.specs.declared.locks.Ask.{Ask}
use Rattle.lu_base.specs.declared.locks.Lock.{Lock}
use Rattle.lu_judge_locks.specs.declared.lists.Placed.{Placed}

abbrev pub locks_of : List Placed → List Lock
locks_of locks = map (λ p. p.lock.now) locks

-- what they ask for
abbrev pub asks_in : List Placed → List Ask
asks_in locks = map (λ p. p.lock.now.ask) locks
