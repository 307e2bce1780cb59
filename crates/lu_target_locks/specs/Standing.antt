-- Locks that stand again when a window closes, at a server that has counted the cookies and ticks of its boot.
use Rattle.std.specs.Prelude.{◌≡◌, ◌<◌, ◌≤◌, if◌then◌else◌, Bool, List, [], ◌∷◌, All, AllPairs}
use Rattle.lu_base.specs.declared.locks.Lock.{Lock}
use Rattle.lu_lock.specs.Overlap.{IsOrdered}
use Rattle.lu_spec_target.specs.Outcomes.{restored}
use Rattle.lu_spec_target.specs.States.{Target}

-- ranges have their ends in order
abbrev pub AreOrdered : List Lock → Type 0
AreOrdered locks = All (λ l. IsOrdered l.ask.policy) locks

abbrev pub where_standing : Bool → Lock → List Lock
where_standing stands l = if stands then l ∷ [] else []

-- Once the window of v is closed with these locks, which are of earlier boots and whose cookies rise: those stand that meet
-- none before them, and nothing waits or was asked.
pub record StandAgain (locks : List Lock) (v w : Target) : Type 0 where
  pub rising : AllPairs (λ earlier later. earlier.cookie.0 < later.cookie.0) locks
  pub earlier : All (λ l. l.cookie.0 ≤ v.cookie) locks
  pub granted : w.granted ≡ restored [] locks
  pub waiting : w.waiting ≡ []
  pub called : w.called ≡ []
  pub glimpses : w.glimpses ≡ []
  pub boot : w.boot ≡ v.boot
  pub cookie : w.cookie ≡ v.cookie
  pub ticks : w.ticks ≡ v.ticks
