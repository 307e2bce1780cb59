-- Which facts may be used: those under locks that are held and not called back. Where a caller says which locks are called
-- back, it is enough that this is so of the locks under which something is known.
use Rattle.std.specs.Prelude.{◌≡◌, ◌==◌, ◌&&◌, not, Bool, List, [], ◌∷◌, filter, Option}
use Rattle.std.specs.List.{list_any}
use Rattle.lu_base.specs.declared.ids.Cookie.{Cookie}
use Rattle.lu_part.specs.declared.parts.Part.{Part}
use Rattle.lu_held.specs.declared.locks.HeldLock.{HeldLock}
use Rattle.lu_spec_client.specs.Facts.{Fact}
use Rattle.lu_spec_client.specs.Known.{Notes, same_part, is_usable, of_least_cookie}

-- What is known of a part under a lock that may be used, of several the one of least cookie.
abbrev pub fact_under : Part → (Cookie → Bool) → List Fact → Option Fact
fact_under p may_use facts = of_least_cookie (filter (λ (f : Fact). same_part p f.part && may_use f.cookie) facts)

-- These locks may be used exactly where they are held and not called back.
abbrev pub Agrees : (Cookie → Bool) → List HeldLock → List Fact → Type 0
Agrees may_use held [] = Unit {0}
Agrees may_use held (f ∷ facts) = (may_use f.cookie ≡ is_usable f.cookie held) × Agrees may_use held facts

-- These facts and the locks that are held, of which those may be used that the test says.
abbrev pub AreSeen : (Cookie → Bool) → List Fact → Notes → Type 0
AreSeen may_use facts n = (n.facts ≡ facts) × Agrees may_use n.held facts

-- It isn't one of the locks that are called back.
abbrev pub isn't_marked : List Cookie → Cookie → Bool
isn't_marked marked c = not (list_any (λ (m : Cookie). m.0 == c.0) marked)
