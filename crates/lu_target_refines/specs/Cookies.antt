-- Locks by their cookies.
use Rattle.std.specs.Prelude.{◌≡◌, ⊤, ℕ, ◌<◌, ◌==◌, ◌&&◌, if◌then◌else◌, false, List, [], ◌∷◌, Option, Some, None}
use Rattle.lu_base.specs.declared.ids.Cookie.{Cookie}
use Rattle.lu_base.specs.declared.ids.Who.{Who}
use Rattle.lu_base.specs.declared.locks.Lock.{Lock}
use Rattle.lu_base.specs.declared.locks.Resource.{Resource}
use Rattle.lu_held.specs.Locks.{same_resource}
use Rattle.lu_spec_entries.specs.Words.{same_life}

-- each cookie is that of one lock
abbrev pub HaveOther : Cookie → List Lock → Type 0
HaveOther cookie [] = ⊤
HaveOther cookie (l ∷ locks) = ((l.cookie.0 == cookie.0) ≡ false) × HaveOther cookie locks

abbrev pub HaveOneEach : List Lock → Type 0
HaveOneEach [] = ⊤
HaveOneEach (l ∷ locks) = HaveOther l.cookie locks × HaveOneEach locks

-- the cookies rise from above this number on
abbrev pub AreAbove : ℕ → List Lock → Type 0
AreAbove n [] = ⊤
AreAbove n (l ∷ locks) = (n < l.cookie.0) × AreAbove l.cookie.0 locks

-- the lock of a cookie, whoever has it and on whatever it is
abbrev pub with_cookie : Cookie → List Lock → Option Lock
with_cookie cookie [] = None
with_cookie cookie (l ∷ locks) = if l.cookie.0 == cookie.0 then Some l else with_cookie cookie locks

-- where it is that life's, on that object
abbrev pub of_asker : Who → Resource → Option Lock → Option Lock
of_asker who r None = None
of_asker who r (Some l) = if same_resource l.resource r && same_life l.ask.who who then Some l else None
