-- The parts of what is asked of a message that comes, as they are tested.
use Rattle.std.specs.Prelude.{ℕ, ◌==◌, ◌||◌, Bool, not, List, [], ◌∷◌, Option, Some, None}
use Rattle.std.specs.List.{list_any}
use Rattle.lu_base.specs.declared.ids.Cookie.{Cookie}
use Rattle.lu_base.specs.declared.locks.Lock.{Lock}
use Rattle.lu_held.specs.declared.locks.HeldLock.{HeldLock}
use Rattle.lu_held.specs.Held.{is_held}
use Rattle.lu_held.specs.Locks.{named}

-- one of these locks has this cookie
abbrev pub has_cookie : ℕ → List Lock → Bool
has_cookie cookie locks = list_any (λ (l : Lock). cookie == l.cookie.0) locks

-- a target's lock of this cookie isn't held, and these, which come before it, aren't it
abbrev pub is_new : ℕ → Cookie → List Lock → List HeldLock → Bool
is_new t cookie earlier held = not (is_held (named (record { 0 = t }) cookie) held || has_cookie cookie.0 earlier)

-- the cookies of a list of locks with this one, if any
abbrev pub cookies_of : Option Cookie → List Cookie
cookies_of None = []
cookies_of (Some cookie) = cookie ∷ []
