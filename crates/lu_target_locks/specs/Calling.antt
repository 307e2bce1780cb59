-- How locks are called back, one after another: each of which no block is outstanding.
use Rattle.std.specs.Prelude.{ℕ, if◌then◌else◌, List, [], ◌∷◌, ◌++◌, Option, Some, None}
use Rattle.std.specs.List.{fold}
use Rattle.lu_base.specs.declared.ids.Cookie.{Cookie}
use Rattle.lu_base.specs.declared.locks.Lock.{Lock}
use Rattle.lu_callback.specs.declared.callbacks.Asked.{Asked}
use Rattle.lu_callback.specs.declared.callbacks.Kind.TheVariants as kind
use Rattle.lu_callback.specs.Callbacks.{is_outstanding, with_asked}
use Rattle.lu_lockspace.specs.Spaces.{SpaceState, lock_of}

-- What is outstanding, and the locks that were called back so far.
pub record Calling : Type 0 where
  pub asked : List Asked
  pub called : List Lock

abbrev pub calling : List Asked → List Lock → Calling
calling asked called = record { asked = asked; called = called }

abbrev pub block_at : (tick : ℕ) → Cookie → Asked
block_at tick cookie = record { cookie = cookie; kind = kind.Block; tick = tick }

abbrev pub with_found : List Lock → Option Lock → List Lock
with_found locks None = locks
with_found locks (Some l) = locks ++ l ∷ []

-- the lock of this cookie
abbrev pub call_one : SpaceState → (tick : ℕ) → Calling → Cookie → Calling
call_one space tick before cookie =
    if is_outstanding cookie kind.Block before.asked
    then before
    else calling (with_asked (block_at tick cookie) before.asked) (with_found before.called (lock_of cookie.0 space))

-- those of these cookies
abbrev pub call_all : SpaceState → (tick : ℕ) → List Asked → List Cookie → Calling
call_all space tick asked cookies = fold (call_one space tick) (calling asked []) cookies
