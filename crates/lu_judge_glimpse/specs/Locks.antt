-- What locks are on.
use Rattle.std.specs.Prelude.{◌≡◌, ℕ, ◌==◌, ◌&&◌, if◌then◌else◌, Option, Some, None}
use Rattle.std.specs.Option.{option_map}
use Rattle.std.specs.HashMap.{get_by}
use Rattle.lu_base.specs.declared.ids.Node.{Node}
use Rattle.lu_base.specs.declared.ids.Node.TheVariants.{Client, Target}
use Rattle.lu_base.specs.declared.locks.Lock.{Lock}
use Rattle.lu_base.specs.declared.locks.Resource.{Resource}
use Rattle.lu_spec_laws.specs.Words.Pasts.{Past}
use Rattle.lu_spec_laws.specs.Words.Seen.{lock_with}
use Rattle.lu_judge_glimpse.specs.declared.locks.Locks.{Locks}

abbrev pub resource_in : Locks → ℕ → ℕ → Option Resource
resource_in t target cookie = get_by (λ k. target == k.0 && cookie == k.1) t.by_cookie

-- where a node gives a lock
abbrev pub put_step : ℕ → ℕ → Node → Lock → Option Resource → Option Resource
put_step target cookie (Client c) lock old = old
put_step target cookie (Target other) lock old =
    if other == target && lock.cookie.0 == cookie then Some lock.resource else old

abbrev pub ShowsLocks : Locks → Past → Type 0
ShowsLocks t past =
    (target cookie : ℕ) → resource_in t target cookie ≡ option_map (λ lock. lock.resource) (lock_with target cookie past)
