-- The requests of a client that are in flight at one target: those that were sent and whose replies weren't heard.
use Rattle.std.specs.Prelude.{◌≡◌, ℕ, ◌<◌, ◌==◌, ◌&&◌, nat_lt, if◌then◌else◌, Bool, true, false, not, List, [], ◌∷◌, filter, Option, Some}
use Rattle.std.specs.Prelude.{None}
use Rattle.lu_base.specs.declared.ids.TargetId.{TargetId}
use Rattle.std.specs.List.{list_any}
use Rattle.lu_msg.specs.declared.operations.Op.{Op}
use Rattle.lu_import.specs.declared.requests.InFlight.{InFlight}
use Rattle.lu_import.specs.Objects.{same_object}

-- Whether a request has this number.
abbrev pub has_number : ℕ → List InFlight → Bool
has_number number requests = list_any (λ request. request.xid.0 == number) requests

-- The requests other than that of this number.
abbrev pub without : ℕ → List InFlight → List InFlight
without number requests = filter (λ request. not (request.xid.0 == number)) requests

-- The request of this number.
abbrev pub request_of : ℕ → List InFlight → Option InFlight
request_of number [] = None
request_of number (request ∷ requests) = if request.xid.0 == number then Some request else request_of number requests

-- Whether a request has this tag.
abbrev pub has_tag : ℕ → List InFlight → Bool
has_tag tag requests = list_any (λ request. request.tag == tag) requests

-- The least tag that no request has.
pub record IsLeastFree (requests : List InFlight) (tag : ℕ) : Type 0 where
  pub free : has_tag tag requests ≡ false
  pub least : (lower : ℕ) → lower < tag → has_tag lower requests ≡ true

-- Whether a request is on the object of this operation.
abbrev pub is_busy : List InFlight → Op → Bool
is_busy requests op = list_any (λ request. same_object request.op op) requests

-- Whether this operation, at the front of the queue, has to wait: at an object storage target, from 1 on, while a
-- request on its object is in flight. At the metadata target, 0, nothing waits.
abbrev pub front_waits : TargetId → List InFlight → Op → Bool
front_waits target requests op = nat_lt 0 target.0 && is_busy requests op
