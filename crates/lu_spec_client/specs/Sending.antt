-- Sending: to each target in order that serves the life, requests from the front of its queue, each with the next number and
-- the least free tag, while there is room (Lustre Operations Manual: requests in flight, and their tags).
use Rattle.std.specs.Prelude.{ℕ, ◌+◌, nat_lt, ◌&&◌, not, if◌then◌else◌, Bool, false, List, [], ◌∷◌, ◌++◌, length, Option, Some, None}
use Rattle.std.specs.List.{list_any}
use Rattle.lu_base.specs.declared.ids.Node.TheVariants.{Target}
use Rattle.lu_base.specs.declared.ids.Who.{Who}
use Rattle.lu_base.specs.declared.locks.Resource.{Resource}
use Rattle.lu_msg.specs.declared.messages.Message.TheVariants as message
use Rattle.lu_msg.specs.declared.messages.Request.{Request as RequestOf}
use Rattle.lu_msg.specs.declared.operations.Op.{Op}
use Rattle.lu_msg.specs.declared.operations.Op.TheVariants as op
use Rattle.lu_held.specs.Locks.{same_resource}
use Rattle.lu_spec_entries.specs.Carried.{Queued, Flight}
use Rattle.lu_spec_entries.specs.Words.{Entry, Send, Flies}
use Rattle.lu_spec_client.specs.Imports.{Import, is_serving, free_tag}
use Rattle.lu_spec_client.specs.States.{Limits}

-- ---- one object, one request

abbrev pub object_of : Op → Option Resource
object_of (op.Enqueue r mode extent) = Some r
object_of (op.Get r cookie page) = Some r
object_of (op.Put r cookie at bs) = Some r
object_of (op.Cut r cookie n) = Some r
object_of (op.Size r) = Some r
object_of _ = None

abbrev pub same_object : Option Resource → Option Resource → Bool
same_object (Some a) (Some b) = same_resource a b
same_object _ _ = false

-- at an object storage target the front waits while a request on its object is in flight
abbrev pub front_waits : ℕ → Op → List Flight → Bool
front_waits t o flights = nat_lt 0 t && list_any (λ (f : Flight). same_object (object_of f.op) (object_of o)) flights

-- ---- requests

-- a request in flight, as it is sent and sent again
abbrev pub request_of : Who → ℕ → Flight → RequestOf
request_of who boot f = record { who = who; boot = boot; xid = record { 0 = f.xid }; tag = f.tag; op = f.op }

abbrev pub sends_request : Who → ℕ → ℕ → Flight → Entry
sends_request who boot t f = Send (Target t) (message.Request (request_of who boot f))

-- those in flight are sent again in rising number
abbrev pub resends : Who → ℕ → ℕ → List Flight → List Entry
resends who boot t [] = []
resends who boot t (f ∷ flights) = sends_request who boot t f ∷ resends who boot t flights

-- the request that the front of the queue becomes
abbrev pub next_flight : ℕ → List Flight → Queued → Flight
next_flight last flights q = record { xid = last + 1; tag = free_tag flights; op = q.op; slot = q.slot }

abbrev pub has_room : Limits → ℕ → Op → List Flight → Bool
has_room limits t o flights = nat_lt (length flights) limits.flight && not (front_waits t o flights)

abbrev pub flies : Who → ℕ → ℕ → Flight → List Entry → List Entry
flies who boot t f more = Flies t f ∷ sends_request who boot t f ∷ more

abbrev pub sends : Limits → Who → ℕ → ℕ → ℕ → List Flight → List Queued → List Entry
sends limits who boot t last flights [] = []
sends limits who boot t last flights (q ∷ queue) =
    if has_room limits t q.op flights
    then flies who boot t (next_flight last flights q) (sends limits who boot t (last + 1) (flights ++ next_flight last flights q ∷ [])
    queue)
    else []

abbrev pub sends_to : Limits → Who → ℕ → Import → List Entry
sends_to limits who t i = if is_serving i.standing then sends limits who i.boot t i.last i.flights i.queue else []

abbrev pub sends_all : Limits → Who → ℕ → List Import → List Entry
sends_all limits who t [] = []
sends_all limits who t (i ∷ imports) = sends_to limits who t i ++ sends_all limits who (t + 1) imports
