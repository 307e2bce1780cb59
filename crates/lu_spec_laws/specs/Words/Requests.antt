-- The requests of a life at a target. The operation and the tag of a request number are those of the first request
-- sent with it; it is in flight from then on until its reply is heard.
use Rattle.std.specs.Prelude.{ℕ, Bool, true, false, not, ◌==◌, ◌&&◌, if◌then◌else◌, Option, Some, None, List, [], ◌∷◌, filter}
use Rattle.std.specs.List.{list_any}
use Rattle.std.specs.Option.{option_map}
use Rattle.lu_base.specs.declared.ids.Node.{Node}
use Rattle.lu_base.specs.declared.ids.Who.{Who}
use Rattle.lu_base.specs.declared.locks.Resource.{Resource}
use Rattle.lu_msg.specs.declared.operations.Op.{Op}
use Rattle.lu_msg.specs.declared.operations.Op.TheVariants as op
use Rattle.lu_msg.specs.declared.messages.Request.{Request as RequestOf}
use Rattle.lu_msg.specs.declared.messages.Message.{Message}
use Rattle.lu_msg.specs.declared.messages.Message.TheVariants.{Request}
use Rattle.lu_trace.specs.declared.entries.Entry.TheVariants.{Send, Heard}
use Rattle.lu_trace.specs.declared.entries.Line.{Line}
use Rattle.lu_spec_machine.specs.Tree.{same_life}
use Rattle.lu_spec_laws.specs.Words.Pasts.{Past, is_target, or_else, some_line}
use Rattle.lu_spec_laws.specs.Words.Lives.{is_by}

-- ---- the first request

-- the request is of that life, and it goes to that target
abbrev pub is_of : ℕ → Who → Node → RequestOf → Bool
is_of t who to r = is_target t to && same_life r.who who

-- what was sent before comes first
abbrev pub first_with : Option RequestOf → ℕ → Who → ℕ → Node → Message → Option RequestOf
first_with before t who x to (Request r) = or_else before (if is_of t who to r && r.xid.0 == x then Some r else None)
first_with before t who x to _ = before

abbrev pub first_request : Past → ℕ → Who → ℕ → Option RequestOf
first_request [] t who x = None
first_request (l ∷ past) t who x =
    elim l.entry [
      | Send number to message ↦ first_with (first_request past t who x) t who x to message
      | _ ↦ first_request past t who x
    ]

-- the operation of a request number
abbrev pub asked : Past → ℕ → Who → ℕ → Option Op
asked past t who x = option_map (λ r. r.op) (first_request past t who x)

-- ---- what is in flight

abbrev pub hears : ℕ → Who → ℕ → Past → Line → Bool
hears t who x past l =
    elim l.entry [ Heard target xid ↦ is_by who past l.at.node && target.0 == t && xid.0 == x | _ ↦ false ]

-- the life heard the reply to that request
abbrev pub has_heard : ℕ → Who → ℕ → Past → Bool
has_heard t who x past = some_line (hears t who x) past

abbrev pub has_number : ℕ → List RequestOf → Bool
has_number x flight = list_any (λ r. r.xid.0 == x) flight

abbrev pub without_number : ℕ → List RequestOf → List RequestOf
without_number x flight = filter (λ r. not (r.xid.0 == x)) flight

abbrev pub flight_with : List RequestOf → ℕ → Who → Past → Node → Message → List RequestOf
flight_with flight t who past to (Request r) =
    if is_of t who to r && not (has_number r.xid.0 flight) && not (has_heard t who r.xid.0 past) then r ∷ flight else flight
flight_with flight t who past to _ = flight

-- the request numbers that the life sent to the target and that it hasn't heard, each as it was first sent
abbrev pub in_flight : ℕ → Who → Past → List RequestOf
in_flight t who [] = []
in_flight t who (l ∷ past) =
    elim l.entry [
      | Send number to message ↦ flight_with (in_flight t who past) t who past to message
      | Heard target xid ↦ if is_by who past l.at.node && target.0 == t then without_number xid.0 (in_flight t who past)
          else in_flight t who past
      | _ ↦ in_flight t who past
    ]

-- ---- the object of an operation of an object storage target

abbrev pub object : Op → Option Resource
object (op.Enqueue resource mode extent) = Some resource
object (op.Get resource cookie page) = Some resource
object (op.Put resource cookie offset bytes) = Some resource
object (op.Cut resource cookie size) = Some resource
object (op.Size resource) = Some resource
object (op.Lookup path) = None
object (op.Stat path) = None
object (op.List path) = None
object (op.Layout path) = None
object (op.Mkdir path) = None
object (op.Create path stripe_size count) = None
object (op.Link old new) = None
object (op.Unlink path) = None
object (op.Rmdir path) = None
object (op.Rename old new) = None
object (op.Chmod path mode) = None
object (op.Open path) = None
object (op.Close opened fid) = None

abbrev pub same_resource : Option Resource → Option Resource → Bool
same_resource (Some a) (Some b) = a.fid.0 == b.fid.0 && a.stripe == b.stripe
same_resource _ _ = false

abbrev pub same_object : RequestOf → RequestOf → Bool
same_object a b = same_resource (object a.op) (object b.op)
