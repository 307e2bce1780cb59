-- Requests that wait to be answered, by life and number.
use Rattle.std.specs.Prelude.{◌==◌, ◌&&◌, if◌then◌else◌, Bool, List, [], ◌∷◌, Option, Some, None}
use Rattle.lu_base.specs.declared.ids.Who.{Who}
use Rattle.lu_base.specs.declared.ids.Xid.{Xid}
use Rattle.lu_msg.specs.declared.messages.Request.{Request}
use Rattle.lu_spec_entries.specs.Words.{same_life}

abbrev pub is_named : Who → Xid → Request → Bool
is_named who xid r = same_life who r.who && xid.0 == r.xid.0

-- the first one of that name
abbrev pub request_of : Who → Xid → List Request → Option Request
request_of who xid [] = None
request_of who xid (r ∷ requests) = if is_named who xid r then Some r else request_of who xid requests
