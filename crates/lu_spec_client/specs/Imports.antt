-- What a client knows of one target (Lustre Operations Manual, recovery: the import), a field at a time. Each field lists
-- the entries that it reads; its step tests nothing but what is in the entry.
use Rattle.std.specs.Prelude.{ℕ, zero, suc, max, ◌+◌, Bool, true, false, not, nat_lt, ◌==◌, ◌||◌, if◌then◌else◌, List, [], ◌∷◌, ◌++◌}
use Rattle.std.specs.List.{filter}
use Rattle.lu_base.specs.declared.ids.Txn.{Txn}
use Rattle.lu_base.specs.declared.ids.Xid.{Xid}
use Rattle.lu_msg.specs.declared.messages.Reply.{Reply as ReplyTo}
use Rattle.lu_msg.specs.declared.operations.Op.{Op}
use Rattle.lu_spec_entries.specs.Carried.{Queued, Flight}
use Rattle.lu_spec_entries.specs.Words.{Entry, Heard, Hold, Life, Queues, Flies, Knows, Serves, Settles, Line}
use Rattle.lu_spec_entries.specs.Concerns.{is_about}
use Rattle.lu_spec_entries.specs.Fields.{at_import}

-- ---- the boot of the target that the client knows

abbrev pub reads_known : Entry → Bool
reads_known (Knows target boot) = true
reads_known _ = false

abbrev pub known_after : ℕ → Entry → ℕ
known_after boot (Knows target next) = next
known_after boot _ = boot

-- ---- how the client stands there

-- Joining: its life is new and hasn't heard that the target serves it. Recovering: the target is up again, and hasn't said
-- that it serves.
pub data Standing : Type 0 where
  Joining : Standing
  Recovering : Standing
  Serving : Standing

-- a new boot is heard of
abbrev pub interrupted : Standing → Standing
interrupted Joining = Joining
interrupted _ = Recovering

abbrev pub reads_standing : Entry → Bool
reads_standing (Knows target boot) = true
reads_standing (Serves target boot) = true
reads_standing (Life who) = true
reads_standing _ = false

abbrev pub standing_after : Standing → Entry → Standing
standing_after standing (Knows target boot) = interrupted standing
standing_after standing (Serves target boot) = Serving
standing_after standing (Life who) = Joining
standing_after standing _ = standing

abbrev pub is_serving : Standing → Bool
is_serving Serving = true
is_serving _ = false

-- ---- the number of its life's newest request there, 0 where there was none

abbrev pub reads_last : Entry → Bool
reads_last (Flies target flight) = true
reads_last (Life who) = true
reads_last _ = false

abbrev pub last_after : ℕ → Entry → ℕ
last_after last (Flies target flight) = flight.xid
last_after last (Life who) = 0
last_after last _ = last

-- ---- the operations that wait to be sent, the front first

abbrev pub rest : List Queued → List Queued
rest [] = []
rest (q ∷ queue) = queue

abbrev pub reads_queue : Entry → Bool
reads_queue (Queues target queued) = true
reads_queue (Flies target flight) = true
reads_queue (Life who) = true
reads_queue _ = false

abbrev pub queue_after : List Queued → Entry → List Queued
queue_after queue (Queues target queued) = queue ++ queued ∷ []
queue_after queue (Flies target flight) = rest queue
queue_after queue (Life who) = []
queue_after queue _ = queue

-- ---- the requests in flight, in rising number

abbrev pub without_flight : ℕ → List Flight → List Flight
without_flight xid flights = filter (λ f. not (f.xid == xid)) flights

abbrev pub reads_flights : Entry → Bool
reads_flights (Flies target flight) = true
reads_flights (Heard target flight reply) = true
reads_flights (Life who) = true
reads_flights _ = false

abbrev pub flights_after : List Flight → Entry → List Flight
flights_after flights (Flies target flight) = flights ++ flight ∷ []
flights_after flights (Heard target flight reply) = without_flight flight.xid flights
flights_after flights (Life who) = []
flights_after flights _ = flights

-- ---- what it has to tell in a recovery

-- A request whose reply named a transaction, as it is replayed: with the numbers that its reply saw.
pub record Replay : Type 0 where
  pub txn : Txn
  pub xid : Xid
  pub tag : ℕ
  pub seen : List ℕ
  pub op : Op

-- Committed: the greatest number of which it was told that all up to it is committed. The numbers that it has seen, and
-- its replays, are those above that; both in rising number, each once.
pub record Kept : Type 0 where
  pub committed : ℕ
  pub seen : List ℕ
  pub replays : List Replay

abbrev pub nothing_kept : Kept
nothing_kept = record { committed = 0; seen = []; replays = [] }

-- a number in its place
abbrev pub with_number : ℕ → List ℕ → List ℕ
with_number n [] = n ∷ []
with_number n (m ∷ ms) = if nat_lt m n then m ∷ with_number n ms else if m == n then m ∷ ms else n ∷ m ∷ ms

abbrev pub with_numbers : List ℕ → List ℕ → List ℕ
with_numbers [] ms = ms
with_numbers (n ∷ ns) ms = with_numbers ns (with_number n ms)

-- a replay in its place, which a later one of the same number takes
abbrev pub with_replay : Replay → List Replay → List Replay
with_replay r [] = r ∷ []
with_replay r (q ∷ replays) =
    if nat_lt q.txn.0 r.txn.0 then q ∷ with_replay r replays
    else if q.txn.0 == r.txn.0 then r ∷ replays
    else r ∷ q ∷ replays

abbrev pub replay_of : Flight → ReplyTo → Replay
replay_of f r = record { txn = r.txn; xid = r.xid; tag = f.tag; seen = r.seen; op = f.op }

-- a reply that names no transaction leaves nothing to replay
abbrev pub with_reply : Flight → ReplyTo → List Replay → List Replay
with_reply f r replays = if r.txn.0 == 0 then replays else with_replay (replay_of f r) replays

-- all up to a number is committed: what is at or below it is forgotten
abbrev pub settled_at : ℕ → Kept → Kept
settled_at n k = record { committed = n; seen = filter (nat_lt n) k.seen; replays = filter (λ (r : Replay). nat_lt n r.txn.0) k.replays }

abbrev pub settled : ℕ → Kept → Kept
settled n k = settled_at (max n k.committed) k

abbrev pub reads_kept : Entry → Bool
reads_kept (Heard target flight reply) = true
reads_kept (Hold target lock marked size seen) = true
reads_kept (Settles target to) = true
reads_kept (Life who) = true
reads_kept _ = false

abbrev pub kept_after : Kept → Entry → Kept
kept_after k (Heard target f r) = settled r.committed.0 (record k { seen = with_numbers r.seen k.seen; replays = with_reply f r k.replays })
kept_after k (Hold target lock marked size seen) = settled 0 (record k { seen = with_numbers seen k.seen })
kept_after k (Settles target to) = settled to k
kept_after k (Life who) = record nothing_kept { committed = k.committed }
kept_after k _ = k

-- ---- all of it

pub record Import : Type 0 where
  pub boot : ℕ
  pub standing : Standing
  pub last : ℕ
  pub queue : List Queued
  pub flights : List Flight
  pub kept : Kept

-- at the start of a run each target serves life 1 in boot 1
abbrev pub first_import : Import
first_import = record { boot = 1; standing = Serving; last = 0; queue = []; flights = []; kept = nothing_kept }

abbrev pub import_after : Import → Entry → Import
import_after i e =
    record {
      boot = known_after i.boot e;
      standing = standing_after i.standing e;
      last = last_after i.last e;
      queue = queue_after i.queue e;
      flights = flights_after i.flights e;
      kept = kept_after i.kept e;
    }

-- the imports of the targets from this one on: an entry changes those that it is about
abbrev pub imports_from : ℕ → List Import → Entry → List Import
imports_from t [] e = []
imports_from t (i ∷ imports) e = (if is_about t e then import_after i e else i) ∷ imports_from (suc t) imports e

abbrev pub imports_after : List Import → Entry → List Import
imports_after imports e = imports_from 0 imports e

-- that of one target; none stands for a target that isn't there
abbrev pub import_of : ℕ → List Import → Import
import_of t [] = record first_import { standing = Joining }
import_of zero (i ∷ imports) = i
import_of (suc t) (i ∷ imports) = import_of t imports

-- after a past
abbrev pub import_at : ℕ → ℕ → List Line → Import
import_at c t past =
    record {
      boot = at_import reads_known known_after first_import.boot c t past;
      standing = at_import reads_standing standing_after first_import.standing c t past;
      last = at_import reads_last last_after first_import.last c t past;
      queue = at_import reads_queue queue_after first_import.queue c t past;
      flights = at_import reads_flights flights_after first_import.flights c t past;
      kept = at_import reads_kept kept_after first_import.kept c t past;
    }

-- ---- tags

abbrev pub has_tag : ℕ → List Flight → Bool
has_tag tag [] = false
has_tag tag (f ∷ flights) = f.tag == tag || has_tag tag flights

-- above all tags in flight
abbrev pub above_tags : List Flight → ℕ
above_tags [] = 0
above_tags (f ∷ flights) = max (f.tag + 1) (above_tags flights)

-- the least tag from this one on that no request in flight has, among so many and the one after them
abbrev pub free_from : ℕ → List Flight → ℕ → ℕ
free_from zero flights tag = tag
free_from (suc more) flights tag = if has_tag tag flights then free_from more flights (tag + 1) else tag

abbrev pub free_tag : List Flight → ℕ
free_tag flights = free_from (above_tags flights) flights 0
