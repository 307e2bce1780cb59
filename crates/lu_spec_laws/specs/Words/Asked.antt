-- How a lock that is granted was asked for: as its wait says or, without one, as the request does that the target
-- executes there. A request on names asks for PR locks, on the inodes and bits of its row (this project's profile).
use Rattle.std.specs.Prelude.{ℕ, zero, suc, Bool, ◌&&◌, if◌then◌else◌, Option, Some, None, List, [], ◌∷◌, ◌++◌, map, find}
use Rattle.lu_base.specs.declared.ids.At.{At}
use Rattle.lu_base.specs.declared.ids.Cookie.{Cookie}
use Rattle.lu_base.specs.declared.ids.Who.{Who}
use Rattle.lu_base.specs.declared.locks.Lock.{Lock as LockOf}
use Rattle.lu_base.specs.declared.locks.Mode.TheVariants.{PR}
use Rattle.lu_base.specs.declared.locks.Policy.TheVariants.{Range}
use Rattle.lu_msg.specs.declared.messages.Message.{Message}
use Rattle.lu_msg.specs.declared.messages.Message.TheVariants.{Request}
use Rattle.lu_msg.specs.declared.operations.Op.{Op}
use Rattle.lu_msg.specs.declared.operations.Op.TheVariants as op
use Rattle.lu_part.specs.declared.parts.Want.{Want}
use Rattle.lu_part.specs.Guards.{inode}
use Rattle.lu_trace.specs.declared.entries.Line.{Line}
use Rattle.lu_trace.specs.declared.entries.Entry.TheVariants.{Act}
use Rattle.lu_spec_machine.specs.Tree.{same_life}
use Rattle.lu_spec_machine.specs.Footprint.{grants}
use Rattle.lu_spec_laws.specs.Words.Pasts.{Past, same_turn, or_else, newest}
use Rattle.lu_spec_laws.specs.Words.Sends.{Sending, taken}
use Rattle.lu_spec_laws.specs.Words.Requests.{asked}
use Rattle.lu_spec_laws.specs.Words.Standing.{contents}
use Rattle.lu_spec_laws.specs.Words.Queues.{is_on, waits}

-- ---- the metadata target: the request of the last `act` line of the turn so far

pub record Acting : Type 0 where
  pub who : Who
  pub xid : ℕ

abbrev pub acts_in : At → Past → Line → Option Acting
acts_in at past l =
    elim l.entry [
      | Act who xid answer ↦ if same_turn l.at at then Some (record { who = who; xid = xid.0 }) else None
      | _ ↦ None
    ]

abbrev pub acting : At → Past → Option Acting
acting at past = newest (acts_in at) past

-- what it asks for over the contents after the past
abbrev pub wanted : ℕ → Past → Who → Option Op → List Want
wanted osts past who None = []
wanted osts past who (Some o) =
    grants osts (contents osts past) (record { number = record { 0 = 0 }; who = who; op = o })

abbrev pub wanted_lock : Cookie → Who → Want → LockOf
wanted_lock cookie who want =
    record {
      cookie = cookie;
      resource = (inode want.fid want.bits).0;
      ask = record { who = who; mode = PR; policy = (inode want.fid want.bits).1 };
    }

abbrev pub wanted_by : ℕ → Past → Cookie → Option Acting → List LockOf
wanted_by osts past cookie None = []
wanted_by osts past cookie (Some a) = map (wanted_lock cookie a.who) (wanted osts past a.who (asked past 0 a.who a.xid))

-- ---- an object storage target: the `enqueue` that the turn took

abbrev pub enqueued_by : Cookie → Who → Option Op → List LockOf
enqueued_by cookie who (Some (op.Enqueue resource mode extent)) =
    record {
      cookie = cookie;
      resource = resource;
      ask = record { who = who; mode = mode; policy = Range extent };
    } ∷ []
enqueued_by cookie who _ = []

abbrev pub enqueued_in : ℕ → Past → Cookie → Message → List LockOf
enqueued_in t past cookie (Request r) = enqueued_by cookie r.who (asked past t r.who r.xid.0)
enqueued_in t past cookie _ = []

abbrev pub enqueued : ℕ → Past → Cookie → List Sending → List LockOf
enqueued t past cookie [] = []
enqueued t past cookie (s ∷ taken) = enqueued_in t past cookie s.message ++ enqueued t past cookie taken

-- ---- what is asked for

-- the locks that the request executed in this turn so far asks the target for, under that cookie
abbrev pub requested : ℕ → ℕ → Past → At → Cookie → List LockOf
requested osts zero past at cookie = wanted_by osts past cookie (acting at past)
requested osts (suc t) past at cookie = enqueued (suc t) past cookie (taken past at)

abbrev pub is_for : LockOf → LockOf → Bool
is_for lock other = is_on lock.resource other && same_life other.ask.who lock.ask.who

-- how this lock was asked for: its wait comes first
abbrev pub asked_for : ℕ → ℕ → Past → At → LockOf → Option LockOf
asked_for osts t past at lock =
    or_else (waits t lock.cookie.0 past) (find (is_for lock) (requested osts t past at lock.cookie))
