-- A client's side of one target (Lustre Operations Manual, recovery, and multiple modifying requests in flight with
-- their tags; the order of the queue is this project's profile).
use Rattle.std.specs.Prelude.{◌≡◌, ◌≢◌, ℕ, ◌+◌, ◌<◌, ◌≤◌, ◌==◌, ◌&&◌, nat_lt, if◌then◌else◌, Bool, true, false, List, [], ◌∷◌, ◌++◌, length}
use Rattle.std.specs.Prelude.{map, Option, All, AllPairs, ◌⊎◌}
use Rattle.lu_base.specs.declared.locks.Lock.{Lock}
use Rattle.lu_base.specs.declared.ids.TargetId.{TargetId}
use Rattle.lu_base.specs.declared.ids.Who.{Who}
use Rattle.lu_base.specs.declared.ids.Node.TheVariants.{Target}
use Rattle.lu_msg.specs.declared.messages.Request.{Request}
use Rattle.lu_msg.specs.declared.messages.Reply.{Reply}
use Rattle.lu_msg.specs.declared.messages.Post.{Post}
use Rattle.lu_msg.specs.declared.messages.Message.{Message}
use Rattle.lu_msg.specs.declared.messages.Message.TheVariants as message
use Rattle.lu_msg.specs.Limits.{tag_count}
use Rattle.lu_import.specs.declared.requests.Waiting.{Waiting}
use Rattle.lu_import.specs.declared.requests.InFlight.{InFlight}
use Rattle.lu_import.specs.declared.recovery.Standing.{Standing}
use Rattle.lu_import.specs.declared.recovery.Standing.TheVariants.{Joining, Serving}
use Rattle.lu_import.specs.Objects.{same_object}
use Rattle.lu_import.specs.InFlights.{has_number, request_of, without, IsLeastFree, front_waits}
use Rattle.lu_import.specs.Kept.{KeptState, nothing_kept, taught_by, noted, settled, forgotten, IsSettled}
use Rattle.lu_import.specs.Recovery.{TellerState, told_as, interrupted}

-- The target, the life that asks, the boot that it knows, how many may be in flight, how the life stands there, the
-- number of its newest request (0 where there was none), the operations that wait in order of arrival, the requests in
-- flight in rising number, and what is kept for the target's next recovery.
pub record ImportState : Type 0 where
  pub target : TargetId
  pub who : Who
  pub boot : ℕ
  pub flight : ℕ
  pub standing : Standing
  pub last : ℕ
  pub queue : List Waiting
  pub in_flight : List InFlight
  pub kept : KeptState

abbrev pub is_serving : Standing → Bool
is_serving Serving = true
is_serving _ = false

-- The first life of a client has its slots from the start; a later one must join.
abbrev pub first_standing : Who → Standing
first_standing who = if who.life == 1 then Serving else Joining

abbrev pub fresh : TargetId → Who → ℕ → ℕ → ImportState
fresh target who boot flight =
    record {
      target = target;
      who = who;
      boot = boot;
      flight = flight;
      standing = first_standing who;
      last = 0;
      queue = [];
      in_flight = [];
      kept = nothing_kept;
    }

-- Whether there is a front of the queue, and it has to wait.
abbrev pub FrontWaits : ImportState → List Waiting → Type 0
FrontWaits import [] = ⊥
FrontWaits import (waiting ∷ _) = front_waits import.target import.in_flight waiting.op ≡ true

-- Why no request may be sent now.
abbrev pub MustWait : ImportState → Type 0
MustWait import =
    (is_serving import.standing ≡ false)
    ⊎ ((import.flight ≤ length import.in_flight) ⊎ ((import.queue ≡ []) ⊎ FrontWaits import import.queue))

-- Which request is sent, for the call on which slot, and what has changed then.
pub record IsSent (old new : ImportState) (request : Request) : Type 0 where
  pub serving : is_serving old.standing ≡ true
  pub room : length old.in_flight < old.flight
  pub slot : Option ℕ
  pub front : old.queue ≡ record { slot = slot; op = request.op } ∷ new.queue
  pub unblocked : front_waits old.target old.in_flight request.op ≡ false
  pub who : request.who ≡ old.who
  pub boot : request.boot ≡ old.boot
  pub number : request.xid.0 ≡ old.last + 1
  pub tag : IsLeastFree old.in_flight request.tag
  pub range : request.tag < old.flight
  pub after : new ≡ record old {
    last = old.last + 1;
    queue = new.queue;
    in_flight = old.in_flight ++ record { xid = request.xid; tag = request.tag; op = request.op; slot = slot } ∷ [];
  }

-- The message is such a request.
abbrev pub Sends : ImportState → ImportState → Message → Type 0
Sends old new (message.Request request) = IsSent old new request
Sends old new _ = ⊥

-- Whether the reply is to a request in flight, of this life and boot.
abbrev pub hears : ImportState → Reply → Bool
hears import reply =
    reply.who.client == import.who.client && reply.who.life == import.who.life && reply.boot == import.boot
    && has_number reply.xid.0 import.in_flight

-- The import once this reply was heard: the request isn't in flight, and what the reply taught is kept.
abbrev pub heard : ImportState → Reply → ImportState
heard import reply =
    record import {
      in_flight = without reply.xid.0 import.in_flight;
      kept = taught_by (request_of reply.xid.0 import.in_flight) reply import.kept;
    }

-- A request in flight as it is sent again: with its number and tag, and the boot known now.
abbrev pub sent_again : ImportState → InFlight → Post
sent_again import request =
    record {
      to = Target import.target.0;
      message = message.Request (record {
        who = import.who;
        boot = import.boot;
        xid = request.xid;
        tag = request.tag;
        op = request.op;
      });
    }

-- ---- recovery

abbrev pub teller_of : ImportState → TellerState
teller_of import = record { target = import.target; who = import.who; boot = import.boot }

-- The target is up in this boot. One that isn't above the known one says nothing new.
abbrev pub up : ℕ → ImportState → ImportState
up boot import =
    if nat_lt import.boot boot
    then record import { boot = boot; standing = interrupted import.standing }
    else import

-- What the life tells then; nothing of a boot below the known one, and nothing to a target that serves it.
abbrev pub reconnecting : ℕ → List Lock → ImportState → List Post
reconnecting boot locks import =
    if nat_lt boot import.boot
    then []
    else told_as (up boot import).standing (teller_of (up boot import)) import.kept locks

-- The target serves the life in this boot. A word of another boot than the known one says nothing.
abbrev pub ready : ℕ → ℕ → ImportState → ImportState
ready boot committed import =
    if boot == import.boot
    then record import { standing = Serving; kept = settled committed import.kept }
    else import

-- What is in flight is sent again then.
abbrev pub resumes : ℕ → ImportState → List Post
resumes boot import = if boot == import.boot then map (sent_again import) import.in_flight else []

-- A new life of the client begins: it has asked nothing, and must join.
abbrev pub reborn : Who → ImportState → ImportState
reborn who import =
    record import {
      who = who;
      standing = Joining;
      last = 0;
      queue = [];
      in_flight = [];
      kept = forgotten import.kept;
    }

-- What holds of every import: the numbers rise, up to the newest; at most `flight`, from 1 to 8, are in flight,
-- and no two have one tag; each tag is below `flight`; at an object storage target no two are on one object. What is
-- kept rises, each once, above the committed number.
pub record IsSound (import : ImportState) : Type 0 where
  pub flight : import.flight ≤ tag_count
  pub most : length import.in_flight ≤ import.flight
  pub rising : AllPairs (λ earlier later. earlier.xid.0 < later.xid.0) import.in_flight
  pub given : All (λ request. request.xid.0 ≤ import.last) import.in_flight
  pub tags : AllPairs (λ one other. one.tag ≢ other.tag) import.in_flight
  pub range : All (λ request. request.tag < import.flight) import.in_flight
  pub objects : 0 < import.target.0 → AllPairs (λ one other. same_object one.op other.op ≡ false) import.in_flight
  pub kept : IsSettled import.kept
