-- What comes of executing a request: at the metadata target by its tree, at another one by the locks and the bytes of its object.
use Rattle.std.specs.Prelude.{ℕ, ◌+◌, ◌||◌, Bool, List, []}
use Rattle.lu_base.specs.declared.ids.At.{At}
use Rattle.lu_base.specs.declared.ids.Txn.{Txn as TxnOf}
use Rattle.lu_base.specs.declared.locks.Ask.{Ask}
use Rattle.lu_base.specs.declared.locks.Extent.{Extent}
use Rattle.lu_base.specs.declared.locks.Lock.{Lock}
use Rattle.lu_base.specs.declared.locks.Mode.{Mode}
use Rattle.lu_base.specs.declared.locks.Policy.TheVariants.{Range}
use Rattle.lu_base.specs.declared.locks.Resource.{Resource}
use Rattle.lu_lock.specs.Conflict.{conflicts_with_any}
use Rattle.lu_lock.specs.Growth.{the_end, granted_ask}
use Rattle.lu_msg.specs.declared.answers.Answer.{Answer}
use Rattle.lu_msg.specs.declared.messages.GrantNotice.{GrantNotice}
use Rattle.lu_msg.specs.declared.messages.Reply.{Reply as ReplyTo}
use Rattle.lu_msg.specs.declared.messages.Request.{Request as RequestOf}
use Rattle.lu_part.specs.declared.parts.Part.{Part}
use Rattle.lu_spec_machine.specs.Footprint.{Operation, answer, grants, touches, writes}
use Rattle.lu_spec_machine.specs.Objects.{object_size, object_touches, range}
use Rattle.lu_spec_entries.specs.Carried.{Deed}
use Rattle.lu_spec_target.specs.Names.{locks_from}
use Rattle.lu_spec_target.specs.Queues.{extent_of}
use Rattle.lu_spec_target.specs.Replies.{asks_of, locks_on}
use Rattle.lu_spec_target.specs.Stored.{object_in}
use Rattle.lu_proof_lawful.specs.Covered.TargetStates.{Server, none, next_number, seen_in}

-- the operation that a request asks for, under a number
abbrev pub asked : RequestOf → TxnOf → Operation
asked r number = record { number = number; who = r.who; op = r.op }

-- in a turn, as a transaction of that number or as none, with these locks
abbrev pub deed : ℕ → Server → At → RequestOf → TxnOf → List Lock → Deed
deed osts v at r number locks =
    record {
      tag = r.tag;
      op = r.op;
      writes = writes osts v.tree (asked r number);
      reply = record {
        who = r.who;
        boot = v.boot;
        xid = r.xid;
        txn = number;
        committed = v.committed;
        seen = seen_in (touches osts v.tree (asked r number)) v.log;
        at = at;
        locks = locks;
        answer = answer osts v.tree (asked r number);
      };
    }

-- the locks that an act grants, in the order of the path
abbrev pub locks_of : ℕ → Server → RequestOf → List Lock
locks_of osts v r = locks_from v.cookie r.who (grants osts v.tree (asked r none))

-- what a request would write as the next transaction
abbrev pub written_by : ℕ → Server → RequestOf → List Part
written_by osts v r = writes osts v.tree (asked r (next_number v))

-- a kept reply as it is sent again, with the present boot and committed number
abbrev pub again : Server → ReplyTo → ReplyTo
again v k = record k { boot = v.boot; committed = v.committed }

-- ---- on an object

abbrev pub size_at : Server → Resource → ℕ
size_at v r = object_size (object_in v.objects r)

-- the request is answered so, under this number, and wrote this
abbrev pub told_on : Server → At → RequestOf → TxnOf → List Part → Answer → Deed
told_on v at r number parts a =
    record {
      tag = r.tag;
      op = r.op;
      writes = parts;
      reply = record {
        who = r.who;
        boot = v.boot;
        xid = r.xid;
        txn = number;
        committed = v.committed;
        seen = seen_in (object_touches r.op a) v.log;
        at = at;
        locks = [];
        answer = a;
      };
    }

-- ---- locks on objects

-- all of an object
abbrev pub whole : Extent
whole = record { first = 0; last = the_end }

-- the lock that a request asks for, under the next cookie
abbrev pub lock_asked : Server → RequestOf → Resource → Mode → Extent → Lock
lock_asked v r resource mode extent = record {
  cookie = record { 0 = v.cookie + 1 };
  resource = resource;
  ask =
      record { who = r.who; mode = mode; policy = Range extent };
}

-- a granted lock on the resource conflicts, or one that waits ahead
abbrev pub in_the_way : Server → Resource → List Lock → Ask → Bool
in_the_way v r ahead ask = conflicts_with_any ask (asks_of (locks_on r v.granted)) || conflicts_with_any ask (asks_of ahead)

-- it is granted on as much as leaves the granted ones and these others that wait alone
abbrev pub grown_by : Server → List Lock → Lock → Lock
grown_by v others l = record l { ask = granted_ask l.ask (asks_of (locks_on l.resource v.granted)) (asks_of others) }

-- what a holder is told of a lock that had waited
abbrev pub notice : Server → Lock → GrantNotice
notice v l =
    record {
      who = l.ask.who;
      boot = v.boot;
      cookie = l.cookie;
      extent = extent_of l;
      size = size_at v l.resource;
      committed = v.committed;
      seen = seen_in (range l.resource (extent_of l).first (extent_of l).last) v.log;
    }
