-- Replies, the numbers of the transactions that they have seen, and the calling back of locks (Lustre Operations Manual,
-- recovery; Wang et al., Understanding Lustre Filesystem Internals, the lock manager: blocking callbacks; which numbers are
-- seen is this project's profile).
use Rattle.std.specs.Prelude.{ℕ, ◌+◌, ◌==◌, if◌then◌else◌, Bool, List, [], ◌∷◌, filter, map, Option, Some, None}
use Rattle.std.specs.List.{list_any}
use Rattle.lu_base.specs.declared.ids.At.{At}
use Rattle.lu_base.specs.declared.ids.Cookie.{Cookie}
use Rattle.lu_base.specs.declared.ids.Node.TheVariants.{Client}
use Rattle.lu_base.specs.declared.ids.Txn.{Txn as TxnOf}
use Rattle.lu_base.specs.declared.ids.Who.{Who}
use Rattle.lu_base.specs.declared.locks.Ask.{Ask}
use Rattle.lu_base.specs.declared.locks.Lock.{Lock}
use Rattle.lu_base.specs.declared.locks.Resource.{Resource}
use Rattle.lu_held.specs.Locks.{same_resource}
use Rattle.lu_spec_machine.specs.Seen.{meet}
use Rattle.lu_msg.specs.declared.answers.Answer.{Answer}
use Rattle.lu_msg.specs.declared.messages.Message.{Message}
use Rattle.lu_msg.specs.declared.messages.Message.TheVariants as message
use Rattle.lu_msg.specs.declared.messages.Reply.{Reply as ReplyTo}
use Rattle.lu_msg.specs.declared.messages.Request.{Request as RequestOf}
use Rattle.lu_part.specs.declared.parts.Part.{Part}
use Rattle.lu_spec_entries.specs.Carried.{Deed, Called}
use Rattle.lu_spec_entries.specs.Words.{Entry, Send, Block}
use Rattle.lu_spec_target.specs.States.{Target}

-- ---- seen numbers: the transactions of the log whose writes meet what is touched, in rising number

abbrev pub seen_in : List Part → List Deed → List ℕ
seen_in touched [] = []
seen_in touched (d ∷ log) = if meet d.writes touched then d.reply.txn.0 ∷ seen_in touched log else seen_in touched log

-- ---- replies

abbrev pub none : TxnOf
none = record { 0 = 0 }

abbrev pub next_number : Target → TxnOf
next_number v = record { 0 = v.number + 1 }

abbrev pub reply_to : Target → RequestOf → (number : TxnOf) → (seen : List ℕ) → At → List Lock → Answer → ReplyTo
reply_to v r number seen at locks answer =
    record {
      who = r.who;
      boot = v.boot;
      xid = r.xid;
      txn = number;
      committed = record { 0 = v.committed };
      seen = seen;
      at = at;
      locks = locks;
      answer = answer;
    }

abbrev pub deed_of : RequestOf → List Part → ReplyTo → Deed
deed_of r writes reply = record { tag = r.tag; op = r.op; writes = writes; reply = reply }

abbrev pub to_life : Who → Message → Entry
to_life who m = Send (Client who.client) m

abbrev pub replies : Deed → Entry
replies d = to_life d.reply.who (message.Reply d.reply)

-- a kept reply is sent again with the present boot and committed number, and is else as it was
abbrev pub again : Target → ReplyTo → ReplyTo
again v reply = record reply { boot = v.boot; committed = record { 0 = v.committed } }

abbrev pub row_kept : Target → Option ReplyTo → List Entry
row_kept v None = []
row_kept v (Some reply) = to_life reply.who (message.Reply (again v reply)) ∷ []

-- ---- locks of one resource

abbrev pub locks_on : Resource → List Lock → List Lock
locks_on r locks = filter (λ l. same_resource l.resource r) locks

abbrev pub asks_of : List Lock → List Ask
asks_of locks = map {A = Lock} {B = Ask} (λ l. l.ask) locks

-- ---- calling back: each lock once, until it is released

abbrev pub is_called : Cookie → List Called → Bool
is_called cookie cs = list_any (λ c. c.cookie.0 == cookie.0) cs

abbrev pub called : Target → Lock → Called
called v l = record { cookie = l.cookie; who = l.ask.who; since = v.ticks }

abbrev pub block_of : Target → Lock → Entry
block_of v l = to_life l.ask.who (message.Block l.ask.who v.boot l.cookie)

-- those of these locks that aren't called back
abbrev pub blocks : Target → List Lock → List Entry
blocks v [] = []
blocks v (l ∷ locks) = if is_called l.cookie v.called then blocks v locks else Block (called v l) ∷ block_of v l ∷ blocks v locks
