-- Short words for what happens to a client and what it prints, so that a claim reads like its trace.
use Rattle.std.specs.Prelude.{ℕ, ◌+◌, ◌*◌, List, Option}
use Rattle.lu_base.specs.declared.ids.At.{At}
use Rattle.lu_base.specs.declared.ids.Cookie.{Cookie}
use Rattle.lu_base.specs.declared.ids.Fid.{Fid}
use Rattle.lu_base.specs.declared.ids.Node.TheVariants.{Client, Target}
use Rattle.lu_base.specs.declared.ids.Txn.{Txn}
use Rattle.lu_base.specs.declared.ids.Who.{Who}
use Rattle.lu_base.specs.declared.locks.Extent.{Extent}
use Rattle.lu_base.specs.declared.locks.Lock.{Lock}
use Rattle.lu_base.specs.declared.locks.Mode.{Mode}
use Rattle.lu_base.specs.declared.locks.Mode.TheVariants.{PR}
use Rattle.lu_base.specs.declared.locks.Policy.{Policy}
use Rattle.lu_base.specs.declared.locks.Policy.TheVariants.{Bits}
use Rattle.lu_base.specs.declared.locks.Resource.{Resource}
use Rattle.lu_layout.specs.Raid0.{Raid0}
use Rattle.lu_msg.specs.declared.answers.Answer.{Answer}
use Rattle.lu_msg.specs.declared.calls.Call.{Call}
use Rattle.lu_msg.specs.declared.messages.Message.{Message}
use Rattle.lu_msg.specs.declared.messages.Message.TheVariants as message
use Rattle.lu_msg.specs.declared.operations.Op.{Op}
use Rattle.lu_trace.specs.declared.entries.Entry.{Entry}
use Rattle.lu_trace.specs.declared.entries.Entry.TheVariants as entry
use Rattle.lu_spec_client.specs.Rows.{Begins, Comes, Ticks, Dies}
use Rattle.lu_spec_client.specs.Played.{Happens}

-- ---- values: what a trace prints as HIGH.LOW is a pair

abbrev pub pair : ℕ → ℕ → ℕ
pair high low = high * 4294967296 + low

abbrev pub fid : ℕ → ℕ → Fid
fid high low = record { 0 = pair high low }

abbrev pub txn : ℕ → ℕ → Txn
txn high low = record { 0 = pair high low }

abbrev pub cookie : ℕ → ℕ → Cookie
cookie high low = record { 0 = pair high low }

abbrev pub life : ℕ → ℕ → Who
life client number = record { client = client; life = number }

abbrev pub client : ℕ → ℕ → At
client stamp c = record { stamp = record { 0 = stamp }; node = Client c }

abbrev pub target : ℕ → ℕ → At
target stamp t = record { stamp = record { 0 = stamp }; node = Target t }

abbrev pub extent : ℕ → ℕ → Extent
extent first last = record { first = first; last = last }

abbrev pub object : ℕ → ℕ → ℕ → Resource
object high low stripe = record { fid = fid high low; stripe = stripe }

abbrev pub striped : ℕ → List ℕ → Raid0
striped size targets = record { size = size; targets = targets }

-- a lock on an inode, as a reply brings it
abbrev pub on_inode : Who → Cookie → Fid → ℕ → Lock
on_inode who c f bits = record {
  cookie = c;
  resource = record { fid = f; stripe = 0 };
  ask =
      record { who = who; mode = PR; policy = Bits bits };
}

-- ---- what happens

abbrev pub begins : ℕ → ℕ → Call → Happens
begins stamp slot c = record { stamp = stamp; event = Begins slot c }

abbrev pub comes : ℕ → ℕ → ℕ → Message → Happens
comes stamp number t m = record { stamp = stamp; event = Comes number (Target t) m }

abbrev pub ticks : ℕ → Happens
ticks stamp = record { stamp = stamp; event = Ticks }

abbrev pub dies : ℕ → Happens
dies stamp = record { stamp = stamp; event = Dies }

abbrev pub reply : Who → ℕ → ℕ → Txn → Txn → List ℕ → At → List Lock → Answer → Message
reply who boot xid number committed seen at locks a =
    message.Reply
    (record {
      who = who;
      boot = boot;
      xid = record { 0 = xid };
      txn = number;
      committed = committed;
      seen = seen;
      at = at;
      locks = locks;
      answer = a;
    })

abbrev pub grant : Who → ℕ → Cookie → Extent → ℕ → Txn → List ℕ → Message
grant who boot c range size committed seen =
    message.Grant (record { who = who; boot = boot; cookie = c; extent = range; size = size; committed = committed; seen = seen })

abbrev pub ask : Who → ℕ → Cookie → Who → ℕ → Message
ask who boot c for_who xid = message.Ask who boot c for_who (record { 0 = xid })

-- ---- what is printed

abbrev pub asks : ℕ → Who → ℕ → ℕ → ℕ → Op → Entry
asks t who boot xid tag o = entry.Send 0 (Target t) (message.Request
    (record { who = who; boot = boot; xid = record { 0 = xid }; tag = tag; op = o }))

abbrev pub cancels : ℕ → Who → ℕ → Cookie → Entry
cancels t who boot c = entry.Send 0 (Target t) (message.Cancel who boot c)

abbrev pub asks_where : ℕ → Who → ℕ → Cookie → Entry
asks_where t who boot c = entry.Send 0 (Target t) (message.Where who boot c)

abbrev pub replays : ℕ → Who → ℕ → Txn → ℕ → ℕ → List ℕ → Op → Entry
replays t who boot number xid tag seen o =
    entry.Send 0 (Target t) (message.Replay (record {
      who = who;
      boot = boot;
      txn = number;
      xid = record { 0 = xid };
      tag = tag;
      seen =
          seen;
      op = o;
    }))

abbrev pub replays_lock : ℕ → Who → ℕ → Cookie → Resource → Mode → Policy → Entry
replays_lock t who boot c r mode policy =
    entry.Send 0 (Target t) (message.Lock (record { who = who; boot = boot; cookie = c; resource = r; mode = mode; policy = policy }))

abbrev pub says : ℕ → Who → ℕ → ℕ → ℕ → List ℕ → Entry
says t who boot replays locks seen = entry.Send 0 (Target t) (message.Word who boot replays locks seen)

abbrev pub joins : ℕ → Who → ℕ → Entry
joins t who boot = entry.Send 0 (Target t) (message.Join who boot)

abbrev pub reports : ℕ → Who → ℕ → Cookie → Who → ℕ → Option ℕ → ℕ → Entry
reports t who boot c for_who xid size stamp =
    entry.Send 0 (Target t)
    (message.Size (record {
      who = who;
      boot = boot;
      cookie = c;
      for_who = for_who;
      xid = record { 0 = xid };
      size = size;
      stamp =
          record { 0 = stamp };
    }))

abbrev pub heard : ℕ → ℕ → Entry
heard t xid = entry.Heard (record { 0 = t }) (record { 0 = xid })

abbrev pub hold : ℕ → Cookie → Entry
hold t c = entry.Hold (record { 0 = t }) c

abbrev pub drop : ℕ → Cookie → Entry
drop t c = entry.Drop (record { 0 = t }) c

abbrev pub peek : ℕ → Cookie → ℕ → Entry
peek t c size = entry.Peek (record { 0 = t }) c size
