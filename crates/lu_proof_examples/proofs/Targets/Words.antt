-- Short words in which turns of a target are written: an event, and the lines that are printed of it. A message that is sent
-- has no number here, which the run gives.
use Rattle.std.proofs.Common.{ℕ, List, [], ◌∷◌, Option, Some, None}
use Rattle.std.specs.Prelude.{◌+◌, ◌*◌, map}
use Rattle.lu_base.specs.declared.ids.At.{At}
use Rattle.lu_base.specs.declared.ids.Cookie.{Cookie}
use Rattle.lu_base.specs.declared.ids.Fid.{Fid}
use Rattle.lu_base.specs.declared.ids.Node.TheVariants.{Client, Target}
use Rattle.lu_base.specs.declared.ids.Txn.{Txn}
use Rattle.lu_base.specs.declared.ids.Who.{Who}
use Rattle.lu_base.specs.declared.locks.Extent.{Extent}
use Rattle.lu_base.specs.declared.locks.Lock.{Lock}
use Rattle.lu_base.specs.declared.locks.Mode.{Mode}
use Rattle.lu_base.specs.declared.locks.Mode.TheVariants.{PR}
use Rattle.lu_base.specs.declared.locks.Policy.{Policy}
use Rattle.lu_base.specs.declared.locks.Policy.TheVariants.{Bits}
use Rattle.lu_base.specs.declared.locks.Resource.{Resource}
use Rattle.lu_layout.specs.Raid0.{Raid0}
use Rattle.lu_lock.specs.Growth.{the_end}
use Rattle.lu_msg.specs.declared.answers.Answer.{Answer}
use Rattle.lu_msg.specs.declared.messages.Message.{Message}
use Rattle.lu_msg.specs.declared.messages.Message.TheVariants as message
use Rattle.lu_msg.specs.declared.operations.Op.{Op}
use Rattle.lu_trace.specs.declared.entries.Entry.{Entry as PrintedEntry}
use Rattle.lu_trace.specs.declared.entries.Entry.TheVariants as entry
use Rattle.lu_spec_entries.specs.Words as word
use Rattle.lu_spec_entries.specs.Printed.{printed_entry}
use Rattle.lu_spec_target.specs.States.{started}
use Rattle.lu_spec_target.specs.States as state
use Rattle.lu_spec_target.specs.Rows.{Event, Comes, row}
use Rattle.lu_spec_target.specs.Disks.{over_disk}

-- ---- values: a number of two halves, the boot and the count

abbrev pub pair : ℕ → ℕ → ℕ
pair boot count = boot * 4294967296 + count

abbrev pub fid : ℕ → ℕ → Fid
fid boot count = record { 0 = pair boot count }

abbrev pub txn : ℕ → ℕ → Txn
txn boot count = record { 0 = pair boot count }

abbrev pub cookie : ℕ → ℕ → Cookie
cookie boot count = record { 0 = pair boot count }

abbrev pub life : ℕ → ℕ → Who
life client number = record { client = client; life = number }

abbrev pub client_turn : ℕ → ℕ → At
client_turn client stamp = record { stamp = record { 0 = stamp }; node = Client client }

abbrev pub target_turn : ℕ → ℕ → At
target_turn target stamp = record { stamp = record { 0 = stamp }; node = Target target }

abbrev pub object : ℕ → ℕ → ℕ → Resource
object boot count stripe = record { fid = fid boot count; stripe = stripe }

abbrev pub from : ℕ → ℕ → Extent
from first last = record { first = first; last = last }

abbrev pub onward : ℕ → Extent
onward first = record { first = first; last = the_end }

abbrev pub layout : ℕ → List ℕ → Raid0
layout size targets = record { size = size; targets = targets }

abbrev pub lock : Cookie → Who → Resource → Mode → Policy → Lock
lock c who resource mode policy = record { cookie = c; resource = resource; ask = record { who = who; mode = mode; policy = policy } }

-- a lock on bits of an inode
abbrev pub bits : Cookie → Who → Fid → ℕ → Lock
bits c who f b = lock c who (record { fid = f; stripe = 0 }) PR (Bits b)

-- ---- messages

abbrev pub request : Who → (boot xid tag : ℕ) → Op → Message
request who boot xid tag op = message.Request (record { who = who; boot = boot; xid = record { 0 = xid }; tag = tag; op = op })

abbrev pub replay : Who → ℕ → Txn → (xid tag : ℕ) → List ℕ → Op → Message
replay who boot number xid tag seen op =
    message.Replay (record { who = who; boot = boot; txn = number; xid = record { 0 = xid }; tag = tag; seen = seen; op = op })

abbrev pub lock_again : Who → ℕ → Cookie → Resource → Mode → Policy → Message
lock_again who boot c resource mode policy =
    message.Lock (record { who = who; boot = boot; cookie = c; resource = resource; mode = mode; policy = policy })

abbrev pub size : Who → ℕ → Cookie → Who → (xid : ℕ) → Option ℕ → (stamp : ℕ) → Message
size who boot c asker xid found stamp =
    message.Size (record {
      who = who;
      boot = boot;
      cookie = c;
      for_who = asker;
      xid = record { 0 = xid };
      size = found;
      stamp =
          record { 0 = stamp };
    })

abbrev pub reply : Who → (boot xid : ℕ) → Txn → Txn → List ℕ → At → List Lock → Answer → Message
reply who boot xid number committed seen at locks answer =
    message.Reply (record {
      who = who;
      boot = boot;
      xid = record { 0 = xid };
      txn = number;
      committed = committed;
      seen = seen;
      at = at;
      locks = locks;
      answer = answer;
    })

abbrev pub grant : Who → ℕ → Cookie → Extent → (size : ℕ) → Txn → List ℕ → Message
grant who boot c extent size committed seen =
    message.Grant (record { who = who; boot = boot; cookie = c; extent = extent; size = size; committed = committed; seen = seen })

abbrev pub ask : Who → ℕ → Cookie → Who → (xid : ℕ) → Message
ask who boot c asker xid = message.Ask who boot c asker (record { 0 = xid })

-- ---- lines

abbrev pub send : ℕ → Message → PrintedEntry
send client m = entry.Send 0 (Client client) m

abbrev pub act : Who → ℕ → Answer → PrintedEntry
act who xid answer = entry.Act who (record { 0 = xid }) answer

abbrev pub transaction : Txn → Who → ℕ → List ℕ → Answer → PrintedEntry
transaction number who xid seen answer = entry.Txn number who (record { 0 = xid }) seen answer

-- ---- turns

abbrev pub comes : ℕ → ℕ → Message → Event
comes number client m = Comes number (Client client) m

pub record Turn : Type 0 where
  pub stamp : ℕ
  pub event : Event
  pub lines : List PrintedEntry

abbrev pub made : ℕ → Event → List PrintedEntry → Turn
made stamp event lines = record { stamp = stamp; event = event; lines = lines }

abbrev pub all_lines : List Turn → List (List PrintedEntry)
all_lines turns = map {A = Turn} {B = List PrintedEntry} (λ t. t.lines) turns

-- ---- what the rows give

abbrev pub with_printed : Option PrintedEntry → List PrintedEntry → List PrintedEntry
with_printed None rest = rest
with_printed (Some e) rest = e ∷ rest

abbrev pub printed : List word.Entry → List PrintedEntry
printed [] = []
printed (e ∷ es) = with_printed (printed_entry 0 e) (printed es)

abbrev pub goes_on : state.Target → List Turn → List (List PrintedEntry)
goes_on v [] = []
goes_on v (t ∷ turns) =
    let es = row v (target_turn v.setting.id t.stamp) t.event in
    printed es ∷ goes_on (state.turn v es) turns

-- a target of this number, in a run of so many clients and object storage targets, in which so many ticks end a life
abbrev pub first : (target clients osts expire : ℕ) → state.Target
first target clients osts expire = started (record { id = target; osts = osts; expire = expire }) clients

abbrev pub played : (target clients osts expire : ℕ) → List Turn → List (List PrintedEntry)
played target clients osts expire turns = goes_on (first target clients osts expire) turns

-- ---- the target after turns, and the lines of one more event, in which a call to the disk fails after so many that succeed

abbrev pub after_turns : state.Target → List Turn → state.Target
after_turns v [] = v
after_turns v (t ∷ turns) = after_turns (state.turn v (row v (target_turn v.setting.id t.stamp) t.event)) turns

abbrev pub fails : state.Target → (stamp : ℕ) → Event → (calls : ℕ) → List PrintedEntry
fails v stamp event calls = printed (over_disk (Some calls) (row v (target_turn v.setting.id stamp) event))
