-- Short words in which the worked rows are written: lines, turns, lives, requests and replies of boot 1; and what
-- closes the evidence of a row.
use Rattle.std.proofs.Common.{◌≡◌, ◌≢◌, ℕ, ◌+◌, ◌*◌, ◌<◌, ◌≤◌, true, false, Option, List, [], arith}
use Rattle.std.proofs.lemmas.Bool.{leb-true, eq-eqb}
use Rattle.std.proofs.Math.Dec.{leb, eqb}
use Rattle.lu_base.specs.declared.ids.At.{At}
use Rattle.lu_base.specs.declared.ids.Node.{Node}
use Rattle.lu_base.specs.declared.ids.Node.TheVariants.{Client, Target}
use Rattle.lu_base.specs.declared.ids.Who.{Who}
use Rattle.lu_base.specs.declared.ids.Txn.{Txn}
use Rattle.lu_base.specs.declared.ids.Fid.{Fid}
use Rattle.lu_base.specs.declared.ids.Cookie.{Cookie}
use Rattle.lu_base.specs.declared.locks.Extent.{Extent}
use Rattle.lu_base.specs.declared.locks.Resource.{Resource}
use Rattle.lu_base.specs.declared.locks.Mode.{Mode}
use Rattle.lu_base.specs.declared.locks.Policy.{Policy}
use Rattle.lu_base.specs.declared.locks.Lock.{Lock}
use Rattle.lu_layout.specs.Raid0.{Raid0}
use Rattle.lu_msg.specs.declared.answers.Answer.{Answer}
use Rattle.lu_msg.specs.declared.answers.Answer.TheVariants as told
use Rattle.lu_msg.specs.declared.operations.Op.{Op}
use Rattle.lu_msg.specs.declared.messages.Message.{Message}
use Rattle.lu_msg.specs.declared.messages.Message.TheVariants.{Request, Replay, Size, Reply, Grant, Ask, Lock as MessageLock}
use Rattle.lu_trace.specs.declared.entries.Entry.{Entry}
use Rattle.lu_trace.specs.declared.entries.Entry.TheVariants as entry
use Rattle.lu_trace.specs.declared.entries.Line.{Line}

-- the turn of this stamp
abbrev pub turn : ℕ → Node → At
turn stamp node = record { stamp = record { 0 = stamp }; node = node }

abbrev pub client : ℕ → ℕ → Entry → Line
client stamp c said = record { at = turn stamp (Client c); entry = said }

abbrev pub target : ℕ → ℕ → Entry → Line
target stamp t said = record { at = turn stamp (Target t); entry = said }

-- the first life
abbrev pub who : ℕ → Who
who c = record { client = c; life = 1 }

abbrev pub life : ℕ → ℕ → Who
life c number = record { client = c; life = number }

-- the number with this count in that boot
abbrev pub number : ℕ → ℕ → ℕ
number boot count = 4294967296 * boot + count

abbrev pub first : ℕ → ℕ
first count = number 1 count

abbrev pub made : ℕ → Answer
made count = told.Made (record { 0 = first count })

abbrev pub request : ℕ → ℕ → ℕ → Op → Message
request c xid tag o = Request (record { who = who c; boot = 1; xid = record { 0 = xid }; tag = tag; op = o })

-- nothing is committed, and no lock is granted
abbrev pub reply : ℕ → ℕ → ℕ → List ℕ → At → Answer → Message
reply c xid number seen at answer =
    Reply (record {
      who = who c;
      boot = 1;
      xid = record { 0 = xid };
      txn = record { 0 = number };
      committed = record { 0 = 0 };
      seen = seen;
      at = at;
      locks = [];
      answer = answer;
    })

abbrev pub sends : ℕ → Node → Message → Entry
sends number to message = entry.Send number to message

abbrev pub heard : ℕ → ℕ → Entry
heard t xid = entry.Heard (record { 0 = t }) (record { 0 = xid })

abbrev pub act : ℕ → ℕ → Answer → Entry
act c xid answer = entry.Act (who c) (record { 0 = xid }) answer

abbrev pub txn : ℕ → ℕ → ℕ → List ℕ → Answer → Entry
txn number c xid seen answer = entry.Txn (record { 0 = number }) (who c) (record { 0 = xid }) seen answer

-- ---- the words of any trace

abbrev pub fid : ℕ → ℕ → Fid
fid boot count = record { 0 = number boot count }

abbrev pub txn_of : ℕ → ℕ → Txn
txn_of boot count = record { 0 = number boot count }

abbrev pub cookie : ℕ → ℕ → Cookie
cookie boot count = record { 0 = number boot count }

abbrev pub extent : ℕ → ℕ → Extent
extent first last = record { first = first; last = last }

-- to the greatest offset
abbrev pub onward : ℕ → Extent
onward first = record { first = first; last = 18446744073709551615 }

abbrev pub object : ℕ → ℕ → ℕ → Resource
object boot count stripe = record { fid = fid boot count; stripe = stripe }

abbrev pub striped : ℕ → List ℕ → Raid0
striped size targets = record { size = size; targets = targets }

abbrev pub lock : Cookie → Who → Resource → Mode → Policy → Lock
lock c who resource mode policy =
    record { cookie = c; resource = resource; ask = record { who = who; mode = mode; policy = policy } }

-- messages of a client

abbrev pub asks : Who → (boot xid tag : ℕ) → Op → Message
asks who boot xid tag op = Request (record { who = who; boot = boot; xid = record { 0 = xid }; tag = tag; op = op })

abbrev pub replays : Who → ℕ → Txn → (xid tag : ℕ) → List ℕ → Op → Message
replays who boot number xid tag seen op =
    Replay (record { who = who; boot = boot; txn = number; xid = record { 0 = xid }; tag = tag; seen = seen; op = op })

abbrev pub hands_in : Who → ℕ → Cookie → Resource → Mode → Policy → Message
hands_in who boot c resource mode policy =
    MessageLock (record { who = who; boot = boot; cookie = c; resource = resource; mode = mode; policy = policy })

abbrev pub reports : Who → ℕ → Cookie → Who → (xid : ℕ) → Option ℕ → (stamp : ℕ) → Message
reports who boot c asker xid found stamp =
    Size (record {
      who = who;
      boot = boot;
      cookie = c;
      for_who = asker;
      xid = record { 0 = xid };
      size = found;
      stamp = record { 0 = stamp };
    })

-- messages of a target

abbrev pub replies : Who → (boot xid : ℕ) → Txn → Txn → List ℕ → At → List Lock → Answer → Message
replies who boot xid number committed seen at locks answer =
    Reply (record {
      who = who;
      boot = boot;
      xid = record { 0 = xid };
      txn = number;
      committed = committed;
      seen = seen;
      at = at;
      locks = locks;
      answer = answer;
    })

abbrev pub grants : Who → ℕ → Cookie → Extent → (size : ℕ) → Txn → List ℕ → Message
grants who boot c extent size committed seen =
    Grant (record {
      who = who;
      boot = boot;
      cookie = c;
      extent = extent;
      size = size;
      committed = committed;
      seen = seen;
    })

abbrev pub glimpses : Who → ℕ → Cookie → Who → (xid : ℕ) → Message
glimpses who boot c asker xid = Ask who boot c asker (record { 0 = xid })

-- entries

abbrev pub hold : ℕ → Cookie → Entry
hold t c = entry.Hold (record { 0 = t }) c

abbrev pub drop : ℕ → Cookie → Entry
drop t c = entry.Drop (record { 0 = t }) c

abbrev pub peek : ℕ → Cookie → ℕ → Entry
peek t c size = entry.Peek (record { 0 = t }) c size

abbrev pub acts : Who → ℕ → Answer → Entry
acts who xid answer = entry.Act who (record { 0 = xid }) answer

abbrev pub executes : Txn → Who → ℕ → List ℕ → Answer → Entry
executes number who xid seen answer = entry.Txn number who (record { 0 = xid }) seen answer

-- ---- evidence

-- of a line, and then of those before it
infixr 3 ◌then◌
pub ◌then◌ : {A B : Type 0} → A → B → A × B
a then b = (a, b)

pub up : (a b : ℕ) → leb a b ≡ true → a ≤ b
up a b fits = leb-true a b fits

pub never : {A : Type 0} → false ≡ true → A
never e = absurd (cc)

pub gone : {A : Type 0} → true ≡ false → A
gone e = absurd (cc)

pub nowhere : {A : Type 0} → 0 < 0 → A
nowhere h = absurd (omega arith)

pub differ : (a b : ℕ) → eqb a b ≡ false → a ≢ b
differ a b e same = let is = eq-eqb a b same in absurd (cc)
