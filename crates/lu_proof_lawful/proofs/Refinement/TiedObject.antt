-- One object of a target, its bytes on the disk and in the log, is what the story says, whatever of the log is left out; what changed it
-- was
-- done; no cut that was told goes past the greatest offset; each write-back that was done was answered so; and what was sent between the
-- target and lives that weren't evicted was sent in the story.
use Rattle.std.proofs.Common.{◌≡◌, ℕ, ◌≤◌, ◌<◌, Bool, true, false, List, Some, length}
use Rattle.std.specs.Prelude.{filter, not}
use Rattle.lu_base.specs.declared.ids.Cookie.{Cookie}
use Rattle.lu_base.specs.declared.ids.Node.{Node}
use Rattle.lu_base.specs.declared.ids.Who.{Who}
use Rattle.lu_base.specs.declared.locks.Resource.{Resource}
use Rattle.lu_lock.specs.Growth.{the_end}
use Rattle.lu_spec_machine.specs.Objects.{Object, object_writes}
use Rattle.lu_spec_machine.specs.Places.{found_at}
use Rattle.lu_msg.specs.declared.answers.Answer.TheVariants as told
use Rattle.lu_msg.specs.declared.messages.GrantNotice.{GrantNotice}
use Rattle.lu_msg.specs.declared.messages.Message.TheVariants as message
use Rattle.lu_msg.specs.declared.messages.Reply.{Reply as ReplyTo}
use Rattle.lu_msg.specs.declared.messages.Request.{Request as RequestOf}
use Rattle.lu_spec_entries.specs.Carried.{Deed, Flight}
use Rattle.lu_spec_entries.specs.Words.{Line}
use Rattle.lu_spec_entries.specs.Concerns.{only}
use Rattle.lu_spec_target.specs.Stored.{object_in}
use Rattle.lu_proof_lawful.specs.Covered.TargetStates.{server_of}
use Rattle.lu_proof_lawful.specs.Covered.Heads.{Head}
use Rattle.lu_proof_lawful.proofs.Preconditions.Guards.{Was}
use Rattle.lu_proof_lawful.proofs.Invariants.TargetGroups.{Acted, Flew, IsMade, Stands}
use Rattle.lu_proof_bytes.specs.Object.Words.{Lock, Change, Write, Cut, Op, Request, Ask, Reply, Give, Block, Cancel, Entry, within}
use Rattle.lu_proof_bytes.specs.Object.Folds as says
use Rattle.lu_proof_bytes.specs.Object.Folds.{evicted, nothing_lost, Changed, WriteBack}
use Rattle.lu_proof_bytes.specs.Object.History.{ToldCut}
use Rattle.lu_proof_lawful.specs.Projection.Lives.{number_of}
use Rattle.lu_proof_lawful.specs.Projection.Locks.{given}
use Rattle.lu_proof_lawful.specs.Projection.Requests.{op_of, asked_as, among, answer_of}
use Rattle.lu_proof_lawful.specs.Projection.Messages.{request_as}
use Rattle.lu_proof_lawful.specs.Projection.Stories.{story}
use Rattle.lu_proof_lawful.proofs.Refinement.TiedAsked.{IsOn, HasLock, is_back}
use Rattle.lu_proof_lawful.proofs.Refinement.Written.{written, ops_of, changes_on, starts_at, disk_then, object_of_disk}

-- ---- the object

-- nothing up to that number is lost
abbrev pub Spares : ℕ → (ℕ → Bool) → Type 0
Spares to lost = (n : ℕ) → n ≤ to → lost n ≡ false

-- the deeds whose numbers aren't lost
abbrev pub left_of : (ℕ → Bool) → List Deed → List Deed
left_of lost log = filter (λ (d : Deed). not (lost d.reply.txn.0)) log

-- whatever is lost of a log over an object, but for what is committed, the story's object without that is what the rest leaves
abbrev pub Objects : Resource → List Entry → (committed : ℕ) → List Deed → Object → Type 0
Objects r h to log object = (lost : ℕ → Bool) → Spares to lost → (p : ℕ) → says.object lost h p
    ≡ found_at (written r (ops_of (left_of lost log)) object) p

-- what was done as a transaction that stands, and may have changed that position of the object
pub record ChangedBy (head : Head) (r : Resource) (past : List Line) (n p : ℕ) : Type 0 where
  pub deed : Deed
  pub acted : Acted past deed
  pub made : IsMade deed
  pub stands : Stands head.osts past deed
  pub number : deed.reply.txn.0 ≡ n
  pub writes : deed.writes ≡ object_writes deed.op
  pub there : changes_on r deed.op p ≡ true
  pub starts : starts_at deed.op ≤ the_end

-- a write that is written back has a byte at least, and lies within an object
abbrev pub HasSome : Change → Type 0
HasSome (Write at bytes) = (0 < length bytes) × ((p : ℕ) → within at bytes p ≡ true → p ≤ the_end)
HasSome (Cut size) = Unit {0}

-- ---- messages

-- the request of a life that the story has under that number flew
pub record FlewOn (r : Resource) (past : List Line) (h : List Entry) (who : Who) (x : ℕ) (q : Request) : Type 0 where
  pub flight : Flight
  pub flew : Flew past who flight
  pub xid : flight.xid ≡ x
  pub on : IsOn r flight.op
  pub op : op_of r h flight.op ≡ Some q.op
  pub lock : HasLock h flight.op
  pub is : q ≡ request_as (number_of who) x q.op

-- a request on the object was sent
pub record AskedOn (r : Resource) (h : List Entry) (q : RequestOf) : Type 0 where
  pub op : Op
  pub is : op_of r h q.op ≡ Some op
  pub lock : HasLock h q.op
  pub was : says.Was h (Ask q.boot (request_as (number_of q.who) q.xid.0 op))

-- ---- all of it

-- over what concerns the target, and a story
pub record ObjectBy (head : Head) (r : Resource) (past : List Line) (h : List Entry) : Type 0 where
  pub objects : Objects r h (server_of head.osts past).committed.0 (server_of head.osts past).log (object_of_disk r (disk_then head past))
  pub now : (p : ℕ) → found_at (object_in (server_of head.osts past).objects r) p ≡ says.object nothing_lost h p
  pub changed : (n p : ℕ) → Changed h n p → ChangedBy head r past n p
  pub cuts : (c n : ℕ) → ToldCut h c n → n ≤ the_end
  pub full : (c : ℕ) (b : WriteBack) → says.taken c h ≡ Some b → HasSome b.change
  pub backs : (d : Deed) → Acted past d → is_back r d.op ≡ true → d.reply.answer ≡ told.Done
  pub flew : (who : Who) (x : ℕ) (q : Request) → asked_as (number_of who) x h ≡ Some q → FlewOn r past h who x q
  pub asks : (from to : Node) (q : RequestOf) → Was past from to (message.Request q) → evicted (number_of q.who) h ≡ false → IsOn r q.op
      → AskedOn r h q
  pub cancels : (from to : Node) (who : Who) (boot : ℕ) (cookie : Cookie) (l : Lock) → Was past from to (message.Cancel who boot cookie)
      → evicted (number_of who) h ≡ false
      → given cookie.0 h ≡ Some l → says.Was h (Cancel boot (number_of who) cookie.0)
  pub replies : (from to : Node) (k : ReplyTo) (q : Request) → Was past from to (message.Reply k) → asked_as (number_of k.who) k.xid.0 h
      ≡ Some q → says.Was h (Reply k.boot q.life q.xid (answer_of q k))
  pub gives : (from to : Node) (g : GrantNotice) (l : Lock) → Was past from to (message.Grant g) → given g.cookie.0 h ≡ Some l
      → says.Was h (Give g.boot l g.size (among g.seen))
  pub blocks : (from to : Node) (who : Who) (boot : ℕ) (cookie : Cookie) (l : Lock) → Was past from to (message.Block who boot cookie)
      → given cookie.0 h ≡ Some l → says.Was h (Block boot (number_of who) cookie.0)

abbrev pub ObjectTied : Head → (t : ℕ) → Resource → List Line → Type 0
ObjectTied head t r past = ObjectBy head r (only t past) (story t r past)
