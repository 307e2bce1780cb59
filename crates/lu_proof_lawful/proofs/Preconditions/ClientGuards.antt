-- When a client's line that a target's message brings about may be added to a past: a lock that it waited for comes, and how long an object
-- is, as its holder tells it.
use Rattle.std.proofs.Common.{◌≡◌, ℕ, ◌<◌, true, Bool, List, [], ◌∷◌, Option, Some, None, ◌⊎◌}
use Rattle.lu_base.specs.declared.ids.At.{At}
use Rattle.lu_base.specs.declared.ids.Cookie.{Cookie}
use Rattle.lu_base.specs.declared.ids.Node.TheVariants.{Target}
use Rattle.lu_base.specs.declared.ids.TargetId.{TargetId}
use Rattle.lu_base.specs.declared.locks.Extent.{Extent}
use Rattle.lu_base.specs.declared.locks.Lock.{Lock}
use Rattle.lu_base.specs.declared.locks.Mode.TheVariants.{PW}
use Rattle.lu_base.specs.declared.locks.Policy.TheVariants.{Range}
use Rattle.lu_msg.specs.declared.messages.GrantNotice.{GrantNotice}
use Rattle.lu_msg.specs.declared.messages.Message.TheVariants as message
use Rattle.lu_msg.specs.declared.messages.SizeReport.{SizeReport}
use Rattle.lu_held.specs.declared.locks.HeldLock.{HeldLock}
use Rattle.lu_held.specs.Locks.{named, reaches_end}
use Rattle.lu_spec_entries.specs.Carried.{Work, Waits, Running}
use Rattle.lu_spec_entries.specs.Words.{Peek, Line}
use Rattle.lu_spec_client.specs.Caches.{held_at}
use Rattle.lu_spec_client.specs.Looks.{size_under}
use Rattle.lu_spec_client.specs.Messages.{granted_as, held_as, size_held}
use Rattle.lu_spec_client.specs.States.{store_at}
use Rattle.lu_proof_lawful.specs.Covered.Calls.{call_at, life_at}
use Rattle.lu_proof_lawful.specs.Covered.Imports.{known_at}
use Rattle.lu_proof_lawful.proofs.Preconditions.Heard.{In, TookNow}

-- ---- a lock that waited comes

-- the newest line took its grant, of the boot that is known; a call stands there waiting for it, and it comes as that asked for it, marked
-- where it was called back meanwhile, on the range that it is granted on
pub record GivenOk (past : List Line) (at : At) (c t : ℕ) (lock : Lock) (marked : Bool) (size : Option ℕ) (seen : List ℕ) : Type 0 where
  pub notice : GrantNotice
  pub took : TookNow past at (Target t) (message.Grant notice)
  pub who : notice.who ≡ life_at c past
  pub boot : notice.boot ≡ known_at c t past
  pub slot : ℕ
  pub running : Running
  pub call : call_at c slot past ≡ Some running
  pub work : Work
  pub target : TargetId
  pub asked : Lock
  pub waits : running.stage ≡ Waits work target asked marked
  pub of_target : target.0 ≡ t
  pub of_cookie : asked.cookie ≡ notice.cookie
  pub is : lock ≡ granted_as asked notice.extent
  pub sized : size ≡ Some notice.size
  pub saw : seen ≡ notice.seen

-- where the lock of that cookie is: a call stands there waiting for it
pub record AsksWhere (past : List Line) (c t : ℕ) (cookie : Cookie) : Type 0 where
  pub slot : ℕ
  pub running : Running
  pub call : call_at c slot past ≡ Some running
  pub work : Work
  pub target : TargetId
  pub lock : Lock
  pub marked : Bool
  pub waits : running.stage ≡ Waits work target lock marked
  pub of_target : target.0 ≡ t
  pub of_cookie : lock.cookie ≡ cookie

-- ---- a glimpse of another client

-- the newest line took that question of the target
abbrev pub TookAsk : List Line → At → (t : ℕ) → SizeReport → Type 0
TookAsk past at t s = (boot : ℕ) × TookNow past at (Target t) (message.Ask s.who boot s.cookie s.for_who s.xid)

-- the newest line told its user so, and that before it took the question
abbrev pub PeekedNow : List Line → At → (t : ℕ) → SizeReport → ℕ → Type 0
PeekedNow [] at t s n = ⊥
PeekedNow (l ∷ past) at t s n = elim l.entry [
  | Peek u cookie size ↦ (l.at ≡ at) × (u ≡ t) × (cookie ≡ s.cookie) × (size ≡ n)
      × TookAsk past at t s
  | _ ↦ ⊥
]

-- how long the object is by a lock for writing to the end that the client holds; none where it holds no such lock, or the object ends at
-- its start
pub record SizeOk (past : List Line) (at : At) (c t : ℕ) (s : SizeReport) : Type 0 where
  pub of_life : s.who ≡ life_at c past
  pub of_boot : s.boot ≡ known_at c t past
  pub is : s.size ≡ size_held (store_at c past) (held_as (named (record { 0 = t }) s.cookie) (held_at c past))
  pub took : ((s.size ≡ None) × TookAsk past at t s) ⊎ ((n : ℕ) × (s.size ≡ Some n) × PeekedNow past at t s n)
  pub of_turn : s.stamp ≡ at.stamp

-- where there is one it is shown first
pub record PeekOk (past : List Line) (at : At) (c t : ℕ) (cookie : Cookie) (size : ℕ) : Type 0 where
  pub question : SizeReport
  pub took : TookAsk past at t question
  pub of_life : question.who ≡ life_at c past
  pub of_cookie : question.cookie ≡ cookie
  pub holding : HeldLock
  pub held : In holding (held_at c past)
  pub of_target : holding.target.0 ≡ t
  pub of_lock : holding.lock.cookie ≡ cookie
  pub mode : holding.lock.ask.mode ≡ PW
  pub extent : Extent
  pub range : holding.lock.ask.policy ≡ Range extent
  pub ends : reaches_end holding.lock.ask.policy ≡ true
  pub is : size ≡ size_under holding.lock (store_at c past)
  pub above : extent.first < size
