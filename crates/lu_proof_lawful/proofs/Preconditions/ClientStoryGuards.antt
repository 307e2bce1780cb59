-- When a client's line that a target's message brings about may be added to the story of that target: a lock that it waited for comes, with
-- what is committed there; it asks where such a lock is, and tells how long an object is by a lock that it holds.
use Rattle.std.proofs.Common.{◌≡◌, ℕ, ◌<◌, ◌≤◌, ◌⊎◌, List, [], ◌∷◌}
use Rattle.lu_base.specs.declared.ids.Cookie.{Cookie}
use Rattle.lu_base.specs.declared.ids.Node.TheVariants.{Client, Target}
use Rattle.lu_base.specs.declared.ids.Who.{Who}
use Rattle.lu_base.specs.declared.locks.Extent.{Extent}
use Rattle.lu_base.specs.declared.locks.Lock.{Lock}
use Rattle.lu_base.specs.declared.locks.Mode.TheVariants.{PR, PW}
use Rattle.lu_base.specs.declared.locks.Policy.TheVariants.{Range}
use Rattle.lu_lock.specs.Growth.{the_end}
use Rattle.lu_msg.specs.declared.answers.Answer.TheVariants as answer
use Rattle.lu_msg.specs.declared.messages.GrantNotice.{GrantNotice}
use Rattle.lu_msg.specs.declared.messages.Message.TheVariants as message
use Rattle.lu_msg.specs.declared.messages.Reply.{Reply as ReplyTo}
use Rattle.lu_msg.specs.declared.messages.SizeReport.{SizeReport}
use Rattle.lu_msg.specs.declared.operations.Op.{Op}
use Rattle.lu_msg.specs.declared.operations.Op.TheVariants as op
use Rattle.lu_spec_entries.specs.Carried.{Flight}
use Rattle.lu_spec_entries.specs.Words.{Hold, Line}
use Rattle.lu_spec_client.specs.Imports.{Serving}
use Rattle.lu_proof_lawful.specs.Covered.ClientStates.{known_of, life_of, standing_of, awaits_of}
use Rattle.lu_proof_lawful.proofs.Preconditions.Heard.{Was, HeardAs}

-- the target sent its grant to this life, of the boot that is known; it is what that life asked for and was told to wait for, and it waits
-- still
pub record GivenOf (past : List Line) (c t : ℕ) (lock : Lock) (seen : List ℕ) : Type 0 where
  pub notice : GrantNotice
  pub was : Was past (Target t) (Client c) (message.Grant notice)
  pub who : notice.who ≡ life_of c past
  pub boot : notice.boot ≡ known_of c past
  pub cookie : lock.cookie ≡ notice.cookie
  pub of_life : lock.ask.who ≡ notice.who
  pub range : lock.ask.policy ≡ Range notice.extent
  pub saw : seen ≡ notice.seen
  pub flight : Flight
  pub reply : ReplyTo
  pub heard : HeardAs past notice.who flight reply
  pub extent : Extent
  pub asked : flight.op ≡ op.Enqueue lock.resource lock.ask.mode extent
  pub told : reply.answer ≡ answer.Waiting lock.cookie
  pub awaits : 0 < awaits_of notice.who lock.cookie.0 past

-- in the newest line the client came to hold a lock of that cookie
abbrev pub HeldNow : List Line → (c t : ℕ) → Cookie → Type 0
HeldNow [] c t cookie = ⊥
HeldNow (l ∷ past) c t cookie = elim l.entry [
  | Hold target lock marked size seen ↦ (l.at.node ≡ Client c) × (target ≡ t)
      × (lock.cookie ≡ cookie)
  | _ ↦ ⊥
]

-- with the grant of that lock the target said that all up to that number is committed
pub record GivenSettles (past : List Line) (c t to : ℕ) : Type 0 where
  pub notice : GrantNotice
  pub was : Was past (Target t) (Client c) (message.Grant notice)
  pub who : notice.who ≡ life_of c past
  pub boot : notice.boot ≡ known_of c past
  pub now : HeldNow past c t notice.cookie
  pub is : to ≡ notice.committed.0

-- where the lock of that cookie is, which it waits for
pub record WhereOk (past : List Line) (c : ℕ) (who : Who) (boot : ℕ) (cookie : Cookie) : Type 0 where
  pub serves : standing_of c past ≡ Serving
  pub of_life : who ≡ life_of c past
  pub of_boot : boot ≡ known_of c past
  pub awaits : 0 < awaits_of who cookie.0 past

-- the target asked the life that
pub record ReportsOk (past : List Line) (c t : ℕ) (s : SizeReport) : Type 0 where
  pub of_life : s.who ≡ life_of c past
  pub of_boot : s.boot ≡ known_of c past
  pub boot : ℕ
  pub was : Was past (Target t) (Client c) (message.Ask s.who boot s.cookie s.for_who s.xid)

-- a lock that is asked for is for reading or writing, on a range whose ends are in order
abbrev pub AsksInOrder : Op → Type 0
AsksInOrder (op.Enqueue resource mode extent) = (extent.first ≤ extent.last) × (extent.last ≤ the_end) × ((mode ≡ PR) ⊎ (mode ≡ PW))
AsksInOrder _ = Unit {0}
