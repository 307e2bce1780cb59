-- What a target has decided of one object, its locks and its answers, and whom it has evicted, is what the story says.
use Rattle.std.proofs.Common.{◌≡◌, ℕ, ◌≤◌, List, [], ◌∷◌, Some, ◌⊎◌}
use Rattle.lu_base.specs.declared.ids.Who.{Who}
use Rattle.lu_base.specs.declared.locks.Lock.{Lock as TableLock}
use Rattle.lu_base.specs.declared.locks.Resource.{Resource}
use Rattle.lu_msg.specs.declared.commits.Batch.{Batch}
use Rattle.lu_spec_entries.specs.Carried.{Deed}
use Rattle.lu_spec_entries.specs.Words as word
use Rattle.lu_spec_entries.specs.Words.{Line}
use Rattle.lu_spec_entries.specs.Concerns.{only}
use Rattle.lu_spec_target.specs.Lives.{is_life}
use Rattle.lu_proof_lawful.specs.Covered.TargetStates.{server_of, evicted_of, shown_of, closed_of}
use Rattle.lu_proof_lawful.specs.Covered.TargetCloses.{closing_of}
use Rattle.lu_proof_lawful.specs.Covered.Heads.{Head}
use Rattle.lu_proof_lawful.proofs.Preconditions.Guards.{In}
use Rattle.lu_proof_lawful.proofs.Preconditions.StoryGuards.{IsServing}
use Rattle.lu_proof_lawful.proofs.Invariants.TargetGroups.{Acted, Gave, Counts, Evicted}
use Rattle.lu_proof_bytes.specs.Object.Words as words
use Rattle.lu_proof_bytes.specs.Object.Words.{Lock, Answer, Entry}
use Rattle.lu_proof_bytes.specs.Object.Folds.{IsGranted, IsWaiting, Answered}
use Rattle.lu_proof_bytes.specs.Object.Folds as says
use Rattle.lu_proof_lawful.specs.Projection.Lives.{number_of}
use Rattle.lu_proof_lawful.specs.Projection.Locks.{lock_of}
use Rattle.lu_proof_lawful.specs.Projection.Locks as found
use Rattle.lu_proof_lawful.specs.Projection.Requests.{op_of, answer_of}
use Rattle.lu_proof_lawful.specs.Projection.Messages.{request_as}
use Rattle.lu_proof_lawful.specs.Projection.Stories.{story}
use Rattle.lu_proof_lawful.proofs.Refinement.TiedAsked.{IsOn, HasLock}

-- ---- commits

-- a close shows its commit next
abbrev pub CommitsNext : List word.Entry → Type 0
CommitsNext [] = ⊥
CommitsNext (e ∷ es) = (to : ℕ) × (batch : Batch) × (e ≡ word.Commit to batch)

-- the story has what is committed, but for the time until a close shows its commit
abbrev pub CommittedAs : Head → List Line → ℕ → Type 0
CommittedAs head past n =
    (n ≡ (server_of head.osts past).committed.0) ⊎ ((n ≤ (server_of head.osts past).committed.0)
    × CommitsNext (closing_of head.clients past))

-- ---- locks

-- a lock of the table was given on the object, and it is this one of the story
abbrev pub GivenOn : Resource → List Line → Lock → Type 0
GivenOn r past m = (d : Deed) × (l : TableLock) × Gave past d l × (l.resource ≡ r) × (lock_of l ≡ m)

-- the lock is granted; or its life was evicted, and while the target serves its release is shown yet
abbrev pub StandsThere : Head → List Line → TableLock → Type 0
StandsThere head past l = In l (server_of head.osts past).granted
    ⊎ (Evicted past l.ask.who × (IsServing head.osts past → In l (shown_of past)))

abbrev pub GrantedOn : Head → Resource → List Line → Lock → Type 0
GrantedOn head r past m = (d : Deed) × (l : TableLock) × Gave past d l × (l.resource ≡ r) × (lock_of l ≡ m) × StandsThere head past l

abbrev pub QueuedOn : Head → Resource → List Line → Lock → Type 0
QueuedOn head r past m = (l : TableLock) × In l (server_of head.osts past).queued × (l.resource ≡ r) × (lock_of l ≡ m)

-- ---- answers

-- it was done for that request on the object, counts, and answers so
pub record AnsweredBy (head : Head) (r : Resource) (past : List Line) (h : List Entry) (w x : ℕ) (a : Answer) : Type 0 where
  pub deed : Deed
  pub acted : Acted past deed
  pub counts : Counts head.osts past deed
  pub on : IsOn r deed.op
  pub op : words.Op
  pub is : op_of r h deed.op ≡ Some op
  pub who : number_of deed.reply.who ≡ w
  pub xid : deed.reply.xid.0 ≡ x
  pub answer : answer_of (request_as w x op) deed.reply ≡ a

-- ---- all of it

-- over what concerns the target, and a story
pub record TargetBy (head : Head) (r : Resource) (past : List Line) (h : List Entry) : Type 0 where
  pub closed : says.closed h ≡ closed_of past
  pub evicted : (who : Who) → says.evicted (number_of who) h ≡ is_life who (evicted_of past)
  pub committed : CommittedAs head past (says.committed h)
  pub top : says.top h ≤ (server_of head.osts past).cookie
  pub given : (k : ℕ) (m : Lock) → found.given k h ≡ Some m → GivenOn r past m × (m.cookie ≡ k)
  pub gives : (d : Deed) (l : TableLock) → Gave past d l → l.resource ≡ r → found.given l.cookie.0 h ≡ Some (lock_of l)
  pub granted : (m : Lock) → IsGranted h m → GrantedOn head r past m
  pub grants : (l : TableLock) → In l (server_of head.osts past).granted → l.resource ≡ r → IsGranted h (lock_of l)
  pub waiting : (m : Lock) → IsWaiting h m → QueuedOn head r past m
  pub queued : (l : TableLock) → In l (server_of head.osts past).queued → l.resource ≡ r → IsWaiting h (lock_of l)
  pub names : (d : Deed) → Acted past d → IsOn r d.op → HasLock h d.op
  pub answered : (w x : ℕ) (a : Answer) → Answered h w x a → AnsweredBy head r past h w x a
  pub answers : (d : Deed) (o : words.Op) → Acted past d → Counts head.osts past d → IsOn r d.op → op_of r h d.op ≡ Some o
      → Answered h (number_of d.reply.who) d.reply.xid.0 (answer_of (request_as (number_of d.reply.who) d.reply.xid.0 o) d.reply)

abbrev pub TargetTied : Head → (t : ℕ) → Resource → List Line → Type 0
TargetTied head t r past = TargetBy head r (only t past) (story t r past)
