-- What a client sends to a target in a covered run, the target may heed: a request while it serves, a replay and a lock while it recovers.
use Rattle.std.specs.Prelude.{◌≡◌, ◌<◌, ◌≤◌, ℕ, zero, suc, true, false, List}
use Rattle.lu_base.specs.declared.ids.Node.TheVariants.{Client, Target}
use Rattle.lu_base.specs.declared.locks.Lock.{Lock}
use Rattle.lu_base.specs.declared.locks.Mode.TheVariants.{PR}
use Rattle.lu_lock.specs.Overlap.{IsOrdered}
use Rattle.lu_msg.specs.Limits.{tag_count}
use Rattle.lu_msg.specs.declared.messages.Message.{Message}
use Rattle.lu_msg.specs.declared.messages.Message.TheVariants as message
use Rattle.lu_msg.specs.declared.messages.Request.{Request}
use Rattle.lu_msg.specs.declared.messages.RequestReplay.{RequestReplay}
use Rattle.lu_msg.specs.declared.operations.Op.{Op}
use Rattle.lu_service.specs.declared.services.Kind.TheVariants.{Mdt, Ost}
use Rattle.lu_service.specs.Objects.{alters}
use Rattle.lu_service.specs.Takes.{Takes, Performs}
use Rattle.lu_spec_machine.specs.Footprint.{Every}
use Rattle.lu_spec_target.specs.Lives.{is_life}
use Rattle.lu_spec_target.specs.Locks.{same_request}
use Rattle.lu_spec_target.specs.Phase.{first_of}
use Rattle.lu_spec_target.specs.Rows.{lock_again}
use Rattle.lu_spec_target.specs.States.{Target as TargetState, is_serving}
use Rattle.lu_spec_target.specs.Windows.{Replayed}
use Rattle.lu_spec_run.specs.Heads.{Head, IsHead}
use Rattle.lu_spec_run.specs.Runs.{Turn, lines_of, IsRun, target_of}
use Rattle.lu_proof_lawful.specs.Covered.Runs.{AllCovered}
use Rattle.lu_proof_taken.specs.Taken.{WasSent}

-- ---- operations, by a target's number: 0 is the metadata target's

-- those that a target's service takes
abbrev pub TakesAt : ℕ → Op → Type 0
TakesAt zero o = Takes Mdt o
TakesAt (suc t) o = Takes Ost o

-- those that it may perform again: on objects such as change bytes
abbrev pub RepeatsAt : ℕ → Op → Type 0
RepeatsAt zero o = Performs Mdt o
RepeatsAt (suc t) o = Performs Ost o × (alters o ≡ true)

-- ---- messages

-- a request: its tag is one that there is, its operation one of the target's service, and each request that waits there of its life and
-- number has its tag
pub record MayBeTaken (t : ℕ) (r : Request) (v : TargetState) : Type 0 where
  pub tag : r.tag < tag_count
  pub takes : TakesAt t r.op
  pub tags : Every (λ (q : Request). same_request q r ≡ true → q.tag ≡ r.tag) v.queue

-- what was done before: under a number of an earlier boot, above 1, which no other life handed in
pub record MayBeRepeated (t : ℕ) (r : RequestReplay) (v : TargetState) : Type 0 where
  pub earlier : r.txn.0 ≤ first_of v.boot
  pub late : 1 < r.txn.0
  pub tag : r.tag < tag_count
  pub repeats : RepeatsAt t r.op
  pub only : Every (λ (s : Replayed). s.number ≡ r.txn.0 → s.who ≡ r.who) v.replays

-- a lock: granted in an earlier boot, on names for reading, under a cookie which no other life handed in
pub record MayBeBrought (t : ℕ) (l : Lock) (v : TargetState) : Type 0 where
  pub earlier : l.cookie.0 ≤ first_of v.boot
  pub ordered : IsOrdered l.ask.policy
  pub reads : t ≡ 0 → l.ask.mode ≡ PR
  pub only : Every (λ (k : Lock). k.cookie.0 ≡ l.cookie.0 → k.ask.who ≡ l.ask.who) v.brought

-- of each message what the target asks of it, where it does something with it
abbrev pub MayHeed : ℕ → Message → TargetState → Type 0
MayHeed t (message.Request r) v = is_serving v ≡ true → MayBeTaken t r v
MayHeed t (message.Replay r) v = is_serving v ≡ false → r.boot ≡ v.boot → is_life r.who v.lives ≡ true → MayBeRepeated t r v
MayHeed t (message.Lock l) v = is_serving v ≡ false → l.boot ≡ v.boot → is_life l.who v.lives ≡ true → MayBeBrought t (lock_again l) v
MayHeed t _ v = Unit {0}

-- whatever a client sent to a target that is up
abbrev pub AllMayBeHeeded : Type 0
AllMayBeHeeded =
    (head : Head) (turns : List Turn) → IsHead head → IsRun head turns → AllCovered (lines_of turns) → (c t : ℕ) (m : Message)
    → WasSent (lines_of turns) (Client c) (Target t) m → (target_of head t (lines_of turns)).up ≡ true
    → MayHeed t m (target_of head t (lines_of turns))
