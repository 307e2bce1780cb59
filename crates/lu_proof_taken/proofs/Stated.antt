-- Of every covered run.
use Rattle.std.proofs.Common.{◌≡◌, ℕ, List, arith}
use Rattle.lu_base.specs.declared.ids.Node.TheVariants.{Client, Target}
use Rattle.lu_base.specs.declared.locks.Lock.{Lock}
use Rattle.lu_msg.specs.declared.messages.LockReplay.{LockReplay}
use Rattle.lu_msg.specs.declared.messages.Message.{Message}
use Rattle.lu_msg.specs.declared.messages.Message.TheVariants as message
use Rattle.lu_msg.specs.declared.messages.RequestReplay.{RequestReplay}
use Rattle.lu_spec_entries.specs.Concerns.{only}
use Rattle.lu_spec_target.specs.Windows.{Replayed}
use Rattle.lu_spec_run.specs.Heads.{Head}
use Rattle.lu_spec_entries.specs.Words.{Line}
use Rattle.lu_spec_run.specs.Runs.{Turn, lines_of, IsRun}
use Rattle.lu_proof_lawful.specs.Covered.Runs.{AllCovered}
use Rattle.lu_proof_lawful.specs.Covered.TargetStates.{replays_of, brought_of}
use Rattle.lu_proof_lawful.proofs.Preconditions.Grown.{Grown}
use Rattle.lu_proof_lawful.proofs.Preconditions.Heard.{Was}
use Rattle.lu_proof_lawful.proofs.Preconditions.Lists.{self}
use Rattle.lu_proof_lawful.proofs.Preconditions.Only.{was_only}
use Rattle.lu_proof_lawful.proofs.Preconditions.Turns.{covered_head}
use Rattle.lu_proof_lawful.proofs.Invariants.All.{holds}
use Rattle.lu_proof_lawful.proofs.Invariants.PartsStay.{in_every}
use Rattle.lu_proof_lawful.proofs.Invariants.Groups.{HoldsAt}
use Rattle.lu_proof_taken.proofs.Handed.{replay_may, lock_may}
use Rattle.lu_proof_lawful.proofs.Preconditions.Obey.{stands}
use Rattle.lu_proof_lawful.proofs.Coming.Lives.{lives_are_few}
use Rattle.lu_proof_taken.specs.Taken.{WasSent, AllMayCome, KeptAgain, RestoredAgain, HandsIn, AllMayBeKept, AllMayBeRestored}
use Rattle.lu_proof_taken.proofs.Comes.{comes_from}
use Rattle.lu_proof_taken.proofs.Sends.{sent_was}

pub all_may_come : AllMayCome
all_may_come head turns is run covered short c t there m sent =
    let s = stands head turns run covered in
    let low = lives_are_few head turns is run covered c in
    comes_from head (lines_of turns) s.grown c (s.awaits c) (omega (arith, low, short)) t there m
    (sent_was (lines_of turns) (Target t) (Client c) m sent)

-- ---- what is sent again to a target that recovers

module _ (head : Head) (turns : List Turn) (run : IsRun head turns) (covered : AllCovered (lines_of turns)) (t : ℕ) where
  abbrev past : List Line
  past = lines_of turns

  g : Grown (covered_head head) past
  g = (stands head turns run covered).grown

  story_holds : HoldsAt (covered_head head) (only t past)
  story_holds = (holds (covered_head head) past g).at t

  sent_there : (c : ℕ) (m : Message) → WasSent past (Client c) (Target t) m → Was (only t past) (Client c) (Target t) m
  sent_there c m sent = was_only t past (Client c) (Target t) m (self t) (sent_was past (Client c) (Target t) m sent)

  kept : (r : RequestReplay) → HandsIn head past t r.who r.boot (message.Replay r) → KeptAgain head.osts (only t past) r
  kept r h =
      let may = replay_may (covered_head head) (only t past) story_holds h.recovers (Client h.from) t r
      (sent_there h.from (message.Replay r) h.sent) h.present h.slot in
      record {
        earlier = may.earlier;
        late = may.late;
        only = in_every (λ (s : Replayed). s.number ≡ r.txn.0 → s.who ≡ r.who) (replays_of (only t past)) may.only;
      }

  restored : (l : LockReplay) → HandsIn head past t l.who l.boot (message.Lock l) → RestoredAgain head.osts (only t past) l
  restored l h =
      let may = lock_may (covered_head head) (only t past) story_holds h.recovers (Client h.from) t l
      (sent_there h.from (message.Lock l) h.sent) h.present h.slot in
      record {
        earlier = may.earlier;
        only = in_every (λ (k : Lock). k.cookie.0 ≡ l.cookie.0 → k.ask.who ≡ l.who) (brought_of (only t past)) may.only;
      }

pub all_may_be_kept : AllMayBeKept
all_may_be_kept head turns is run covered t r h = kept head turns run covered t r h

pub all_may_be_restored : AllMayBeRestored
all_may_be_restored head turns is run covered t l h = restored head turns run covered t l h
