use Rattle.std.proofs.Common.{◌≡◌, ℕ, ◌≤◌, ◌-◌, List, length}
use Rattle.lu_base.specs.declared.ids.Who.{Who}
use Rattle.lu_msg.specs.declared.messages.LockReplay.{LockReplay}
use Rattle.lu_spec_laws.specs.Words.Pasts.{Past}
use Rattle.lu_spec_laws.specs.Words.Closes.{find_lock, stays_at}
use Rattle.lu_judge_recovery.specs.Closings.{KnowsClose, AreCauses, lock_among}
use Rattle.lu_judge_recovery.proofs.Sets.{restored_of, read_of}
use Rattle.lu_judge_recovery.proofs.closing.Restored.of.Given as goal

abbrev pub invariant-loop-place : goal.invariant-loop-place
invariant-loop-place l = record {
  within : l.place ≤ length l.handed;
  locks : (t : ℕ) (past : Past) (lives : List Who) → KnowsClose l.close t past → AreCauses l.causes lives t past
      → (who : Who) (cookie : ℕ)
      → lock_among l.restored who cookie ≡ find_lock who cookie
      (restored_of (λ (r : LockReplay). stays_at t past r.who) (read_of (λ r. r.now) l.handed l.place));
}

abbrev pub decreases-loop-place : goal.decreases-loop-place
decreases-loop-place l = length l.handed - l.place
