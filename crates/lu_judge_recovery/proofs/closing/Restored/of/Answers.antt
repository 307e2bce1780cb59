use Rattle.std.proofs.Common.{◌≡◌, ◌<◌, length, sym, ap, ◌∙◌, subst, arith}
use Rattle.std.specs.Prelude.{List}
use Rattle.lu_msg.specs.declared.messages.LockReplay.{LockReplay}
use Rattle.lu_spec_laws.specs.Words.Boots.{boot}
use Rattle.lu_spec_laws.specs.Words.Handed.{handed, locks}
use Rattle.lu_spec_laws.specs.Words.Closes.{find_lock, stays_at}
use Rattle.lu_judge_recovery.proofs.Sets.{restored_of, read_of, read_more, read_all, lock_added}
use Rattle.lu_judge_recovery.proofs.closing.Restored.of.Goals as goal

pub loop-place-preserved : goal.loop-place-preserved
loop-place-preserved c = record {
  within = omega arith;
  locks = λ t past lives knows causes who cookie.
      let below : c.loop-place.place < length c.handed-handed.result.now = omega arith in
      lock_added (λ (r : LockReplay). stays_at t past r.who) _ (read_of (λ r. r.now) c.handed-handed.result.now c.loop-place.place) who
      cookie _ _
      (c.in_ok-add.ensures.added t past lives knows causes who cookie) (c.loop-place.invariant.locks t past lives knows causes who cookie)
      ∙ ap (λ (rs : List LockReplay). find_lock who cookie (restored_of (λ (r : LockReplay). stays_at t past r.who) rs))
      (sym (read_more (λ r. r.now) c.handed-handed.result.now c.loop-place.place _ below));
}

pub returns : goal.returns
returns c = record {
  restored = λ t past lives knows causes who cookie.
      c.loop-place.invariant.locks t past lives knows causes who cookie
      ∙ ap (λ (rs : List LockReplay). find_lock who cookie (restored_of (λ (r : LockReplay). stays_at t past r.who) rs))
      (read_all (λ r. r.now) c.handed-handed.result.now c.loop-place.place (omega arith) ∙ c.handed-handed.ensures.handed t past knows);
}
