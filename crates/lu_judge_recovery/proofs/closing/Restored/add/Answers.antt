use Rattle.std.proofs.Common.{sym, ◌∙◌}
use Rattle.std.specs.Prelude.{Some}
use Rattle.std.proofs.lemmas.Result.{on_ok_weaker}
use Rattle.lu_spec_laws.specs.Words.Closes.{stays_at, lock_of, is_lock}
use Rattle.lu_judge_recovery.specs.Closings.{lock_among}
use Rattle.lu_judge_recovery.proofs.Deeds.{not_added, is_added}
use Rattle.lu_judge_recovery.proofs.closing.Restored.add.Goals as goal

pub returns-then-not-stays : goal.returns-then-not-stays
returns-then-not-stays c = record {
  added = λ t past lives knows causes who cookie.
      not_added (stays_at t past c.args.replay.now.who) (is_lock who cookie (lock_of c.args.replay.now)) (Some (lock_of c.args.replay.now))
      (lock_among c.args.self.now who cookie)
      (sym (c.stays.ensures.stays t past lives knows causes) ∙ c.if-not-stays.true);
}

pub returns : goal.returns
returns c = record {
  added = on_ok_weaker c.put.result
      (λ put t past lives knows causes who cookie.
      is_added (stays_at t past c.args.replay.now.who) c.lock_of.result (lock_of c.args.replay.now) who cookie
      (lock_among c.put.new.self who cookie) (lock_among c.args.self.now who cookie)
      (sym (c.stays.ensures.stays t past lives knows causes) ∙ c.if-not-stays.false) c.lock_of.ensures (put who cookie))
      c.put.ensures.put;
}
