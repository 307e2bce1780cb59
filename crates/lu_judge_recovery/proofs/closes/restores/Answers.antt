use Rattle.std.proofs.Common.{◌≡◌, sym, ◌∙◌, subst}
use Rattle.std.specs.Prelude.{IsTrue, ◌↔◌}
use Rattle.lu_base.specs.declared.locks.Lock.{Lock}
use Rattle.lu_spec_laws.specs.Words.Closes.{will_restore, lock_of}
use Rattle.lu_judge_recovery.proofs.Judging.{found_is}
use Rattle.lu_judge_recovery.proofs.closes.restores.Goals as goal

pub returns-in-Some : goal.returns-in-Some
returns-in-Some c = record {
  restores = λ at later shows.
      found_is (will_restore at later c.args.replay.now.who c.args.replay.now.cookie.0) c.in-Some.lock.now (lock_of c.args.replay.now)
      c.same_lock.result
      (sym (shows.restored c.args.replay.now.who c.args.replay.now.cookie.0) ∙ sym c.in-Some.ensures.restored)
      (subst (λ (l : Lock). IsTrue c.same_lock.result ↔ (c.in-Some.lock.now ≡ l)) c.lock_of.ensures c.same_lock.ensures);
}
