use Rattle.std.proofs.Common.{◌≡◌, ◌<◌, true, length, sym, ◌∙◌, subst, arith}
use Rattle.std.specs.Prelude.{List, filter, map, reverse, IsTrue, ◌↔◌}
use Rattle.lu_msg.specs.declared.messages.LockReplay.{LockReplay}
use Rattle.lu_spec_machine.specs.Footprint.{Every}
use Rattle.lu_spec_laws.specs.Words.Boots.{boot}
use Rattle.lu_spec_laws.specs.Words.Handed.{handed, locks}
use Rattle.lu_spec_laws.specs.Words.Closes.{stays_at, lock_of}
use Rattle.lu_spec_laws.specs.Laws.Recovery.{Restores}
use Rattle.lu_judge_recovery.proofs.Checks.{fails_at, holds_at, holds_all}
use Rattle.lu_judge_recovery.proofs.Every.{every_read}
use Rattle.lu_judge_recovery.proofs.Judging.{on_from}
use Rattle.lu_judge_recovery.proofs.closes.restores_all.Goals as goal

pub loop-place-preserved : goal.loop-place-preserved
loop-place-preserved c = record {
  within = omega arith;
  restores = λ at later t past lives shows knows causes.
      let below : c.loop-place.place < length c.handed-handed.result.now = omega arith in
      holds_at (λ r. stays_at t past r.now.who ≡ true → Restores at later (lock_of r.now)) c.handed-handed.result.now c.loop-place.place _
      c.restores_it.result below
      (c.restores_it.ensures.restores at later t past lives shows knows causes) c.if-not-restores_it.false
      (c.loop-place.invariant.restores at later t past lives shows knows causes);
}

pub returns-then-not-restores_it : goal.returns-then-not-restores_it
returns-then-not-restores_it c = record {
  restores = λ at later t past lives shows knows causes.
      let below : c.loop-place.place < length c.handed-handed.result.now = omega arith in
      on_from
      (fails_at (λ r. stays_at t past r.now.who ≡ true → Restores at later (lock_of r.now)) c.handed-handed.result.now c.loop-place.place _
      c.restores_it.result below
      (c.restores_it.ensures.restores at later t past lives shows knows causes) c.if-not-restores_it.true)
      (every_read (Restores at later) lock_of (λ (r : LockReplay). stays_at t past r.who) (λ r. r.now) c.handed-handed.result.now
      (locks (boot t past) (handed t past)) (c.handed-handed.ensures.handed t past knows));
}

pub returns : goal.returns
returns c = record {
  restores = λ at later t past lives shows knows causes.
      on_from
      (holds_all (λ r. stays_at t past r.now.who ≡ true → Restores at later (lock_of r.now)) c.handed-handed.result.now c.loop-place.place
      (omega arith)
      (c.loop-place.invariant.restores at later t past lives shows knows causes))
      (every_read (Restores at later) lock_of (λ (r : LockReplay). stays_at t past r.who) (λ r. r.now) c.handed-handed.result.now
      (locks (boot t past) (handed t past)) (c.handed-handed.ensures.handed t past knows));
}
