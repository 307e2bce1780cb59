use Rattle.std.proofs.Common.{◌≡◌, ◌<◌, true, length, sym, ◌∙◌, arith}
use Rattle.std.specs.Prelude.{◌||◌}
use Rattle.lu_spec_laws.specs.Words.Closes.{cause_at}
use Rattle.lu_spec_laws.specs.Laws.Recovery.{Evicts}
use Rattle.lu_judge_recovery.proofs.Checks.{fails_at, holds_at, holds_all}
use Rattle.lu_judge_recovery.proofs.closes.evicts_all.Goals as goal

pub loop-place-preserved : goal.loop-place-preserved
loop-place-preserved c = record {
  within = omega arith;
  evicts = λ at later t past listed shows knows causes.
      let below : c.loop-place.place < length c.args.lives.now = omega arith in
      holds_at (λ who. Evicts at later who (cause_at t past who)) c.args.lives.now c.loop-place.place (record { client = 0; life = 0 })
      c.evicts.result below (c.evicts.ensures.evicts at later t past listed shows knows causes) c.if-not-evicts.false
      (c.loop-place.invariant.evicts at later t past listed shows knows causes);
}

pub returns-then-not-evicts : goal.returns-then-not-evicts
returns-then-not-evicts c = record {
  evicts = λ at later t past listed shows knows causes.
      let below : c.loop-place.place < length c.args.lives.now = omega arith in
      fails_at (λ who. Evicts at later who (cause_at t past who)) c.args.lives.now c.loop-place.place (record { client = 0; life = 0 })
      c.evicts.result below (c.evicts.ensures.evicts at later t past listed shows knows causes) c.if-not-evicts.true;
}

pub returns : goal.returns
returns c = record {
  evicts = λ at later t past listed shows knows causes. holds_all (λ who. Evicts at later who (cause_at t past who))
      c.args.lives.now c.loop-place.place (omega arith) (c.loop-place.invariant.evicts at later t past listed shows knows causes);
}
