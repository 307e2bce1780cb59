use Rattle.std.proofs.Common.{ap, ◌∙◌}
use Rattle.lu_spec_laws.specs.Words.Repeats.{unready}
use Rattle.lu_judge_silent.specs.Tables.{waits_in}
use Rattle.lu_judge_silent.proofs.Waiting.{none_waits, some_wait}
use Rattle.lu_judge_silent.proofs.ups.Ups.is_ready.Goals as goal

pub returns-in-Some : goal.returns-in-Some
returns-in-Some c = record {
  ready = λ past shown.
      some_wait c.in-Some.boots.now.keys (unready c.args.who past) c.is_empty.result
      (λ up. ap (λ o. waits_in o up) c.in-Some.ensures.value ∙ shown c.args.who up) c.is_empty.ensures;
}

pub returns-in-None : goal.returns-in-None
returns-in-None c = record {
  ready = λ past shown. none_waits (unready c.args.who past) (λ up. ap (λ o. waits_in o up) c.in-None.ensures.value ∙ shown c.args.who up);
}
