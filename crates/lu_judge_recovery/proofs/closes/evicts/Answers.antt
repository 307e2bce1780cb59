use Rattle.std.proofs.Common.{sym, ◌∙◌}
use Rattle.lu_spec_laws.specs.Words.Closes.{cause_at}
use Rattle.lu_judge_recovery.proofs.Deeds.{evicts_found, evicts_missing, evicts_none}
use Rattle.lu_judge_recovery.proofs.closes.evicts.Goals as goal

pub returns-in-Some-evicts : goal.returns-in-Some-evicts
returns-in-Some-evicts c = record {
  evicts = λ at later t past lives shows knows causes.
      evicts_found at later c.args.who c.in-Some.cause c.in-Some-evicts.found (cause_at t past c.args.who) c.same_cause.result
      (c.in-Some.ensures.cause t past lives knows causes)
      (sym (shows.evicted c.args.who) ∙ sym c.in-Some-evicts.ensures.evicted) c.same_cause.ensures;
}

pub returns-in-None-evicts : goal.returns-in-None-evicts
returns-in-None-evicts c = record {
  evicts = λ at later t past lives shows knows causes.
      evicts_missing at later c.args.who c.in-Some.cause (cause_at t past c.args.who) (c.in-Some.ensures.cause t past lives knows causes)
      (sym (shows.evicted c.args.who) ∙ sym c.in-None-evicts.ensures.evicted);
}

pub returns-in-None : goal.returns-in-None
returns-in-None c = record {
  evicts = λ at later t past lives shows knows causes. evicts_none at later c.args.who (cause_at t past c.args.who)
      (c.in-None.ensures.cause t past lives knows causes);
}
