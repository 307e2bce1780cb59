-- What lasts on the resource is what is granted there.
use Rattle.std.proofs.Common.{◌∙◌, sym, ap, map}
use Rattle.std.specs.Prelude.{reverse}
use Rattle.std.proofs.lemmas.Result.{IfOk-weaker}
use Rattle.lu_spec_laws.specs.Words.Queues.{asks}
use Rattle.lu_judge_locks.proofs.Notions.{locks, granted_on}
use Rattle.lu_judge_locks.proofs.Stepped.{newest_asks}
use Rattle.lu_judge_locks.proofs.queues.Queues.granted.Goals as goal

pub returns : goal.returns
returns c = record {
  granted =
      IfOk-weaker c.newest_first.result _ _
      (λ all is. λ past shown.
      is ∙ ap (λ items. map (λ p. p.lock.now.ask) (reverse items)) c.deref.ensures.value ∙ newest_asks c.in_ok-granted.granted.items
      ∙ ap (λ list. asks (reverse (locks list))) (c.in_ok-granted.ensures ∙ shown.granted.lists c.args.target c.args.resource)
      ∙ ap asks (sym (granted_on c.args.target c.args.resource past)))
      c.newest_first.ensures;
}
