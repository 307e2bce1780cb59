-- What the tables say of the other locks, and what the law asks beside them.
use Rattle.std.proofs.Common.{◌∙◌, sym, ap, subst, List}
use Rattle.std.specs.Prelude.{IsTrue, ◌↔◌}
use Rattle.lu_base.specs.declared.locks.Ask.{Ask}
use Rattle.lu_lock.specs.Conflict.{conflicts_with_any}
use Rattle.lu_spec_laws.specs.Words.Queues.{asks, ahead_of, without_first}
use Rattle.lu_spec_laws.specs.Laws.Locks.{IsAsked}
use Rattle.lu_judge_locks.specs.Orders.{locks_of}
use Rattle.lu_judge_locks.proofs.Decided.{Beside, granted_met, ahead_met, as_it_fits}
use Rattle.lu_judge_locks.proofs.locks.Locks.allows_grant.Goals as goal

pub returns-then-conflicts_with_any : goal.returns-then-conflicts_with_any
returns-then-conflicts_with_any c = λ past shown ordered follows.
    let beside : Beside c.args.self.now.osts past c.args.at c.in-Target.target c.args.lock.now c.in_ok-asked.asked
    c.in_ok-granted.granted.items c.in_ok-ahead.ahead.items c.in_ok-others.others.items = record {
      node = c.in-Target.is;
      asked = c.in_ok-asked.ensures past shown ordered follows;
      granted = c.in_ok-granted.ensures.granted past shown.queues;
      ahead = c.in_ok-ahead.ensures ∙ ap (λ locks. asks (ahead_of c.args.lock.now.cookie.0 locks))
          (ap locks_of c.deref.ensures.value ∙ c.in_ok-waiting.ensures.waiting past shown.queues);
      waiting = c.in_ok-others.ensures ∙ ap (λ locks. asks (without_first c.args.lock.now.cookie.0 locks))
          (ap locks_of c.deref-2.ensures.value ∙ c.in_ok-waiting.ensures.waiting past shown.queues);
    } in
    granted_met c.args.self.now.osts past c.args.at c.in-Target.target c.args.lock.now c.in_ok-asked.asked c.in_ok-granted.granted.items
    c.in_ok-ahead.ahead.items c.in_ok-others.others.items beside
    (ap (conflicts_with_any c.args.lock.now.ask) (sym c.deref-3.ensures.value) ∙ sym c.conflicts_with_any.ensures
    ∙ c.if-conflicts_with_any.true)

pub returns-then-conflicts_with_any-2 : goal.returns-then-conflicts_with_any-2
returns-then-conflicts_with_any-2 c = λ past shown ordered follows.
    let beside : Beside c.args.self.now.osts past c.args.at c.in-Target.target c.args.lock.now c.in_ok-asked.asked
    c.in_ok-granted.granted.items c.in_ok-ahead.ahead.items c.in_ok-others.others.items = record {
      node = c.in-Target.is;
      asked = c.in_ok-asked.ensures past shown ordered follows;
      granted = c.in_ok-granted.ensures.granted past shown.queues;
      ahead = c.in_ok-ahead.ensures ∙ ap (λ locks. asks (ahead_of c.args.lock.now.cookie.0 locks))
          (ap locks_of c.deref.ensures.value ∙ c.in_ok-waiting.ensures.waiting past shown.queues);
      waiting = c.in_ok-others.ensures ∙ ap (λ locks. asks (without_first c.args.lock.now.cookie.0 locks))
          (ap locks_of c.deref-2.ensures.value ∙ c.in_ok-waiting.ensures.waiting past shown.queues);
    } in
    ahead_met c.args.self.now.osts past c.args.at c.in-Target.target c.args.lock.now c.in_ok-asked.asked c.in_ok-granted.granted.items
    c.in_ok-ahead.ahead.items c.in_ok-others.others.items beside
    (ap (conflicts_with_any c.args.lock.now.ask) (sym c.deref-4.ensures.value) ∙ sym c.conflicts_with_any-2.ensures
    ∙ c.if-conflicts_with_any-2.true)

pub returns : goal.returns
returns c = λ past shown ordered follows.
    let beside : Beside c.args.self.now.osts past c.args.at c.in-Target.target c.args.lock.now c.in_ok-asked.asked
    c.in_ok-granted.granted.items c.in_ok-ahead.ahead.items c.in_ok-others.others.items = record {
      node = c.in-Target.is;
      asked = c.in_ok-asked.ensures past shown ordered follows;
      granted = c.in_ok-granted.ensures.granted past shown.queues;
      ahead = c.in_ok-ahead.ensures ∙ ap (λ locks. asks (ahead_of c.args.lock.now.cookie.0 locks))
          (ap locks_of c.deref.ensures.value ∙ c.in_ok-waiting.ensures.waiting past shown.queues);
      waiting = c.in_ok-others.ensures ∙ ap (λ locks. asks (without_first c.args.lock.now.cookie.0 locks))
          (ap locks_of c.deref-2.ensures.value ∙ c.in_ok-waiting.ensures.waiting past shown.queues);
    } in
    let decided : IsTrue c.is_as_asked.result ↔ IsAsked c.in_ok-asked.asked c.args.lock.now c.in_ok-granted.granted.items
    c.in_ok-others.others.items =
    subst (λ (g : List Ask). IsTrue c.is_as_asked.result ↔ IsAsked c.in_ok-asked.asked c.args.lock.now g c.in_ok-others.others.items)
    c.deref-5.ensures.value
    (subst (λ (w : List Ask). IsTrue c.is_as_asked.result ↔ IsAsked c.in_ok-asked.asked c.args.lock.now c.deref-5.result.now w)
    c.deref-6.ensures.value c.is_as_asked.ensures) in
    as_it_fits c.args.self.now.osts past c.args.at c.in-Target.target c.args.lock.now c.in_ok-asked.asked c.in_ok-granted.granted.items
    c.in_ok-ahead.ahead.items c.in_ok-others.others.items beside c.is_as_asked.result
    (ap (conflicts_with_any c.args.lock.now.ask) (sym c.deref-3.ensures.value) ∙ sym c.conflicts_with_any.ensures
    ∙ c.if-conflicts_with_any.false)
    (ap (conflicts_with_any c.args.lock.now.ask) (sym c.deref-4.ensures.value) ∙ sym c.conflicts_with_any-2.ensures
    ∙ c.if-conflicts_with_any-2.false)
    decided
