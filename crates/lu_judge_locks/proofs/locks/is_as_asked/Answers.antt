-- The same resource, and the ask as it grows.
use Rattle.std.proofs.Common.{◌≡◌, ◌∙◌, sym, subst}
use Rattle.std.specs.Prelude.{IsTrue, ◌↔◌}
use Rattle.std.proofs.lemmas.Bool.{false≢true}
use Rattle.lu_base.specs.declared.locks.Ask.{Ask}
use Rattle.lu_judge_locks.proofs.Decided.{asked_apart, asked_so}
use Rattle.lu_judge_locks.proofs.locks.is_as_asked.Goals as goal

pub returns-then-not-same_resource : goal.returns-then-not-same_resource
returns-then-not-same_resource c =
    rw c.in-Some.is (asked_apart c.in-Some.asked c.args.lock.now c.args.granted.now c.args.others.now
    (λ same. false≢true (sym c.if-not-same_resource.true ∙ c.same_resource.ensures.1 same)))

pub returns-else-not-same_resource : goal.returns-else-not-same_resource
returns-else-not-same_resource c =
    rw c.in-Some.is
    (asked_so c.in-Some.asked c.args.lock.now c.args.granted.now c.args.others.now c.same_ask.result
    (c.same_resource.ensures.0 c.if-not-same_resource.false)
    (subst (λ (a : Ask). IsTrue c.same_ask.result ↔ (c.args.lock.now.ask ≡ a)) c.granted_ask-grown.ensures c.same_ask.ensures))
