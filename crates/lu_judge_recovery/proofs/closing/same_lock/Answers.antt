use Rattle.std.proofs.Common.{◌≡◌, ap, sym, ◌∙◌}
use Rattle.lu_base.specs.declared.locks.Lock.{Lock}
use Rattle.lu_judge_recovery.proofs.Judging.{refused}
use Rattle.lu_judge_recovery.proofs.Deeds.{locks_are}
use Rattle.lu_judge_recovery.proofs.closing.same_lock.Goals as goal

pub returns-then-not-same_cookie : goal.returns-then-not-same_cookie
returns-then-not-same_cookie c = refused (λ same. absurd (cc (sym c.if-not-same_cookie.true
    ∙ c.same_cookie.ensures.1 (ap (λ (l : Lock). l.cookie) same))))

pub returns-then-not-same_resource : goal.returns-then-not-same_resource
returns-then-not-same_resource c = refused (λ same. absurd (cc (sym c.if-not-same_resource.true
    ∙ c.same_resource.ensures.1 (ap (λ (l : Lock). l.resource) same))))

pub returns : goal.returns
returns c = locks_are c.args.a c.args.b c.same_ask.result (c.same_cookie.ensures.0 c.if-not-same_cookie.false)
    (c.same_resource.ensures.0 c.if-not-same_resource.false) c.same_ask.ensures
