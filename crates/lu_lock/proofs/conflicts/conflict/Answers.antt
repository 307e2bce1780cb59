-- Where the modes aren't compatible, the result is the test of conflict, and its laws hold of it.
use Rattle.std.proofs.Common.{◌≡◌, ◌∙◌, sym}
use Rattle.lu_lock.specs.Conflict.{conflict}
use Rattle.lu_lock.proofs.ConflictLaws.{conflict_symmetric, conflict_rule, conflict-apart}
use Rattle.lu_lock.proofs.conflicts.conflict.Goals as goal

pub returns-then-not-compatible-clause-rule : goal.returns-then-not-compatible-clause-rule
returns-then-not-compatible-clause-rule c =
    let a = c.args.a.now in
    let b = c.args.b.now in
    let same : c.policies_meet.result ≡ conflict a b =
    c.policies_meet.ensures.test ∙ sym (conflict-apart a b (sym c.compatible.ensures.table ∙ c.if-not-compatible.true)) in
    rw same (conflict_rule a b)

pub returns-then-not-compatible-clause-symmetric :
    goal.returns-then-not-compatible-clause-symmetric
returns-then-not-compatible-clause-symmetric c =
    let a = c.args.a.now in
    let b = c.args.b.now in
    let same : c.policies_meet.result ≡ conflict a b =
    c.policies_meet.ensures.test ∙ sym (conflict-apart a b (sym c.compatible.ensures.table ∙ c.if-not-compatible.true)) in
    same ∙ conflict_symmetric a b
