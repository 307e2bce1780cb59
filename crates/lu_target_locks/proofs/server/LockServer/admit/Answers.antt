-- One want more; and none is left at the end.
use Rattle.std.proofs.Common.{rules, ◌≡◌, ◌+◌, ◌≤◌, List, length, ◌∷◌, [], ◌++◌, take, sym, subst, arith}
use Rattle.std.proofs.lemmas.List.{take_all}
use Rattle.lu_part.specs.declared.parts.Want.{Want}
use Rattle.lu_target_locks.specs.Adding.{AllAdmitted}
use Rattle.lu_target_locks.specs.Admitted.{AreAdmitted}
use Rattle.lu_target_locks.proofs.Admits.{admitted_next, are_admitted}
use Rattle.lu_target_locks.proofs.server.LockServer.admit.Goals as goal

pub loop-want-preserved : goal.loop-want-preserved
loop-want-preserved c =
    let i = c.loop-want.want-index in
    let locks = c.loop-want.locks.items in
    let wants : c.as_slice-want-items.result.now ≡ c.args.wants.now = search rules in
    let e : c.push.new.self.items ≡ locks ++ c.in-Ok.lock ∷ [] = search rules in
    let so_far : AllAdmitted c.args.who (take i c.as_slice-want-items.result.now) locks c.args.self.now c.loop-want.self =
    subst (λ ws. AllAdmitted c.args.who (take i ws) locks c.args.self.now c.loop-want.self) (sym wants) c.loop-want.invariant in
    subst (λ ls. AllAdmitted c.args.who (take (i + 1) c.args.wants.now) ls c.args.self.now c.admit_one.new.self) (sym e)
    (subst (λ ws. AllAdmitted c.args.who (take (i + 1) ws) (locks ++ c.in-Ok.lock ∷ []) c.args.self.now c.admit_one.new.self) wants
    (admitted_next c.args.who c.as_slice-want-items.result.now i _ locks c.in-Ok.lock c.args.self.now c.loop-want.self c.admit_one.new.self
    c.loop-want-test.true so_far c.in-Ok.ensures.admitted))

pub returns-clause-admitted : goal.returns-clause-admitted
returns-clause-admitted c =
    let wants : c.as_slice-want-items.result.now ≡ c.args.wants.now = search rules in
    let none_left : length c.args.wants.now ≤ c.loop-want.want-index =
    subst (λ (ws : List Want). length ws ≤ c.loop-want.want-index) wants (omega (arith, c.loop-want-test.false)) in
    subst (λ locks. AreAdmitted c.args.who c.args.wants.now locks c.args.self.now c.loop-want.self) (sym c.from-2.ensures)
    (are_admitted c.args.who c.args.wants.now c.loop-want.locks.items c.args.self.now c.loop-want.self
    (subst (λ wants. AllAdmitted c.args.who wants c.loop-want.locks.items c.args.self.now c.loop-want.self)
    (take_all c.loop-want.want-index c.args.wants.now none_left) c.loop-want.invariant))
