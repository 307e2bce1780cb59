use Rattle.std.proofs.Common.{◌≡◌, ◌∙◌, ap, rules, subst, sym}
use Rattle.std.proofs.lemmas.Result.{on_ok_weaker}
use Rattle.lu_spec_machine.specs.Places.{RisingFrom, below}
use Rattle.lu_spec_client.specs.Patches.{Patch}
use Rattle.lu_patch.proofs.Kept.{cut_longer}
use Rattle.lu_patch.proofs.patch.Patch.pend.Goals as goal

pub returns-in-Some-clause-cut : goal.returns-in-Some-clause-cut
returns-in-Some-clause-cut c =
    on_ok_weaker c.end_at.result
    (λ ended. ap (λ (p : Patch). record p { dirty = below c.args.n p.dirty }) ended
    ∙ cut_longer c.args.n c.in-Some.pending c.args.self.now (subst (λ (p : Patch). RisingFrom 0 p.dirty) c.self.view_is
    c.self.invariant.map.rising)
    (sym (ap (λ (p : Patch). p.pending) c.self.view_is) ∙ c.in-Some.is) c.if-pending-n.true)
    c.end_at.ensures.ended
