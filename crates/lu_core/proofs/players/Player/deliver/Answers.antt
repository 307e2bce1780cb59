use Rattle.std.proofs.Common.{◌∙◌, Some, sym, ap, subst}
use Rattle.std.proofs.lemmas.Result.{IfOk-weaker}
use Rattle.lu_scene.specs.declared.scene.SceneLine.TheVariants.{Deliver}
use Rattle.lu_run_wire.specs.Wires.{is_full_in}
use Rattle.lu_core.specs.declared.players.Progress.TheVariants as progress
use Rattle.lu_core.specs.Progress.{Performs}
use Rattle.lu_core.specs.States.{PlayerState}
use Rattle.lu_core.proofs.Throwing.{spent_is}
use Rattle.lu_core.proofs.Running.{deliver_nothing, deliver_throws, deliver_stops, deliver_takes}
use Rattle.lu_core.proofs.players.Player.deliver.Goals as goal

pub returns-in_default-clause-performs : goal.returns-in_default-clause-performs
returns-in_default-clause-performs g c = deliver_nothing c.args.self.now c.args.number (sym c.in_default.ensures.thrown)

pub returns-then-thrown-clause-performs : goal.returns-then-thrown-clause-performs
returns-then-thrown-clause-performs g c =
    let p = c.args.self.now in
    let parts : PlayerState = record { nodes = c.self.inside.nodes; wire = c.self.inside.wire } in
    let n = c.args.number in
    subst (λ (q : PlayerState). Performs p (Deliver n) q progress.Made)
    (sym (spent_is parts p c.spend.new.self n c.self.view_is c.spend.ensures.spent))
    (deliver_throws p n (sym c.in-Some.ensures.thrown ∙ ap Some c.if-thrown.true))

pub returns-then-is_full-clause-performs : goal.returns-then-is_full-clause-performs
returns-then-is_full-clause-performs g c =
    deliver_stops c.args.self.now c.args.number (sym c.in-Some.ensures.thrown ∙ ap Some c.if-thrown.false)
    (ap (λ (v : PlayerState). is_full_in v.wire) (sym c.self.view_is) ∙ sym c.is_full.ensures.full ∙ c.if-is_full.true)

pub returns-clause-performs : goal.returns-clause-performs
returns-clause-performs g c =
    IfOk-weaker c.take.result _ _
    (λ came takes. deliver_takes c.args.self.now c.args.number c.take.new.self came
    (sym c.in-Some.ensures.thrown ∙ ap Some c.if-thrown.false) takes) c.take.ensures.takes
