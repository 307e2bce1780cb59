use Rattle.std.proofs.Common.{◌≡◌, ◌+◌, ◌∙◌, sym, subst}
use Rattle.lu_base.specs.declared.ids.Node.TheVariants.{Client}
use Rattle.lu_scene.specs.declared.scene.SceneLine.{SceneLine}
use Rattle.lu_scene.specs.declared.scene.SceneLine.TheVariants.{Die}
use Rattle.lu_spec_client.specs.Rows.{Dies}
use Rattle.lu_run_nodes.specs.Turns.{turn_at}
use Rattle.lu_core.specs.declared.players.Progress.TheVariants as progress
use Rattle.lu_core.specs.States.{PlayerState}
use Rattle.lu_core.specs.Progress.{IsNext, Performs}
use Rattle.lu_core.proofs.Lines.{stops, turned, die_passes, die_turns, die_one}
use Rattle.lu_core.proofs.players.Player.die.Goals as goal

pub returns-then-is_dead-clause-performs : goal.returns-then-is_dead-clause-performs
returns-then-is_dead-clause-performs g c =
    let parts : PlayerState = record { nodes = c.self.inside.nodes; wire = c.self.inside.wire } in
    subst (λ (p : PlayerState). Performs p (Die c.args.client) p progress.Made) c.self.view_is
    (die_passes parts c.args.client (sym c.is_dead.ensures.dead ∙ c.if-is_dead.true))

pub returns-then-is_full-clause-performs : goal.returns-then-is_full-clause-performs
returns-then-is_full-clause-performs g c =
    let parts : PlayerState = record { nodes = c.self.inside.nodes; wire = c.self.inside.wire } in
    let line : SceneLine = Die c.args.client in
    subst (λ (p : PlayerState). Performs p line p progress.Full) c.self.view_is
    (stops parts line (Client c.args.client) Dies (die_turns parts c.args.client (sym c.is_dead.ensures.dead ∙ c.if-is_dead.false))
    (sym c.is_full.ensures.full ∙ c.if-is_full.true))

pub die-requires-clause-one : goal.die-requires-clause-one
die-requires-clause-one g c =
    let parts : PlayerState = record { nodes = c.self.inside.nodes; wire = c.self.inside.wire } in
    die_one parts c.args.client (subst (λ (p : PlayerState). IsNext p (Die c.args.client)) (sym c.self.view_is) c.requires.due)

pub returns-clause-performs : goal.returns-clause-performs
returns-clause-performs g c =
    let parts : PlayerState = record { nodes = c.self.inside.nodes; wire = c.self.inside.wire } in
    let line : SceneLine = Die c.args.client in
    let q : PlayerState = record { nodes = c.die.new.self; wire = c.add.new.self } in
    let here = c.next_turn-at.result in
    subst (λ (p : PlayerState). Performs p line q progress.Made) c.self.view_is
    (turned parts q line (Client c.args.client) Dies here c.in_ok-step.step
    (die_turns parts c.args.client (sym c.is_dead.ensures.dead ∙ c.if-is_dead.false)) (sym c.is_full.ensures.full ∙ c.if-is_full.false)
    (subst (λ (p : PlayerState). here ≡ turn_at (record { 0 = p.wire.turns + 1 }) (Client c.args.client)) (sym c.self.view_is)
    c.next_turn-at.ensures.at)
    c.in_ok-step.ensures.made c.in_ok-add.ensures.shows)
