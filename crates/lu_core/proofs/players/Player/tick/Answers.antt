use Rattle.std.proofs.Common.{◌≡◌, ◌+◌, ◌∙◌, sym, subst}
use Rattle.lu_base.specs.declared.ids.Node.TheVariants.{Client}
use Rattle.lu_scene.specs.declared.scene.SceneLine.{SceneLine}
use Rattle.lu_scene.specs.declared.scene.SceneLine.TheVariants.{Tick}
use Rattle.lu_spec_client.specs.Rows.{Ticks}
use Rattle.lu_run_nodes.specs.Turns.{turn_at}
use Rattle.lu_core.specs.declared.players.Progress.TheVariants as progress
use Rattle.lu_core.specs.States.{PlayerState}
use Rattle.lu_core.specs.Progress.{IsNext, Performs}
use Rattle.lu_core.proofs.Lines.{stops, turned, tick_passes, tick_turns, tick_one}
use Rattle.lu_core.proofs.players.Player.tick.Goals as goal

pub returns-then-is_dead-clause-performs : goal.returns-then-is_dead-clause-performs
returns-then-is_dead-clause-performs g c =
    let parts : PlayerState = record { nodes = c.self.inside.nodes; wire = c.self.inside.wire } in
    subst (λ (p : PlayerState). Performs p (Tick (Client c.args.client)) p progress.Made) c.self.view_is
    (tick_passes parts c.args.client (sym c.is_dead.ensures.dead ∙ c.if-is_dead.true))

pub returns-then-is_full-clause-performs : goal.returns-then-is_full-clause-performs
returns-then-is_full-clause-performs g c =
    let parts : PlayerState = record { nodes = c.self.inside.nodes; wire = c.self.inside.wire } in
    let line : SceneLine = Tick (Client c.args.client) in
    subst (λ (p : PlayerState). Performs p line p progress.Full) c.self.view_is
    (stops parts line (Client c.args.client) Ticks (tick_turns parts c.args.client (sym c.is_dead.ensures.dead ∙ c.if-is_dead.false))
    (sym c.is_full.ensures.full ∙ c.if-is_full.true))

pub tick-requires-clause-one : goal.tick-requires-clause-one
tick-requires-clause-one g c =
    let parts : PlayerState = record { nodes = c.self.inside.nodes; wire = c.self.inside.wire } in
    tick_one parts c.args.client (subst (λ (p : PlayerState). IsNext p (Tick (Client c.args.client))) (sym c.self.view_is) c.requires.due)

pub returns-clause-performs : goal.returns-clause-performs
returns-clause-performs g c =
    let parts : PlayerState = record { nodes = c.self.inside.nodes; wire = c.self.inside.wire } in
    let line : SceneLine = Tick (Client c.args.client) in
    let q : PlayerState = record { nodes = c.tick.new.self; wire = c.add.new.self } in
    let here = c.next_turn-at.result in
    subst (λ (p : PlayerState). Performs p line q progress.Made) c.self.view_is
    (turned parts q line (Client c.args.client) Ticks here c.in_ok-step.step
    (tick_turns parts c.args.client (sym c.is_dead.ensures.dead ∙ c.if-is_dead.false)) (sym c.is_full.ensures.full ∙ c.if-is_full.false)
    (subst (λ (p : PlayerState). here ≡ turn_at (record { 0 = p.wire.turns + 1 }) (Client c.args.client)) (sym c.self.view_is)
    c.next_turn-at.ensures.at)
    c.in_ok-step.ensures.made c.in_ok-add.ensures.shows)
