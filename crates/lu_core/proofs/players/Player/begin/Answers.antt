use Rattle.std.proofs.Common.{◌≡◌, ◌+◌, ◌∙◌, sym, subst}
use Rattle.lu_base.specs.declared.ids.Node.TheVariants.{Client}
use Rattle.lu_scene.specs.declared.scene.SceneLine.{SceneLine}
use Rattle.lu_scene.specs.declared.scene.SceneLine.TheVariants.{Call}
use Rattle.lu_spec_client.specs.Rows.{Begins}
use Rattle.lu_spec_run.specs.Scenarios.{with_stripes}
use Rattle.lu_run_nodes.specs.Turns.{turn_at}
use Rattle.lu_core.specs.declared.players.Progress.TheVariants as progress
use Rattle.lu_core.specs.States.{PlayerState}
use Rattle.lu_core.specs.Progress.{IsNext, Performs}
use Rattle.lu_core.proofs.Lines.{stops, turned, call_passes, call_turns, call_one, call_small, call_range}
use Rattle.lu_core.proofs.players.Player.begin.Goals as goal

pub returns-then-is_dead-clause-performs : goal.returns-then-is_dead-clause-performs
returns-then-is_dead-clause-performs g c =
    let parts : PlayerState = record { nodes = c.self.inside.nodes; wire = c.self.inside.wire } in
    subst (λ (p : PlayerState). Performs p (Call c.args.client c.args.slot c.args.call.now) p progress.Made) c.self.view_is
    (call_passes parts c.args.client c.args.slot c.args.call.now (sym c.is_dead.ensures.dead ∙ c.if-is_dead.true))

pub returns-then-is_full-clause-performs : goal.returns-then-is_full-clause-performs
returns-then-is_full-clause-performs g c =
    let parts : PlayerState = record { nodes = c.self.inside.nodes; wire = c.self.inside.wire } in
    let line : SceneLine = Call c.args.client c.args.slot c.args.call.now in
    subst (λ (p : PlayerState). Performs p line p progress.Full) c.self.view_is
    (stops parts line (Client c.args.client) (Begins c.args.slot (with_stripes c.args.call.now))
    (call_turns parts c.args.client c.args.slot c.args.call.now (sym c.is_dead.ensures.dead ∙ c.if-is_dead.false))
    (sym c.is_full.ensures.full ∙ c.if-is_full.true))

pub begin-requires-clause-one : goal.begin-requires-clause-one
begin-requires-clause-one g c =
    let parts : PlayerState = record { nodes = c.self.inside.nodes; wire = c.self.inside.wire } in
    call_one parts c.args.client c.args.slot c.args.call.now (subst
    (λ (p : PlayerState). IsNext p (Call c.args.client c.args.slot c.args.call.now)) (sym c.self.view_is) c.requires.due)

pub begin-requires-clause-slot : goal.begin-requires-clause-slot
begin-requires-clause-slot g c = call_small c.args.self.now c.args.client c.args.slot c.args.call.now c.requires.due

pub begin-requires-clause-range : goal.begin-requires-clause-range
begin-requires-clause-range g c = call_range c.args.self.now c.args.client c.args.slot c.args.call.now c.requires.due

pub returns-clause-performs : goal.returns-clause-performs
returns-clause-performs g c =
    let parts : PlayerState = record { nodes = c.self.inside.nodes; wire = c.self.inside.wire } in
    let line : SceneLine = Call c.args.client c.args.slot c.args.call.now in
    let q : PlayerState = record { nodes = c.begin.new.self; wire = c.add.new.self } in
    let here = c.next_turn-at.result in
    subst (λ (p : PlayerState). Performs p line q progress.Made) c.self.view_is
    (turned parts q line (Client c.args.client) (Begins c.args.slot (with_stripes c.args.call.now)) here c.in_ok-step.step
    (call_turns parts c.args.client c.args.slot c.args.call.now (sym c.is_dead.ensures.dead ∙ c.if-is_dead.false))
    (sym c.is_full.ensures.full ∙ c.if-is_full.false)
    (subst (λ (p : PlayerState). here ≡ turn_at (record { 0 = p.wire.turns + 1 }) (Client c.args.client)) (sym c.self.view_is)
    c.next_turn-at.ensures.at)
    c.in_ok-step.ensures.made c.in_ok-add.ensures.shows)
