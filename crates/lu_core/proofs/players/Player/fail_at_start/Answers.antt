use Rattle.std.proofs.Common.{◌≡◌, ◌+◌, sym, subst}
use Rattle.lu_base.specs.declared.ids.Node.TheVariants.{Target}
use Rattle.lu_run_nodes.specs.Turns.{turn_at}
use Rattle.lu_run_wire.specs.Wires.{empty_wire}
use Rattle.lu_core.specs.States.{PlayerState}
use Rattle.lu_core.specs.Progress.{HasFailedStart}
use Rattle.lu_core.proofs.Starting.{start_ends}
use Rattle.lu_core.proofs.players.Player.fail_at_start.Goals as goal

pub returns-in_ok-add-in-Disk-clause-failed : goal.returns-in_ok-add-in-Disk-clause-failed
returns-in_ok-add-in-Disk-clause-failed g c =
    let parts : PlayerState = record { nodes = c.self.inside.nodes; wire = c.self.inside.wire } in
    let t = c.args.target.0 in
    let here = c.next_turn-at.result in
    let empty = subst (λ (p : PlayerState). p.wire ≡ empty_wire) (sym c.self.view_is) c.requires.empty in (
      c.in-Disk.step,
      c.in-Disk.is,
      λ scene fails. start_ends scene t c.in-Disk.step parts c.add.new.self here empty
          (subst (λ (p : PlayerState). here ≡ turn_at (record { 0 = p.wire.turns + 1 }) (Target t)) (sym c.self.view_is)
          c.next_turn-at.ensures.at)
          (subst (λ (p : PlayerState). HasFailedStart scene t c.in-Disk.step p) (sym c.self.view_is) fails)
          c.in_ok-add-in-Disk.ensures.shows,
    )
