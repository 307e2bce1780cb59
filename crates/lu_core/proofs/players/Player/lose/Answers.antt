use Rattle.std.proofs.Common.{sym, subst}
use Rattle.lu_scene.specs.declared.scene.SceneLine.TheVariants.{Lose}
use Rattle.lu_core.specs.declared.players.Progress.TheVariants as progress
use Rattle.lu_core.specs.States.{PlayerState}
use Rattle.lu_core.specs.Progress.{Performs}
use Rattle.lu_core.proofs.Throwing.{spent_is}
use Rattle.lu_core.proofs.Running.{loses}
use Rattle.lu_core.proofs.players.Player.lose.Goals as goal

pub returns : goal.returns
returns g c =
    let p = c.args.self.now in
    let parts : PlayerState = record { nodes = c.self.inside.nodes; wire = c.self.inside.wire } in
    let n = c.args.number in
    record {
      performs = subst (λ (q : PlayerState). Performs p (Lose n) q progress.Made)
          (sym (spent_is parts p c.spend.new.self n c.self.view_is c.spend.ensures.spent)) (loses p n);
    }
