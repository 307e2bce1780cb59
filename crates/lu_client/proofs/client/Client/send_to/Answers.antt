use Rattle.std.proofs.Common.{Bool, subst}
use Rattle.lu_client.specs.Fronts.{FrontGoes}
use Rattle.lu_client.proofs.Fronts.{sends_next, shorter_next}
use Rattle.lu_client.proofs.client.Client.send_to.Goals as goal

pub loop-smaller : goal.loop-smaller
loop-smaller c =
    shorter_next c.args.target.0 c.args.self.now c.loop.self c.send_front.new.self c.args.turn.now c.loop.turn c.send_front.new.turn
    c.requires.target c.loop.invariant
    (subst (λ (sent : Bool). FrontGoes c.args.target.0 sent c.loop.self c.send_front.new.self c.loop.turn c.send_front.new.turn)
    c.if-branch.true c.in_ok-send_front.ensures.front)

pub loop-preserved : goal.loop-preserved
loop-preserved c =
    sends_next c.args.target.0 c.args.self.now c.loop.self c.send_front.new.self c.args.turn.now c.loop.turn c.send_front.new.turn
    c.requires.target c.loop.invariant
    (subst (λ (sent : Bool). FrontGoes c.args.target.0 sent c.loop.self c.send_front.new.self c.loop.turn c.send_front.new.turn)
    c.if-branch.true c.in_ok-send_front.ensures.front)
