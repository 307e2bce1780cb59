use Rattle.std.proofs.Common.{◌≡◌, ◌∙◌, Bool, true, false, Some, sym, ap, subst, arith}
use Rattle.std.specs.Bool.{beq}
use Rattle.std.specs.Option.{option_eq}
use Rattle.lu_net.specs.Posts.{least_unspent, IsUnspent, spend}
use Rattle.lu_run_wire.specs.Wires.{WireState}
use Rattle.lu_core.specs.States.{PlayerState, is_thrown_in}
use Rattle.lu_core.specs.Progress.{Throws}
use Rattle.lu_core.proofs.Throwing.{unspent, spend_fewer, is_thrown, spent_is, throws_one}
use Rattle.lu_core.proofs.players.Player.next_message.Goals as goal

pub loop-number-smaller : goal.loop-number-smaller
loop-number-smaller g c =
    let parts : PlayerState = record { nodes = c.self.inside.nodes; wire = c.self.inside.wire } in
    let fewer = spend_fewer parts.wire.links c.in-Some.number c.in-Some.ensures.unspent in
    let spent : unspent c.spend.new.self.links ≡ unspent (spend c.self.inside.wire.links c.in-Some.number) =
    ap (λ (w : WireState). unspent w.links) c.spend.ensures.spent in
    let same : unspent c.self.inside.wire.links ≡ unspent c.loop-number.self.wire.links =
    ap (λ (p : PlayerState). unspent p.wire.links) c.self.view_is in
    omega arith

pub loop-number-preserved : goal.loop-number-preserved
loop-number-preserved g c =
    let p = c.args.self.now in
    let q = c.loop-number.self in
    let parts : PlayerState = record { nodes = c.self.inside.nodes; wire = c.self.inside.wire } in
    let n = c.in-Some.number in
    let least = ap (λ (v : PlayerState). least_unspent v.wire.links) (sym c.self.view_is) ∙ sym c.in-Some.ensures.number in
    let free = subst (λ (v : PlayerState). IsUnspent v.wire.links n) c.self.view_is c.in-Some.ensures.unspent in
    let down : is_thrown_in q n ≡ Some true =
    is_thrown q n free
    (λ up. differ (ap (λ o. option_eq beq o (Some false)) (c.is_thrown.ensures.thrown ∙ up)) (sym c.eq.ensures ∙ c.if-eq.false)) in
    record {
      throws = subst (Throws p) (sym (spent_is parts q c.spend.new.self n c.self.view_is c.spend.ensures.spent))
          (throws_one p q n c.loop-number.invariant.throws least down);
      turns = ap (λ (w : WireState). w.turns) c.spend.ensures.spent ∙ ap (λ (v : PlayerState). v.wire.turns) c.self.view_is
          ∙ c.loop-number.invariant.turns;
    }
  where
    differ : {b : Bool} → b ≡ true → b ≡ false → ⊥
    differ e f = absurd (cc)
