use Rattle.std.proofs.Common.{◌∙◌, ◌∷◌, sym, ap, subst, arith}
use Rattle.lu_scene.specs.declared.scene.SceneLine.TheVariants.{Run}
use Rattle.lu_run_wire.specs.Wires.{is_full_in}
use Rattle.lu_run_wire.proofs.Shown.{has_room}
use Rattle.lu_core.specs.declared.faults.PlayFault.TheVariants as play_fault
use Rattle.lu_core.specs.declared.players.Progress.{Progress}
use Rattle.lu_core.specs.States.{PlayerState}
use Rattle.lu_core.specs.Progress.{Takes}
use Rattle.lu_core.proofs.Running.{leaves_then, thrown_before, playing_then, unforeseen_then, passed_on, ends, stops, takes, fails}
use Rattle.lu_core.proofs.players.Player.run.Goals as goal

pub returns-then-is_full-clause-performs : goal.returns-then-is_full-clause-performs
returns-then-is_full-clause-performs g c = λ scene config rest at is.
    let q = c.next_message.new.self in
    let full = ap (λ (v : PlayerState). is_full_in v.wire) (sym c.self.view_is) ∙ sym c.is_full.ensures.full ∙ c.if-is_full.true in
    let d = thrown_before c.args.self.now c.loop-number.self q rest (c.loop-number.invariant rest) c.next_message.ensures.throws scene
    config at is in
    stops Run tt rest q c.in-Some.number (sym c.in-Some.ensures.least) c.in-Some.ensures.up full scene d.0 d.1 d.2

pub take-requires-clause-playing : goal.take-requires-clause-playing
take-requires-clause-playing g c =
    let p = c.args.self.now in
    let q = c.next_message.new.self in
    playing_then p q Run (λ rest. Run ∷ rest) (λ rest. thrown_before p c.loop-number.self q rest (c.loop-number.invariant rest)
    c.next_message.ensures.throws) c.requires.due

pub returns-in_err-other-clause-unforeseen : goal.returns-in_err-other-clause-unforeseen
returns-in_err-other-clause-unforeseen g c = λ is.
    let p = c.args.self.now in
    let q = c.next_message.new.self in
    unforeseen_then p q Run (λ rest. Run ∷ rest) (λ rest. thrown_before p c.loop-number.self q rest (c.loop-number.invariant rest)
    c.next_message.ensures.throws)
    (c.in_err-other.ensures.unforeseen (passed_on c.from_residual.result c.in_err-other.field-0.0 play_fault.Unforeseen
    c.from_residual.ensures.1 is))

pub returns-in_default-2 : goal.returns-in_default-2
returns-in_default-2 g c =
    let q = c.next_message.new.self in
    record {
      performs = λ scene config rest at is.
          let d = thrown_before c.args.self.now c.loop-number.self q rest (c.loop-number.invariant rest) c.next_message.ensures.throws scene
          config at is in
          fails Run tt rest q c.take.new.self c.in-Some.number c.in_ok-other.other (sym c.in-Some.ensures.least) c.in-Some.ensures.up
          c.in_default-2.not-Made c.in_ok-other.ensures.takes scene d.0 d.1 d.2;
      unforeseen = λ e. absurd (cc);
    }

pub loop-number-smaller : goal.loop-number-smaller
loop-number-smaller g c =
    let q = c.next_message.new.self in
    let free = ap (λ (v : PlayerState). is_full_in v.wire) (sym c.self.view_is) ∙ sym c.is_full.ensures.full ∙ c.if-is_full.false in
    let few = (has_room q.wire free).0 in
    let same = c.next_message.ensures.turns in
    let more = c.in_ok-other.ensures.later c.in-Made.is in
    omega arith

pub loop-number-preserved : goal.loop-number-preserved
loop-number-preserved g c = λ rest.
    let p = c.args.self.now in
    let q = c.next_message.new.self in
    let new = c.take.new.self in
    let n = c.in-Some.number in
    let turn = subst (λ (came : Progress). Takes q n new came) c.in-Made.is c.in_ok-other.ensures.takes in
    leaves_then p q new (Run ∷ rest) (Run ∷ rest) (Run ∷ rest) (thrown_before p c.loop-number.self q rest (c.loop-number.invariant rest)
    c.next_message.ensures.throws)
    (takes Run tt rest q new n (sym c.in-Some.ensures.least) c.in-Some.ensures.up turn)

pub returns-clause-performs : goal.returns-clause-performs
returns-clause-performs g c = λ scene config rest at is.
    let p = c.args.self.now in
    let q = c.next_message.new.self in
    leaves_then p q q (Run ∷ rest) (Run ∷ rest) rest (thrown_before p c.loop-number.self q rest (c.loop-number.invariant rest)
    c.next_message.ensures.throws)
    (ends Run tt rest q (sym c.in_default.ensures.least))
    scene
    config
    at
    is
