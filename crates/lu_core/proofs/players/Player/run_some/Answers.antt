use Rattle.std.proofs.Common.{◌∙◌, ◌∷◌, ◌+◌, ◌-◌, suc, sym, ap, subst}
use Rattle.lu_scene.specs.declared.scene.SceneLine.TheVariants.{RunSome}
use Rattle.lu_run_wire.specs.Wires.{is_full_in}
use Rattle.lu_core.specs.declared.faults.PlayFault.TheVariants as play_fault
use Rattle.lu_core.specs.declared.players.Progress.{Progress}
use Rattle.lu_core.specs.States.{PlayerState}
use Rattle.lu_core.specs.Progress.{Takes}
use Rattle.lu_core.proofs.Running.{leaves_then, thrown_among, none_among, playing_then, unforeseen_then, passed_on, ends, stops, takes}
use Rattle.lu_core.proofs.Running.{fails}
use Rattle.lu_core.proofs.players.Player.run_some.Goals as goal

pub returns-in_default-clause-performs : goal.returns-in_default-clause-performs
returns-in_default-clause-performs g c = λ scene config rest at is.
    let p = c.args.self.now in
    let q = c.next_message.new.self in
    let turns = c.args.turns in
    let k = turns - (c.loop-done.done + 1) in
    leaves_then p q q (RunSome turns ∷ rest) (RunSome (suc k) ∷ rest) rest
    (thrown_among p c.loop-done.self q turns c.loop-done.done rest c.loop-done-test.true (c.loop-done.invariant rest)
    c.next_message.ensures.throws)
    (ends (RunSome (suc k)) tt rest q (sym c.in_default.ensures.least))
    scene
    config
    at
    is

pub returns-then-is_full-clause-performs : goal.returns-then-is_full-clause-performs
returns-then-is_full-clause-performs g c = λ scene config rest at is.
    let q = c.next_message.new.self in
    let turns = c.args.turns in
    let k = turns - (c.loop-done.done + 1) in
    let full = ap (λ (v : PlayerState). is_full_in v.wire) (sym c.self.view_is) ∙ sym c.is_full.ensures.full ∙ c.if-is_full.true in
    let d = thrown_among c.args.self.now c.loop-done.self q turns c.loop-done.done rest c.loop-done-test.true (c.loop-done.invariant rest)
    c.next_message.ensures.throws scene config at is in
    stops (RunSome (suc k)) tt rest q c.in-Some.number (sym c.in-Some.ensures.least) c.in-Some.ensures.up full scene d.0 d.1 d.2

pub take-requires-clause-playing : goal.take-requires-clause-playing
take-requires-clause-playing g c =
    let p = c.args.self.now in
    let q = c.next_message.new.self in
    let turns = c.args.turns in
    let k = turns - (c.loop-done.done + 1) in
    playing_then p q (RunSome turns) (λ rest. RunSome (suc k) ∷ rest)
    (λ rest. thrown_among p c.loop-done.self q turns c.loop-done.done rest c.loop-done-test.true (c.loop-done.invariant rest)
    c.next_message.ensures.throws) c.requires.due

pub returns-in_err-other-clause-unforeseen : goal.returns-in_err-other-clause-unforeseen
returns-in_err-other-clause-unforeseen g c = λ is.
    let p = c.args.self.now in
    let q = c.next_message.new.self in
    let turns = c.args.turns in
    let k = turns - (c.loop-done.done + 1) in
    unforeseen_then p q (RunSome turns) (λ rest. RunSome (suc k) ∷ rest)
    (λ rest. thrown_among p c.loop-done.self q turns c.loop-done.done rest c.loop-done-test.true (c.loop-done.invariant rest)
    c.next_message.ensures.throws)
    (c.in_err-other.ensures.unforeseen (passed_on c.from_residual.result c.in_err-other.field-0.0 play_fault.Unforeseen
    c.from_residual.ensures.1 is))

pub returns-in_default-2 : goal.returns-in_default-2
returns-in_default-2 g c =
    let q = c.next_message.new.self in
    let turns = c.args.turns in
    let k = turns - (c.loop-done.done + 1) in
    record {
      performs = λ scene config rest at is.
          let d = thrown_among c.args.self.now c.loop-done.self q turns c.loop-done.done rest c.loop-done-test.true
          (c.loop-done.invariant rest) c.next_message.ensures.throws scene config at is in
          fails (RunSome (suc k)) tt rest q c.take.new.self c.in-Some.number c.in_ok-other.other (sym c.in-Some.ensures.least)
          c.in-Some.ensures.up c.in_default-2.not-Made c.in_ok-other.ensures.takes scene d.0 d.1 d.2;
      unforeseen = λ e. absurd (cc);
    }

pub loop-done-preserved : goal.loop-done-preserved
loop-done-preserved g c = λ rest.
    let p = c.args.self.now in
    let q = c.next_message.new.self in
    let new = c.take.new.self in
    let n = c.in-Some.number in
    let turns = c.args.turns in
    let k = turns - (c.loop-done.done + 1) in
    let turn = subst (λ (came : Progress). Takes q n new came) c.in-Made.is c.in_ok-other.ensures.takes in
    leaves_then p q new (RunSome turns ∷ rest) (RunSome (suc k) ∷ rest) (RunSome k ∷ rest)
    (thrown_among p c.loop-done.self q turns c.loop-done.done rest c.loop-done-test.true (c.loop-done.invariant rest)
    c.next_message.ensures.throws)
    (takes (RunSome (suc k)) tt rest q new n (sym c.in-Some.ensures.least) c.in-Some.ensures.up turn)

pub returns-clause-performs : goal.returns-clause-performs
returns-clause-performs g c = λ scene config rest at is.
    none_among c.args.self.now c.loop-done.self c.args.turns c.loop-done.done rest c.loop-done-test.false (c.loop-done.invariant rest) scene
    config at is
