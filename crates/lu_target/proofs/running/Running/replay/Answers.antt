-- What the server keeps of a replay is what is left of the message's row.
use Rattle.std.proofs.Common.{rules, ◌≡◌, Bool, true, Some, sym, subst, ◌∙◌, arith}
use Rattle.std.proofs.lemmas.Bool.Decides.{nat_tests}
use Rattle.lu_msg.specs.declared.messages.Message.TheVariants as message
use Rattle.lu_spec_target.specs.Recovery.{row_replay}
use Rattle.lu_spec_target.specs.Rows.{row_heeds}
use Rattle.lu_target.specs.Running.{RunningState, IsUp, HasHeeded, MayHeed, Turns, StopsIn, KeepsIn}
use Rattle.lu_target.proofs.Keeping.{may_replay, kept_turns, kept_stops, kept_keeps}
use Rattle.lu_target.proofs.running.Running.replay.Goals as goal

pub replay-requires-clause-may : goal.replay-requires-clause-may
replay-requires-clause-may g c =
    let r = c.args.replay.now in
    let w = c.in-Some.recovery in
    let t : RunningState = record { server = c.self.inside.server; window = c.self.inside.recovery } in
    let some : t.window ≡ Some w = sym c.take.ensures.value ∙ c.in-Some.is in
    let own : r.boot ≡ t.server.boot = grind (arith, nat_tests, c.if-replay-boot_number.false, c.boot_number.ensures.boot) in
    let has : HasHeeded true r.who r.boot t c.args.turn.now c.heeds.new.turn =
    subst (λ (s : RunningState). HasHeeded true r.who r.boot s c.args.turn.now c.heeds.new.turn) (sym c.self.view_is)
    (subst (λ (b : Bool). HasHeeded b r.who r.boot c.args.self.now c.args.turn.now c.heeds.new.turn) c.if-not-branch.false
    c.in_ok-heeds.ensures.heeds) in
    may_replay t w r c.args.turn.now c.heeds.new.turn (subst IsUp (sym c.self.view_is) c.requires.up) some own has
    (subst (MayHeed (message.Replay r)) (sym c.self.view_is) c.requires.may)

pub returns-in_err-self-inside-in-Some-clause-failed : goal.returns-in_err-self-inside-in-Some-clause-failed
returns-in_err-self-inside-in-Some-clause-failed g c = λ e.
    let r = c.args.replay.now in
    let w = c.in-Some.recovery in
    let t : RunningState = record { server = c.self.inside.server; window = c.self.inside.recovery } in
    let some : t.window ≡ Some w = sym c.take.ensures.value ∙ c.in-Some.is in
    let own : r.boot ≡ t.server.boot = grind (arith, nat_tests, c.if-replay-boot_number.false, c.boot_number.ensures.boot) in
    let has : HasHeeded true r.who r.boot t c.args.turn.now c.heeds.new.turn =
    subst (λ (s : RunningState). HasHeeded true r.who r.boot s c.args.turn.now c.heeds.new.turn) (sym c.self.view_is)
    (subst (λ (b : Bool). HasHeeded b r.who r.boot c.args.self.now c.args.turn.now c.heeds.new.turn) c.if-not-branch.false
    c.in_ok-heeds.ensures.heeds) in
    subst (λ (s : RunningState). StopsIn (λ v. row_heeds v c.args.turn.now.at (message.Replay r)) s
    (record { server = c.replay.new.self; window = c.take.new.self }) c.args.turn.now c.replay.new.turn) c.self.view_is
    (kept_stops (λ at v. row_replay v at r) t.server t.window w some r.who r.boot c.args.turn.now c.heeds.new.turn c.replay.new.turn has own
    c.replay.new.self c.take.new.self
    (c.replay.ensures.failed (search (rules, e))))

pub returns-in_err-self-inside-in-Some-clause-batches : goal.returns-in_err-self-inside-in-Some-clause-batches
returns-in_err-self-inside-in-Some-clause-batches g c =
    let r = c.args.replay.now in
    let w = c.in-Some.recovery in
    let t : RunningState = record { server = c.self.inside.server; window = c.self.inside.recovery } in
    let some : t.window ≡ Some w = sym c.take.ensures.value ∙ c.in-Some.is in
    let own : r.boot ≡ t.server.boot = grind (arith, nat_tests, c.if-replay-boot_number.false, c.boot_number.ensures.boot) in
    let has : HasHeeded true r.who r.boot t c.args.turn.now c.heeds.new.turn =
    subst (λ (s : RunningState). HasHeeded true r.who r.boot s c.args.turn.now c.heeds.new.turn) (sym c.self.view_is)
    (subst (λ (b : Bool). HasHeeded b r.who r.boot c.args.self.now c.args.turn.now c.heeds.new.turn) c.if-not-branch.false
    c.in_ok-heeds.ensures.heeds) in
    subst (λ (s : RunningState). KeepsIn (λ v. row_heeds v c.args.turn.now.at (message.Replay r)) s
    (record { server = c.replay.new.self; window = c.take.new.self })) c.self.view_is
    (kept_keeps (λ at v. row_replay v at r) t.server t.window w some r.who r.boot c.args.turn.now c.heeds.new.turn c.replay.new.turn has own
    c.replay.new.self c.take.new.self
    c.replay.ensures.batches)

pub returns-in_ok-self-inside-in-Some-clause-turns : goal.returns-in_ok-self-inside-in-Some-clause-turns
returns-in_ok-self-inside-in-Some-clause-turns g c =
    let r = c.args.replay.now in
    let w = c.in-Some.recovery in
    let t : RunningState = record { server = c.self.inside.server; window = c.self.inside.recovery } in
    let some : t.window ≡ Some w = sym c.take.ensures.value ∙ c.in-Some.is in
    let own : r.boot ≡ t.server.boot = grind (arith, nat_tests, c.if-replay-boot_number.false, c.boot_number.ensures.boot) in
    let has : HasHeeded true r.who r.boot t c.args.turn.now c.heeds.new.turn =
    subst (λ (s : RunningState). HasHeeded true r.who r.boot s c.args.turn.now c.heeds.new.turn) (sym c.self.view_is)
    (subst (λ (b : Bool). HasHeeded b r.who r.boot c.args.self.now c.args.turn.now c.heeds.new.turn) c.if-not-branch.false
    c.in_ok-heeds.ensures.heeds) in
    subst (λ (s : RunningState). Turns (λ v. row_heeds v c.args.turn.now.at (message.Replay r)) s
    (record { server = c.replay.new.self; window = c.in_ok-self-inside-in-Some.field-0 }) c.args.turn.now c.replay.new.turn)
    c.self.view_is
    (kept_turns (λ at v. row_replay v at r) t.server t.window w some r.who r.boot c.args.turn.now c.heeds.new.turn c.replay.new.turn has own
    c.replay.new.self c.in_ok-self-inside-in-Some.field-0
    c.in_ok-self-inside-in-Some.ensures.passes)

pub returns-in_ok-self-inside-in-Some-clause-batches : goal.returns-in_ok-self-inside-in-Some-clause-batches
returns-in_ok-self-inside-in-Some-clause-batches g c =
    let r = c.args.replay.now in
    let w = c.in-Some.recovery in
    let t : RunningState = record { server = c.self.inside.server; window = c.self.inside.recovery } in
    let some : t.window ≡ Some w = sym c.take.ensures.value ∙ c.in-Some.is in
    let own : r.boot ≡ t.server.boot = grind (arith, nat_tests, c.if-replay-boot_number.false, c.boot_number.ensures.boot) in
    let has : HasHeeded true r.who r.boot t c.args.turn.now c.heeds.new.turn =
    subst (λ (s : RunningState). HasHeeded true r.who r.boot s c.args.turn.now c.heeds.new.turn) (sym c.self.view_is)
    (subst (λ (b : Bool). HasHeeded b r.who r.boot c.args.self.now c.args.turn.now c.heeds.new.turn) c.if-not-branch.false
    c.in_ok-heeds.ensures.heeds) in
    subst (λ (s : RunningState). KeepsIn (λ v. row_heeds v c.args.turn.now.at (message.Replay r)) s
    (record { server = c.replay.new.self; window = c.in_ok-self-inside-in-Some.field-0 })) c.self.view_is
    (kept_keeps (λ at v. row_replay v at r) t.server t.window w some r.who r.boot c.args.turn.now c.heeds.new.turn c.replay.new.turn has own
    c.replay.new.self c.in_ok-self-inside-in-Some.field-0
    c.replay.ensures.batches)
