-- A target that recovers keeps the wish in mind, and one that serves lets the life in or not.
use Rattle.std.proofs.Common.{◌≡◌, nat_lt, false, Some, None, sym, subst, ◌∙◌, arith}
use Rattle.std.proofs.lemmas.Bool.Decides.{nat_tests}
use Rattle.std.proofs.lemmas.Result.{on_ok_weaker}
use Rattle.lu_msg.specs.declared.messages.Message.TheVariants as message
use Rattle.lu_spec_target.specs.Rows.{row_heeds}
use Rattle.lu_target.specs.Running.{RunningState, Turns, KeepsIn}
use Rattle.lu_target.proofs.Keeping.{join_turns, join_keeps, joins_keep, joins_turn}
use Rattle.lu_target.proofs.running.Running.join.Goals as goal

pub returns-in_err-self-inside-in-Some-clause-batches : goal.returns-in_err-self-inside-in-Some-clause-batches
returns-in_err-self-inside-in-Some-clause-batches g c =
    let w = c.in-Some.recovery in
    let t : RunningState = record { server = c.self.inside.server; window = c.self.inside.recovery } in
    let some : t.window ≡ Some w = sym c.take.ensures.value ∙ c.in-Some.is in
    let later : nat_lt c.args.boot t.server.boot ≡ false = grind (arith, nat_tests, c.if-boot-boot_number.false, c.boot_number.ensures.boot)
    in
    subst (λ (s : RunningState). KeepsIn (λ v. row_heeds v c.args.turn.now.at (message.Join c.args.who c.args.boot)) s
    (record { server = c.wish.new.self; window = c.take.new.self })) c.self.view_is
    (join_keeps c.args.turn.now.at t.server t.window w some c.args.who c.args.boot later c.args.turn.now c.wish.new.turn c.wish.new.self
    c.take.new.self c.wish.ensures.batches)

pub returns-in_ok-self-inside-in-Some-clause-turns : goal.returns-in_ok-self-inside-in-Some-clause-turns
returns-in_ok-self-inside-in-Some-clause-turns g c =
    let w = c.in-Some.recovery in
    let t : RunningState = record { server = c.self.inside.server; window = c.self.inside.recovery } in
    let some : t.window ≡ Some w = sym c.take.ensures.value ∙ c.in-Some.is in
    let later : nat_lt c.args.boot t.server.boot ≡ false = grind (arith, nat_tests, c.if-boot-boot_number.false, c.boot_number.ensures.boot)
    in
    subst (λ (s : RunningState). Turns (λ v. row_heeds v c.args.turn.now.at (message.Join c.args.who c.args.boot)) s
    (record { server = c.wish.new.self; window = c.in_ok-self-inside-in-Some.field-0 }) c.args.turn.now c.wish.new.turn) c.self.view_is
    (join_turns c.args.turn.now.at t.server t.window w some c.args.who c.args.boot later c.args.turn.now c.wish.new.turn c.wish.new.self
    c.in_ok-self-inside-in-Some.field-0 c.in_ok-self-inside-in-Some.ensures.passes)

pub returns-in_ok-self-inside-in-Some-clause-batches : goal.returns-in_ok-self-inside-in-Some-clause-batches
returns-in_ok-self-inside-in-Some-clause-batches g c =
    let w = c.in-Some.recovery in
    let t : RunningState = record { server = c.self.inside.server; window = c.self.inside.recovery } in
    let some : t.window ≡ Some w = sym c.take.ensures.value ∙ c.in-Some.is in
    let later : nat_lt c.args.boot t.server.boot ≡ false = grind (arith, nat_tests, c.if-boot-boot_number.false, c.boot_number.ensures.boot)
    in
    subst (λ (s : RunningState). KeepsIn (λ v. row_heeds v c.args.turn.now.at (message.Join c.args.who c.args.boot)) s
    (record { server = c.wish.new.self; window = c.in_ok-self-inside-in-Some.field-0 })) c.self.view_is
    (join_keeps c.args.turn.now.at t.server t.window w some c.args.who c.args.boot later c.args.turn.now c.wish.new.turn c.wish.new.self
    c.in_ok-self-inside-in-Some.field-0 c.wish.ensures.batches)

pub returns-in-None-clause-batches : goal.returns-in-None-clause-batches
returns-in-None-clause-batches g c =
    let t : RunningState = record { server = c.self.inside.server; window = c.self.inside.recovery } in
    let none : t.window ≡ None = sym c.take.ensures.value ∙ c.in-None.is in
    let later : nat_lt c.args.boot t.server.boot ≡ false = grind (arith, nat_tests, c.if-boot-boot_number.false, c.boot_number.ensures.boot)
    in
    subst (λ (s : RunningState). KeepsIn (λ v. row_heeds v c.args.turn.now.at (message.Join c.args.who c.args.boot)) s
    (record { server = c.join.new.self; window = c.take.new.self })) c.self.view_is
    (joins_keep c.args.turn.now.at t (record { server = c.join.new.self; window = c.take.new.self }) c.args.who c.args.boot none later
    c.join.ensures.batches)

pub returns-in-None-clause-turns : goal.returns-in-None-clause-turns
returns-in-None-clause-turns g c =
    let t : RunningState = record { server = c.self.inside.server; window = c.self.inside.recovery } in
    let none : t.window ≡ None = sym c.take.ensures.value ∙ c.in-None.is in
    let later : nat_lt c.args.boot t.server.boot ≡ false = grind (arith, nat_tests, c.if-boot-boot_number.false, c.boot_number.ensures.boot)
    in
    on_ok_weaker c.join.result
    (λ makes. subst (λ (s : RunningState). Turns (λ v. row_heeds v c.args.turn.now.at (message.Join c.args.who c.args.boot)) s
    (record { server = c.join.new.self; window = c.take.new.self }) c.args.turn.now c.join.new.turn) c.self.view_is
    (joins_turn c.args.turn.now.at t (record { server = c.join.new.self; window = c.take.new.self }) c.args.who c.args.boot c.args.turn.now
    c.join.new.turn none c.take.ensures.after later makes))
    c.join.ensures.makes
