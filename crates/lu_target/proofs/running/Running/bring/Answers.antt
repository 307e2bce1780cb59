-- What the server keeps of a lock is what is left of the message's row.
use Rattle.std.proofs.Common.{rules, ◌≡◌, Bool, true, Some, sym, subst, ◌∙◌, arith}
use Rattle.std.proofs.lemmas.Bool.Decides.{nat_tests}
use Rattle.lu_base.specs.declared.locks.Lock.{Lock}
use Rattle.lu_msg.specs.declared.messages.Message.TheVariants as message
use Rattle.lu_spec_target.specs.Recovery.{row_lock}
use Rattle.lu_spec_target.specs.Rows.{lock_again, row_heeds}
use Rattle.lu_target_server.specs.Servers.{DiskFailed}
use Rattle.lu_target_server.specs.Recovering.{MayBring, Recovers}
use Rattle.lu_target_server.specs.Passing.{Passes, HasBatches, StopsAt}
use Rattle.lu_target.specs.Running.{RunningState, IsUp, HasHeeded, MayHeed, Turns, StopsIn, KeepsIn}
use Rattle.lu_target.proofs.Keeping.{may_bring, kept_turns, kept_stops, kept_keeps}
use Rattle.lu_target.proofs.running.Running.bring.Goals as goal

pub bring-requires-clause-may : goal.bring-requires-clause-may
bring-requires-clause-may g c =
    let r = c.args.lock.now in
    let w = c.in-Some.recovery in
    let t : RunningState = record { server = c.self.inside.server; window = c.self.inside.recovery } in
    let some : t.window ≡ Some w = sym c.take.ensures.value ∙ c.in-Some.is in
    let own : r.boot ≡ t.server.boot = grind (arith, nat_tests, c.if-lock-boot_number.false, c.boot_number.ensures.boot) in
    let has : HasHeeded true r.who r.boot t c.args.turn.now c.heeds.new.turn =
    subst (λ (s : RunningState). HasHeeded true r.who r.boot s c.args.turn.now c.heeds.new.turn) (sym c.self.view_is)
    (subst (λ (b : Bool). HasHeeded b r.who r.boot c.args.self.now c.args.turn.now c.heeds.new.turn) c.if-not-branch.false
    c.in_ok-heeds.ensures.heeds) in
    subst (λ (l : Lock). MayBring l t.server w.window) (sym c.lock_again.ensures.lock)
    (may_bring t w r c.args.turn.now c.heeds.new.turn (subst IsUp (sym c.self.view_is) c.requires.up) some own has
    (subst (MayHeed (message.Lock r)) (sym c.self.view_is) c.requires.may))

pub returns-in_err-self-inside-in-Some-clause-failed : goal.returns-in_err-self-inside-in-Some-clause-failed
returns-in_err-self-inside-in-Some-clause-failed g c = λ e.
    let r = c.args.lock.now in
    let w = c.in-Some.recovery in
    let t : RunningState = record { server = c.self.inside.server; window = c.self.inside.recovery } in
    let some : t.window ≡ Some w = sym c.take.ensures.value ∙ c.in-Some.is in
    let own : r.boot ≡ t.server.boot = grind (arith, nat_tests, c.if-lock-boot_number.false, c.boot_number.ensures.boot) in
    let has : HasHeeded true r.who r.boot t c.args.turn.now c.heeds.new.turn =
    subst (λ (s : RunningState). HasHeeded true r.who r.boot s c.args.turn.now c.heeds.new.turn) (sym c.self.view_is)
    (subst (λ (b : Bool). HasHeeded b r.who r.boot c.args.self.now c.args.turn.now c.heeds.new.turn) c.if-not-branch.false
    c.in_ok-heeds.ensures.heeds) in
    subst (λ (s : RunningState). StopsIn (λ v. row_heeds v c.args.turn.now.at (message.Lock r)) s
    (record { server = c.bring.new.self; window = c.take.new.self }) c.args.turn.now c.bring.new.turn) c.self.view_is
    (kept_stops (λ at v. row_lock v at (lock_again r)) t.server t.window w some r.who r.boot c.args.turn.now c.heeds.new.turn
    c.bring.new.turn has own c.bring.new.self c.take.new.self
    (subst (λ (l : Lock). DiskFailed t.server c.bring.new.self × StopsAt 0 (Recovers t.server w) (λ v. row_lock v c.heeds.new.turn.at l)
    c.heeds.new.turn c.bring.new.turn) c.lock_again.ensures.lock (c.bring.ensures.failed (search (rules, e)))))

pub returns-in_err-self-inside-in-Some-clause-batches : goal.returns-in_err-self-inside-in-Some-clause-batches
returns-in_err-self-inside-in-Some-clause-batches g c =
    let r = c.args.lock.now in
    let w = c.in-Some.recovery in
    let t : RunningState = record { server = c.self.inside.server; window = c.self.inside.recovery } in
    let some : t.window ≡ Some w = sym c.take.ensures.value ∙ c.in-Some.is in
    let own : r.boot ≡ t.server.boot = grind (arith, nat_tests, c.if-lock-boot_number.false, c.boot_number.ensures.boot) in
    let has : HasHeeded true r.who r.boot t c.args.turn.now c.heeds.new.turn =
    subst (λ (s : RunningState). HasHeeded true r.who r.boot s c.args.turn.now c.heeds.new.turn) (sym c.self.view_is)
    (subst (λ (b : Bool). HasHeeded b r.who r.boot c.args.self.now c.args.turn.now c.heeds.new.turn) c.if-not-branch.false
    c.in_ok-heeds.ensures.heeds) in
    subst (λ (s : RunningState). KeepsIn (λ v. row_heeds v c.args.turn.now.at (message.Lock r)) s
    (record { server = c.bring.new.self; window = c.take.new.self })) c.self.view_is
    (kept_keeps (λ at v. row_lock v at (lock_again r)) t.server t.window w some r.who r.boot c.args.turn.now c.heeds.new.turn
    c.bring.new.turn has own c.bring.new.self c.take.new.self
    (subst (λ (l : Lock). HasBatches (Recovers t.server w) (λ v. row_lock v c.heeds.new.turn.at l) t.server.store.batches
    c.bring.new.self.store.batches) c.lock_again.ensures.lock c.bring.ensures.batches))

pub returns-in_ok-self-inside-in-Some-clause-turns : goal.returns-in_ok-self-inside-in-Some-clause-turns
returns-in_ok-self-inside-in-Some-clause-turns g c =
    let r = c.args.lock.now in
    let w = c.in-Some.recovery in
    let t : RunningState = record { server = c.self.inside.server; window = c.self.inside.recovery } in
    let some : t.window ≡ Some w = sym c.take.ensures.value ∙ c.in-Some.is in
    let own : r.boot ≡ t.server.boot = grind (arith, nat_tests, c.if-lock-boot_number.false, c.boot_number.ensures.boot) in
    let has : HasHeeded true r.who r.boot t c.args.turn.now c.heeds.new.turn =
    subst (λ (s : RunningState). HasHeeded true r.who r.boot s c.args.turn.now c.heeds.new.turn) (sym c.self.view_is)
    (subst (λ (b : Bool). HasHeeded b r.who r.boot c.args.self.now c.args.turn.now c.heeds.new.turn) c.if-not-branch.false
    c.in_ok-heeds.ensures.heeds) in
    subst (λ (s : RunningState). Turns (λ v. row_heeds v c.args.turn.now.at (message.Lock r)) s
    (record { server = c.bring.new.self; window = c.in_ok-self-inside-in-Some.field-0 }) c.args.turn.now c.bring.new.turn)
    c.self.view_is
    (kept_turns (λ at v. row_lock v at (lock_again r)) t.server t.window w some r.who r.boot c.args.turn.now c.heeds.new.turn
    c.bring.new.turn has own c.bring.new.self c.in_ok-self-inside-in-Some.field-0
    (subst (λ (l : Lock). Passes (Recovers t.server w) (λ v. row_lock v c.heeds.new.turn.at l) c.bring.new.self
    c.in_ok-self-inside-in-Some.field-0 c.heeds.new.turn c.bring.new.turn) c.lock_again.ensures.lock
    c.in_ok-self-inside-in-Some.ensures.passes))

pub returns-in_ok-self-inside-in-Some-clause-batches : goal.returns-in_ok-self-inside-in-Some-clause-batches
returns-in_ok-self-inside-in-Some-clause-batches g c =
    let r = c.args.lock.now in
    let w = c.in-Some.recovery in
    let t : RunningState = record { server = c.self.inside.server; window = c.self.inside.recovery } in
    let some : t.window ≡ Some w = sym c.take.ensures.value ∙ c.in-Some.is in
    let own : r.boot ≡ t.server.boot = grind (arith, nat_tests, c.if-lock-boot_number.false, c.boot_number.ensures.boot) in
    let has : HasHeeded true r.who r.boot t c.args.turn.now c.heeds.new.turn =
    subst (λ (s : RunningState). HasHeeded true r.who r.boot s c.args.turn.now c.heeds.new.turn) (sym c.self.view_is)
    (subst (λ (b : Bool). HasHeeded b r.who r.boot c.args.self.now c.args.turn.now c.heeds.new.turn) c.if-not-branch.false
    c.in_ok-heeds.ensures.heeds) in
    subst (λ (s : RunningState). KeepsIn (λ v. row_heeds v c.args.turn.now.at (message.Lock r)) s
    (record { server = c.bring.new.self; window = c.in_ok-self-inside-in-Some.field-0 })) c.self.view_is
    (kept_keeps (λ at v. row_lock v at (lock_again r)) t.server t.window w some r.who r.boot c.args.turn.now c.heeds.new.turn
    c.bring.new.turn has own c.bring.new.self c.in_ok-self-inside-in-Some.field-0
    (subst (λ (l : Lock). HasBatches (Recovers t.server w) (λ v. row_lock v c.heeds.new.turn.at l) t.server.store.batches
    c.bring.new.self.store.batches) c.lock_again.ensures.lock c.bring.ensures.batches))
