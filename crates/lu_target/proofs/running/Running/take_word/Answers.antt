-- What the server keeps of a word is the row of it.
use Rattle.std.proofs.Common.{rules, ◌≡◌, ℕ, List, Some, sym, subst, ◌∙◌, arith}
use Rattle.std.proofs.lemmas.Bool.Decides.{nat_tests}
use Rattle.lu_spec_entries.specs.Carried.{Said}
use Rattle.lu_spec_target.specs.Recovery.{row_word}
use Rattle.lu_spec_target.specs.Rows.{of_boot}
use Rattle.lu_target_server.specs.Servers.{DiskFailed}
use Rattle.lu_target_server.specs.Recovering.{Recovers}
use Rattle.lu_target_server.specs.Passing.{Passes, HasBatches, StopsAt}
use Rattle.lu_target.specs.Running.{RunningState, Turns, StopsIn, KeepsIn}
use Rattle.lu_target.proofs.Keeping.{word_turns, word_stops, word_has}
use Rattle.lu_target.proofs.running.Running.take_word.Goals as goal

pub returns-in_err-self-inside-in-Some-clause-failed : goal.returns-in_err-self-inside-in-Some-clause-failed
returns-in_err-self-inside-in-Some-clause-failed g c = λ e.
    let w = c.in-Some.recovery in
    let t : RunningState = record { server = c.self.inside.server; window = c.self.inside.recovery } in
    let some : t.window ≡ Some w = sym c.take.ensures.value ∙ c.in-Some.is in
    let own : c.args.boot ≡ t.server.boot = grind (arith, nat_tests, c.if-boot-boot_number.false, c.boot_number.ensures.boot) in
    let said : List ℕ → Said = λ seen. record { who = c.args.who; replays = c.args.replays; locks = c.args.locks; seen = seen } in
    let seen : c.in_ok-seen.seen ≡ c.args.seen.now = c.in_ok-seen.ensures.same in
    subst (λ (s : RunningState). StopsIn (λ v. of_boot v c.args.boot (row_word v c.args.turn.now.at (said c.args.seen.now))) s
    (record { server = c.word.new.self; window = c.take.new.self }) c.args.turn.now c.word.new.turn) c.self.view_is
    (word_stops (λ v. row_word v c.args.turn.now.at (said c.args.seen.now)) t.server t.window w some c.args.boot c.args.turn.now
    c.word.new.turn own c.word.new.self c.take.new.self
    (subst (λ (xs : List ℕ). DiskFailed t.server c.word.new.self
    × StopsAt 0 (Recovers t.server w) (λ v. row_word v c.args.turn.now.at (said xs)) c.args.turn.now c.word.new.turn) seen
    (c.word.ensures.failed (search (rules, e)))))

pub returns-in_err-self-inside-in-Some-clause-batches : goal.returns-in_err-self-inside-in-Some-clause-batches
returns-in_err-self-inside-in-Some-clause-batches g c =
    let w = c.in-Some.recovery in
    let t : RunningState = record { server = c.self.inside.server; window = c.self.inside.recovery } in
    let some : t.window ≡ Some w = sym c.take.ensures.value ∙ c.in-Some.is in
    let own : c.args.boot ≡ t.server.boot = grind (arith, nat_tests, c.if-boot-boot_number.false, c.boot_number.ensures.boot) in
    let said : List ℕ → Said = λ seen. record { who = c.args.who; replays = c.args.replays; locks = c.args.locks; seen = seen } in
    let seen : c.in_ok-seen.seen ≡ c.args.seen.now = c.in_ok-seen.ensures.same in
    subst (λ (s : RunningState). KeepsIn (λ v. of_boot v c.args.boot (row_word v c.args.turn.now.at (said c.args.seen.now))) s
    (record { server = c.word.new.self; window = c.take.new.self })) c.self.view_is
    (word_has (λ v. row_word v c.args.turn.now.at (said c.args.seen.now)) t.server t.window w some c.args.boot c.args.turn.now
    c.word.new.turn own c.word.new.self c.take.new.self
    (subst (λ (xs : List ℕ). HasBatches (Recovers t.server w) (λ v. row_word v c.args.turn.now.at (said xs)) t.server.store.batches
    c.word.new.self.store.batches) seen c.word.ensures.batches))

pub returns-in_ok-self-inside-in-Some-clause-turns : goal.returns-in_ok-self-inside-in-Some-clause-turns
returns-in_ok-self-inside-in-Some-clause-turns g c =
    let w = c.in-Some.recovery in
    let t : RunningState = record { server = c.self.inside.server; window = c.self.inside.recovery } in
    let some : t.window ≡ Some w = sym c.take.ensures.value ∙ c.in-Some.is in
    let own : c.args.boot ≡ t.server.boot = grind (arith, nat_tests, c.if-boot-boot_number.false, c.boot_number.ensures.boot) in
    let said : List ℕ → Said = λ seen. record { who = c.args.who; replays = c.args.replays; locks = c.args.locks; seen = seen } in
    let seen : c.in_ok-seen.seen ≡ c.args.seen.now = c.in_ok-seen.ensures.same in
    subst (λ (s : RunningState). Turns (λ v. of_boot v c.args.boot (row_word v c.args.turn.now.at (said c.args.seen.now))) s
    (record { server = c.word.new.self; window = c.in_ok-self-inside-in-Some.field-0 }) c.args.turn.now c.word.new.turn) c.self.view_is
    (word_turns (λ v. row_word v c.args.turn.now.at (said c.args.seen.now)) t.server t.window w some c.args.boot c.args.turn.now
    c.word.new.turn own c.word.new.self c.in_ok-self-inside-in-Some.field-0
    (subst (λ (xs : List ℕ). Passes (Recovers t.server w) (λ v. row_word v c.args.turn.now.at (said xs)) c.word.new.self
    c.in_ok-self-inside-in-Some.field-0 c.args.turn.now c.word.new.turn) seen c.in_ok-self-inside-in-Some.ensures.passes))

pub returns-in_ok-self-inside-in-Some-clause-batches : goal.returns-in_ok-self-inside-in-Some-clause-batches
returns-in_ok-self-inside-in-Some-clause-batches g c =
    let w = c.in-Some.recovery in
    let t : RunningState = record { server = c.self.inside.server; window = c.self.inside.recovery } in
    let some : t.window ≡ Some w = sym c.take.ensures.value ∙ c.in-Some.is in
    let own : c.args.boot ≡ t.server.boot = grind (arith, nat_tests, c.if-boot-boot_number.false, c.boot_number.ensures.boot) in
    let said : List ℕ → Said = λ seen. record { who = c.args.who; replays = c.args.replays; locks = c.args.locks; seen = seen } in
    let seen : c.in_ok-seen.seen ≡ c.args.seen.now = c.in_ok-seen.ensures.same in
    subst (λ (s : RunningState). KeepsIn (λ v. of_boot v c.args.boot (row_word v c.args.turn.now.at (said c.args.seen.now))) s
    (record { server = c.word.new.self; window = c.in_ok-self-inside-in-Some.field-0 })) c.self.view_is
    (word_has (λ v. row_word v c.args.turn.now.at (said c.args.seen.now)) t.server t.window w some c.args.boot c.args.turn.now
    c.word.new.turn own c.word.new.self c.in_ok-self-inside-in-Some.field-0
    (subst (λ (xs : List ℕ). HasBatches (Recovers t.server w) (λ v. row_word v c.args.turn.now.at (said xs)) t.server.store.batches
    c.word.new.self.store.batches) seen c.word.ensures.batches))
