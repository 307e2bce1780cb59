-- A target that recovers takes the word.
use Rattle.std.proofs.Common.{◌≡◌, Bool, true, subst}
use Rattle.std.specs.Option.{is_some}
use Rattle.lu_target.specs.Running.{RunningState, HasHeeded}
use Rattle.lu_target.proofs.Heeding.{word_keeps}
use Rattle.lu_target.proofs.running.Running.word.Goals as goal

pub returns-clause-batches : goal.returns-clause-batches
returns-clause-batches g c =
    let t = c.args.self.now in
    let some : is_some t.window ≡ true = subst (λ (s : RunningState). is_some s.window ≡ true) c.self.view_is c.if-is_none.ensures in
    let has : HasHeeded true c.args.who c.args.boot t c.args.turn.now c.heeds.new.turn =
    subst (λ (b : Bool). HasHeeded b c.args.who c.args.boot t c.args.turn.now c.heeds.new.turn) c.if-not-branch.false
    c.in_ok-heeds.ensures.heeds in
    word_keeps t c.take_word.new.self (record { who = c.args.who; replays = c.args.replays; locks = c.args.locks; seen = c.args.seen.now })
    c.args.boot
    c.args.turn.now c.heeds.new.turn some has c.take_word.ensures.batches
