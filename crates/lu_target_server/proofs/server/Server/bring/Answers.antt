-- The lock is taken, and then its life may be back.
use Rattle.std.proofs.Common.{◌++◌, refl}
use Rattle.std.proofs.lemmas.Result.{IfOk-weaker}
use Rattle.lu_spec_target.specs.Recovery.{row_lock, settles}
use Rattle.lu_spec_target.specs.States.{turn}
use Rattle.lu_target_refines.specs.Windows.{backs, brings}
use Rattle.lu_target_server.specs.Recovering.{Gathers, Recovers}
use Rattle.lu_target_server.proofs.Passings.{passes_then, stops_then, batches_then, no_batches}
use Rattle.lu_target_server.proofs.Takings.{lock_begins}
use Rattle.lu_target_server.proofs.server.Server.bring.Goals as goal

pub lock-requires-clause-life : goal.lock-requires-clause-life
lock-requires-clause-life g c = c.requires.may.is.life

pub returns-in_err-back-clause-batches : goal.returns-in_err-back-clause-batches
returns-in_err-back-clause-batches g c = no_batches (Recovers c.args.self.now c.args.recovery)
    (λ v. row_lock v c.args.turn.now.at c.args.lock) c.args.self.now.store.batches c.args.self.now.store.batches refl

pub note_back-requires : goal.note_back-requires
note_back-requires g c =
    let begins = lock_begins c.args.self.now c.args.recovery c.lock.new.self c.args.lock c.in_ok-back.back c.args.turn.now c.requires.may
    c.in_ok-back.ensures.taken c.in_ok-back.ensures.back in
    let v = c.requires.awaits.0 in
    record { gathers = (turn v (brings v c.args.lock), begins.stands v c.requires.awaits.1) }

pub returns-clause-passes : goal.returns-clause-passes
returns-clause-passes g c =
    let begins = lock_begins c.args.self.now c.args.recovery c.lock.new.self c.args.lock c.in_ok-back.back c.args.turn.now c.requires.may
    c.in_ok-back.ensures.taken c.in_ok-back.ensures.back in
    IfOk-weaker c.note_back.result _ _ (λ left passes. passes_then _ _ _ _ _ _ _ _ begins c.note_back.new.self left passes)
    c.note_back.ensures.passes

pub returns-clause-failed : goal.returns-clause-failed
returns-clause-failed g c = λ e.
    let begins = lock_begins c.args.self.now c.args.recovery c.lock.new.self c.args.lock c.in_ok-back.back c.args.turn.now c.requires.may
    c.in_ok-back.ensures.taken c.in_ok-back.ensures.back in
    let failed = c.note_back.ensures.failed e in
    (failed.0, stops_then _ _ _ _ _ _ _ _ begins failed.1)

pub returns-clause-batches : goal.returns-clause-batches
returns-clause-batches g c =
    let begins = lock_begins c.args.self.now c.args.recovery c.lock.new.self c.args.lock c.in_ok-back.back c.args.turn.now c.requires.may
    c.in_ok-back.ensures.taken c.in_ok-back.ensures.back in
    batches_then (Recovers c.args.self.now c.args.recovery) (Gathers c.args.self.now c.lock.new.self) (λ v. brings v c.args.lock)
    (λ v. backs c.in_ok-back.back c.args.lock.ask.who ++ settles c.args.turn.now.at v)
    (λ v. row_lock v c.args.turn.now.at c.args.lock) c.args.turn.now c.args.turn.now c.note_back.new.turn begins
    c.args.self.now.store.batches c.note_back.new.self.store.batches c.note_back.ensures.batches
