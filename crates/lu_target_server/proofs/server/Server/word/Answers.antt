-- The word is taken, and then its life may be back.
use Rattle.std.proofs.Common.{◌++◌, refl}
use Rattle.std.proofs.lemmas.Result.{IfOk-weaker}
use Rattle.lu_spec_entries.specs.Carried.{Said}
use Rattle.lu_spec_target.specs.Recovery.{row_word, settles}
use Rattle.lu_spec_target.specs.States.{turn}
use Rattle.lu_target_refines.specs.Windows.{backs, says}
use Rattle.lu_target_server.specs.Recovering.{Gathers, Recovers}
use Rattle.lu_target_server.proofs.Passings.{passes_then, stops_then, batches_then, no_batches}
use Rattle.lu_target_server.proofs.Takings.{word_begins}
use Rattle.lu_target_server.proofs.server.Server.word.Goals as goal

pub returns-in_err-back-clause-batches : goal.returns-in_err-back-clause-batches
returns-in_err-back-clause-batches g c = no_batches (Recovers c.args.self.now c.args.recovery)
    (λ v. row_word v c.args.turn.now.at (record { who = c.args.who; replays = c.args.replays; locks = c.args.locks; seen = c.args.seen }))
    c.args.self.now.store.batches c.args.self.now.store.batches refl

pub note_back-requires : goal.note_back-requires
note_back-requires g c =
    let word : Said = record { who = c.args.who; replays = c.args.replays; locks = c.args.locks; seen = c.args.seen } in
    let begins = word_begins c.args.self.now c.args.recovery c.word.new.self word c.in_ok-back.back c.args.turn.now
    c.in_ok-back.ensures.taken c.in_ok-back.ensures.back in
    let v = c.requires.awaits.0 in
    record { gathers = (turn v (says v word), begins.stands v c.requires.awaits.1) }

pub returns-clause-passes : goal.returns-clause-passes
returns-clause-passes g c =
    let word : Said = record { who = c.args.who; replays = c.args.replays; locks = c.args.locks; seen = c.args.seen } in
    let begins = word_begins c.args.self.now c.args.recovery c.word.new.self word c.in_ok-back.back c.args.turn.now
    c.in_ok-back.ensures.taken c.in_ok-back.ensures.back in
    IfOk-weaker c.note_back.result _ _ (λ left passes. passes_then _ _ _ _ _ _ _ _ begins c.note_back.new.self left passes)
    c.note_back.ensures.passes

pub returns-clause-failed : goal.returns-clause-failed
returns-clause-failed g c = λ e.
    let word : Said = record { who = c.args.who; replays = c.args.replays; locks = c.args.locks; seen = c.args.seen } in
    let begins = word_begins c.args.self.now c.args.recovery c.word.new.self word c.in_ok-back.back c.args.turn.now
    c.in_ok-back.ensures.taken c.in_ok-back.ensures.back in
    let failed = c.note_back.ensures.failed e in
    (failed.0, stops_then _ _ _ _ _ _ _ _ begins failed.1)

pub returns-clause-batches : goal.returns-clause-batches
returns-clause-batches g c =
    let word : Said = record { who = c.args.who; replays = c.args.replays; locks = c.args.locks; seen = c.args.seen } in
    let begins = word_begins c.args.self.now c.args.recovery c.word.new.self word c.in_ok-back.back c.args.turn.now
    c.in_ok-back.ensures.taken c.in_ok-back.ensures.back in
    batches_then (Recovers c.args.self.now c.args.recovery) (Gathers c.args.self.now c.word.new.self) (λ v. says v word)
    (λ v. backs c.in_ok-back.back c.args.who ++ settles c.args.turn.now.at v)
    (λ v. row_word v c.args.turn.now.at word) c.args.turn.now c.args.turn.now c.note_back.new.turn begins c.args.self.now.store.batches
    c.note_back.new.self.store.batches c.note_back.ensures.batches
