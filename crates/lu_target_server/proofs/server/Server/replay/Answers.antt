-- The replay is taken, and then its life may be back.
use Rattle.std.proofs.Common.{◌≡◌, ◌++◌, refl, sym, ap, subst, ◌∙◌}
use Rattle.std.proofs.lemmas.Result.{IfOk-weaker}
use Rattle.lu_spec_target.specs.Kept.{replayed}
use Rattle.lu_spec_target.specs.Windows.{Replayed}
use Rattle.lu_spec_target.specs.Recovery.{row_replay, settles}
use Rattle.lu_spec_target.specs.States.{turn}
use Rattle.lu_target_refines.specs.Windows.{backs, stores}
use Rattle.lu_window.specs.States.{at_window, took_replay}
use Rattle.lu_target_server.specs.Recovering.{IsOnlyReplay, Gathers, Recovers}
use Rattle.lu_target_server.proofs.Backs.{copied, copied_is}
use Rattle.lu_target_server.proofs.Passings.{passes_then, stops_then, batches_then, no_batches}
use Rattle.lu_target_server.proofs.Takings.{replay_begins}
use Rattle.lu_target_server.proofs.server.Server.replay.Goals as goal

pub returns-in_err-copy-clause-batches : goal.returns-in_err-copy-clause-batches
returns-in_err-copy-clause-batches g c = no_batches (Recovers c.args.self.now c.args.recovery)
    (λ v. row_replay v c.args.turn.now.at c.args.request.now) c.args.self.now.store.batches c.args.self.now.store.batches refl

pub returns-in_err-copy-2-clause-batches : goal.returns-in_err-copy-2-clause-batches
returns-in_err-copy-2-clause-batches g c = no_batches (Recovers c.args.self.now c.args.recovery)
    (λ v. row_replay v c.args.turn.now.at c.args.request.now) c.args.self.now.store.batches c.args.self.now.store.batches refl

pub replay-requires-clause-only : goal.replay-requires-clause-only
replay-requires-clause-only g c =
    let r = c.args.request.now in
    let same : copied r c.in_ok-copy.field-0 c.in_ok-copy-2.field-0 ≡ replayed r =
    copied_is r c.in_ok-copy.field-0 c.in_ok-copy-2.field-0 c.in_ok-copy.ensures.same c.in_ok-copy-2.ensures.same in
    subst (λ (it : Replayed). IsOnlyReplay it c.args.recovery.window.replays) (sym same) c.requires.may.only

pub returns-in_err-back-clause-batches : goal.returns-in_err-back-clause-batches
returns-in_err-back-clause-batches g c = no_batches (Recovers c.args.self.now c.args.recovery)
    (λ v. row_replay v c.args.turn.now.at c.args.request.now) c.args.self.now.store.batches c.args.self.now.store.batches refl

pub note_back-requires : goal.note_back-requires
note_back-requires g c =
    let r = c.args.request.now in
    let w = c.args.recovery in
    let same : copied r c.in_ok-copy.field-0 c.in_ok-copy-2.field-0 ≡ replayed r =
    copied_is r c.in_ok-copy.field-0 c.in_ok-copy-2.field-0 c.in_ok-copy.ensures.same c.in_ok-copy-2.ensures.same in
    let taken : c.replay.new.self ≡ at_window (took_replay (replayed r) w.window) w = c.in_ok-back.ensures.taken
    ∙ ap (λ (it : Replayed). at_window (took_replay it w.window) w) same in
    let begins = replay_begins c.args.self.now w c.replay.new.self r c.in_ok-back.back c.args.turn.now c.requires.may taken
    c.in_ok-back.ensures.back in
    let v = c.requires.awaits.0 in
    record { gathers = (turn v (stores v r), begins.stands v c.requires.awaits.1) }

pub returns-clause-passes : goal.returns-clause-passes
returns-clause-passes g c =
    let r = c.args.request.now in
    let w = c.args.recovery in
    let same : copied r c.in_ok-copy.field-0 c.in_ok-copy-2.field-0 ≡ replayed r =
    copied_is r c.in_ok-copy.field-0 c.in_ok-copy-2.field-0 c.in_ok-copy.ensures.same c.in_ok-copy-2.ensures.same in
    let taken : c.replay.new.self ≡ at_window (took_replay (replayed r) w.window) w = c.in_ok-back.ensures.taken
    ∙ ap (λ (it : Replayed). at_window (took_replay it w.window) w) same in
    let begins = replay_begins c.args.self.now w c.replay.new.self r c.in_ok-back.back c.args.turn.now c.requires.may taken
    c.in_ok-back.ensures.back in
    IfOk-weaker c.note_back.result _ _ (λ left passes. passes_then _ _ _ _ _ _ _ _ begins c.note_back.new.self left passes)
    c.note_back.ensures.passes

pub returns-clause-failed : goal.returns-clause-failed
returns-clause-failed g c = λ e.
    let r = c.args.request.now in
    let w = c.args.recovery in
    let same : copied r c.in_ok-copy.field-0 c.in_ok-copy-2.field-0 ≡ replayed r =
    copied_is r c.in_ok-copy.field-0 c.in_ok-copy-2.field-0 c.in_ok-copy.ensures.same c.in_ok-copy-2.ensures.same in
    let taken : c.replay.new.self ≡ at_window (took_replay (replayed r) w.window) w = c.in_ok-back.ensures.taken
    ∙ ap (λ (it : Replayed). at_window (took_replay it w.window) w) same in
    let begins = replay_begins c.args.self.now w c.replay.new.self r c.in_ok-back.back c.args.turn.now c.requires.may taken
    c.in_ok-back.ensures.back in
    let failed = c.note_back.ensures.failed e in
    (failed.0, stops_then _ _ _ _ _ _ _ _ begins failed.1)

pub returns-clause-batches : goal.returns-clause-batches
returns-clause-batches g c =
    let r = c.args.request.now in
    let w = c.args.recovery in
    let same : copied r c.in_ok-copy.field-0 c.in_ok-copy-2.field-0 ≡ replayed r =
    copied_is r c.in_ok-copy.field-0 c.in_ok-copy-2.field-0 c.in_ok-copy.ensures.same c.in_ok-copy-2.ensures.same in
    let taken : c.replay.new.self ≡ at_window (took_replay (replayed r) w.window) w = c.in_ok-back.ensures.taken
    ∙ ap (λ (it : Replayed). at_window (took_replay it w.window) w) same in
    let begins = replay_begins c.args.self.now w c.replay.new.self r c.in_ok-back.back c.args.turn.now c.requires.may taken
    c.in_ok-back.ensures.back in
    batches_then (Recovers c.args.self.now c.args.recovery) (Gathers c.args.self.now c.replay.new.self) (λ v. stores v r)
    (λ v. backs c.in_ok-back.back r.who ++ settles c.args.turn.now.at v)
    (λ v. row_replay v c.args.turn.now.at r) c.args.turn.now c.args.turn.now c.note_back.new.turn begins c.args.self.now.store.batches
    c.note_back.new.self.store.batches c.note_back.ensures.batches
