-- The line of a life that is back, and then the window stays open or closes.
use Rattle.std.proofs.Common.{◌≡◌, ◌++◌, refl, ◌∙◌}
use Rattle.std.proofs.lemmas.Result.{IfOk-weaker}
use Rattle.lu_spec_target.specs.Recovery.{settles}
use Rattle.lu_target_refines.specs.Windows.{backs}
use Rattle.lu_spec_entries.specs.Given.{giving}
use Rattle.lu_target_server.specs.Recovering.{Gathers}
use Rattle.lu_target_server.proofs.Backs.{back_told, none_told, back_passes, back_stops, back_batches}
use Rattle.lu_target_server.proofs.Passings.{no_batches}
use Rattle.lu_target_server.proofs.server.Server.note_back.Goals.{then-back+in_ok-note, else-back}
use Rattle.lu_target_server.proofs.server.Server.note_back.Goals as goal

pub returns-in_err-note-clause-batches : goal.returns-in_err-note-clause-batches
returns-in_err-note-clause-batches g c = no_batches (Gathers c.args.self.now c.args.recovery)
    (λ v. backs c.args.back c.args.who ++ settles c.args.turn.now.at v) c.args.self.now.store.batches c.args.self.now.store.batches refl

pub returns-clause-passes : goal.returns-clause-passes
returns-clause-passes g c =
    let told : c.if-back.turn ≡ giving c.args.turn.now (backs c.args.back c.args.who) =
    elim c.if-back.branch [
      | then-back+in_ok-note w ↦ w.turn-is ∙ back_told c.args.who c.args.turn.now w.note.new.self c.args.back w.if-back.true
          w.in_ok-note.ensures.added w.note.ensures.turn
      | else-back w ↦ none_told c.args.who c.args.turn.now c.if-back.turn c.args.back w.if-back.false w.turn-is
    ] in
    IfOk-weaker c.settle.result _ _
    (λ left passes. back_passes c.args.self.now c.args.recovery c.args.back c.args.who c.args.turn.now c.if-back.turn c.settle.new.turn told
    c.settle.new.self left passes)
    c.settle.ensures.passes

pub returns-clause-failed : goal.returns-clause-failed
returns-clause-failed g c = λ e.
    let told : c.if-back.turn ≡ giving c.args.turn.now (backs c.args.back c.args.who) =
    elim c.if-back.branch [
      | then-back+in_ok-note w ↦ w.turn-is ∙ back_told c.args.who c.args.turn.now w.note.new.self c.args.back w.if-back.true
          w.in_ok-note.ensures.added w.note.ensures.turn
      | else-back w ↦ none_told c.args.who c.args.turn.now c.if-back.turn c.args.back w.if-back.false w.turn-is
    ] in
    let failed = c.settle.ensures.failed e in (
      failed.0,
      back_stops c.args.self.now c.args.recovery c.args.back c.args.who c.args.turn.now c.if-back.turn c.settle.new.turn told
          failed.1,
    )

pub returns-clause-batches : goal.returns-clause-batches
returns-clause-batches g c =
    let told : c.if-back.turn ≡ giving c.args.turn.now (backs c.args.back c.args.who) =
    elim c.if-back.branch [
      | then-back+in_ok-note w ↦ w.turn-is ∙ back_told c.args.who c.args.turn.now w.note.new.self c.args.back w.if-back.true
          w.in_ok-note.ensures.added w.note.ensures.turn
      | else-back w ↦ none_told c.args.who c.args.turn.now c.if-back.turn c.args.back w.if-back.false w.turn-is
    ] in
    back_batches c.args.self.now c.args.recovery c.args.back c.args.who c.args.turn.now c.if-back.turn c.settle.new.turn told
    c.args.self.now.store.batches c.settle.new.self.store.batches c.settle.ensures.batches
